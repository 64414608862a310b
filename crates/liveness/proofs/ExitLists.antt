-- What exits lead to, use and write, as lists and as facts.
use Rattle.std.proofs.Common.{◌≡◌, ℕ, zero, suc, ◌+◌, ◌<◌, ◌≤◌, List, [], ◌∷◌, ◌++◌, map, Bool, true, false, nat_lt, if◌then◌else◌, ◌⊎◌, inl, inr, refl, sym, ap, ◌∙◌, subst, arith}
use Rattle.std.proofs.lemmas.Bool.{ltb-true}
use Rattle.cerco_traces.specs.LabelledGraphs.{In}
use Rattle.rtl.specs.declared.graphs.Exit.{Exit}
use Rattle.rtl.specs.declared.graphs.Exit.TheVariants.{Next, Test, Call, Label, Return}
use Rattle.rtl.specs.Programs.{Graph}
use Rattle.rtl.specs.Effects.{Storage, Loc, Carry}
use Rattle.rtl.specs.Liveness.{IsAmong, IsArgument, GoesTo, IsCall, WrittenBefore, Uses, Overwrites}
use Rattle.liveness.specs.Code.Rows.{AreTurned}
use Rattle.liveness.specs.Code.Flow.{within, after, calmly_after, places_below, overwritten, used, IsWritten, AreExactly}
use Rattle.liveness.proofs.Lists.{in_first, in_second, in_either}

lt_true : (q n : ℕ) → q < n → nat_lt q n ≡ true
lt_true q n lt = grind (arith)

within_only : (x n q : ℕ) → In q (within x n) → (q < n) × (x ≡ q)
within_only x n q i = by_test (nat_lt x n) refl i
  where
    by_test : (b : Bool) → nat_lt x n ≡ b → In q (if b then x ∷ [] else []) → (q < n) × (x ≡ q)
    by_test true t (inl e) = (subst (λ q. q < n) e (ltb-true x n t), e)
    by_test true t (inr i) = absurd i
    by_test false t i = absurd i

within_all : (x n q : ℕ) → q < n → x ≡ q → In q (within x n)
within_all x n q lt e = subst (λ b. In q (if b then x ∷ [] else [])) (sym (ap (λ z. nat_lt z n) e ∙ lt_true q n lt)) (inl e)

pub after_only : (e : Exit ℕ) (n q : ℕ) → In q (after e n) → (q < n) × GoesTo e q
after_only (Next r) n q i = within_only r n q i
after_only (Call f r) n q i = within_only r n q i
after_only (Label l r) n q i = within_only r n q i
after_only (Test v true_arm false_arm) n q i = by_case (in_either q (within true_arm n) (within false_arm n) i)
  where
    by_case : In q (within true_arm n) ⊎ In q (within false_arm n) → (q < n) × ((true_arm ≡ q) ⊎ (false_arm ≡ q))
    by_case (inl h) = let r = within_only true_arm n q h in (r.0, inl r.1)
    by_case (inr h) = let r = within_only false_arm n q h in (r.0, inr r.1)
after_only Return n q i = absurd i

pub after_all : (e : Exit ℕ) (n q : ℕ) → q < n → GoesTo e q → In q (after e n)
after_all (Next r) n q lt goes = within_all r n q lt goes
after_all (Call f r) n q lt goes = within_all r n q lt goes
after_all (Label l r) n q lt goes = within_all r n q lt goes
after_all (Test v true_arm false_arm) n q lt (inl e) = in_first q (within true_arm n) (within false_arm n) (within_all true_arm n q lt e)
after_all (Test v true_arm false_arm) n q lt (inr e) = in_second q (within true_arm n) (within false_arm n) (within_all false_arm n q lt e)
after_all Return n q lt goes = absurd goes

pub calm_only : (e : Exit ℕ) (n q : ℕ) → In q (calmly_after e n) → (IsCall e → ⊥) × ((q < n) × GoesTo e q)
calm_only (Next r) n q i = ((λ c. c), after_only (Next r) n q i)
calm_only (Call f r) n q i = absurd i
calm_only (Label l r) n q i = ((λ c. c), after_only (Label l r) n q i)
calm_only (Test v true_arm false_arm) n q i = ((λ c. c), after_only (Test v true_arm false_arm) n q i)
calm_only Return n q i = absurd i

pub calm_all : (e : Exit ℕ) (n q : ℕ) → (IsCall e → ⊥) → q < n → GoesTo e q → In q (calmly_after e n)
calm_all (Next r) n q calm lt goes = after_all (Next r) n q lt goes
calm_all (Call f r) n q calm lt goes = absurd (calm tt)
calm_all (Label l r) n q calm lt goes = after_all (Label l r) n q lt goes
calm_all (Test v true_arm false_arm) n q calm lt goes = after_all (Test v true_arm false_arm) n q lt goes
calm_all Return n q calm lt goes = absurd goes

-- ---- storages

pub among_first : (s : Storage) (xs ys : List Storage) → IsAmong s xs → IsAmong s (xs ++ ys)
among_first s [] ys i = absurd i
among_first s (x ∷ xs) ys (inl e) = inl e
among_first s (x ∷ xs) ys (inr i) = inr (among_first s xs ys i)

pub among_second : (s : Storage) (xs ys : List Storage) → IsAmong s ys → IsAmong s (xs ++ ys)
among_second s [] ys i = i
among_second s (x ∷ xs) ys i = inr (among_second s xs ys i)

pub among_either : (s : Storage) (xs ys : List Storage) → IsAmong s (xs ++ ys) → IsAmong s xs ⊎ IsAmong s ys
among_either s [] ys i = inr i
among_either s (x ∷ xs) ys (inl e) = inl (inl e)
among_either s (x ∷ xs) ys (inr i) = by_case (among_either s xs ys i)
  where
    by_case : IsAmong s xs ⊎ IsAmong s ys → IsAmong s (x ∷ xs) ⊎ IsAmong s ys
    by_case (inl h) = inl (inr h)
    by_case (inr h) = inr h

pub among_one : (s x : Storage) → IsAmong s (x ∷ []) → x ≡ s
among_one s x (inl e) = e
among_one s x (inr i) = absurd i

pub same_number : (v w : ℕ) → Loc v ≡ Loc w → v ≡ w
same_number v w e = cc

pub differ : (v : ℕ) → Loc v ≡ Carry → ⊥
differ v e = cc

below_suc : (v n : ℕ) → v < suc n → (v < n) ⊎ (n ≡ v)
below_suc v n lt = grind arith

places_only : (n v : ℕ) → IsAmong (Loc v) (places_below n) → v < n
places_only zero v i = absurd i
places_only (suc n) v i = by_case (λ h. places_only n v h) (among_either (Loc v) (places_below n) (Loc n ∷ []) i)
  where
    by_case : (IsAmong (Loc v) (places_below n) → v < n) → IsAmong (Loc v) (places_below n) ⊎ IsAmong (Loc v) (Loc n ∷ []) → v < suc n
    by_case before (inl h) = let lt = before h in omega (arith, lt)
    by_case before (inr h) = let e = same_number n v (among_one (Loc v) (Loc n) h) in omega (arith, e)

places_all : (n v : ℕ) → v < n → IsAmong (Loc v) (places_below n)
places_all zero v lt = absurd (omega (arith, lt))
places_all (suc n) v lt = by_case (λ below. places_all n v below) (below_suc v n lt)
  where
    by_case : (v < n → IsAmong (Loc v) (places_below n)) → (v < n) ⊎ (n ≡ v) → IsAmong (Loc v) (places_below n ++ Loc n ∷ [])
    by_case before (inl below) = among_first (Loc v) (places_below n) (Loc n ∷ []) (before below)
    by_case before (inr e) = among_second (Loc v) (places_below n) (Loc n ∷ []) (inl (ap Loc e))

places_no_carry : (n : ℕ) → IsAmong Carry (places_below n) → ⊥
places_no_carry zero i = i
places_no_carry (suc n) i = by_case (λ h. places_no_carry n h) (among_either Carry (places_below n) (Loc n ∷ []) i)
  where
    by_case : (IsAmong Carry (places_below n) → ⊥) → IsAmong Carry (places_below n) ⊎ IsAmong Carry (Loc n ∷ []) → ⊥
    by_case before (inl h) = before h
    by_case before (inr h) = differ n (among_one Carry (Loc n) h)

shared_only : (f q : ℕ) (s : Storage) → IsAmong s (places_below 12 ++ Carry ∷ []) → Overwrites 0 (Call f q) s
shared_only f q Carry i = tt
shared_only f q (Loc v) i = by_case (among_either (Loc v) (places_below 12) (Carry ∷ []) i)
  where
    by_case : IsAmong (Loc v) (places_below 12) ⊎ IsAmong (Loc v) (Carry ∷ []) → (0 ≤ v) × (v < 0 + 12)
    by_case (inl h) = let lt = places_only 12 v h in (omega arith, omega (arith, lt))
    by_case (inr h) = absurd (differ v (sym (among_one (Loc v) Carry h)))

shared_all : (f q : ℕ) (s : Storage) → Overwrites 0 (Call f q) s → IsAmong s (places_below 12 ++ Carry ∷ [])
shared_all f q Carry o = among_second Carry (places_below 12) (Carry ∷ []) (inl refl)
shared_all f q (Loc v) o = let lt = o.1 in among_first (Loc v) (places_below 12) (Carry ∷ []) (places_all 12 v (omega (arith, lt)))

pub overwritten_are : (e : Exit ℕ) → AreExactly (overwritten e) (λ s. Overwrites 0 e s)
overwritten_are (Next q) s = ((λ i. i), λ o. o)
overwritten_are (Test v true_arm false_arm) s = ((λ i. i), λ o. o)
overwritten_are (Label l q) s = ((λ i. i), λ o. o)
overwritten_are Return s = ((λ i. i), λ o. o)
overwritten_are (Call f q) s = (shared_only f q s, shared_all f q s)

locs_only : (s : Storage) (xs : List ℕ) → IsAmong s (map Loc xs) → (v : ℕ) × In v xs × (Loc v ≡ s)
locs_only s [] i = absurd i
locs_only s (x ∷ xs) (inl e) = (x, inl refl, e)
locs_only s (x ∷ xs) (inr i) = let r = locs_only s xs i in (r.0, inr r.1, r.2)

locs_all : (v : ℕ) (xs : List ℕ) → In v xs → IsAmong (Loc v) (map Loc xs)
locs_all v [] i = absurd i
locs_all v (x ∷ xs) (inl e) = inl (ap Loc e)
locs_all v (x ∷ xs) (inr i) = inr (locs_all v xs i)

module _ (g : Graph ℕ) (n p : ℕ) (rows : ℕ → List ℕ) (lt : p < n) (written : AreTurned (IsWritten g n) 12 rows) where
  args_only : (s : Storage) → IsAmong s (map Loc (rows p)) → IsArgument 0 s × WrittenBefore g s p []
  args_only s i =
      let r = locs_only s (rows p) i in
      let w = written.only p r.0 r.1 in
      let below = w.0 in
      subst (λ s. IsArgument 0 s × WrittenBefore g s p []) r.2 ((omega arith, omega (arith, below)), w.1.1)

  args_all : (s : Storage) → IsArgument 0 s × WrittenBefore g s p [] → IsAmong s (map Loc (rows p))
  args_all Carry u = absurd u.0
  args_all (Loc v) u = let below = u.0.1 in locs_all v (rows p) (written.every p v (omega (arith, below)) (lt, u.1))

  pub used_are : (e : Exit ℕ) → AreExactly (used e (rows p)) (λ s. Uses 0 e g p s)
  used_are (Next q) s = ((λ i. i), λ u. u)
  used_are (Test v true_arm false_arm) s = ((λ i. among_one s (Loc v) i), λ u. inl u)
  used_are (Label l q) s = ((λ i. i), λ u. u)
  used_are Return s = (args_only s, args_all s)
  used_are (Call f q) s = (args_only s, args_all s)
