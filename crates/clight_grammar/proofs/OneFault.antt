-- A list of terminals is a program or has a fault, not both, and the fault has one place.
use Rattle.std.proofs.Common.{◌≡◌, ◌⊎◌, inl, inr, ℕ, zero, suc, ◌≤◌, ◌<◌, Bool, true, false, List, [], ◌∷◌, ◌++◌, length, take, drop, refl, sym, ap, subst, ◌∙◌, append_assoc, append-nil, take-append-drop, arith}
use Rattle.std.specs.Prelude.{Option, Some, None}
use Rattle.std.proofs.lemmas.Bool.{cases_lt}
use Rattle.std.proofs.lemmas.List.{take_all}
use Rattle.clight_source.specs.declared.symbol.Terminal.{Terminal}
use Rattle.clight_source.specs.Trees.{Item}
use Rattle.clight_source.specs.Spelling.{Spells, Begins}
use Rattle.clight_grammar.specs.Code.Machine.{run, start, ends, refused}
use Rattle.clight_grammar.specs.Faults.{FaultAt}
use Rattle.clight_grammar.proofs.Programs.{sound, fault_at}

-- ---- one place

-- what begins with a longer list begins with a shorter one
shorter : (l m z : List Terminal) → l ++ m ≡ z → Begins z → Begins l
shorter l m z e b = (b.0, m ++ b.1, (b.2.0, b.2.1 ∙ (ap (λ x. x ++ b.1) (sym e) ∙ append_assoc l m b.1)))

taken : (i j : ℕ) (l : List Terminal) → i ≤ j → take i (take j l) ≡ take i l
taken zero j l h = refl
taken (suc i) zero l h = absurd (omega arith)
taken (suc i) (suc j) [] h = refl
taken (suc i) (suc j) (t ∷ l) h = ap (λ z. t ∷ z) (taken i j l (omega arith))

earlier_begins : (l : List Terminal) (i j : ℕ) → i ≤ j → Begins (take j l) → Begins (take i l)
earlier_begins l i j h b =
    shorter (take i l) (drop i (take j l)) (take j l) (ap (λ z. z ++ drop i (take j l)) (sym (taken i j l h)) ∙ take-append-drop i (take j l)) b

no_earlier : (l : List Terminal) (i j : ℕ) → FaultAt l i → FaultAt l j → i < j → ⊥
no_earlier l i j a b h = let w = b.inside in a.within (omega arith) (earlier_begins l (suc i) j (omega arith) b.before)

by_order : (l : List Terminal) (i j : ℕ) → FaultAt l i → FaultAt l j → (i < j) ⊎ (j ≤ i) → (j < i) ⊎ (i ≤ j) → i ≡ j
by_order l i j a b (inl h) w = absurd (no_earlier l i j a b h)
by_order l i j a b (inr h) (inl w) = absurd (no_earlier l j i b a w)
by_order l i j a b (inr h) (inr w) = omega arith

pub one_fault : (l : List Terminal) (i j : ℕ) → FaultAt l i → FaultAt l j → i ≡ j
one_fault l i j a b = by_order l i j a b (cases_lt i j) (cases_lt j i)

-- ---- a program or a fault

abbrev pub Decided : List Terminal → Type 0
Decided l = ((items : List Item) × Spells items l) ⊎ ((i : ℕ) × FaultAt l i)

front : (l r : List Terminal) → take (length l) (l ++ r) ≡ l
front [] r = refl
front (t ∷ l) r = ap (λ z. t ∷ z) (front l r)

at_end : (o : Option (List Item)) (l : List Terminal) → ends (run start l) ≡ o → refused (run start l).mode ≡ false → Decided l
at_end (Some items) l h g = inl (items, sound l items h)
at_end None l h g = inr (
  length l,
  fault_at l (length l) (omega arith) (ap (λ z. refused (run start z).mode) (take_all (length l) l (omega arith)) ∙ g) (λ b. absurd (omega arith)) (λ b. h),
)

front_more : (l : List Terminal) (t : Terminal) (r : List Terminal) → take (suc (length l)) (l ++ (t ∷ r)) ≡ l ++ t ∷ []
front_more [] t r = refl
front_more (x ∷ l) t r = ap (λ z. x ∷ z) (front_more l t r)

inside : (l : List Terminal) (t : Terminal) (r : List Terminal) → length l < length (l ++ (t ∷ r))
inside [] t r = omega arith
inside (x ∷ l) t r = let h = inside l t r in omega arith

next : (b : Bool) (t : Terminal) (rest done : List Terminal) → refused (run start (done ++ t ∷ [])).mode ≡ b → refused (run start done).mode ≡ false
    → (refused (run start (done ++ t ∷ [])).mode ≡ false → Decided ((done ++ t ∷ []) ++ rest)) → Decided (done ++ (t ∷ rest))
next false t rest done e h go = subst Decided (append_assoc done (t ∷ []) rest) (go e)
next true t rest done e h go =
    let long = inside done t rest in
    inr (
      length done,
      fault_at (done ++ (t ∷ rest)) (length done) (omega arith)
          (ap (λ z. refused (run start z).mode) (front done (t ∷ rest)) ∙ h)
          (λ _. ap (λ z. refused (run start z).mode) (front_more done t rest) ∙ e)
          (λ b. absurd (omega arith)),
    )

go : (rest done : List Terminal) → refused (run start done).mode ≡ false → Decided (done ++ rest)
go [] done h = subst Decided (sym (append-nil done)) (at_end (ends (run start done)) done refl h)
go (t ∷ rest) done h = next (refused (run start (done ++ t ∷ [])).mode) t rest done refl h (go rest (done ++ t ∷ []))

-- one of the two
pub program_or_fault : (l : List Terminal) → Decided l
program_or_fault l = go l [] refl

-- not both
pub not_both : (l : List Terminal) (items : List Item) (i : ℕ) → Spells items l → FaultAt l i → ⊥
not_both l items i w f = f.none items w
