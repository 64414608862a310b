-- What is held after assignments.
use Rattle.std.proofs.Common.{◌≡◌, ℕ, List, [], ◌∷◌, map, Bool, true, false, nat_eq, if◌then◌else◌, ◌⊎◌, inl, inr, refl, sym, ap, ◌∙◌, eq-eqb, eqb-true}
use Rattle.rtl.specs.Effects.{Storage, Loc, Carry, same_storage, Assignment}
use Rattle.rtl.specs.Meaning.{Sharing, with_value, seen, shared_after, own_after, shares_all}
use Rattle.rtl.specs.Liveness.{IsAmong}

-- two storages are one, or the test tells them apart
pub same_or_not : (s t : Storage) → (s ≡ t) ⊎ ((s ≡ t → ⊥) × (same_storage s t ≡ false))
unfolding same_storage
same_or_not Carry Carry = inl refl
same_or_not Carry (Loc w) = inr ((λ e. cc), refl)
same_or_not (Loc v) Carry = inr ((λ e. cc), refl)
same_or_not (Loc v) (Loc w) = by_test (nat_eq v w) refl
  where
    same_number : Loc v ≡ Loc w → v ≡ w
    same_number e = cc

    by_test : (b : Bool) → nat_eq v w ≡ b → (Loc v ≡ Loc w) ⊎ ((Loc v ≡ Loc w → ⊥) × (nat_eq v w ≡ false))
    by_test true e = inl (ap Loc (eqb-true v w e))
    by_test false e = inr ((λ f. differ (eq-eqb v w (same_number f)) e), e)
      where
        differ : nat_eq v w ≡ true → nat_eq v w ≡ false → ⊥
        differ f g = cc

same_itself : (s : Storage) → same_storage s s ≡ true
unfolding same_storage
same_itself Carry = refl
same_itself (Loc v) = eq-eqb v v refl

-- ---- one value

pub value_same : (values : Storage → ℕ) (s : Storage) (value : ℕ) → with_value values s value s ≡ value
unfolding with_value
value_same values s value = rw (same_itself s)

pub value_other : (values : Storage → ℕ) (s : Storage) (value : ℕ) (t : Storage) → (t ≡ s → ⊥) → with_value values s value t ≡ values t
unfolding with_value
value_other values s value t other = by_case (same_or_not t s)
  where
    by_case : ((t ≡ s) ⊎ ((t ≡ s → ⊥) × (same_storage t s ≡ false))) → (if same_storage t s then value else values t) ≡ values t
    by_case (inl e) = absurd (other e)
    by_case (inr h) = rw h.1

-- ---- what a call sees

pub seen_same : (is_shared : Sharing) (m o : Storage → ℕ) (s : Storage) (value : ℕ) → seen is_shared (if is_shared s then with_value m s value else m) (if is_shared s then o else with_value o s value) s ≡ value
seen_same is_shared m o s value = by_test (is_shared s)
  where
    by_test : (b : Bool) → (if b then (if b then with_value m s value else m) s else (if b then o else with_value o s value) s) ≡ value
    by_test true = value_same m s value
    by_test false = value_same o s value

pub seen_other : (is_shared : Sharing) (m o : Storage → ℕ) (s : Storage) (value : ℕ) (t : Storage) → (t ≡ s → ⊥) → seen is_shared (if is_shared s then with_value m s value else m) (if is_shared s then o else with_value o s value) t ≡ seen is_shared m o t
seen_other is_shared m o s value t other = by_test (is_shared s) (is_shared t)
  where
    by_test : (b c : Bool) → (if c then (if b then with_value m s value else m) t else (if b then o else with_value o s value) t) ≡ (if c then m t else o t)
    by_test true true = value_other m s value t other
    by_test true false = refl
    by_test false true = refl
    by_test false false = value_other o s value t other

-- ---- several assignments

-- what is assigned to
abbrev pub targets : List Assignment → List Storage
targets [] = []
targets (x ∷ xs) = x.to ∷ targets xs

abbrev pub renamed_storage : (ℕ → ℕ) → Storage → Storage
renamed_storage f Carry = Carry
renamed_storage f (Loc v) = Loc (f v)

abbrev pub renamed_assignment : (ℕ → ℕ) → Assignment → Assignment
renamed_assignment f x = record { to = renamed_storage f x.to; value = x.value }

-- What is assigned here, and there under other names, is seen alike: of what Q says, if no two of these get one name.
pub assigned_alike :
    (is_shared : Sharing) (f : ℕ → ℕ) (Q : Storage → Type 0) (xs : List Assignment) (m o n : Storage → ℕ)
    → ((s w : Storage) → Q s → IsAmong w (targets xs) → (s ≡ w → ⊥) → renamed_storage f s ≡ renamed_storage f w → ⊥)
    → ((s : Storage) → Q s → (IsAmong s (targets xs) → ⊥) → seen is_shared m o s ≡ n (renamed_storage f s))
    → (s : Storage) → Q s → seen is_shared (shared_after is_shared xs m) (own_after is_shared xs o) s ≡ shared_after shares_all (map (renamed_assignment f) xs) n (renamed_storage f s)
assigned_alike is_shared f Q [] m o n apart before = λ s q. before s q (λ i. i)
assigned_alike is_shared f Q (x ∷ xs) m o n apart before =
    assigned_alike is_shared f Q xs _ _ _ (λ s w q i. apart s w q (inr i)) next
  where
    next : (s : Storage) → Q s → (IsAmong s (targets xs) → ⊥) → seen is_shared (if is_shared x.to then with_value m x.to x.value else m) (if is_shared x.to then o else with_value o x.to x.value) s ≡ with_value n (renamed_storage f x.to) x.value (renamed_storage f s)
    next s q out = by_case (same_or_not s x.to)
      where
        later : (s ≡ x.to → ⊥) → IsAmong s (targets (x ∷ xs)) → ⊥
        later ne (inl e) = ne (sym e)
        later ne (inr i) = out i

        by_case : ((s ≡ x.to) ⊎ ((s ≡ x.to → ⊥) × (same_storage s x.to ≡ false))) → seen is_shared (if is_shared x.to then with_value m x.to x.value else m) (if is_shared x.to then o else with_value o x.to x.value) s ≡ with_value n (renamed_storage f x.to) x.value (renamed_storage f s)
        by_case (inl e) = rw e (seen_same is_shared m o x.to x.value ∙ sym (value_same n (renamed_storage f x.to) x.value))
        by_case (inr h) = seen_other is_shared m o x.to x.value s h.0 ∙ before s q (later h.0) ∙ sym (value_other n (renamed_storage f x.to) x.value (renamed_storage f s) (apart s x.to q (inl refl) h.0))

-- what a call sees after assignments is what one map would hold after them
pub seen_after : (is_shared : Sharing) (xs : List Assignment) (m o n : Storage → ℕ) → ((s : Storage) → seen is_shared m o s ≡ n s) → (s : Storage) → seen is_shared (shared_after is_shared xs m) (own_after is_shared xs o) s ≡ shared_after shares_all xs n s
seen_after is_shared [] m o n alike s = alike s
seen_after is_shared (x ∷ xs) m o n alike s = seen_after is_shared xs _ _ (with_value n x.to x.value) next s
  where
    next : (t : Storage) → seen is_shared (if is_shared x.to then with_value m x.to x.value else m) (if is_shared x.to then o else with_value o x.to x.value) t ≡ with_value n x.to x.value t
    next t = by_case (same_or_not t x.to)
      where
        by_case : ((t ≡ x.to) ⊎ ((t ≡ x.to → ⊥) × (same_storage t x.to ≡ false))) → seen is_shared (if is_shared x.to then with_value m x.to x.value else m) (if is_shared x.to then o else with_value o x.to x.value) t ≡ with_value n x.to x.value t
        by_case (inl e) = rw e (seen_same is_shared m o x.to x.value ∙ sym (value_same n x.to x.value))
        by_case (inr h) = seen_other is_shared m o x.to x.value t h.0 ∙ alike t ∙ sym (value_other n x.to x.value t h.0)

-- what nothing is assigned to stays
pub not_assigned : (f : ℕ → ℕ) (xs : List Assignment) (n : Storage → ℕ) (t : Storage) → ((w : Storage) → IsAmong w (targets xs) → renamed_storage f w ≡ t → ⊥) → shared_after shares_all (map (renamed_assignment f) xs) n t ≡ n t
not_assigned f [] n t out = refl
not_assigned f (x ∷ xs) n t out = not_assigned f xs _ t (λ w i. out w (inr i)) ∙ value_other n (renamed_storage f x.to) x.value t (λ e. out x.to (inl refl) (sym e))

-- where everything is shared a call's own values stay
pub own_stays : (xs : List Assignment) (own : Storage → ℕ) → own_after shares_all xs own ≡ own
own_stays [] own = refl
own_stays (x ∷ xs) own = own_stays xs own
