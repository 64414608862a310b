-- What an ERTL program holds is what the RTL program holds, under the other numbers.
use Rattle.std.proofs.Common.{◌≡◌, ℕ, List, [], ◌∷◌, map, Bool, true, false, if◌then◌else◌, ◌⊎◌, inl, inr, refl, sym, ap, ◌∙◌}
use Rattle.rtl.specs.Effects.{Storage, Assignment, same_storage}
use Rattle.rtl.specs.Meaning.{with_value, seen, shared_after, own_after, shares_first}
use Rattle.rtl.proofs.ValueLaws.{same_or_not, value_same, value_other, renamed_assignment}
use Rattle.byte_renaming.proofs.Programs.{same_function}
use Rattle.ertl_gen.specs.Translation.{exchanged_number}
use Rattle.ertl_gen.proofs.Exchanged.{moved, moved_back, shares_same}

-- the same values at the exchanged places
abbrev pub turned : (Storage → ℕ) → (Storage → ℕ)
turned m s = m (moved s)

abbrev renamed_sets : List Assignment → List Assignment
renamed_sets = map (renamed_assignment exchanged_number)

pub seen_turned : (m own : Storage → ℕ) (s : Storage) → seen shares_first (turned m) (turned own) (moved s) ≡ seen shares_first m own s
seen_turned m own s = rw (shares_same s) (by_test (shares_first s))
  where
    by_test : (b : Bool) → (if b then m (moved (moved s)) else own (moved (moved s))) ≡ (if b then m s else own s)
    by_test true = ap m (moved_back s)
    by_test false = ap own (moved_back s)

value_turned : (m : Storage → ℕ) (t : Storage) (value : ℕ) → with_value (turned m) (moved t) value ≡ turned (with_value m t value)
value_turned m t value = same_function _ _ (λ s. by_case s (same_or_not s (moved t)))
  where
    by_case : (s : Storage) → ((s ≡ moved t) ⊎ ((s ≡ moved t → ⊥) × (same_storage s (moved t) ≡ false))) → with_value (turned m) (moved t) value s ≡ with_value m t value (moved s)
    by_case s (inl e) =
        ap (with_value (turned m) (moved t) value) e ∙ value_same (turned m) (moved t) value
        ∙ sym (value_same m t value) ∙ ap (with_value m t value) (sym (ap moved e ∙ moved_back t))
    by_case s (inr other) = value_other (turned m) (moved t) value s other.0 ∙ sym (value_other m t value (moved s) (λ e. other.0 (sym (moved_back s) ∙ ap moved e)))

pub shared_turned : (xs : List Assignment) (m : Storage → ℕ) → shared_after shares_first (renamed_sets xs) (turned m) ≡ turned (shared_after shares_first xs m)
shared_turned [] m = refl
shared_turned (x ∷ xs) m = ap (shared_after shares_first (renamed_sets xs)) first ∙ shared_turned xs (if shares_first x.to then with_value m x.to x.value else m)
  where
    by_test : (b : Bool) → (if b then with_value (turned m) (moved x.to) x.value else turned m) ≡ turned (if b then with_value m x.to x.value else m)
    by_test true = value_turned m x.to x.value
    by_test false = refl

    first : (if shares_first (moved x.to) then with_value (turned m) (moved x.to) x.value else turned m) ≡ turned (if shares_first x.to then with_value m x.to x.value else m)
    first = ap (λ b. if b then with_value (turned m) (moved x.to) x.value else turned m) (shares_same x.to) ∙ by_test (shares_first x.to)

pub own_turned : (xs : List Assignment) (own : Storage → ℕ) → own_after shares_first (renamed_sets xs) (turned own) ≡ turned (own_after shares_first xs own)
own_turned [] own = refl
own_turned (x ∷ xs) own = ap (own_after shares_first (renamed_sets xs)) first ∙ own_turned xs (if shares_first x.to then own else with_value own x.to x.value)
  where
    by_test : (b : Bool) → (if b then turned own else with_value (turned own) (moved x.to) x.value) ≡ turned (if b then own else with_value own x.to x.value)
    by_test true = refl
    by_test false = value_turned own x.to x.value

    first : (if shares_first (moved x.to) then turned own else with_value (turned own) (moved x.to) x.value) ≡ turned (if shares_first x.to then own else with_value own x.to x.value)
    first = ap (λ b. if b then turned own else with_value (turned own) (moved x.to) x.value) (shares_same x.to) ∙ by_test (shares_first x.to)
