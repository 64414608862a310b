-- Each label of a labelled program is at one place.
use Rattle.std.proofs.Common.{◌≡◌, ◌≢◌, ℕ, zero, suc, ◌+◌, ◌<◌, ◌≤◌, ◌⊎◌, inl, inr, length, Bool, true, false, refl, sym, ap, ◌∙◌, subst, arith, ne_eqb}
use Rattle.std.specs.Prelude.{nat_eq, if◌then◌else◌}
use Rattle.std.specs.List.{range_with_len}
use Rattle.cerco_base.specs.declared.events.Label.{Label}
use Rattle.cerco_middle.specs.Programs.{times_in, AreNumbered}
use Rattle.clight_syntax.specs.Labelling.{IsLabelled}
use Rattle.clight_syntax.specs.TypedTrees.{TypedProgram}
use Rattle.clight_programs.specs.Labels.{labels_of}
use Rattle.clight_programs.proofs.LabelsInOrder.{in_order}

none_there : (n a l : ℕ) → (l < a ⊎ a + n ≤ l) → times_in l (range_with_len a n) ≡ 0
none_there zero a l out = refl
none_there (suc n) a l out = ap (λ t. if t then suc (times_in l (range_with_len (a + 1) n)) else times_in l (range_with_len (a + 1) n)) (ne_eqb a l (other out)) ∙ none_there n (a + 1) l (further out)
  where
    other : (l < a ⊎ a + suc n ≤ l) → a ≢ l
    other (inl lt) = λ e. omega arith
    other (inr le) = λ e. omega arith

    further : (l < a ⊎ a + suc n ≤ l) → (l < a + 1 ⊎ (a + 1) + n ≤ l)
    further (inl lt) = inl (omega arith)
    further (inr le) = inr (omega arith)

one_there : (n a l : ℕ) → a ≤ l → l < a + n → times_in l (range_with_len a n) ≡ 1
one_there zero a l le lt = absurd (omega arith)
one_there (suc n) a l le lt = by (nat_eq a l) refl (one_there n (a + 1) l)
  where
    by : (t : Bool) → nat_eq a l ≡ t → (a + 1 ≤ l → l < (a + 1) + n → times_in l (range_with_len (a + 1) n) ≡ 1) → (if t then suc (times_in l (range_with_len (a + 1) n)) else times_in l (range_with_len (a + 1) n)) ≡ 1
    by true e ih = let same : a ≡ l = grind arith in ap suc (none_there n (a + 1) l (inl (omega arith)))
    by false e ih = let ne : a ≢ l = grind arith in ih (omega arith) (omega arith)

range_numbered : (n : ℕ) → AreNumbered (range_with_len 0 n)
range_numbered n = record { number = n; once = λ l lt. one_there n 0 l (omega arith) (omega arith); no_more = λ l le. none_there n 0 l (inr (omega arith)) }

pub numbered : (typed : TypedProgram (Unit {0})) (p : TypedProgram Label) → IsLabelled typed p → AreNumbered (labels_of p.functions)
numbered typed p is = subst AreNumbered (sym (in_order typed p is)) (range_numbered (length (labels_of p.functions)))
