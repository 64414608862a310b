-- The flags of marked addresses, label by label.
use Rattle.std.proofs.Common.{◌≡◌, ℕ, zero, suc, ◌+◌, ◌<◌, ◌≤◌, List, [], ◌∷◌, Bool, true, false, ◌||◌, cond, Option, Some, None, inl, inr, refl, sym, ap, subst, ◌∙◌, arith, get_or, set, take, length, replicate, is_some}
use Rattle.std.specs.Prelude.{◌==◌, option_map, position}
use Rattle.std.specs.List.{list_any, position_from}
use Rattle.std.proofs.lemmas.List.{get_or-set_same, get_or-set_other, length-replicate, length-set, take_all}
use Rattle.std.proofs.lemmas.List.Folds.{list_any_more}
use Rattle.std.proofs.lemmas.Bool.Decides.{eqb_tells}
use Rattle.std.proofs.lemmas.Iterator.Adapters.{position_from-zero}
use Rattle.cerco_base.specs.declared.events.Label.{Label}
use Rattle.block_costs.specs.Ways.{AreMarks}

-- these flags are of the addresses of labels
pub record AreFlags (labels : List ℕ) (flags : List Bool) : Type 0 where
  pub count : length flags ≡ 65536
  pub each : (a : ℕ) → get_or flags a false ≡ list_any (λ x. x == a) labels

or-true : (b : Bool) → (b || true) ≡ true
or-true true = refl
or-true false = refl

or-false : (b : Bool) → (b || false) ≡ b
or-false true = refl
or-false false = refl

unmarked : (n a : ℕ) → get_or (replicate n false) a false ≡ false
unmarked zero a = refl
unmarked (suc n) zero = refl
unmarked (suc n) (suc a) = unmarked n a

pub no_flags : (flags : List Bool) → flags ≡ replicate 65536 false → AreFlags [] flags
no_flags flags clean = record {
  count = ap length clean ∙ length-replicate {A = Bool} 65536 false;
  each = λ a. ap (λ l. get_or l a false) clean ∙ unmarked 65536 a;
}

pub one_more : (labels : List ℕ) (flags : List Bool) (i at : ℕ) → i < length labels → get_or labels i 0 ≡ at → at < 65536 → AreFlags (take i labels) flags → AreFlags (take (i + 1) labels) (set flags at true)
one_more labels flags i at within here low f = record {
  count = length-set flags at true ∙ f.count;
  each = λ a. by_flag a ∙ sym (list_any_more (λ x. x == a) labels i 0 within ∙ ap (λ x. list_any (λ x. x == a) (take i labels) || (x == a)) here);
}
  where
    by_flag : (a : ℕ) → get_or (set flags at true) a false ≡ (list_any (λ x. x == a) (take i labels) || (at == a))
    by_flag a = elim (eqb_tells at a) [
      | inl same ↦
          subst (λ b. get_or (set flags at true) b false ≡ (list_any (λ x. x == a) (take i labels) || (at == a))) same.1
          (get_or-set_same flags at true false (omega (arith, f.count)) ∙ sym (ap (λ b. list_any (λ x. x == a) (take i labels) || b) same.0 ∙ or-true (list_any (λ x. x == a) (take i labels))))
      | inr other ↦
          get_or-set_other flags at a true false (λ e. other.1 (sym e)) ∙ f.each a
          ∙ sym (ap (λ b. list_any (λ x. x == a) (take i labels) || b) other.0 ∙ or-false (list_any (λ x. x == a) (take i labels)))
    ]

or_found : (b any : Bool) (k : ℕ) (more : Option ℕ) → any ≡ is_some more → (b || any) ≡ is_some (cond b (Some k) more)
or_found true any k more e = refl
or_found false any k more e = e

found : (p : ℕ → Bool) (k : ℕ) (xs : List ℕ) → list_any p xs ≡ is_some (position_from p k xs)
found p k [] = refl
found p k (x ∷ xs) = or_found (p x) (list_any p xs) k (position_from p (k + 1) xs) (found p (k + 1) xs)

mapped : (o : Option ℕ) → is_some o ≡ is_some {T = Label} (option_map (λ k. record { 0 = k }) o)
mapped None = refl
mapped (Some k) = refl

-- flags of all labels are their marks
pub all_flags : (labels : List ℕ) (flags : List Bool) (i : ℕ) → length labels ≤ i → AreFlags (take i labels) flags → AreMarks labels flags
all_flags labels flags i all f a =
    f.each a ∙ ap (list_any (λ x. x == a)) (take_all i labels all) ∙ found (λ x. x == a) 0 labels
    ∙ ap is_some (sym (position_from-zero (λ x. x == a) labels)) ∙ mapped (position (λ x. x == a) labels)
