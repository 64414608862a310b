-- A size that is counted up to 65,536 is stepped over as the whole size is.
use Rattle.std.proofs.Common.{◌≡◌, ◌∙◌, ℕ, ◌≤◌, ◌<◌, Bool, true, false, ◌&&◌, ◌||◌, List, [], ◌∷◌, refl, sym, ap, arith, inl, inr, ◌⊎◌}
use Rattle.std.specs.Prelude.{min, nat_eq, nat_le, Option, Some, None, if◌then◌else◌}
use Rattle.std.proofs.lemmas.Bool.{cases_lt, ne_eqb, lt-leb}
use Rattle.c_types.specs.Types.{CType, StructType, size_of, type_eq}
use Rattle.c_types.specs.Conversions.{unsigned_char}
use Rattle.clight_types.specs.Expressions.{are_pointer_and_steps}
use Rattle.c_types.specs.Kinds.{is_integer, is_pointer, target_of}
use Rattle.clight_types.specs.Operands.{Operand, is_number, is_power, steps_over}
use Rattle.clight_types.specs.Code.Held.{size_cap}

no_power : (n : ℕ) → 65536 ≤ n → is_power n ≡ false
no_power n h = grind (arith, ne_eqb)

steps_far : (x : Operand) (m n : ℕ) → 65536 ≤ m → 65536 ≤ n → steps_over x m ≡ steps_over x n
steps_far x m n h g =
    let steps : Bool → Bool → Bool = λ power small. is_integer x.type && (power || is_number x || (type_eq x.type unsigned_char && small)) in
    let below_m : 255 < m = omega arith in
    let below_n : 255 < n = omega arith in
    ap (λ power. steps power (nat_le m 255)) (no_power m h ∙ sym (no_power n g))
    ∙ ap (λ small. steps (is_power n) small) (lt-leb m 255 below_m ∙ sym (lt-leb n 255 below_n))

pub steps_capped : (x : Operand) (n : ℕ) → steps_over x (min n size_cap) ≡ steps_over x n
steps_capped x n = by_cases (cases_lt n 65536)
  where
    by_cases : (n < 65536) ⊎ (65536 ≤ n) → steps_over x (min n size_cap) ≡ steps_over x n
    by_cases (inl h) = let small : min n size_cap ≡ n = omega arith in ap (steps_over x) small
    by_cases (inr h) = let far : 65536 ≤ min n size_cap = omega arith in steps_far x (min n size_cap) n far h

-- a pointer to this type, and the steps over it
pub steps_to : (structs : List StructType) (l r : Operand) (type : CType) → Some type ≡ (if is_pointer l.type then Some (target_of l.type) else None) →
    steps_over r (min (size_of structs type) size_cap) ≡ are_pointer_and_steps structs l r
steps_to structs l r type h = at_test (is_pointer l.type) refl h
  where
    at_test : (b : Bool) → is_pointer l.type ≡ b → Some type ≡ (if b then Some (target_of l.type) else None) →
        steps_over r (min (size_of structs type) size_cap) ≡ are_pointer_and_steps structs l r
    at_test true is h =
        let same : type ≡ target_of l.type = cc in
        steps_capped r (size_of structs type) ∙ (ap (λ type. steps_over r (size_of structs type)) same ∙ rw is refl)
    at_test false is h = absurd cc
