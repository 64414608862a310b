-- The numbers of names and functions in the generator's programs.
use Rattle.std.proofs.Common.{◌≡◌, ℕ, zero, suc, ◌<◌, List, [], ◌∷◌, ◌++◌, length, get_or, sym, ap, ◌∙◌, arith}
use Rattle.std.specs.Prelude.{nat_eq, IsTrue, Bool, true}
use Rattle.std.proofs.lemmas.Bool.{ne_eqb, eq-eqb, cond-true, cond-false}
use Rattle.std.proofs.lemmas.List.{get_or_append_left, get_or_push, length_push}
use Rattle.clight_typing.specs.Functions.{function_number}
use Rattle.sample_programs.proofs.Families.{each, length-each, get-each}
use Rattle.sample_programs.proofs.Trees.{own_name, main_number, value_number}

pub true_of : (b : Bool) → b ≡ true → IsTrue b
true_of b e = e

pub own_apart : (f g : ℕ) → f < g → own_name f ≡ own_name g → ⊥
own_apart zero zero h e = absurd (omega arith)
own_apart zero (suc g) h e = absurd (omega arith)
own_apart (suc f) zero h e = absurd (omega arith)
own_apart (suc f) (suc g) h e = absurd (omega arith)

pub own_before : (f n : ℕ) → f < n → own_name f < main_number n
own_before zero n h = omega arith
own_before (suc f) n h = omega arith

pub own_not_main : (f n : ℕ) → f < n → own_name f ≡ main_number n → ⊥
own_not_main f n h e = let b = own_before f n h in absurd (omega arith)

pub own_not_value : (f n : ℕ) → f < n → own_name f ≡ value_number n → ⊥
own_not_value f n h e = let b = own_before f n h in absurd (omega arith)

-- the names of the functions in the order of their definitions
abbrev pub definitions_of : ℕ → List ℕ
definitions_of n = each own_name n ++ main_number n ∷ []

place_in : (xs : List ℕ) (k y : ℕ) → k < length xs → get_or xs k 0 ≡ y → ((m : ℕ) → m < k → get_or xs m 0 ≡ y → ⊥) → function_number xs y ≡ k
place_in [] k y h e ne = absurd (omega arith)
place_in (x ∷ xs) zero y h e ne = cond-true (nat_eq x y) 0 (suc (function_number xs y)) (eq-eqb x y e)
place_in (x ∷ xs) (suc k) y h e ne =
    cond-false (nat_eq x y) 0 (suc (function_number xs y)) (ne_eqb x y (ne zero (omega arith)))
    ∙ ap suc (place_in xs k y (omega arith) e (λ m g. ne (suc m) (omega arith)))

definition_at : (n f : ℕ) → f < n → get_or (definitions_of n) f 0 ≡ own_name f
definition_at n f h =
    let l = length-each own_name n in
    get_or_append_left (each own_name n) (main_number n ∷ []) 0 f (omega arith) ∙ get-each own_name n f 0 h

pub function_place : (n f : ℕ) → f < n → function_number (definitions_of n) (own_name f) ≡ f
function_place n f h =
    let l = length-each own_name n in
    let p = length_push (each own_name n) (main_number n) in
    place_in (definitions_of n) f (own_name f) (omega arith) (definition_at n f h)
    (λ m g e. own_apart m f g (sym (definition_at n m (omega arith)) ∙ e))

pub main_place : (n : ℕ) → function_number (definitions_of n) (main_number n) ≡ n
main_place n =
    let l = length-each own_name n in
    let p = length_push (each own_name n) (main_number n) in
    place_in (definitions_of n) n (main_number n) (omega arith) (get_or_push (each own_name n) (main_number n) 0 n (omega arith))
    (λ m g e. own_not_main m n g (sym (definition_at n m g) ∙ e))
