-- The variables of a function among all.
use Rattle.std.proofs.Common.{◌≡◌, ℕ, ◌-◌, List, ◌++◌, length, map, take, drop, sym, ap, ◌∙◌, length-drop}
use Rattle.std.specs.Prelude.{min}
use Rattle.std.proofs.lemmas.List.{take-map, drop-map, take_min, drop_min}
use Rattle.clight_syntax.specs.declared.typed.Variable.{Variable}
use Rattle.clight_syntax.specs.TypedTrees.{Variable', Function, own_count}
use Rattle.clight_syntax.specs.Code.TypedViews.{variable_of}
use Rattle.c_types.specs.Types.{StructType}
use Rattle.clight_layout.specs.declared.sizes.Area.TheVariants.{Frame}
use Rattle.clight_layout.specs.Frames.{placed, with_frame}

pub frame_is : (structs : List StructType) (f : Function (Unit {0})) (at : ℕ) (xs : List Variable) (m n : ℕ) → m ≡ min f.first_variable (length xs) → n ≡ min (own_count f) (length xs - m)
    → map variable_of (take m xs) ++ (placed Frame structs at (map variable_of (take n (drop m xs))) ++ map variable_of (drop n (drop m xs))) ≡ with_frame structs f at (map variable_of xs)
frame_is structs f at xs m n e g =
    let rest : drop m xs ≡ drop f.first_variable xs = ap (λ k. drop k xs) e ∙ drop_min f.first_variable xs in
    let front : take m xs ≡ take f.first_variable xs = ap (λ k. take k xs) e ∙ take_min f.first_variable xs in
    let count : n ≡ min (own_count f) (length (drop m xs)) = g ∙ ap (min (own_count f)) (sym (length-drop m xs)) in
    let own : take n (drop m xs) ≡ take (own_count f) (drop f.first_variable xs) = ap (λ k. take k (drop m xs)) count ∙ take_min (own_count f) (drop m xs) ∙ ap (take (own_count f)) rest in
    let behind : drop n (drop m xs) ≡ drop (own_count f) (drop f.first_variable xs) = ap (λ k. drop k (drop m xs)) count ∙ drop_min (own_count f) (drop m xs) ∙ ap (drop (own_count f)) rest in
    let put : List Variable → List Variable → List Variable → List Variable' = λ a b c. map variable_of a ++ (placed Frame structs at (map variable_of b) ++ map variable_of c) in
    ap (λ a. put a (take n (drop m xs)) (drop n (drop m xs))) front
    ∙ ap (λ b. put (take f.first_variable xs) b (drop n (drop m xs))) own
    ∙ ap (λ c. put (take f.first_variable xs) (take (own_count f) (drop f.first_variable xs)) c) behind
    ∙ ap (λ l. l ++ (placed Frame structs at (map variable_of (take (own_count f) (drop f.first_variable xs))) ++ map variable_of (drop (own_count f) (drop f.first_variable xs)))) (sym (take-map variable_of f.first_variable xs))
    ∙ ap (λ l. take f.first_variable (map variable_of xs) ++ (placed Frame structs at l ++ map variable_of (drop (own_count f) (drop f.first_variable xs)))) (sym (take-map variable_of (own_count f) (drop f.first_variable xs)))
    ∙ ap (λ l. take f.first_variable (map variable_of xs) ++ (placed Frame structs at (take (own_count f) (map variable_of (drop f.first_variable xs))) ++ l)) (sym (drop-map variable_of (own_count f) (drop f.first_variable xs)))
    ∙ ap (λ l. take f.first_variable (map variable_of xs) ++ (placed Frame structs at (take (own_count f) l) ++ drop (own_count f) l)) (sym (drop-map variable_of f.first_variable xs))
