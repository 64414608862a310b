-- The variables of a function among all.
use Rattle.std.proofs.Common.{◌≡◌, ℕ, ◌-◌, List, length, map, take, drop, sym, ap, ◌∙◌, length-drop}
use Rattle.std.specs.Prelude.{min}
use Rattle.std.proofs.lemmas.List.{take-map, drop-map, drop_min}
use Rattle.std.proofs.Math.Seq.{take-length}
use Rattle.clight_syntax.specs.declared.typed.Variable.{Variable}
use Rattle.clight_syntax.specs.Code.TypedViews.{variable_of}

-- the rest of a list in full
pub rest_is : (xs : List Variable) (first m : ℕ) → m ≡ min first (length xs) → take (length xs - m) (drop m xs) ≡ drop first xs
rest_is xs first m e =
    ap (λ n. take n (drop m xs)) (sym (length-drop m xs))
    ∙ take-length (drop m xs)
    ∙ ap (λ n. drop n xs) e
    ∙ drop_min first xs

pub own_is : (xs own rest : List Variable) (first count : ℕ) → rest ≡ drop first xs → own ≡ take count rest → map variable_of own ≡ take count (drop first (map variable_of xs))
own_is xs own rest first count e f =
    ap (map variable_of) (f ∙ ap (take count) e)
    ∙ sym (take-map variable_of count (drop first xs))
    ∙ ap (take count) (sym (drop-map variable_of first xs))
