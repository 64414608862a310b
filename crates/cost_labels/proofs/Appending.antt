-- Annotations are added one after the other.
use Rattle.std.proofs.Common.{◌≡◌, ℕ, List, [], ◌∷◌, ◌++◌, ap, ◌∙◌, append_assoc}
use Rattle.clight_syntax.specs.declared.points.Piece.{Piece}
use Rattle.clight_syntax.specs.declared.points.Point.{Point}
use Rattle.clight_syntax.specs.Labelling.{point, between}

pub two_added : (old one all p q : List Point) → one ≡ old ++ p → all ≡ one ++ q → all ≡ old ++ (p ++ q)
two_added old one all p q e f = f ∙ ap (λ l. l ++ q) e ∙ append_assoc old p q

pub three_added : (old one two all p q r : List Point) → one ≡ old ++ p → two ≡ one ++ q → all ≡ two ++ r → all ≡ old ++ (p ++ (q ++ r))
three_added old one two all p q r e f g = two_added old one all p (q ++ r) e (two_added one two all q r f g)

-- those of a part, between one before it and one behind it
pub part_added : (old one two all inside : List Point) (before behind : Piece) (from to start end : ℕ) → from ≡ start → to ≡ end → one ≡ old ++ point from before ∷ [] → two ≡ one ++ inside → all ≡ two ++ point to behind ∷ [] → all ≡ old ++ between (point start before) inside (point end behind)
part_added old one two all inside before behind from to start end begins ends e f g =
    three_added old one two all (point start before ∷ []) inside (point end behind ∷ [])
    (e ∙ ap (λ at. old ++ point at before ∷ []) begins) f (g ∙ ap (λ at. two ++ point at behind ∷ []) ends)
