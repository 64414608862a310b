-- Labels stay numbered in order where the next ones are added.
use Rattle.std.proofs.Common.{◌≡◌, ℕ, zero, suc, ◌+◌, List, [], ◌∷◌, ◌++◌, length, sym, ap, ap₂, ◌∙◌, arith, append-nil, length-append}
use Rattle.std.specs.List.{range_with_len}
use Rattle.std.proofs.lemmas.List.{map-append}
use Rattle.std.proofs.lemmas.Grind.{flat_map-append}
use Rattle.cerco_base.specs.declared.events.Label.{Label}
use Rattle.clight_syntax.specs.declared.points.Point.{Point}
use Rattle.clight_syntax.specs.Annotations.{labels_of, labels_in, AreNumberedFrom, AreNumberedInOrder}

range-append : (a m n : ℕ) → range_with_len a (m + n) ≡ range_with_len a m ++ range_with_len (a + m) n
range-append a zero n = ap₂ (λ k l. range_with_len k l) (omega arith) (omega arith)
range-append a (suc m) n =
    let more : suc m + n ≡ suc (m + n) = omega arith in
    let past : (a + 1) + m ≡ a + suc m = omega arith in
    ap (range_with_len a) more ∙ ap (λ ns. a ∷ ns) (range-append (a + 1) m n ∙ ap (λ k. range_with_len (a + 1) m ++ range_with_len k n) past)

numbered-append : (one more : List Label) → AreNumberedInOrder one → AreNumberedFrom (length one) more → AreNumberedInOrder (one ++ more)
numbered-append one more p q =
    map-append (λ (label : Label). label.0) one more
    ∙ ap₂ (λ s t. s ++ t) p q
    ∙ ap (λ k. range_with_len 0 (length one) ++ range_with_len k (length more)) (omega arith)
    ∙ sym (range-append 0 (length one) (length more))
    ∙ ap (range_with_len 0) (sym (length-append one more))

labels_in-one : (point : Point) → labels_in (point ∷ []) ≡ labels_of point.piece
labels_in-one point = append-nil (labels_of point.piece)

pub labels_in-more : (points : List Point) (point : Point) → labels_in (points ++ point ∷ []) ≡ labels_in points ++ labels_of point.piece
labels_in-more points point = flat_map-append (λ (p : Point). labels_of p.piece) points (point ∷ []) ∙ ap (λ ls. labels_in points ++ ls) (labels_in-one point)

-- with the next labels the labels are numbered in order
pub numbered_more : (points all : List Point) (point : Point) (count : ℕ) → AreNumberedInOrder (labels_in points) → length (labels_in points) ≡ count → AreNumberedFrom count (labels_of point.piece) → all ≡ points ++ point ∷ [] → AreNumberedInOrder (labels_in all)
numbered_more points all point count p e q is =
    let next : AreNumberedFrom (length (labels_in points)) (labels_of point.piece) = rw e q in
    rw is (rw (labels_in-more points point) (numbered-append (labels_in points) (labels_of point.piece) p next))

pub counted_more : (points all : List Point) (point : Point) (count : ℕ) → length (labels_in points) ≡ count → all ≡ points ++ point ∷ [] → length (labels_in all) ≡ count + length (labels_of point.piece)
counted_more points all point count e is =
    rw is (rw (labels_in-more points point) (length-append (labels_in points) (labels_of point.piece) ∙ ap (λ n. n + length (labels_of point.piece)) e))
