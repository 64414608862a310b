-- What an annotated text is: the text without its annotations is the source again, and the numbers
-- are those of the annotations. Both for every list of points in the order of the text.
use Rattle.std.proofs.Common.{◌≡◌, ℕ, zero, suc, add-one, ◌+◌, ◌-◌, ◌^◌, ◌<◌, ◌≤◌, false, List, [], ◌∷◌, ◌++◌, length, map, take, drop, slice_index, decimal, codes, refl, sym, ap, ◌∙◌, inl, inr, append_assoc, append-nil, subst, take-append-drop, take_at, drop_at, drop-drop, take-add, ap₂, lit<, arith}
use Rattle.std.specs.List.{flat_map, list_any, concat, range_with_len}
use Rattle.std.proofs.Math.Seq.{take-length, drop-cons}
use Rattle.std.specs.Prelude.{nat_eq}
use Rattle.std.proofs.lemmas.Bool.{cases_lt, or_from}
use Rattle.std.proofs.lemmas.List.{get_or_past, length-take-le, map-append}
use Rattle.std.proofs.lemmas.List.Folds.{list_any-append}
use Rattle.clight_syntax.specs.declared.points.Piece.{Piece}
use Rattle.cerco_base.specs.declared.events.Label.{Label}
use Rattle.clight_syntax.specs.declared.points.Piece.TheVariants.{Start, After, ArmOpen, ArmClose, ThenClose, BodyClose, DoOpen, DoClose, CondOpen, CondBoth, CondRepeat}
use Rattle.clight_syntax.specs.declared.points.Point.{Point}
use Rattle.clight_syntax.specs.Annotations.{Costs, cost_of, around, inner_text, piece_text, with_text_at, annotated, AreInOrderFrom, AreInOrder, labels_of, labels_in, AreNumberedFrom, AreNumberedInOrder, AreLabelsBelow, HaveLabelsBelow, numbers_of, IsNoStart, HaveNoStart, BeginWithStart}
use Rattle.annotate.specs.Erasure.{parts, even_parts, odd_parts, erased}
use Rattle.clight_source.specs.Markers.{HasNoMarker}
use Rattle.annotate.specs.Laws.{AreCostsBelow}
use Rattle.annotate.specs.Numbers.{numbers_in, numbers}
use Rattle.annotate.proofs.Cutting.{cut-annotated, cut-plain_alone, even_parts-cons, HasNoMarker-drop, HasNoMarker-take}
use Rattle.annotate.proofs.DecimalTexts.{list_all-decimal, list_any-digits, numbers_in-set, numbers_in-added}

-- ---- one annotation

-- a number between two texts without `/`
no_slash_around : (before behind : List ℕ) (n : ℕ) → list_any (nat_eq 47) before ≡ false → list_any (nat_eq 47) behind ≡ false → list_any (nat_eq 47) (around before n behind) ≡ false
no_slash_around before behind n a b =
    list_any-append (nat_eq 47) before (decimal n ++ behind)
    ∙ or_from _ _ a (list_any-append (nat_eq 47) (decimal n) behind ∙ or_from _ _ (list_any-digits 47 (decimal n) refl (list_all-decimal n)) b)

-- the C text of an annotation has no `/`
pub no_slash_in_inner : (costs : Costs) (piece : Piece) → list_any (nat_eq 47) (inner_text costs piece) ≡ false
no_slash_in_inner costs Start = no_slash_around (codes "unsigned long __cost=") (codes ";") costs.start refl refl
no_slash_in_inner costs (After label) = no_slash_around (codes "__cost+=") (codes ";") (cost_of costs label) refl refl
no_slash_in_inner costs (ArmOpen label) = no_slash_around (codes "{__cost+=") (codes ";") (cost_of costs label) refl refl
no_slash_in_inner costs ArmClose = refl
no_slash_in_inner costs (ThenClose label) = no_slash_around (codes "}else{__cost+=") (codes ";}") (cost_of costs label) refl refl
no_slash_in_inner costs (BodyClose label) = no_slash_around (codes "}__cost+=") (codes ";") (cost_of costs label) refl refl
no_slash_in_inner costs DoOpen = refl
no_slash_in_inner costs DoClose = refl
no_slash_in_inner costs CondOpen = refl
no_slash_in_inner costs (CondBoth on_true on_false) =
    no_slash_around (codes ")?(__cost+=") (around (codes ",1):(__cost+=") (cost_of costs on_false) (codes ",0))")) (cost_of costs on_true) refl
    (no_slash_around (codes ",1):(__cost+=") (codes ",0))") (cost_of costs on_false) refl refl)
no_slash_in_inner costs (CondRepeat label) = no_slash_around (codes ")?(__cost+=") (codes ",1):0)") (cost_of costs label) refl refl

-- also where there is no such label
cost_below : (costs : Costs) (label : Label) → AreCostsBelow (2 ^ 64) costs → cost_of costs label < 2 ^ 64
cost_below costs label below = elim (cases_lt label.0 (length costs.labels)) [
  | inl within ↦ below.labels label.0 0 within
  | inr past ↦ rw (get_or_past costs.labels label.0 0 past) (lit< tt)
]

-- the numbers in the C text of an annotation are the annotation's
pub numbers_in-inner_text : (costs : Costs) (piece : Piece) → AreCostsBelow (2 ^ 64) costs → numbers_in (inner_text costs piece) ≡ numbers_of costs piece
numbers_in-inner_text costs Start below = numbers_in-set costs.start (codes ";") below.start refl
numbers_in-inner_text costs (After label) below = numbers_in-added (cost_of costs label) (codes ";") (cost_below costs label below) refl
numbers_in-inner_text costs (ArmOpen label) below = numbers_in-added (cost_of costs label) (codes ";") (cost_below costs label below) refl
numbers_in-inner_text costs ArmClose below = refl
numbers_in-inner_text costs (ThenClose label) below = numbers_in-added (cost_of costs label) (codes ";}") (cost_below costs label below) refl
numbers_in-inner_text costs (BodyClose label) below = numbers_in-added (cost_of costs label) (codes ";") (cost_below costs label below) refl
numbers_in-inner_text costs DoOpen below = refl
numbers_in-inner_text costs DoClose below = refl
numbers_in-inner_text costs CondOpen below = refl
numbers_in-inner_text costs (CondBoth on_true on_false) below =
    numbers_in-added (cost_of costs on_true) (around (codes ",1):(__cost+=") (cost_of costs on_false) (codes ",0))")) (cost_below costs on_true below) refl
    ∙ ap (λ ns. cost_of costs on_true ∷ ns) (numbers_in-added (cost_of costs on_false) (codes ",0))") (cost_below costs on_false below) refl)
numbers_in-inner_text costs (CondRepeat label) below = numbers_in-added (cost_of costs label) (codes ",1):0)") (cost_below costs label below) refl

-- ---- a whole text, from a byte on

-- the rest of a text from its byte `from` on, with its annotations
abbrev pub annotated_from : ℕ → List ℕ → List Point → Costs → List ℕ
annotated_from from rest [] costs = rest
annotated_from from rest (point ∷ points) costs =
    take (point.at - from) rest ++ (piece_text costs point.piece ++ annotated_from point.at (drop (point.at - from) rest) points costs)

pub within_size : (from size : ℕ) (points : List Point) → AreInOrderFrom from size points → from ≤ size
within_size from size [] order = order
within_size from size (point ∷ points) order = let later = within_size point.at size points order.1 in omega arith

-- an annotated text is its front and the rest with its annotations
pub annotated-from : (text : List ℕ) (from : ℕ) (points : List Point) (costs : Costs) → AreInOrderFrom from (length text) points → annotated text points costs ≡ take from text ++ annotated_from from (drop from text) points costs
annotated-from text from [] costs order = sym (take-append-drop from text)
annotated-from text from (point ∷ points) costs order =
    let size = within_size point.at (length text) points order.1 in
    let front = take point.at text in
    let rest = annotated_from point.at (drop point.at text) points costs in
    let piece = piece_text costs point.piece in
    let long : length front ≡ point.at = length-take-le point.at text size in
    let past : from + (point.at - from) ≡ point.at = omega arith in
    let split : take from text ++ take (point.at - from) (drop from text) ≡ front = sym (take-add from (point.at - from) text) ∙ ap (λ n. take n text) past in
    let behind : drop (point.at - from) (drop from text) ≡ drop point.at text = drop-drop (point.at - from) from text ∙ ap (λ n. drop n text) past in
    ap (with_text_at point.at piece) (annotated-from text point.at points costs order.1)
    ∙ ap₂ (λ s t. s ++ (piece ++ t)) (take_at front rest point.at long) (drop_at front rest point.at long)
    ∙ ap (λ s. s ++ (piece ++ rest)) (sym split)
    ∙ append_assoc (take from text) (take (point.at - from) (drop from text)) (piece ++ rest)
    ∙ ap (λ t. take from text ++ (take (point.at - from) (drop from text) ++ (piece ++ annotated_from point.at t points costs))) (sym behind)

-- an annotated text is the whole text from its first byte on
pub annotated-whole : (text : List ℕ) (points : List Point) (costs : Costs) → AreInOrder (length text) points → annotated text points costs ≡ annotated_from 0 text points costs
annotated-whole text points costs order = annotated-from text 0 points costs order

-- the parts of the rest of a text with its annotations: the first is the text up to the first annotation
cut-first : (from : ℕ) (rest : List ℕ) (point : Point) (points : List Point) (costs : Costs) → HasNoMarker rest → parts (annotated_from from rest (point ∷ points) costs) ≡ take (point.at - from) rest ∷ inner_text costs point.piece ∷ parts (annotated_from point.at (drop (point.at - from) rest) points costs)
cut-first from rest point points costs plain =
    cut-annotated (take (point.at - from) rest) (inner_text costs point.piece) (annotated_from point.at (drop (point.at - from) rest) points costs)
    (HasNoMarker-take (point.at - from) rest plain) (no_slash_in_inner costs point.piece)

erased-annotated_from : (from : ℕ) (rest : List ℕ) (points : List Point) (costs : Costs) → HasNoMarker rest → erased (annotated_from from rest points costs) ≡ rest
erased-annotated_from from rest [] costs plain = ap (λ ps. concat (even_parts ps)) (cut-plain_alone rest plain) ∙ append-nil rest
erased-annotated_from from rest (point ∷ points) costs plain =
    let n = point.at - from in
    ap (λ ps. concat (even_parts ps)) (cut-first from rest point points costs plain)
    ∙ ap (λ t. take n rest ++ t) (erased-annotated_from point.at (drop n rest) points costs (HasNoMarker-drop n rest plain))
    ∙ take-append-drop n rest

numbers-annotated_from : (from : ℕ) (rest : List ℕ) (points : List Point) (costs : Costs) → HasNoMarker rest → AreCostsBelow (2 ^ 64) costs → numbers (annotated_from from rest points costs) ≡ flat_map (λ (point : Point). numbers_of costs point.piece) points
numbers-annotated_from from rest [] costs plain below = ap (λ ps. flat_map numbers_in (odd_parts ps)) (cut-plain_alone rest plain)
numbers-annotated_from from rest (point ∷ points) costs plain below =
    let n = point.at - from in
    let behind = annotated_from point.at (drop n rest) points costs in
    ap (λ ps. flat_map numbers_in (odd_parts ps)) (cut-first from rest point points costs plain)
    ∙ ap (flat_map numbers_in) (even_parts-cons (inner_text costs point.piece) (parts behind))
    ∙ ap₂ (λ s t. s ++ t) (numbers_in-inner_text costs point.piece below) (numbers-annotated_from point.at (drop n rest) points costs (HasNoMarker-drop n rest plain) below)

-- ---- the two laws

-- a source without marker is what is left when its annotations are taken out
pub erased-annotated : (text : List ℕ) (points : List Point) (costs : Costs) → HasNoMarker text → AreInOrder (length text) points → erased (annotated text points costs) ≡ text
erased-annotated text points costs plain order = ap erased (annotated-whole text points costs order) ∙ erased-annotated_from 0 text points costs plain

-- the numbers of its annotated text are those of the annotations, in order
pub numbers-annotated : (text : List ℕ) (points : List Point) (costs : Costs) → HasNoMarker text → AreInOrder (length text) points → AreCostsBelow (2 ^ 64) costs → numbers (annotated text points costs) ≡ flat_map (λ (point : Point). numbers_of costs point.piece) points
numbers-annotated text points costs plain order below = ap numbers (annotated-whole text points costs order) ∙ numbers-annotated_from 0 text points costs plain below

-- ---- labels that are numbered in order

-- the costs of labels numbered from `from` on are those of the list from there on
costs_in_order : (labels : List ℕ) (from n : ℕ) → from + n ≤ length labels → map (λ i. slice_index labels i) (range_with_len from n) ≡ take n (drop from labels)
costs_in_order labels from zero within = refl
costs_in_order labels from (suc n) within =
    let some : from < length labels = omega arith in
    rw (drop-cons labels from 0 some) (ap (λ ns. slice_index labels from ∷ ns) (costs_in_order labels (from + 1) n (omega arith) ∙ ap (λ k. take n (drop k labels)) (add-one from)))

costs_are_mapped : (costs : Costs) (labels : List Label) → map (cost_of costs) labels ≡ map (λ i. slice_index costs.labels i) (map (λ (label : Label). label.0) labels)
costs_are_mapped costs [] = refl
costs_are_mapped costs (label ∷ labels) = ap (λ ns. cost_of costs label ∷ ns) (costs_are_mapped costs labels)

-- the costs of labels that are numbered in order are the costs in their order
pub all_costs : (costs : Costs) (labels : List Label) → AreNumberedInOrder labels → length labels ≡ length costs.labels → map (cost_of costs) labels ≡ costs.labels
all_costs costs labels order same =
    costs_are_mapped costs labels
    ∙ ap (map (λ i. slice_index costs.labels i)) order
    ∙ costs_in_order costs.labels 0 (length labels) (omega arith)
    ∙ ap (λ n. take n costs.labels) same
    ∙ take-length costs.labels

-- ---- the numbers of a text whose annotations begin with the start's and name labels numbered in order

numbers_of-labels : (costs : Costs) (piece : Piece) → IsNoStart piece → numbers_of costs piece ≡ map (cost_of costs) (labels_of piece)
numbers_of-labels costs Start h = absurd h
numbers_of-labels costs (After label) h = refl
numbers_of-labels costs (ArmOpen label) h = refl
numbers_of-labels costs ArmClose h = refl
numbers_of-labels costs (ThenClose label) h = refl
numbers_of-labels costs (BodyClose label) h = refl
numbers_of-labels costs DoOpen h = refl
numbers_of-labels costs DoClose h = refl
numbers_of-labels costs CondOpen h = refl
numbers_of-labels costs (CondBoth on_true on_false) h = refl
numbers_of-labels costs (CondRepeat label) h = refl

numbers_of-all : (costs : Costs) (points : List Point) → HaveNoStart points → flat_map (λ (point : Point). numbers_of costs point.piece) points ≡ map (cost_of costs) (labels_in points)
numbers_of-all costs [] h = refl
numbers_of-all costs (point ∷ points) h =
    ap₂ (λ s t. s ++ t) (numbers_of-labels costs point.piece h.0) (numbers_of-all costs points h.1)
    ∙ sym (map-append (cost_of costs) (labels_of point.piece) (labels_in points))

numbers_of-planned : (costs : Costs) (points : List Point) → BeginWithStart points → AreNumberedInOrder (labels_in points) → length (labels_in points) ≡ length costs.labels → flat_map (λ (point : Point). numbers_of costs point.piece) points ≡ costs.start ∷ costs.labels
numbers_of-planned costs [] h order same = absurd h
numbers_of-planned costs (point ∷ points) h order same =
    let first : labels_in (point ∷ points) ≡ labels_in points = ap (λ piece. labels_of piece ++ labels_in points) h.0 in
    let Numbered : List Label → Type 0 = λ labels. AreNumberedInOrder labels in
    ap (λ piece. numbers_of costs piece ++ flat_map (λ (p : Point). numbers_of costs p.piece) points) h.0
    ∙ ap (λ ns. costs.start ∷ ns) (numbers_of-all costs points h.1 ∙ all_costs costs (labels_in points) (subst Numbered first order) (ap length (sym first) ∙ same))

-- the numbers are the cost of the start, and the costs of the labels in their order
pub numbers-planned : (text : List ℕ) (points : List Point) (costs : Costs) → HasNoMarker text → AreInOrder (length text) points → AreCostsBelow (2 ^ 64) costs → BeginWithStart points → AreNumberedInOrder (labels_in points) → length (labels_in points) ≡ length costs.labels → numbers (annotated text points costs) ≡ costs.start ∷ costs.labels
numbers-planned text points costs plain order below begins numbered same =
    numbers-annotated text points costs plain order below ∙ numbers_of-planned costs points begins numbered same

-- ---- labels that are numbered in order are below their number

numbered_below : (from count : ℕ) (labels : List Label) → AreNumberedFrom from labels → from + length labels ≤ count → AreLabelsBelow count labels
numbered_below from count [] e h = tt
numbered_below from count (label ∷ labels) e h =
    let first : label.0 ≡ from = cc in
    let rest : AreNumberedFrom (from + 1) labels = cc in
    let within : from + suc (length labels) ≤ count = h in
    (omega arith, numbered_below (from + 1) count labels rest (omega arith))

front_below : (count : ℕ) (labels more : List Label) → AreLabelsBelow count (labels ++ more) → AreLabelsBelow count labels
front_below count [] more h = tt
front_below count (label ∷ labels) more h = (h.0, front_below count labels more h.1)

behind_below : (count : ℕ) (labels more : List Label) → AreLabelsBelow count (labels ++ more) → AreLabelsBelow count more
behind_below count [] more h = h
behind_below count (label ∷ labels) more h = behind_below count labels more h.1

points_below : (count : ℕ) (points : List Point) → AreLabelsBelow count (labels_in points) → HaveLabelsBelow count points
points_below count [] h k d within = absurd (omega arith)
points_below count (point ∷ points) h zero d within = front_below count (labels_of point.piece) (labels_in points) h
points_below count (point ∷ points) h (suc k) d within =
    let past : suc k < suc (length points) = within in
    points_below count points (behind_below count (labels_of point.piece) (labels_in points) h) k d (omega arith)

pub labels_below : (count : ℕ) (points : List Point) → AreNumberedInOrder (labels_in points) → length (labels_in points) ≤ count → HaveLabelsBelow count points
labels_below count points order within = points_below count points (numbered_below 0 count (labels_in points) order (omega arith))
