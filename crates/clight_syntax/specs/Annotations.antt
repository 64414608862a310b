-- The annotated text: a source with the annotations that make it count its own cost. The format of
-- the annotations is the compiler's own.
use Rattle.std.specs.Prelude.{◌≡◌, ℕ, ◌≤◌, ◌<◌, List, [], ◌∷◌, ◌++◌, length, map, take, drop, slice_index, All, codes, decimal}
use Rattle.std.specs.List.{flat_map, range_with_len}
use Rattle.clight_syntax.specs.declared.points.Piece.{Piece}
use Rattle.clight_syntax.specs.declared.points.Piece.TheVariants.{Start, After, ArmOpen, ArmClose, ThenClose, BodyClose, DoOpen, DoClose, CondOpen, CondBoth, CondRepeat}
use Rattle.cerco_base.specs.declared.events.Label.{Label}
use Rattle.clight_syntax.specs.declared.points.Point.{Point}
use Rattle.clight_source.specs.Markers.{annotation_mark}

-- the cost of the program's start, and of each label by its number, in machine cycles
pub record Costs : Type 0 where
  pub start : ℕ
  pub labels : List ℕ

abbrev pub cost_of : Costs → Label → ℕ
cost_of costs label = slice_index costs.labels label.0

-- a number in decimal, between two texts
abbrev pub around : List ℕ → ℕ → List ℕ → List ℕ
around before number behind = before ++ (decimal number ++ behind)

-- the C text of an annotation
abbrev pub inner_text : Costs → Piece → List ℕ
inner_text costs Start = around (codes "unsigned long __cost=") costs.start (codes ";")
inner_text costs (After label) = around (codes "__cost+=") (cost_of costs label) (codes ";")
inner_text costs (ArmOpen label) = around (codes "{__cost+=") (cost_of costs label) (codes ";")
inner_text costs ArmClose = codes "}"
inner_text costs (ThenClose label) = around (codes "}else{__cost+=") (cost_of costs label) (codes ";}")
inner_text costs (BodyClose label) = around (codes "}__cost+=") (cost_of costs label) (codes ";")
inner_text costs DoOpen = codes "{"
inner_text costs DoClose = codes "}"
inner_text costs CondOpen = codes "(("
inner_text costs (CondBoth on_true on_false) =
    around (codes ")?(__cost+=") (cost_of costs on_true) (around (codes ",1):(__cost+=") (cost_of costs on_false) (codes ",0))"))
inner_text costs (CondRepeat label) = around (codes ")?(__cost+=") (cost_of costs label) (codes ",1):0)")

-- an annotation: a mark, the C text, and a mark
abbrev pub piece_text : Costs → Piece → List ℕ
piece_text costs piece = annotation_mark ++ (inner_text costs piece ++ annotation_mark)

-- a text with another one inserted before the byte at an offset
abbrev pub with_text_at : ℕ → List ℕ → List ℕ → List ℕ
with_text_at at inserted text = take at text ++ (inserted ++ drop at text)

-- the text with the annotation of each point inserted before the byte at its offset. The offsets are
-- those of the text without annotations, and rise, so the later points are inserted first
abbrev pub annotated : List ℕ → List Point → Costs → List ℕ
annotated text [] costs = text
annotated text (point ∷ points) costs = with_text_at point.at (piece_text costs point.piece) (annotated text points costs)

-- the offsets of the points rise, are not below `from`, and are at most the text's size
abbrev pub AreInOrderFrom : ℕ → ℕ → List Point → Type 0
AreInOrderFrom from size [] = from ≤ size
AreInOrderFrom from size (point ∷ points) = (from ≤ point.at) × AreInOrderFrom point.at size points

-- the points stand in the order of a text of this size
abbrev pub AreInOrder : ℕ → List Point → Type 0
AreInOrder size points = AreInOrderFrom 0 size points

-- the labels that an annotation names, in the order in which their costs stand in its text
abbrev pub labels_of : Piece → List Label
labels_of Start = []
labels_of (After label) = label ∷ []
labels_of (ArmOpen label) = label ∷ []
labels_of ArmClose = []
labels_of (ThenClose label) = label ∷ []
labels_of (BodyClose label) = label ∷ []
labels_of DoOpen = []
labels_of DoClose = []
labels_of CondOpen = []
labels_of (CondBoth on_true on_false) = on_true ∷ on_false ∷ []
labels_of (CondRepeat label) = label ∷ []

-- the labels that annotations name, in the order of the annotated text
abbrev pub labels_in : List Point → List Label
labels_in points = flat_map (λ (point : Point). labels_of point.piece) points

-- the labels have this number and those behind it, one after the other
abbrev pub AreNumberedFrom : ℕ → List Label → Type 0
AreNumberedFrom number labels = map (λ (label : Label). label.0) labels ≡ range_with_len number (length labels)

-- the labels have the numbers 0, 1, 2 and so on
abbrev pub AreNumberedInOrder : List Label → Type 0
AreNumberedInOrder labels = AreNumberedFrom 0 labels

-- each label is below a number
abbrev pub AreLabelsBelow : ℕ → List Label → Type 0
AreLabelsBelow count [] = Unit {0}
AreLabelsBelow count (label ∷ labels) = (label.0 < count) × AreLabelsBelow count labels

-- the annotation names only labels below a number
abbrev pub HasLabelsBelow : ℕ → Piece → Type 0
HasLabelsBelow count piece = AreLabelsBelow count (labels_of piece)

-- each annotation names only labels below a number
abbrev pub HaveLabelsBelow : ℕ → List Point → Type 0
HaveLabelsBelow count points = All (λ point. HasLabelsBelow count point.piece) points

-- the numbers that an annotation has in its text
abbrev pub numbers_of : Costs → Piece → List ℕ
numbers_of costs Start = costs.start ∷ []
numbers_of costs piece = map (cost_of costs) (labels_of piece)

-- the annotation doesn't declare the cost variable
abbrev pub IsNoStart : Piece → Type 0
IsNoStart Start = ⊥
IsNoStart piece = Unit {0}

-- none of the annotations declares the cost variable
abbrev pub HaveNoStart : List Point → Type 0
HaveNoStart [] = Unit {0}
HaveNoStart (point ∷ points) = IsNoStart point.piece × HaveNoStart points

-- the first annotation, and no other one, declares the cost variable
abbrev pub BeginWithStart : List Point → Type 0
BeginWithStart [] = ⊥
BeginWithStart (point ∷ points) = (point.piece ≡ Start) × HaveNoStart points
