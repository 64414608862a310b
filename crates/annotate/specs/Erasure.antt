-- The text that is left when the annotations are taken out of an annotated text, for every text.
-- This reading is the compiler's own annotation format.
use Rattle.std.specs.Prelude.{ℕ, zero, suc, if◌then◌else◌, List, [], ◌∷◌, drop, nat_eq}
use Rattle.std.specs.List.{concat, starts_with}
use Rattle.clight_source.specs.Markers.{annotation_mark}

-- the text with a byte before it, where the text is given by its parts
abbrev pub with_byte : ℕ → List (List ℕ) → List (List ℕ)
with_byte byte [] = (byte ∷ []) ∷ []
with_byte byte (part ∷ parts) = (byte ∷ part) ∷ parts

-- the parts of a text of which the first `skip` bytes belong to a mark: the rest is cut at each mark
-- from left to right
abbrev pub cut : ℕ → List ℕ → List (List ℕ)
cut skip [] = [] ∷ []
cut (suc skip) (byte ∷ text) = cut skip text
cut zero (byte ∷ text) = if starts_with nat_eq (byte ∷ text) annotation_mark then [] ∷ cut 4 text else with_byte byte (cut zero text)

-- the parts of a text between its marks, from left to right
abbrev pub parts : List ℕ → List (List ℕ)
parts text = cut 0 text

-- the parts with even number, counted from 0
abbrev pub even_parts : List (List ℕ) → List (List ℕ)
even_parts [] = []
even_parts (part ∷ []) = part ∷ []
even_parts (part ∷ _ ∷ rest) = part ∷ even_parts rest

-- the parts with odd number, counted from 0
abbrev pub odd_parts : List (List ℕ) → List (List ℕ)
odd_parts ps = even_parts (drop 1 ps)

-- the text without its annotations
abbrev pub erased : List ℕ → List ℕ
erased text = concat (even_parts (parts text))
