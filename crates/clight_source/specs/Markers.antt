-- What stands before and after each annotation of an annotated text, and the texts without the opening of one. The mark is the
-- compiler's own annotation format: a comment of C (ISO/IEC 9899:1999, 6.4.9).
use Rattle.std.specs.Prelude.{ℕ, IsFalse, List, drop, codes, nat_eq}
use Rattle.std.specs.List.{starts_with}

abbrev pub annotation_mark : List ℕ
annotation_mark = codes "/*@*/"

-- the text has no `/*@`, with which each mark begins
abbrev pub HasNoMarker : List ℕ → Type 0
HasNoMarker text = (at : ℕ) → IsFalse (starts_with nat_eq (drop at text) (codes "/*@"))
