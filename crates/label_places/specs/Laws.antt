-- The places of a source's code in its typed tree: those of the tokens that the tree spells (ISO/IEC 9899:1999, 5.1.1.2 and 6.9).
use Rattle.std.specs.Prelude.{ℕ, List, length}
use Rattle.clight_source.specs.Trees.{Program}
use Rattle.clight_tokens.specs.SourceTrees.{IsSourceTree}
use Rattle.clight_syntax.specs.TypedTrees.{TypedProgram}
use Rattle.clight_syntax.specs.TypedSpans.{AreAscending, code_spans}
use Rattle.clight_check.specs.Soundness.{IsSound}

-- In the typed tree of a text, the places of the code stand one behind the other, within the text.
abbrev pub PlacesAscend : Type 0
PlacesAscend =
    (text : List ℕ) (tree : Program) (typed : TypedProgram (Unit {0})) → IsSourceTree text tree → IsSound tree typed
    → AreAscending 0 (code_spans typed) (length text)
