-- The tables and the names of the code as those of the definitions.
use Rattle.std.specs.Prelude.{ℕ, cond, List, map}
use Rattle.std.specs.Borrow.{Bor}
use Rattle.std.specs.declared.hash.FoldHasher.{FoldHasher}
use Rattle.std.specs.declared.hash.BuildHasherDefault.{BuildHasherDefault}
use Rattle.indexmap.specs.IndexSet.{IndexSet}
use Rattle.clight_source.specs.declared.symbol.Symbol.{Symbol}
use Rattle.clight_tokens.specs.Symbols.{is_name, with_name}
use Rattle.clight_tokens.specs.declared.tables.Entry.{Entry}

abbrev pub entry_of : Entry → List ℕ × Symbol
entry_of e = (e.spelling.now, e.symbol)

-- the names that a set of slices has, in its order
abbrev pub spellings : IndexSet (Bor (List ℕ)) (BuildHasherDefault FoldHasher) → List (List ℕ)
spellings names = map (λ k. k.now) names.keys

-- the names with that of a token, if it is one
abbrev pub with_token : List (List ℕ) → List ℕ → List (List ℕ)
with_token names text = cond (is_name text) (with_name names text) names
