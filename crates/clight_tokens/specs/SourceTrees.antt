-- The syntax tree of a source: the one that its tokens spell, where none of its nodes is too deep (ISO/IEC 9899:1999, 6.4 to 6.9,
-- in the compiler's profile of C: `docs/language.md`).
use Rattle.std.specs.Prelude.{◌≡◌, ℕ, List, length}
use Rattle.clight_source.specs.Depth.{IsShallow}
use Rattle.clight_source.specs.Spelling.{Spells}
use Rattle.clight_tokens.specs.Symbols.{names_of, terminals_of}
use Rattle.clight_tokens.specs.Tokens.{Token, Tokenised, HasTokens}
use Rattle.clight_source.specs.Trees.{Program}

-- the tree that these tokens spell. Names have their numbers by the order of their first appearance
pub record IsTreeOf (t : Tokenised) (p : Program) : Type 0 where
  pub names : p.names ≡ names_of t.tokens
  pub spelled : Spells p.items (terminals_of t.tokens)
  pub shallow : IsShallow p.items
  pub whole : p.span ≡ record { from = 0; to = t.length }

-- the tree of a text
pub record IsSourceTree (text : List ℕ) (p : Program) : Type 0 where
  pub list : List Token
  pub tokens : HasTokens text list
  pub tree : IsTreeOf (record { tokens = list; length = length text }) p
