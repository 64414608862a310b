-- Why a text has no syntax tree: the first of its reasons, with its place. (The reasons and their order are the compiler's own:
-- `docs/language.md`.)
use Rattle.std.specs.Prelude.{◌≡◌, ℕ, List, length, map, slice_index_or, ◌⊎◌}
use Rattle.cerco_base.specs.declared.reasons.Fault.{Fault}
use Rattle.cerco_base.specs.declared.reasons.Fault.TheVariants.{Refused, OutOfMemory}
use Rattle.cerco_base.specs.declared.reasons.Reason.{Reason}
use Rattle.cerco_base.specs.declared.reasons.Reason.TheVariants as r
use Rattle.clight_source.specs.Depth.{IsFirstDeep}
use Rattle.clight_source.specs.Spelling.{Spells}
use Rattle.clight_tokens.specs.Symbols.{terminals_of}
use Rattle.clight_tokens.specs.Tokens.{Token, Tokenised, HasTokens, HasFault}
use Rattle.clight_source.specs.Trees.{Item}
use Rattle.clight_grammar.specs.Faults.{FaultAt}

-- where the i-th token begins, or the text's length where there is none
abbrev pub token_start : Tokenised → ℕ → ℕ
token_start t i = slice_index_or (map (λ x. x.span.from) t.tokens) i t.length

-- why tokens spell no tree within the limits. Where there is no memory nothing is said
abbrev pub HasNoTree : Tokenised → Fault → Type 0
HasNoTree t OutOfMemory = Unit {0}
HasNoTree t (Refused (r.Syntax at)) = (i : ℕ) × FaultAt (terminals_of t.tokens) i × (at ≡ token_start t i)
HasNoTree t (Refused (r.Nesting at)) = (items : List Item) × Spells items (terminals_of t.tokens) × IsFirstDeep items at
HasNoTree t _ = ⊥

-- the first of the reasons 1 to 6 that a text has
abbrev pub HasReason : List ℕ → Reason → Type 0
HasReason text reason =
    HasFault text (Refused reason)
    ⊎ ((list : List Token) × HasTokens text list × HasNoTree (record { tokens = list; length = length text }) (Refused reason))

-- why a text isn't read
abbrev pub IsNotRead : List ℕ → Fault → Type 0
IsNotRead text OutOfMemory = Unit {0}
IsNotRead text (Refused reason) = HasReason text reason
