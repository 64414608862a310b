-- The tokens of the code as those of the definitions.
use Rattle.std.specs.Prelude.{◌≡◌, ℕ, cond, true, List, [], ◌∷◌}
use Rattle.std.specs.List.{list_all}
use Rattle.cerco_base.specs.declared.reasons.Fault.{Fault}
use Rattle.cerco_base.specs.declared.reasons.Fault.TheVariants.{Refused, OutOfMemory}
use Rattle.cerco_base.specs.declared.reasons.Reason.TheVariants as r
use Rattle.clight_tokens.specs.Lexemes.{Kind, is_source_byte}
use Rattle.clight_tokens.specs.Tokens as s
use Rattle.clight_tokens.specs.declared.token_list.Token.{Token}

abbrev pub token_of : Token → s.Token
token_of t = record { text = t.text.now; span = t.span }

-- a token, unless it is a gap
abbrev pub kept : Kind → s.Token → List s.Token
kept kind t = cond (s.is_token kind) (t ∷ []) []

abbrev pub AllSourceBytes : List ℕ → Type 0
AllSourceBytes s = list_all is_source_byte s ≡ true

-- a division into tokens fails at a place, or out of memory
abbrev pub IsScanFault : List ℕ → Fault → Type 0
IsScanFault text OutOfMemory = Unit {0}
IsScanFault text (Refused (r.Token q)) = s.FaultFrom 0 text q
IsScanFault text _ = ⊥
