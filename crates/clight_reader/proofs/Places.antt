-- Where terminals begin: there where their tokens do.
use Rattle.std.proofs.Common.{◌≡◌, ℕ, zero, suc, List, [], ◌∷◌, map, refl, sym, ap, ◌∙◌, subst}
use Rattle.std.specs.Prelude.{Some, None, slice_get, slice_index_or}
use Rattle.cerco_base.specs.declared.reasons.Fault.TheVariants.{Refused}
use Rattle.cerco_base.specs.declared.reasons.Reason.TheVariants as r
use Rattle.clight_source.specs.declared.symbol.Terminal.{Terminal}
use Rattle.clight_tokens.specs.Symbols.{names_of, terminal_of, terminals_of}
use Rattle.clight_tokens.specs.Tokens.{Token, Tokenised}
use Rattle.clight_grammar.specs.Faults.{FaultAt}
use Rattle.clight_reader.specs.Reasons.{HasNoTree}

abbrev pub starts : List Terminal → List ℕ
starts = map (λ t. t.span.from)

same_starts : (names : List (List ℕ)) (l : List Token) → starts (map (terminal_of names) l) ≡ map (λ t. t.span.from) l
same_starts names [] = refl
same_starts names (t ∷ l) = ap (λ z. t.span.from ∷ z) (same_starts names l)

pub within : (l : List Terminal) (i n : ℕ) (t : Terminal) → slice_get l i ≡ Some t → t.span.from ≡ slice_index_or (starts l) i n
within [] i n t h = cc
within (x ∷ l) zero n t h = cc
within (x ∷ l) (suc i) n t h = within l i n t h

pub after : (l : List Terminal) (i n : ℕ) → slice_get l i ≡ None → n ≡ slice_index_or (starts l) i n
after [] zero n h = refl
after [] (suc i) n h = refl
after (x ∷ l) zero n h = cc
after (x ∷ l) (suc i) n h = after l i n h

pub syntax_fault : (t : Tokenised) (symbols : List Terminal) (i at length : ℕ) → symbols ≡ terminals_of t.tokens → length ≡ t.length → at ≡ slice_index_or (starts symbols) i length
    → FaultAt symbols i → HasNoTree t (Refused (r.Syntax at))
syntax_fault t symbols i at length e n p f =
    (i, subst (λ z. FaultAt z i) e f, p ∙ (ap (λ z. slice_index_or (starts z) i length) e ∙ (ap (λ z. slice_index_or z i length) (same_starts (names_of t.tokens) t.tokens) ∙ ap (λ z. slice_index_or (map (λ x. x.span.from) t.tokens) i z) n)))
