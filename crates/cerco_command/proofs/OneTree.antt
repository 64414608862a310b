-- A text has one syntax tree at most, or one reason why it has none, and not both; and its tree is sound or has one reason.
use Rattle.std.proofs.Common.{◌≡◌, inl, inr, ℕ, List, length, sym, ap, subst, ◌∙◌}
use Rattle.cerco_base.specs.declared.reasons.Fault.TheVariants.{Refused}
use Rattle.cerco_base.specs.declared.reasons.Reason.{Reason}
use Rattle.cerco_base.specs.declared.reasons.Reason.TheVariants as r
use Rattle.clight_source.specs.declared.span.Span.{Span}
use Rattle.clight_source.specs.Depth.{IsFirstDeep}
use Rattle.clight_tokens.specs.SourceTrees.{IsTreeOf, IsSourceTree}
use Rattle.clight_source.specs.Spelling.{Spells}
use Rattle.clight_tokens.specs.Symbols.{names_of, terminals_of}
use Rattle.clight_tokens.specs.Tokens.{Token, Tokenised}
use Rattle.clight_source.specs.Trees.{Item, Program}
use Rattle.clight_syntax.specs.TypedTrees.{TypedProgram}
use Rattle.clight_check.specs.Soundness.{IsSound, IsUnsound, HasUnsoundness}
use Rattle.clight_check.proofs.SoundnessLaws as sound
use Rattle.clight_tokens.proofs.Unique.{one_list}
use Rattle.clight_tokens.proofs.OneAnswer as answer
use Rattle.clight_reader.specs.Reasons.{token_start, HasNoTree, HasReason}
use Rattle.clight_grammar.proofs.Programs.{one_program}
use Rattle.clight_grammar.proofs.OneFault as fault
use Rattle.clight_nesting.proofs.OneNesting.{one_nesting, not_shallow}
use Rattle.cerco_base.specs.declared.events.Label.{Label}
use Rattle.cerco_pipeline.specs.Programs.{IsProgramOf, HasFirstReason}
use Rattle.cerco_command.specs.Building.{SaysRefused}
use Rattle.cerco_command.specs.Refusals.{refused}

abbrev with_parts : List (List ℕ) → List Item → Span → Program
with_parts names items span = record { names = names; items = items; span = span }

one_tree : (text : List ℕ) (p q : Program) → IsSourceTree text p → IsSourceTree text q → p ≡ q
one_tree text p q a b =
    let lists : a.list ≡ b.list = one_list a.tokens.tokens b.tokens.tokens in
    let spelled : Spells q.items (terminals_of a.list) = subst (λ (l : List Token). Spells q.items (terminals_of l)) (sym lists) b.tree.spelled in
    let items : p.items ≡ q.items = one_program (terminals_of a.list) p.items q.items a.tree.spelled spelled in
    let names : p.names ≡ q.names = a.tree.names ∙ (ap names_of lists ∙ sym b.tree.names) in
    let span : p.span ≡ q.span = a.tree.whole ∙ sym b.tree.whole in
    ap (λ (n : List (List ℕ)). with_parts n p.items p.span) names
    ∙ (ap (λ (i : List Item). with_parts q.names i p.span) items ∙ ap (with_parts q.names q.items) span)

-- ---- tokens

tree_or_none : (t : Tokenised) (p : Program) (reason : Reason) → IsTreeOf t p → HasNoTree t (Refused reason) → ⊥
tree_or_none t p (r.Syntax at) w h = fault.not_both (terminals_of t.tokens) p.items h.0 w.spelled h.1
tree_or_none t p (r.Nesting at) w h =
    not_shallow p.items at w.shallow (subst (λ (items : List Item). IsFirstDeep items at) (one_program (terminals_of t.tokens) h.0 p.items h.1 w.spelled) h.2)
tree_or_none t p reason w h = h

one_cause : (t : Tokenised) (a b : Reason) → HasNoTree t (Refused a) → HasNoTree t (Refused b) → a ≡ b
one_cause t (r.Syntax p) (r.Syntax q) h g = ap r.Syntax (h.2 ∙ (ap (token_start t) (fault.one_fault (terminals_of t.tokens) h.0 g.0 h.1 g.1) ∙ sym g.2))
one_cause t (r.Nesting p) (r.Nesting q) h g =
    ap r.Nesting (one_nesting h.0 p q h.2 (subst (λ (items : List Item). IsFirstDeep items q) (one_program (terminals_of t.tokens) g.0 h.0 g.1 h.1) g.2))
one_cause t (r.Syntax p) (r.Nesting q) h g = absurd (fault.not_both (terminals_of t.tokens) g.0 h.0 g.1 h.1)
one_cause t (r.Nesting p) (r.Syntax q) h g = absurd (fault.not_both (terminals_of t.tokens) h.0 g.0 h.1 g.1)
one_cause t (r.Syntax p) b h g = absurd g
one_cause t (r.Nesting p) b h g = absurd g
one_cause t a b h g = absurd h

-- ---- texts

abbrev with_length : List ℕ → List Token → Tokenised
with_length text list = record { tokens = list; length = length text }

tree_or_reason : (text : List ℕ) (p : Program) (reason : Reason) → IsSourceTree text p → HasReason text reason → ⊥
tree_or_reason text p reason t (inl h) = answer.not_both text t.list reason t.tokens h
tree_or_reason text p reason t (inr h) =
    let lists : h.0 ≡ t.list = one_list h.1.tokens t.tokens.tokens in
    tree_or_none (with_length text t.list) p reason t.tree (subst (λ (l : List Token). HasNoTree (with_length text l) (Refused reason)) lists h.2)

one_reason : (text : List ℕ) (a b : Reason) → HasReason text a → HasReason text b → a ≡ b
one_reason text a b (inl h) (inl g) = answer.one_reason text a b h g
one_reason text a b (inl h) (inr g) = absurd (answer.not_both text g.0 a g.1 h)
one_reason text a b (inr h) (inl g) = absurd (answer.not_both text h.0 b h.1 g)
one_reason text a b (inr h) (inr g) =
    let lists : g.0 ≡ h.0 = one_list g.1.tokens h.1.tokens in
    one_cause (with_length text h.0) a b h.2 (subst (λ (l : List Token). HasNoTree (with_length text l) (Refused b)) lists g.2)

-- ---- soundness

sound_or_unsound : (text : List ℕ) (p : Program) (t : TypedProgram (Unit {0})) (reason : Reason) → IsSourceTree text p → IsSound p t → HasUnsoundness text reason → ⊥
sound_or_unsound text p t reason is_tree is_sound h =
    sound.not_both p t reason is_sound (subst (λ (q : Program). IsUnsound q reason) (one_tree text h.0 p h.1 is_tree) h.2)

one_unsoundness : (text : List ℕ) (a b : Reason) → HasUnsoundness text a → HasUnsoundness text b → a ≡ b
one_unsoundness text a b h g =
    sound.reason_is_unique h.0 a b h.2 (subst (λ (q : Program). IsUnsound q b) (one_tree text g.0 h.0 g.1 h.1) g.2)

sound_or_reason : (text : List ℕ) (p : Program) (t : TypedProgram (Unit {0})) (reason : Reason) → IsSourceTree text p → IsSound p t → HasFirstReason text reason → ⊥
sound_or_reason text p t reason is_tree is_sound (inl h) = tree_or_reason text p reason is_tree h
sound_or_reason text p t reason is_tree is_sound (inr h) = sound_or_unsound text p t reason is_tree is_sound h

one_first : (text : List ℕ) (a b : Reason) → HasFirstReason text a → HasFirstReason text b → a ≡ b
one_first text a b (inl h) (inl g) = one_reason text a b h g
one_first text a b (inr h) (inr g) = one_unsoundness text a b h g
one_first text a b (inl h) (inr g) = absurd (tree_or_reason text g.0 a g.1 h)
one_first text a b (inr h) (inl g) = absurd (tree_or_reason text h.0 b h.1 g)

-- ---- answers

pub program_or_reason : (text : List ℕ) (p : TypedProgram Label) (reason : Reason) → IsProgramOf text p → HasFirstReason text reason → ⊥
program_or_reason text p reason is h = sound_or_reason text is.tree is.laid_out reason is.is_tree is.sound h

pub one_refusal : (text a b : List ℕ) → SaysRefused text a → SaysRefused text b → a ≡ b
one_refusal text a b h g = h.2 ∙ (ap refused (one_first text h.0 g.0 h.1 g.1) ∙ sym g.2)
