-- That each text has an answer: what the next stage needs, or the first reason why there is none. (The reasons and their order are the
-- compiler's own: `docs/language.md`.)
use Rattle.std.specs.Prelude.{◌≡◌, ℕ, List, None, Ok, ◌⊎◌}
use Rattle.cerco_base.specs.declared.events.Label.{Label}
use Rattle.cerco_base.specs.declared.reasons.Fault.TheVariants.{Refused}
use Rattle.cerco_base.specs.declared.reasons.Reason.{Reason}
use Rattle.clight_source.specs.Trees.{Program}
use Rattle.clight_tokens.specs.Tokens.{Token, HasTokens, HasFault}
use Rattle.clight_tokens.specs.SourceTrees.{IsSourceTree}
use Rattle.clight_syntax.specs.Labelling.{IsLabelled}
use Rattle.clight_syntax.specs.TypedTrees.{TypedProgram}
use Rattle.clight_names.specs.NameFaults.{first_name_fault}
use Rattle.clight_typing.specs.TypedPrograms.{typed_program}
use Rattle.clight_reader.specs.Reasons.{HasReason}
use Rattle.clight_layout.specs.Layout.{IsLayout}
use Rattle.clight_layout.specs.Reasons.{IsReason}
use Rattle.clight_check.specs.Soundness.{IsSound, IsUnsound, HasUnsoundness}

-- tokens, or a reason why there are none
abbrev pub TokensAreDecided : Type 0
TokensAreDecided = (text : List ℕ) → ((tokens : List Token) × HasTokens text tokens) ⊎ ((reason : Reason) × HasFault text (Refused reason))

-- a syntax tree, or a reason why there is none
abbrev pub TreesAreDecided : Type 0
TreesAreDecided = (text : List ℕ) → ((tree : Program) × IsSourceTree text tree) ⊎ ((reason : Reason) × HasReason text reason)

-- the names of a tree are right, and this is its typed tree
pub record HasTypes (tree : Program) : Type 0 where
  pub names : first_name_fault tree ≡ None
  pub typed : TypedProgram (Unit {0})
  pub typing : typed_program tree ≡ Ok typed

-- right names and a typed tree, or a reason against it
abbrev pub TypesAreDecided : Type 0
TypesAreDecided = (tree : Program) → HasTypes tree ⊎ ((reason : Reason) × IsUnsound tree reason)

-- a syntax tree with types, or the first reason that the text has
abbrev pub TextsAreDecided : Type 0
TextsAreDecided =
    (text : List ℕ) → ((tree : Program) × IsSourceTree text tree × HasTypes tree) ⊎ ((reason : Reason) × (HasReason text reason ⊎ HasUnsoundness text reason))

-- each typed program can be given its cost labels
abbrev pub LabelsAreGiven : Type 0
LabelsAreGiven = (typed : TypedProgram (Unit {0})) → (p : TypedProgram Label) × IsLabelled typed p

-- a layout, or the first reason against one
abbrev pub LayoutsAreDecided : Type 0
LayoutsAreDecided = (typed : TypedProgram (Unit {0})) → ((p : TypedProgram (Unit {0})) × IsLayout typed p) ⊎ ((reason : Reason) × IsReason typed reason)

-- a sound program, or the first reason that the text has
abbrev pub TextsAreAnswered : Type 0
TextsAreAnswered =
    (text : List ℕ) → ((tree : Program) × IsSourceTree text tree × ((p : TypedProgram (Unit {0})) × IsSound tree p)) ⊎ ((reason : Reason) × (HasReason text reason ⊎ HasUnsoundness text reason))
