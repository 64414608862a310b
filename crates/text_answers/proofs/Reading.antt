-- Each text has a syntax tree with types, or a first reason.
use Rattle.std.proofs.Common.{◌≡◌, ℕ, List, length, Option, Some, None, Result, Ok, Err, refl, ◌⊎◌, inl, inr}
use Rattle.cerco_base.specs.declared.reasons.Fault.TheVariants.{Refused}
use Rattle.cerco_base.specs.declared.reasons.Reason.{Reason}
use Rattle.cerco_base.specs.declared.reasons.Reason.TheVariants as r
use Rattle.clight_source.specs.Depth.{IsShallow, IsFirstDeep}
use Rattle.clight_source.specs.Spelling.{Spells}
use Rattle.clight_source.specs.Trees.{Item, Program}
use Rattle.clight_tokens.specs.Symbols.{names_of, terminals_of}
use Rattle.clight_tokens.specs.SourceTrees.{IsSourceTree}
use Rattle.clight_tokens.specs.Tokens.{Token, HasTokens, HasFault}
use Rattle.clight_grammar.specs.Faults.{FaultAt}
use Rattle.clight_grammar.proofs.OneFault.{program_or_fault}
use Rattle.clight_nesting.proofs.OneNesting.{shallow_or_nested}
use Rattle.clight_names.specs.NameFaults.{NameFault, first_name_fault}
use Rattle.clight_syntax.specs.TypedTrees.{TypedProgram}
use Rattle.clight_types.specs.TypedExpressions.{TypeFault}
use Rattle.clight_typing.specs.TypedPrograms.{typed_program}
use Rattle.clight_reader.specs.Reasons.{HasReason}
use Rattle.clight_check.specs.Soundness.{IsUnsound}
use Rattle.text_answers.specs.Answers.{TreesAreDecided, HasTypes, TypesAreDecided, TextsAreDecided}
use Rattle.text_answers.proofs.Lexing.{tokens_are_decided}

-- ---- trees

abbrev HasTree : List ℕ → Type 0
HasTree text = ((tree : Program) × IsSourceTree text tree) ⊎ ((reason : Reason) × HasReason text reason)

module _ (text : List ℕ) (tokens : List Token) (has : HasTokens text tokens) where
  by_depth : (items : List Item) → Spells items (terminals_of tokens) → IsShallow items ⊎ ((at : ℕ) × IsFirstDeep items at) → HasTree text
  by_depth items spelled (inl shallow) =
      inl (
        record { names = names_of tokens; items = items; span = record { from = 0; to = length text } },
        record { list = tokens; tokens = has; tree = record { names = refl; spelled = spelled; shallow = shallow; whole = refl } },
      )
  by_depth items spelled (inr deep) = inr (r.Nesting deep.0, inr (tokens, has, (items, spelled, deep.1)))

  by_items : ((items : List Item) × Spells items (terminals_of tokens)) ⊎ ((i : ℕ) × FaultAt (terminals_of tokens) i) → HasTree text
  by_items (inl found) = by_depth found.0 found.1 (shallow_or_nested found.0)
  by_items (inr fault) = inr (r.Syntax _, inr (tokens, has, (fault.0, fault.1, refl)))

by_tokens : (text : List ℕ) → ((tokens : List Token) × HasTokens text tokens) ⊎ ((reason : Reason) × HasFault text (Refused reason)) → HasTree text
by_tokens text (inl found) = by_items text found.0 found.1 (program_or_fault (terminals_of found.0))
by_tokens text (inr fault) = inr (fault.0, inl fault.1)

pub trees_are_decided : TreesAreDecided
trees_are_decided text = by_tokens text (tokens_are_decided text)

-- ---- types

abbrev AreTypes : Program → Type 0
AreTypes tree = HasTypes tree ⊎ ((reason : Reason) × IsUnsound tree reason)

by_types : (tree : Program) → first_name_fault tree ≡ None → (result : Result (TypedProgram (Unit {0})) TypeFault) → typed_program tree ≡ result → AreTypes tree
by_types tree names (Ok typed) is = inl (record { names = names; typed = typed; typing = is })
by_types tree names (Err fault) is = inr (r.Typing fault.at fault.kind, (names, is))

by_names : (tree : Program) → (result : Option NameFault) → first_name_fault tree ≡ result → AreTypes tree
by_names tree None is = by_types tree is (typed_program tree) refl
by_names tree (Some fault) is = inr (r.Name fault.at fault.kind, is)

pub types_are_decided : TypesAreDecided
types_are_decided tree = by_names tree (first_name_fault tree) refl

-- ---- texts

by_tree : (text : List ℕ) (tree : Program) → IsSourceTree text tree → AreTypes tree → ((tree : Program) × IsSourceTree text tree × HasTypes tree) ⊎ ((reason : Reason) × (HasReason text reason ⊎ ((p : Program) × IsSourceTree text p × IsUnsound p reason)))
by_tree text tree is (inl types) = inl (tree, is, types)
by_tree text tree is (inr reason) = inr (reason.0, inr (tree, is, reason.1))

pub texts_are_decided : TextsAreDecided
texts_are_decided text = elim (trees_are_decided text) [ inl found ↦ by_tree text found.0 found.1 (types_are_decided found.0) | inr reason ↦ inr (reason.0, inl reason.1) ]
