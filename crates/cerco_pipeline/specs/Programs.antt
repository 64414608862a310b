-- The labelled program of a text, and the first reason of a text that has none (ISO/IEC 9899:1999 for the profile of C in
-- docs/language.md, with the cost labels of CerCo, deliverable 2.1).
use Rattle.std.specs.Prelude.{ℕ, ◌≤◌, List, map, length, ◌⊎◌}
use Rattle.cerco_base.specs.declared.events.Label.{Label}
use Rattle.cerco_base.specs.declared.reasons.Reason.{Reason}
use Rattle.call_graph.specs.CallPaths.{CallsIn, IsLargestSum}
use Rattle.clight_source.specs.Trees.{Program}
use Rattle.clight_tokens.specs.SourceTrees.{IsSourceTree}
use Rattle.clight_syntax.specs.Bounds.{register_need, code_bound}
use Rattle.clight_syntax.specs.Labelling.{IsLabelled}
use Rattle.clight_syntax.specs.TypedTrees.{TypedProgram}
use Rattle.clight_reader.specs.Reasons.{HasReason}
use Rattle.clight_check.specs.Soundness.{IsSound, HasUnsoundness}

-- The text is sound, and this is its program with its layout and its cost labels.
pub record IsProgramOf (text : List ℕ) (p : TypedProgram Label) : Type 0 where
  pub tree : Program
  pub is_tree : IsSourceTree text tree
  pub laid_out : TypedProgram (Unit {0})
  pub sound : IsSound tree laid_out
  pub labelled : IsLabelled laid_out p

-- the first of the reasons 1 to 11 that a text has: why it has no syntax tree, or why its tree is unsound
abbrev pub HasFirstReason : List ℕ → Reason → Type 0
HasFirstReason text reason = HasReason text reason ⊎ HasUnsoundness text reason

-- ---- room by the text alone

-- the largest sum of the register needs of functions along a call path
abbrev pub IsLargestNeed : TypedProgram Label → ℕ → Type 0
IsLargestNeed p most = IsLargestSum (length p.functions) (CallsIn p.calls) (map (register_need p) p.functions) most

-- By its own bounds, the program has room for its cells and for its code.
pub record HasRoom (p : TypedProgram Label) : Type 0 where
  pub most : ℕ
  pub need : IsLargestNeed p most
  pub cells : most ≤ 112
  pub code : code_bound p ≤ 65536

-- The text is sound, and its program has room.
pub record HasRoomByText (text : List ℕ) : Type 0 where
  pub program : TypedProgram Label
  pub is_program : IsProgramOf text program
  pub room : HasRoom program
