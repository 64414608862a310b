-- What holds of graphs and programs of ERTL without their vain operations: each is one closed statement.
use Rattle.std.specs.Prelude.{◌≡◌, ℕ, ◌≤◌, ◌↔◌, length, map}
use Rattle.cerco_traces.specs.Preservation.{Preserves}
use Rattle.rtl.specs.declared.locations.Vreg.{Vreg}
use Rattle.rtl.specs.Programs.{Graph, Bytes}
use Rattle.rtl.specs.Locations.{vreg_number}
use Rattle.rtl.specs.Effects.{Storage}
use Rattle.rtl.specs.Graphs.{ops_at, graph_at, renamed_graph, numbered, IsSoundlyLabelled, AreSoundlyLabelled}
use Rattle.rtl.specs.Meaning.{ertl}
use Rattle.rtl.specs.Liveness.{LiveAt, NoneIsDead}
use Rattle.rtl.specs.StrongLiveness.{StronglyLive}
use Rattle.rtl.specs.CallingConvention.{RespectsConvention, CarryStaysInside}
use Rattle.rtl.specs.WellFormed.{IsGraph, NamesItsVregs, labels_in, functions_in, IsErtl}
use Rattle.rtl.specs.Lengths.{graph_length, vreg_length, register_need}
use Rattle.pruned_graphs.specs.Pruning.{IsPruned, IsPrunedGraph, IsPrunedProgram}

-- ---- programs

-- A program that respects the calling convention has its traces preserved, on every script and within whatever bounds.
abbrev pub PruningPreserves : Type 0
PruningPreserves =
    (before after : Bytes Vreg) → IsErtl before → RespectsConvention 0 (graph_at (numbered vreg_number before)) → IsPrunedProgram before after
    → Preserves (ertl before) (ertl after)

-- It still respects the calling convention,
abbrev pub PruningRespectsConvention : Type 0
PruningRespectsConvention =
    (before after : Bytes Vreg) → RespectsConvention 0 (graph_at (numbered vreg_number before)) → IsPrunedProgram before after
    → RespectsConvention 0 (graph_at (numbered vreg_number after))

-- is well formed where it was,
abbrev pub PruningForms : Type 0
PruningForms = (before after : Bytes Vreg) → IsErtl before → IsPrunedProgram before after → IsErtl after

-- and soundly labelled where it was.
abbrev pub PruningKeepsLabelled : Type 0
PruningKeepsLabelled = (before after : Bytes Vreg) → AreSoundlyLabelled before.graphs → IsPrunedProgram before after → AreSoundlyLabelled after.graphs

-- The functions keep their numbers, their labels and what they call; `main`, the order of calls and the bytes of the start stay.
pub record KeepsOutline (before after : Bytes Vreg) : Type 0 where
  pub functions : length after.graphs ≡ length before.graphs
  pub labels : map labels_in after.graphs ≡ map labels_in before.graphs
  pub called : map functions_in after.graphs ≡ map functions_in before.graphs
  pub calls : after.calls ≡ before.calls
  pub main : after.main ≡ before.main
  pub start : after.start ≡ before.start

abbrev pub PruningKeepsOutline : Type 0
PruningKeepsOutline = (before after : Bytes Vreg) → IsPrunedProgram before after → KeepsOutline before after

-- No program gets longer, and no function needs more registers.
abbrev pub PruningIsNoLonger : Type 0
PruningIsNoLonger = (before after : Bytes Vreg) → IsPrunedProgram before after → vreg_length after ≤ vreg_length before

abbrev pub PruningNeedsNoMore : Type 0
PruningNeedsNoMore = (before after : Bytes Vreg) → IsPrunedProgram before after → (f : ℕ) → register_need (graph_at after.graphs f) ≤ register_need (graph_at before.graphs f)

-- No operation of any function is dead.
abbrev pub NoneIsDeadAfter : Type 0
NoneIsDeadAfter = (before after : Bytes Vreg) → IsPrunedProgram before after → (f : ℕ) → NoneIsDead 0 (graph_at (numbered vreg_number after) f)

-- ---- graphs

-- A graph stays well formed and soundly labelled; neither its length nor its need of registers is raised.
pub record KeepsGraph (g h : Graph Vreg) : Type 0 where
  pub formed : IsGraph g → IsGraph h
  pub named : NamesItsVregs 0 g → NamesItsVregs 0 h
  pub labelled : IsSoundlyLabelled g → IsSoundlyLabelled h
  pub length : graph_length (renamed_graph vreg_number h) ≤ graph_length (renamed_graph vreg_number g)
  pub need : register_need h ≤ register_need g

abbrev pub PruningKeepsGraph : Type 0
PruningKeepsGraph = (g h : Graph Vreg) → IsPrunedGraph g h → KeepsGraph g h

-- No operation of a pruned graph is dead.
abbrev pub PruningLeavesNoneDead : Type 0
PruningLeavesNoneDead = (first : ℕ) (g h : Graph ℕ) → IsPruned first g h → NoneIsDead first h

-- The carry is live in front of no node where it was in front of none.
abbrev pub PruningKeepsCarry : Type 0
PruningKeepsCarry = (first : ℕ) (g h : Graph ℕ) → IsPruned first g h → CarryStaysInside first g → CarryStaysInside first h

-- What is live in front of a node of a pruned graph is what was strongly live there.
abbrev pub LiveWasStronglyLive : Type 0
LiveWasStronglyLive = (first : ℕ) (g h : Graph ℕ) → IsPruned first g h → (s : Storage) (p : ℕ) → LiveAt first h s p ↔ StronglyLive first g s p (ops_at g p)
