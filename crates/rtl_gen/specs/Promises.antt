-- What is promised of a program of RTL, beside its traces: it keeps the functions by their numbers, their entries, labels and calls,
-- those in unreachable code too, and has one node more in each function; no function needs more virtual registers of a call's own than
-- the function of RTLabs needs bytes (CerCo, deliverables 2.1 and 4.2).
use Rattle.std.specs.Prelude.{◌≡◌, ℕ, ◌+◌, ◌≤◌, [], length, Some, slice_get}
use Rattle.cerco_traces.specs.LabelledGraphs.{SoundlyLabelled}
use Rattle.cerco_middle.specs.RtLabs.Graphs.{RtFunction, RtLabs, flow_graph, labels_of_nodes, callees_of}
use Rattle.cerco_middle.specs.RtLabs.Sums as labs
use Rattle.cerco_middle.specs.RtLabs.WellFormed.{OfFunctions}
use Rattle.rtl.specs.declared.locations.Vreg.{Vreg}
use Rattle.rtl.specs.Programs.{Graph, Bytes}
use Rattle.rtl.specs.Lengths.{register_need}
use Rattle.rtl.specs.WellFormed.{labels_in, functions_in}

-- the graph of each function of RTLabs is soundly labelled
abbrev pub GraphsAreLabelled : RtLabs → Type 0
GraphsAreLabelled p = OfFunctions p (λ f. SoundlyLabelled (flow_graph f) f.entry)

-- it holds of each function and of the graph with the same number
abbrev pub OfBoth : RtLabs → Bytes Vreg → (RtFunction → Graph Vreg → Type 0) → Type 0
OfBoth p b Holds = (i : ℕ) (f : RtFunction) (g : Graph Vreg) → slice_get p.functions i ≡ Some f → slice_get b.graphs i ≡ Some g → Holds f g

pub record KeepsFunction (f : RtFunction) (g : Graph Vreg) : Type 0 where
  pub entry : g.entry ≡ f.entry
  pub nodes : length g.nodes ≡ length f.nodes + 1
  pub labels : labels_in g ≡ labels_of_nodes f.nodes []
  pub calls : functions_in g ≡ callees_of f.nodes

pub record KeepsProgram (p : RtLabs) (b : Bytes Vreg) : Type 0 where
  pub count : length b.graphs ≡ length p.functions
  pub functions : OfBoth p b KeepsFunction
  pub calls : b.calls ≡ p.calls
  pub main : b.main ≡ p.main
  pub start : b.start ≡ p.start

abbrev pub NeedNoMore : RtLabs → Bytes Vreg → Type 0
NeedNoMore p b = OfBoth p b (λ f g. register_need g ≤ labs.register_need f)
