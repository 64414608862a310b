-- What is promised of the graphs of a program, beside its traces: it keeps its functions by their numbers, its entry, its calls, what it
-- sets first, and the labels of each function, those in unreachable code too; each graph is soundly labelled; no function needs more
-- bytes of registers than before; and all sums over its operations are kept (CerCo, deliverables 2.1 and 3.3).
use Rattle.std.specs.Prelude.{◌≡◌, ℕ, ◌≤◌, [], ◌∷◌, length, Some, slice_get}
use Rattle.cerco_traces.specs.LabelledGraphs.{SoundlyLabelled}
use Rattle.cerco_middle.specs.Programs.{times_in}
use Rattle.cerco_middle.specs.Cminor.Trees.{CmFunction, Cminor, stmt_labels}
use Rattle.cerco_middle.specs.Cminor.Sums as cm
use Rattle.cerco_middle.specs.RtLabs.Graphs.{RtFunction, RtLabs, flow_graph, labels_of_nodes}
use Rattle.cerco_middle.specs.RtLabs.Sums as rt
use Rattle.cerco_middle.specs.declared.rtlabs.RtOp.{RtOp}
use Rattle.rtlabs_gen.specs.Outline.{bare_op, body_nodes}
use Rattle.cerco_middle.specs.RtLabs.WellFormed.{OfFunctions}

-- it holds of each function and of the graph with the same number
abbrev pub OfBoth : Cminor → RtLabs → (CmFunction → RtFunction → Type 0) → Type 0
OfBoth p q Holds = (i : ℕ) (f : CmFunction) (g : RtFunction) → slice_get p.functions i ≡ Some f → slice_get q.functions i ≡ Some g → Holds f g

-- the graph of a function with the same variables, parameters and result, in which each label is as often as in the function
pub record KeepsFunction (f : CmFunction) (g : RtFunction) : Type 0 where
  pub held : g.held ≡ f.held
  pub params : g.params ≡ f.params
  pub result : g.result ≡ f.result
  pub labels : (l : ℕ) → times_in l (labels_of_nodes g.nodes []) ≡ times_in l (f.label.0 ∷ stmt_labels f.body [])

pub record KeepsProgram (p : Cminor) (q : RtLabs) : Type 0 where
  pub count : length q.functions ≡ length p.functions
  pub functions : OfBoth p q KeepsFunction
  pub calls : q.calls ≡ p.calls
  pub main : q.main ≡ p.main
  pub start : q.start ≡ p.start

abbrev pub AreSoundlyLabelled : RtLabs → Type 0
AreSoundlyLabelled q = OfFunctions q (λ g. SoundlyLabelled (flow_graph g) g.entry)

abbrev pub NeedNoMore : Cminor → RtLabs → Type 0
NeedNoMore p q = OfBoth p q (λ f g. rt.register_need g ≤ cm.register_need p.functions f)

-- a weight of operations that doesn't look at the numbers of nodes
abbrev pub IsUnnumbered : (RtOp → ℕ) → Type 0
IsUnnumbered weight = (op : RtOp) → weight (bare_op op) ≡ weight op

-- Each such weight sums to the same over a graph as over what the statements of its function tell.
abbrev pub KeepsSums : Cminor → RtLabs → Type 0
KeepsSums p q = (weight : RtOp → ℕ) → IsUnnumbered weight → OfBoth p q (λ f g. rt.sum_of_nodes weight g.nodes ≡ rt.sum_of_nodes weight (body_nodes p.functions f))
