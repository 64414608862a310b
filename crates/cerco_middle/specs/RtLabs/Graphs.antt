-- The programs of RTLabs, as definitions speak of them: a control flow graph for each function, with one operation a node (CerCo,
-- deliverable 3.3).
use Rattle.std.specs.Prelude.{ℕ, List, [], ◌∷◌, take, Option, slice_get, option_map}
use Rattle.cerco_base.specs.CallOrder.{Called}
use Rattle.cerco_traces.specs.LabelledGraphs.{NodeKind, LabelNode, BranchNode, CallNode, PlainNode, FlowGraph, successors}
use Rattle.cerco_middle.specs.declared.operators.Held.{Held}
use Rattle.cerco_middle.specs.declared.rtlabs.RtOp.{RtOp}
use Rattle.cerco_middle.specs.declared.rtlabs.RtOp.TheVariants as op
use Rattle.cerco_middle.specs.declared.rtlabs.RtNode.{RtNode}
use Rattle.cerco_middle.specs.Calls.{Argument, arguments_from}

pub record RtFunction : Type 0 where
  -- how each variable is held, the parameters first
  pub held : List Held
  -- how many parameters it has
  pub params : ℕ
  pub result : Option Held
  pub entry : ℕ
  pub nodes : List RtNode

pub record RtLabs : Type 0 where
  pub functions : List RtFunction
  pub calls : List Called
  pub main : ℕ
  pub start : List (ℕ × ℕ)

-- how its parameters are held
abbrev pub held_parameters : RtFunction → List Held
held_parameters f = take f.params f.held

-- what a call of it is handed over
abbrev pub parameters_of : RtFunction → List Argument
parameters_of f = arguments_from 0 (held_parameters f)

-- ---- the graph of a function

abbrev pub kind_of : RtOp → Option ℕ → NodeKind
kind_of (op.Label l) next = LabelNode next
kind_of (op.Test t on_true on_false) next = BranchNode on_true on_false
kind_of (op.Call f) next = CallNode next
kind_of _ next = PlainNode next

abbrev pub node_kind : RtNode → NodeKind
node_kind node = kind_of node.op node.next

abbrev pub flow_graph : RtFunction → FlowGraph
flow_graph f = λ p. option_map node_kind (slice_get f.nodes p)

-- the nodes that come after a node
abbrev pub next_nodes : RtNode → List ℕ
next_nodes node = successors (node_kind node)

-- ---- its labels and calls

abbrev pub label_at : RtOp → List ℕ → List ℕ
label_at (op.Label l) more = l.0 ∷ more
label_at _ more = more

abbrev pub labels_of_nodes : List RtNode → List ℕ → List ℕ
labels_of_nodes [] more = more
labels_of_nodes (node ∷ nodes) more = label_at node.op (labels_of_nodes nodes more)

-- the labels of functions, in the order of their nodes
abbrev pub labels_of : List RtFunction → List ℕ
labels_of [] = []
labels_of (f ∷ fs) = labels_of_nodes f.nodes (labels_of fs)

abbrev pub callee_at : RtOp → List ℕ → List ℕ
callee_at (op.Call f) more = f ∷ more
callee_at _ more = more

-- the functions that are called from these nodes
abbrev pub callees_of : List RtNode → List ℕ
callees_of [] = []
callees_of (node ∷ nodes) = callee_at node.op (callees_of nodes)

-- ---- what an operation names

abbrev pub variables_at : RtOp → List ℕ
variables_at (op.Get t x) = x ∷ []
variables_at (op.Put x t) = x ∷ []
variables_at _ = []

abbrev pub callees_at : RtOp → List ℕ
callees_at o = callee_at o []

-- the temporaries whose values it needs
abbrev pub used_by : RtOp → List ℕ
used_by (op.Const t number) = []
used_by (op.Get t x) = []
used_by (op.Put x t) = t ∷ []
used_by (op.Neg t) = t ∷ []
used_by (op.Not t) = t ∷ []
used_by (op.Narrow h t) = t ∷ []
used_by (op.Bin o t u) = t ∷ u ∷ []
used_by (op.Shl k t) = t ∷ []
used_by (op.Shr k arithmetic t) = t ∷ []
used_by (op.Load h t) = t ∷ []
used_by (op.Store h t u) = t ∷ u ∷ []
used_by (op.ReadPort t) = []
used_by (op.WritePort t) = t ∷ []
used_by (op.Arg h first_byte t) = t ∷ []
used_by (op.Call g) = []
used_by (op.Result h t) = []
used_by (op.Label l) = []
used_by (op.Test t on_true on_false) = t ∷ []
used_by op.Return = []
used_by (op.ReturnValue t) = t ∷ []

-- the temporary that it writes, if any
abbrev pub written_by : RtOp → List ℕ
written_by (op.Const t number) = t ∷ []
written_by (op.Get t x) = t ∷ []
written_by (op.Neg t) = t ∷ []
written_by (op.Not t) = t ∷ []
written_by (op.Narrow h t) = t ∷ []
written_by (op.Bin o t u) = t ∷ []
written_by (op.Shl k t) = t ∷ []
written_by (op.Shr k arithmetic t) = t ∷ []
written_by (op.Load h t) = t ∷ []
written_by (op.ReadPort t) = t ∷ []
written_by (op.Result h t) = t ∷ []
written_by _ = []
