-- Which programs of RTLabs are well formed: what they name is there, each label is at one place, calls are handed what their functions take,
-- results are read where they come, and temporaries are written before they are used (what the RTLabs of CerCo, deliverable 3.3,
-- asks of its graphs, and what the conventions of calls ask). Each condition has a name of its own.
use Rattle.std.specs.Prelude.{◌≡◌, ℕ, ◌+◌, ◌<◌, ◌≤◌, List, [], ◌∷◌, ◌++◌, length, Option, Some, None, slice_get, Bool, true, false, Contains, IsPermutation}
use Rattle.cerco_traces.specs.LabelledGraphs.{In}
use Rattle.cerco_middle.specs.declared.operators.Held.{Held}
use Rattle.cerco_middle.specs.declared.rtlabs.RtOp.{RtOp}
use Rattle.cerco_middle.specs.declared.rtlabs.RtOp.TheVariants as op
use Rattle.cerco_middle.specs.declared.rtlabs.RtNode.{RtNode}
use Rattle.cerco_middle.specs.Operators.{held_bytes, all_held_bytes}
use Rattle.cerco_middle.specs.Calls.{Argument}
use Rattle.cerco_middle.specs.Programs.{AreBytesAtAddresses, AreNumbered, HoldsFunctions, KnowsCallers}
use Rattle.cerco_middle.specs.RtLabs.Graphs.{RtFunction, RtLabs, held_parameters, parameters_of, next_nodes, variables_at, callees_at, used_by, written_by, labels_of, callees_of}

-- it holds of each function
abbrev pub OfFunctions : RtLabs → (RtFunction → Type 0) → Type 0
OfFunctions p Holds = (i : ℕ) (f : RtFunction) → slice_get p.functions i ≡ Some f → Holds f

-- this node has this number in the function's graph
abbrev pub IsAt : RtFunction → ℕ → RtNode → Type 0
IsAt f at node = slice_get f.nodes at ≡ Some node

-- it holds of each node
abbrev pub OfNodes : RtFunction → (ℕ → RtNode → Type 0) → Type 0
OfNodes f Holds = (at : ℕ) (node : RtNode) → IsAt f at node → Holds at node

-- ---- what is named is there

abbrev pub VariablesExist : RtFunction → Type 0
VariablesExist f = (f.params ≤ length f.held) × OfNodes f (λ at node. (x : ℕ) → In x (variables_at node.op) → x < length f.held)

abbrev pub NodesExist : RtFunction → Type 0
NodesExist f = (f.entry < length f.nodes) × OfNodes f (λ at node. (q : ℕ) → In q (next_nodes node) → q < length f.nodes)

abbrev pub FunctionsExist : RtLabs → Type 0
FunctionsExist p = (p.main < length p.functions) × OfFunctions p (λ f. OfNodes f (λ at node. (g : ℕ) → In g (callees_at node.op) → g < length p.functions))

-- ---- the program

-- The order of calls holds the functions, and a function is among the callers of each function that it calls.
pub record CallsAreKnown (p : RtLabs) : Type 0 where
  pub functions : HoldsFunctions p.calls (length p.functions)
  pub callers : (i : ℕ) (f : RtFunction) → slice_get p.functions i ≡ Some f → KnowsCallers p.calls i (callees_of f.nodes)

-- The parameters of a function have at most 12 bytes.
abbrev pub ParametersAreFew : RtFunction → Type 0
ParametersAreFew f = all_held_bytes (held_parameters f) ≤ 12

-- `main` has no parameter and no result.
abbrev pub MainIsPlain : RtLabs → Type 0
MainIsPlain p = (f : RtFunction) → slice_get p.functions p.main ≡ Some f → (f.params ≡ 0) × (f.result ≡ None)

-- What external RAM has at first are bytes at addresses.
abbrev pub StartsWithBytes : RtLabs → Type 0
StartsWithBytes p = AreBytesAtAddresses p.start

abbrev pub LabelsAreNumbered : RtLabs → Type 0
LabelsAreNumbered p = AreNumbered (labels_of p.functions)

-- ---- where a path ends

-- There is a next node, but after a test and a return.
abbrev pub GoesOn : RtOp → Option ℕ → Type 0
GoesOn (op.Test t on_true on_false) next = next ≡ None
GoesOn op.Return next = next ≡ None
GoesOn (op.ReturnValue t) next = next ≡ None
GoesOn _ next = (q : ℕ) × (next ≡ Some q)

abbrev pub PathsGoOn : RtFunction → Type 0
PathsGoOn f = OfNodes f (λ at node. GoesOn node.op node.next)

-- a function with a result returns a value, another one none
abbrev pub ReturnsAs : Option Held → RtOp → Type 0
ReturnsAs (Some h) op.Return = ⊥
ReturnsAs None (op.ReturnValue t) = ⊥
ReturnsAs result _ = Unit {0}

abbrev pub ReturnsFit : RtFunction → Type 0
ReturnsFit f = OfNodes f (λ at node. ReturnsAs f.result node.op)

-- ---- arguments

abbrev pub is_call : RtOp → Bool
is_call (op.Call g) = true
is_call _ = false

-- these arguments, and the one that the operation hands over
abbrev pub and_argument : List Argument → RtOp → List Argument
and_argument arguments (op.Arg h first_byte t) = arguments ++ record { held = h; first_byte = first_byte } ∷ []
and_argument arguments _ = arguments

-- On some path to a node, from the entry or from the node after a call and past no other call, these arguments are handed over.
pub data HandsOver (f : RtFunction) : ℕ → List Argument → Type 0 where
  at_entry : HandsOver f f.entry []
  after_call : (at q : ℕ) (node : RtNode) → IsAt f at node → is_call node.op ≡ true → In q (next_nodes node) → HandsOver f q []
  onward : (at q : ℕ) (node : RtNode) (arguments : List Argument) → HandsOver f at arguments → IsAt f at node → is_call node.op ≡ false → In q (next_nodes node) → HandsOver f q (and_argument arguments node.op)

-- an operation that is a call takes exactly these arguments
abbrev pub TakesExactly : RtLabs → List Argument → RtOp → Type 0
TakesExactly p arguments (op.Call g) = (callee : RtFunction) → slice_get p.functions g ≡ Some callee → IsPermutation (parameters_of callee) arguments
TakesExactly p arguments _ = Unit {0}

-- On each path to a call, from the entry or from the node after a call and past no other call, exactly the arguments that it takes
-- are handed over, each once.
abbrev pub ArgumentsMeetCalls : RtLabs → RtFunction → Type 0
ArgumentsMeetCalls p f = (arguments : List Argument) → OfNodes f (λ at node. HandsOver f at arguments → TakesExactly p arguments node.op)

-- A path of one edge or more, on which no node but the last is a call.
pub data CallFreePath (f : RtFunction) : ℕ → ℕ → Type 0 where
  edge : (at q : ℕ) (node : RtNode) → IsAt f at node → is_call node.op ≡ false → In q (next_nodes node) → CallFreePath f at q
  longer : (at q r : ℕ) (node : RtNode) → IsAt f at node → is_call node.op ≡ false → In q (next_nodes node) → CallFreePath f q r → CallFreePath f at r

-- an operation that ends the handing over of an argument is a call that takes it
abbrev pub TakesOne : RtLabs → Argument → RtOp → Type 0
TakesOne p argument (op.Call g) = (callee : RtFunction) → slice_get p.functions g ≡ Some callee → Contains (parameters_of callee) argument
TakesOne p argument op.Return = ⊥
TakesOne p argument (op.ReturnValue t) = ⊥
TakesOne p argument _ = Unit {0}

abbrev pub IsTaken : RtLabs → RtFunction → ℕ → RtOp → Type 0
IsTaken p f at (op.Arg h first_byte t) = OfNodes f (λ q node. CallFreePath f at q → TakesOne p (record { held = h; first_byte = first_byte }) node.op)
IsTaken p f at _ = Unit {0}

-- On each path from an argument, in unreachable code too, the first call or return is a call that takes it.
abbrev pub ArgumentsAreTaken : RtLabs → RtFunction → Type 0
ArgumentsAreTaken p f = OfNodes f (λ at node. IsTaken p f at node.op)

abbrev pub IsWithinTwelve : RtOp → Type 0
IsWithinTwelve (op.Arg h first_byte t) = first_byte + held_bytes h ≤ 12
IsWithinTwelve _ = Unit {0}

-- Arguments have the first 12 argument bytes.
abbrev pub ArgumentsAreWithinTwelve : RtFunction → Type 0
ArgumentsAreWithinTwelve f = OfNodes f (λ at node. IsWithinTwelve node.op)

-- ---- results

-- The node is directly after the label after a call of a function whose result is held so, and no other node leads to it.
pub record IsAfterCall (p : RtLabs) (f : RtFunction) (at : ℕ) (h : Held) : Type 0 where
  pub call : ℕ
  pub callee : ℕ
  pub after : ℕ
  pub label : _
  pub function : RtFunction
  pub calls : IsAt f call (record { op = op.Call callee; next = Some after })
  pub labels : IsAt f after (record { op = op.Label label; next = Some at })
  pub is_callee : slice_get p.functions callee ≡ Some function
  pub held_so : function.result ≡ Some h
  pub alone : OfNodes f (λ q node. In at (next_nodes node) → q ≡ after)

abbrev pub HasCame : RtLabs → RtFunction → ℕ → RtOp → Type 0
HasCame p f at (op.Result h t) = IsAfterCall p f at h
HasCame p f at _ = Unit {0}

-- Results are read directly after the label after a call.
abbrev pub ResultsFollowCalls : RtLabs → RtFunction → Type 0
ResultsFollowCalls p f = OfNodes f (λ at node. HasCame p f at node.op)

-- ---- temporaries

-- On some path from the entry to a node no operation writes the temporary.
pub data Unwritten (f : RtFunction) (t : ℕ) : ℕ → Type 0 where
  at_start : Unwritten f t f.entry
  passing : (at q : ℕ) (node : RtNode) → Unwritten f t at → IsAt f at node → (In t (written_by node.op) → ⊥) → In q (next_nodes node) → Unwritten f t q

-- On each path from the entry to a use of a temporary, an operation before that use writes it.
abbrev pub WrittenBeforeUse : RtFunction → Type 0
WrittenBeforeUse f = (t : ℕ) → OfNodes f (λ at node. In t (used_by node.op) → Unwritten f t at → ⊥)

-- ---- all conditions

pub record IsWellFormedFunction (p : RtLabs) (f : RtFunction) : Type 0 where
  pub variables_exist : VariablesExist f
  pub nodes_exist : NodesExist f
  pub parameters_are_few : ParametersAreFew f
  pub paths_go_on : PathsGoOn f
  pub returns_fit : ReturnsFit f
  pub arguments_meet_calls : ArgumentsMeetCalls p f
  pub arguments_are_taken : ArgumentsAreTaken p f
  pub arguments_are_within_twelve : ArgumentsAreWithinTwelve f
  pub results_follow_calls : ResultsFollowCalls p f
  pub written_before_use : WrittenBeforeUse f

pub record IsWellFormed (p : RtLabs) : Type 0 where
  pub functions_exist : FunctionsExist p
  pub calls_are_known : CallsAreKnown p
  pub main_is_plain : MainIsPlain p
  pub labels_are_numbered : LabelsAreNumbered p
  pub starts_with_bytes : StartsWithBytes p
  pub functions : OfFunctions p (IsWellFormedFunction p)
