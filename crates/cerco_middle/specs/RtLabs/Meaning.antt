-- The meaning of RTLabs (CerCo, deliverable 3.3): a step a node, over the variables and temporaries of the running call, the slots
-- in which arguments are handed over, one result, and the world. A run with a node, function or successor that isn't there
-- stays where it is, so every program has a meaning.
use Rattle.std.specs.Prelude.{ℕ, List, [], ◌∷◌, length, Option, Some, None, slice_get, Bool, true, false}
use Rattle.cerco_base.specs.declared.events.Event.TheVariants as event
use Rattle.cerco_base.specs.declared.events.Port.TheVariants.{P1}
use Rattle.cerco_base.specs.Events.{next_reading}
use Rattle.cerco_traces.specs.Systems.{System}
use Rattle.cerco_traces.specs.Worlds.{World, update, shown, after_reading, start_world}
use Rattle.cerco_middle.specs.declared.rtlabs.RtOp.{RtOp}
use Rattle.cerco_middle.specs.declared.rtlabs.RtOp.TheVariants as op
use Rattle.cerco_middle.specs.declared.rtlabs.RtNode.{RtNode}
use Rattle.cerco_middle.specs.Operators.{word_bytes, as_word, kept, held_at, held_in, held_addresses, negated, complement, shifted_left, shifted_right, operator_value, low_byte, branch}
use Rattle.cerco_middle.specs.Calls.{Values, all_zero, first_variables, assigned, returned, is_over}
use Rattle.cerco_middle.specs.RtLabs.Graphs.{RtFunction, RtLabs}

-- an open call: its function, the node that it comes to next, and its own values
pub record RtCall : Type 0 where
  pub of : RtFunction
  pub node : ℕ
  pub temporaries : Values
  pub variables : Values

-- The running call is the first one. There is none when `main` has returned.
pub record RtState : Type 0 where
  pub calls : List RtCall
  pub slots : Values
  pub result : ℕ
  pub world : World

-- a call of f comes to the node p next, with these values, above other calls
abbrev pub at_node : RtFunction → ℕ → Values → Values → List RtCall → Values → ℕ → World → RtState
at_node f p temporaries variables others slots result world = record {
  calls = (record { of = f; node = p; temporaries = temporaries; variables = variables }) ∷ others;
  slots = slots;
  result = result;
  world = world;
}

-- the run goes on at the next node with these values, and where there is none it stays
abbrev pub goes_on : Option ℕ → RtState → RtFunction → Values → Values → List RtCall → Values → ℕ → World → RtState
goes_on None stays f temporaries variables others slots result world = stays
goes_on (Some p) stays f temporaries variables others slots result world = at_node f p temporaries variables others slots result world

-- a new call of a function
abbrev pub first_call : RtFunction → Values → RtCall
first_call g slots = record { of = g; node = g.entry; temporaries = all_zero; variables = first_variables g.held g.params slots }

-- a call of the function, after whose return the run goes on at the next node; the slots are empty again
abbrev pub called : Option RtFunction → Option ℕ → RtState → RtFunction → Values → Values → List RtCall → Values → ℕ → World → RtState
called None next stays f temporaries variables others slots result world = stays
called (Some g) None stays f temporaries variables others slots result world = stays
called (Some g) (Some p) stays f temporaries variables others slots result world = record {
  calls = first_call g slots ∷ (record { of = f; node = p; temporaries = temporaries; variables = variables }) ∷ others;
  slots = all_zero;
  result = result;
  world = world;
}

-- the step of an operation
abbrev pub op_step : List RtFunction → RtOp → Option ℕ → RtState → RtFunction → Values → Values → List RtCall → Values → ℕ → World → RtState
op_step fs (op.Const t number) next stays f ts vs cs slots r w = goes_on next stays f (update ts t (as_word number)) vs cs slots r w
op_step fs (op.Get t x) next stays f ts vs cs slots r w = goes_on next stays f (update ts t (vs x)) vs cs slots r w
op_step fs (op.Put x t) next stays f ts vs cs slots r w = goes_on next stays f ts (assigned f.held x (ts t) vs) cs slots r w
op_step fs (op.Neg t) next stays f ts vs cs slots r w = goes_on next stays f (update ts t (negated word_bytes (ts t))) vs cs slots r w
op_step fs (op.Not t) next stays f ts vs cs slots r w = goes_on next stays f (update ts t (complement word_bytes (ts t))) vs cs slots r w
op_step fs (op.Narrow h t) next stays f ts vs cs slots r w = goes_on next stays f (update ts t (kept h (ts t))) vs cs slots r w
op_step fs (op.Bin o t u) next stays f ts vs cs slots r w = goes_on next stays f (update ts t (operator_value word_bytes o (ts t) (ts u))) vs cs slots r w
op_step fs (op.Shl k t) next stays f ts vs cs slots r w = goes_on next stays f (update ts t (shifted_left word_bytes k (ts t))) vs cs slots r w
op_step fs (op.Shr k arithmetic t) next stays f ts vs cs slots r w = goes_on next stays f (update ts t (shifted_right word_bytes k arithmetic (ts t))) vs cs slots r w
op_step fs (op.Load h t) next stays f ts vs cs slots r w = goes_on next stays f (update ts t (held_at h w (ts t))) vs cs slots r w
op_step fs (op.Store h t u) next stays f ts vs cs slots r w = goes_on next stays f ts vs cs slots r (held_in h w (ts t) (ts u))
op_step fs (op.ReadPort t) next stays f ts vs cs slots r w = goes_on next stays f (update ts t (next_reading w.script)) vs cs slots r (after_reading w)
op_step fs (op.WritePort t) next stays f ts vs cs slots r w = goes_on next stays f ts vs cs slots r (shown (event.Write P1 (low_byte (ts t))) w)
op_step fs (op.Arg h first_byte t) next stays f ts vs cs slots r w = goes_on next stays f ts vs cs (update slots first_byte (kept h (ts t))) r w
op_step fs (op.Call g) next stays f ts vs cs slots r w = called (slice_get fs g) next stays f ts vs cs slots r w
op_step fs (op.Result h t) next stays f ts vs cs slots r w = goes_on next stays f (update ts t (kept h r)) vs cs slots r w
op_step fs (op.Label l) next stays f ts vs cs slots r w = goes_on next stays f ts vs cs slots r (shown (event.Label l) w)
op_step fs (op.Test t on_true on_false) next stays f ts vs cs slots r w = at_node f (branch (ts t) on_true on_false) ts vs cs slots r w
op_step fs op.Return next stays f ts vs cs slots r w = record { calls = cs; slots = slots; result = r; world = w }
op_step fs (op.ReturnValue t) next stays f ts vs cs slots r w = record { calls = cs; slots = slots; result = returned f.result (ts t) r; world = w }

abbrev pub node_step : List RtFunction → Option RtNode → RtState → RtFunction → Values → Values → List RtCall → Values → ℕ → World → RtState
node_step fs None stays f ts vs cs slots r w = stays
node_step fs (Some node) stays f ts vs cs slots r w = op_step fs node.op node.next stays f ts vs cs slots r w

abbrev pub step : List RtFunction → List RtCall → RtState → RtState
step fs [] s = s
step fs (c ∷ cs) s = node_step fs (slice_get c.of.nodes c.node) s c.of c.temporaries c.variables cs s.slots s.result s.world

-- ---- what a step touches, and where a label is due

abbrev pub op_touched : RtOp → Values → List ℕ
op_touched (op.Load h t) ts = held_addresses h (ts t)
op_touched (op.Store h t u) ts = held_addresses h (ts t)
op_touched _ ts = []

abbrev pub node_touched : Option RtNode → Values → List ℕ
node_touched None ts = []
node_touched (Some node) ts = op_touched node.op ts

abbrev pub touched : List RtCall → List ℕ
touched [] = []
touched (c ∷ cs) = node_touched (slice_get c.of.nodes c.node) c.temporaries

-- a label after which the run can go on
abbrev pub op_due : RtOp → Option ℕ → Bool
op_due (op.Label l) (Some p) = true
op_due _ _ = false

abbrev pub node_due : Option RtNode → Bool
node_due None = false
node_due (Some node) = op_due node.op node.next

abbrev pub due : List RtCall → Bool
due [] = false
due (c ∷ cs) = node_due (slice_get c.of.nodes c.node)

-- ---- the program

abbrev pub main_call : Option RtFunction → List RtCall
main_call None = []
main_call (Some f) = first_call f all_zero ∷ []

abbrev pub rtlabs : RtLabs → System RtState
rtlabs p = record {
  start = λ script. record { calls = main_call (slice_get p.functions p.main); slots = all_zero; result = 0; world = start_world p.start script };
  step = λ s. step p.functions s.calls s;
  events = λ s. s.world.made;
  due = λ s. due s.calls;
  ended = λ s. is_over s.calls;
  touched = λ s. touched s.calls;
  opened = λ s. length s.calls;
}
