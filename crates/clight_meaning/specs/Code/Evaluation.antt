-- What an evaluator has left to do, as a list of work with the newest first, and what it does with the first of it. The list stands
-- for what goes on after each of its parts, and so for the rest of a run.
use Rattle.std.specs.Prelude.{ℕ, Bool, true, false, not, List, [], ◌∷◌, Option, Some, None, Result, Ok, Err, slice_get}
use Rattle.cerco_base.specs.Events.{Ended, next_reading}
use Rattle.cerco_traces.specs.Preservation.{Stops, Faults}
use Rattle.cerco_base.specs.declared.events.Event.{Event}
use Rattle.cerco_base.specs.declared.events.Event.TheVariants as event
use Rattle.cerco_base.specs.declared.events.Label.{Label}
use Rattle.cerco_base.specs.declared.events.Port.TheVariants.{P1}
use Rattle.cerco_base.specs.declared.events.FaultKind.{FaultKind}
use Rattle.cerco_base.specs.declared.events.FaultKind.TheVariants.{Outside}
use Rattle.clight_syntax.specs.declared.typed.ResultTarget.{ResultTarget}
use Rattle.c_types.specs.Conversions.{unsigned_char}
use Rattle.c_types.specs.Types.{CType}
use Rattle.clight_syntax.specs.TypedTrees as t
use Rattle.clight_syntax.specs.TypedTrees.{type_at, Cond, Truth, InParentheses, Not, Both, Either, Stmt, Empty, Block, Assign, ReadPort, WritePort, CallOf, If, IfElse, While, Do, For, Break, Continue, Return, Stmts, NoStmts, Then, Function, TypedProgram}
use Rattle.clight_values.specs.declared.value.Value.{Value}
use Rattle.clight_values.specs.declared.value.Value.TheVariants as v
use Rattle.clight_values.specs.Memory.{Answer, initial, Frame, State}
use Rattle.clight_meaning.specs.Expressions.{position, value}
use Rattle.clight_meaning.specs.Meaning.{Rest, only, passes, truth_of, test, assigned, assigned_if_any, assigned_to, converted_answer, after_reading, argument_list, argument_values, first_parameter, entered, returned, prepared, result_type, taken, with_state, Goes, loop_goes, until, next_of_for, run, body_goes, calls}

-- ---- work

-- how a statement is left, but by its end
pub data Way : Type 0 where
  ByBreak : Way
  ByContinue : Way
  ByReturn : (x : Value) → Way

-- what waits for the outcome of a condition
pub data Waiting : Type 0 where
  -- the statement whose condition it is
  Chooser : (s : Stmt Label) → Waiting
  Negation : Waiting
  AndThen : (on_true on_false : Label) (right : Cond Label) → Waiting
  OrElse : (on_true on_false : Label) (right : Cond Label) → Waiting

pub data Work : Type 0 where
  Run : (s : Stmt Label) → Work
  -- what is left of a block
  All : (ss : List (Stmt Label)) → Work
  -- what comes after the body of this loop
  Turn' : (s : Stmt Label) → Work
  Check : (c : Cond Label) → Work
  Outcome' : (b : Bool) → Work
  Wait : (w : Waiting) → Work
  -- a label that is due
  Pass : (l : Label) → Work
  -- the caller, with the target, the type of the result, the label behind the call, and its frame
  Caller : (target : Option ResultTarget) (result : CType) (back : Label) (frame : Frame) → Work
  -- a result that the running call takes
  Take : (target : Option ResultTarget) (result : CType) (x : Value) → Work
  Leave : (way : Way) → Work
  -- a fault that was met
  Faulty : (kind : FaultKind) → Work

-- ---- what goes on

-- the same as lists of statements
abbrev pub run_list : TypedProgram Label → List (Stmt Label) → Goes → State → Rest
run_list p [] k st = k.next st
run_list p (s ∷ ss) k st = run p (calls p) s (record k { next = run_list p ss k }) st

-- what goes on after some work, and what the outcome of a condition leads to
pub record Onward : Type 0 where
  pub goes : Goes
  pub outcome : Bool → State → Rest

-- no condition is waited for
abbrev pub unasked : Bool → State → Rest
unasked b st = only (Stops [] Ended)

abbrev pub then_next : (State → Rest) → Onward → Onward
then_next next k = record { goes = record k.goes { next = next }; outcome = unasked }

-- a loop from a turn on that isn't the first
abbrev pub next_turns : Stmt Label → Stmt Label
next_turns (For head l body after) = For (record head { first = None }) l body after
next_turns s = s

-- what goes on after the body of a loop
abbrev pub loop_of : TypedProgram Label → Stmt Label → Goes → Goes
loop_of p (While c l body after) k = loop_goes k after (run p (calls p) (While c l body after) k)
loop_of p (Do q body c back a after) k = loop_goes k after (until p c.condition back after k (run p (calls p) (Do q body c back a after) k))
loop_of p (For head l body after) k = loop_goes k after (next_of_for p head.step (run p (calls p) (next_turns (For head l body after)) k))
loop_of p s k = record k { break = k.next; continue = k.next }

-- what the outcome of its condition leads to, in a statement
abbrev pub chooses : TypedProgram Label → Stmt Label → Goes → Bool → State → Rest
chooses p (If c one arm other) k true st = passes one (run p (calls p) arm k st)
chooses p (If c one arm other) k false st = passes other (k.next st)
chooses p (IfElse c one arm q other otherwise) k true st = passes one (run p (calls p) arm k st)
chooses p (IfElse c one arm q other otherwise) k false st = passes other (run p (calls p) otherwise k st)
chooses p (While c l body after) k true st = passes l (run p (calls p) body (loop_of p (While c l body after) k) st)
chooses p (While c l body after) k false st = passes after (k.next st)
chooses p (Do q body c back a after) k true st = passes back (run p (calls p) (Do q body c back a after) k st)
chooses p (Do q body c back a after) k false st = passes after (k.next st)
chooses p (For head l body after) k true st = passes l (run p (calls p) body (loop_of p (For head l body after) k) st)
chooses p (For head l body after) k false st = passes after (k.next st)
chooses p s k b st = unasked b st

abbrev pub awaited : TypedProgram Label → Waiting → Onward → Bool → State → Rest
awaited p (Chooser s) k b st = chooses p s k.goes b st
awaited p Negation k b st = k.outcome (not b) st
awaited p (AndThen t f c) k true st = passes t (test p c st (k.outcome true st) (k.outcome false st))
awaited p (AndThen t f c) k false st = passes f (k.outcome false st)
awaited p (OrElse t f c) k true st = passes t (k.outcome true st)
awaited p (OrElse t f c) k false st = passes f (test p c st (k.outcome true st) (k.outcome false st))

abbrev pub leaves : Way → Goes → State → Rest
leaves ByBreak k st = k.break st
leaves ByContinue k st = k.continue st
leaves (ByReturn x) k st = k.return x st

-- what goes on where this work stands before what goes on
abbrev pub onward : TypedProgram Label → Work → Onward → Onward
onward p (Run s) k = then_next (run p (calls p) s k.goes) k
onward p (All ss) k = then_next (run_list p ss k.goes) k
onward p (Turn' s) k = record { goes = loop_of p s k.goes; outcome = unasked }
onward p (Check c) k = then_next (λ st. test p c st (k.outcome true st) (k.outcome false st)) k
onward p (Outcome' b) k = then_next (k.outcome b) k
onward p (Wait w) k = record { goes = k.goes; outcome = awaited p w k }
onward p (Pass l) k = then_next (λ st. passes l (k.goes.next st)) k
onward p (Caller target R back frame) k = record {
  goes = body_goes (λ x st. passes back (with_state (taken p target R x (returned frame st)) k.goes.next));
  outcome = unasked;
}
onward p (Take target R x) k = then_next (λ st. with_state (taken p target R x st) k.goes.next) k
onward p (Leave way) k = then_next (leaves way k.goes) k
onward p (Faulty kind) k = then_next (λ st. only (Faults [] kind)) k

-- Where nothing is left to do, `main` has returned.
abbrev pub standing : TypedProgram Label → List Work → Onward
standing p [] = record { goes = body_goes (λ x st. only (Stops [] Ended)); outcome = unasked }
standing p (w ∷ ws) = onward p w (standing p ws)

-- the rest of a run from this state on
abbrev pub rest_of : TypedProgram Label → List Work → State → Rest
rest_of p ws st = (standing p ws).goes.next st

-- ---- what is done with the first work

pub data Move : Type 0 where
  Silent : (ws : List Work) (st : State) → Move
  Says : (e : Event) (ws : List Work) (st : State) → Move
  -- an event, and then a fault
  SaysAndFails : (e : Event) (kind : FaultKind) → Move
  Fails : (kind : FaultKind) → Move
  Ends : Move

abbrev pub quietly : List Work → Result State FaultKind → Move
quietly ws (Err k) = Fails k
quietly ws (Ok st) = Silent ws st

abbrev pub listed : Stmts Label → List (Stmt Label) → List (Stmt Label)
listed NoStmts later = later
listed (Then earlier last) later = listed earlier (last ∷ later)

abbrev pub after_read : ℕ → List Work → Result State FaultKind → Move
after_read byte ws (Err k) = SaysAndFails (event.Read P1 byte) k
after_read byte ws (Ok new) = Says (event.Read P1 byte) ws new

abbrev pub written : List Work → State → Answer → Move
written ws st (Err k) = Fails k
written ws st (Ok (v.Integer n)) = Says (event.Write P1 n) ws st
written ws st (Ok v.Null) = Fails Outside
written ws st (Ok (v.Pointer at)) = Fails Outside

-- the locals of a function, whose call was entered, come before its body
abbrev pub begun : Function Label → List Work → Result State FaultKind → Move
begun f ws (Err k) = SaysAndFails (event.Label f.label) k
begun f ws (Ok st) = Says (event.Label f.label) (All (listed f.body []) ∷ ws) st

abbrev pub called_of : TypedProgram Label → t.Call → Label → List Work → State → List Value → Option (Function Label) → Move
called_of p c back ws st xs None = Ends
called_of p c back ws st xs (Some f) =
    begun f (Caller c.target (result_type p c.function) back st.frame ∷ ws) (prepared p f (entered p f xs st))

abbrev pub called : TypedProgram Label → t.Call → Label → List Work → State → Result (List Value) FaultKind → Move
called p c back ws st (Err k) = Fails k
called p c back ws st (Ok xs) = called_of p c back ws st xs (slice_get p.functions c.function)

-- a turn of a `for` begins, whose condition and body these are
abbrev pub for_turned : Option (Cond Label) → Label → Stmt Label → Stmt Label → List Work → State → Move
for_turned None l body s ws st = Says (event.Label l) (Run body ∷ Turn' s ∷ ws) st
for_turned (Some c) l body s ws st = Silent (Check c ∷ Wait (Chooser s) ∷ ws) st

abbrev pub for_begun : Option (Cond Label) → Label → Stmt Label → Stmt Label → List Work → Result State FaultKind → Move
for_begun c l body s ws (Err k) = Fails k
for_begun c l body s ws (Ok st) = for_turned c l body s ws st

abbrev pub given_back : List Work → State → Answer → Move
given_back ws st (Err k) = Fails k
given_back ws st (Ok x) = Silent (Leave (ByReturn x) ∷ ws) st

-- a statement
abbrev pub ran : TypedProgram Label → Stmt Label → List Work → State → Move
ran p (Empty a) ws st = Silent ws st
ran p (Block l body r) ws st = Silent (All (listed body []) ∷ ws) st
ran p (Assign a q) ws st = quietly ws (assigned p a st)
ran p (ReadPort x q port a) ws st =
    after_read (next_reading st.script) ws
    (assigned_to (type_at x) (position p x (after_reading st)) unsigned_char (Ok (v.Integer (next_reading st.script))) (after_reading st))
ran p (WritePort port q e a) ws st = written ws st (converted_answer (type_at e) unsigned_char (value p e st))
ran p (CallOf c a back) ws st = called p c back ws st (argument_values p (argument_list c.arguments) (first_parameter p c.function) st)
ran p (If c one arm other) ws st = Silent (Check c.condition ∷ Wait (Chooser (If c one arm other)) ∷ ws) st
ran p (IfElse c one arm q other otherwise) ws st = Silent (Check c.condition ∷ Wait (Chooser (IfElse c one arm q other otherwise)) ∷ ws) st
ran p (While c l body after) ws st = Silent (Check c.condition ∷ Wait (Chooser (While c l body after)) ∷ ws) st
ran p (Do q body c back a after) ws st = Silent (Run body ∷ Turn' (Do q body c back a after) ∷ ws) st
ran p (For head l body after) ws st = for_begun head.condition l body (For head l body after) ws (assigned_if_any p head.first st)
ran p (Break q a) ws st = Silent (Leave ByBreak ∷ ws) st
ran p (Continue q a) ws st = Silent (Leave ByContinue ∷ ws) st
ran p (Return q None a) ws st = Silent (Leave (ByReturn (initial st.frame.result)) ∷ ws) st
ran p (Return q (Some e) a) ws st = given_back ws st (converted_answer (type_at e) st.frame.result (value p e st))

-- a loop after its body
abbrev pub turned : TypedProgram Label → Stmt Label → List Work → State → Move
turned p (While c l body after) ws st = Silent (Check c.condition ∷ Wait (Chooser (While c l body after)) ∷ ws) st
turned p (Do q body c back a after) ws st = Silent (Check c.condition ∷ Wait (Chooser (Do q body c back a after)) ∷ ws) st
turned p (For head l body after) ws st = for_begun head.condition l body (For head l body after) ws (assigned_if_any p head.step st)
turned p s ws st = Silent ws st

abbrev pub broken : Stmt Label → List Work → State → Move
broken (While c l body after) ws st = Says (event.Label after) ws st
broken (Do q body c back a after) ws st = Says (event.Label after) ws st
broken (For head l body after) ws st = Says (event.Label after) ws st
broken s ws st = Silent ws st

abbrev pub chosen : Stmt Label → Bool → List Work → State → Move
chosen (If c one arm other) true ws st = Says (event.Label one) (Run arm ∷ ws) st
chosen (If c one arm other) false ws st = Says (event.Label other) ws st
chosen (IfElse c one arm q other otherwise) true ws st = Says (event.Label one) (Run arm ∷ ws) st
chosen (IfElse c one arm q other otherwise) false ws st = Says (event.Label other) (Run otherwise ∷ ws) st
chosen (While c l body after) true ws st = Says (event.Label l) (Run body ∷ Turn' (While c l body after) ∷ ws) st
chosen (While c l body after) false ws st = Says (event.Label after) ws st
chosen (Do q body c back a after) true ws st = Says (event.Label back) (Run body ∷ Turn' (Do q body c back a after) ∷ ws) st
chosen (Do q body c back a after) false ws st = Says (event.Label after) ws st
chosen (For head l body after) true ws st = Says (event.Label l) (Run body ∷ Turn' (For head l body after) ∷ ws) st
chosen (For head l body after) false ws st = Says (event.Label after) ws st
chosen s b ws st = Ends

abbrev pub decided : Waiting → Bool → List Work → State → Move
decided (Chooser s) b ws st = chosen s b ws st
decided Negation b ws st = Silent (Outcome' (not b) ∷ ws) st
decided (AndThen t f c) true ws st = Says (event.Label t) (Check c ∷ ws) st
decided (AndThen t f c) false ws st = Says (event.Label f) (Outcome' false ∷ ws) st
decided (OrElse t f c) true ws st = Says (event.Label t) (Outcome' true ∷ ws) st
decided (OrElse t f c) false ws st = Says (event.Label f) (Check c ∷ ws) st

-- an outcome comes to this work
abbrev pub comes_out : Bool → Work → List Work → State → Move
comes_out b (Wait w) ws st = decided w b ws st
comes_out b w ws st = Ends

abbrev pub outcome_of : List Work → State → Result Bool FaultKind → Move
outcome_of ws st (Err k) = Fails k
outcome_of ws st (Ok b) = Silent (Outcome' b ∷ ws) st

abbrev pub checked : TypedProgram Label → Cond Label → List Work → State → Move
checked p (Truth e) ws st = outcome_of ws st (truth_of st.memory (value p e st))
checked p (InParentheses l c r) ws st = Silent (Check c ∷ ws) st
checked p (Not at c) ws st = Silent (Check c ∷ Wait Negation ∷ ws) st
checked p (Both c at t f d) ws st = Silent (Check c ∷ Wait (AndThen t f d) ∷ ws) st
checked p (Either c at t f d) ws st = Silent (Check c ∷ Wait (OrElse t f d) ∷ ws) st

-- the result with which a call is left
abbrev pub result_of : Way → State → Value
result_of (ByReturn x) st = x
result_of _ st = initial st.frame.result

abbrev pub left_loop : TypedProgram Label → Way → Stmt Label → List Work → State → Move
left_loop p ByBreak s ws st = broken s ws st
left_loop p ByContinue s ws st = turned p s ws st
left_loop p (ByReturn x) s ws st = Silent (Leave (ByReturn x) ∷ ws) st

-- a statement is left, and this work stands behind it
abbrev pub left_by : TypedProgram Label → Way → Work → List Work → State → Move
left_by p way (Turn' s) ws st = left_loop p way s ws st
left_by p way (Caller target R back frame) ws st = Says (event.Label back) (Take target R (result_of way st) ∷ ws) (returned frame st)
left_by p way w ws st = Silent (Leave way ∷ ws) st

abbrev pub stepped : TypedProgram Label → List Work → State → Move
stepped p [] st = Ends
stepped p (Run s ∷ ws) st = ran p s ws st
stepped p (All [] ∷ ws) st = Silent ws st
stepped p (All (s ∷ ss) ∷ ws) st = ran p s (All ss ∷ ws) st
stepped p (Turn' s ∷ ws) st = turned p s ws st
stepped p (Check c ∷ ws) st = checked p c ws st
stepped p (Outcome' b ∷ []) st = Ends
stepped p (Outcome' b ∷ w ∷ ws) st = comes_out b w ws st
stepped p (Wait w ∷ ws) st = Silent ws st
stepped p (Pass l ∷ ws) st = Says (event.Label l) ws st
stepped p (Caller target R back frame ∷ ws) st = Says (event.Label back) (Take target R (initial st.frame.result) ∷ ws) (returned frame st)
stepped p (Take target R x ∷ ws) st = quietly ws (taken p target R x st)
stepped p (Leave way ∷ []) st = Ends
stepped p (Leave way ∷ w ∷ ws) st = left_by p way w ws st
stepped p (Faulty kind ∷ ws) st = Fails kind
