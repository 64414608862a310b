-- The meaning of a labelled program (ISO/IEC 9899:1999, 5.1.2.3 and 6.8, with the cost labels of CerCo, deliverable 2.1): what is
-- told of its run on a port script, for each budget of labels. A run passes at most so many labels: it stops where the next one is
-- due, or `main` returns, or it meets a fault. A statement is given what goes on after it, by the way in which it is left.
use Rattle.std.specs.Prelude.{ℕ, zero, suc, ◌+◌, Bool, true, false, List, [], ◌∷◌, ◌++◌, length, drop, map, Option, Some, None, Result, Ok, Err, if◌then◌else◌, slice_get}
use Rattle.cerco_base.specs.Events.{Stopped, Ended, next_reading}
use Rattle.cerco_traces.specs.Preservation.{Outcome, Stops, Faults, Source, and_then}
use Rattle.cerco_base.specs.declared.events.Event.{Event}
use Rattle.cerco_base.specs.declared.events.Event.TheVariants as event
use Rattle.cerco_base.specs.declared.events.Label.{Label}
use Rattle.cerco_base.specs.declared.events.Port.TheVariants.{P1}
use Rattle.cerco_base.specs.declared.events.FaultKind.{FaultKind}
use Rattle.cerco_base.specs.declared.events.FaultKind.TheVariants.{Outside}
use Rattle.clight_syntax.specs.declared.typed.Home.{Home}
use Rattle.clight_syntax.specs.declared.typed.Home.TheVariants as home
use Rattle.clight_syntax.specs.declared.typed.ResultTarget.{ResultTarget}
use Rattle.clight_source.specs.Trees.{Global}
use Rattle.c_types.specs.Conversions.{unsigned_char}
use Rattle.c_types.specs.Types.{CType, Void}
use Rattle.clight_syntax.specs.TypedTrees.{Expr, type_at, Cond, Truth, InParentheses, Not, Both, Either, Assignment, EarlierArgument, Arguments, NoArguments, Arguments', Stmt, Empty, Block, Assign, ReadPort, WritePort, CallOf, If, IfElse, While, Do, For, Break, Continue, Return, Stmts, NoStmts, Then, LocalInitialiser, NoValue, Value, Local, Function, Item, StructItem, GlobalItem, PrototypeItem, FunctionItem, Variable', TypedProgram, own_variables}
use Rattle.clight_values.specs.declared.value.Value as w
use Rattle.clight_values.specs.declared.value.Value.TheVariants as v
use Rattle.c_types.specs.Kinds.{is_scalar}
use Rattle.clight_values.specs.Memory.{own_blocks, Answer, Cell, Memory, kinds_of, initial, is_true, with_blocks, left, Frame, State}
use Rattle.clight_values.specs.Globals.{filled, numbers_of}
use Rattle.clight_values.specs.Operators.{then_value, assigned_value}
use Rattle.clight_meaning.specs.Expressions.{Position, home_position, variable_position, stored_in, position, value}

-- ---- what is told

-- what is told of a run from some moment on, for each number of labels that it may still pass
abbrev pub Rest : Type 0
Rest = ℕ → Outcome FaultKind

-- this, whatever the budget
abbrev pub only : Outcome FaultKind → Rest
only r n = r

-- an event that takes nothing of the budget, and then the rest
abbrev pub says : Event → Rest → Rest
says e r n = and_then (e ∷ []) (r n)

-- a label, which takes one of the budget, and then the rest
abbrev pub passes : Label → Rest → Rest
passes l r zero = Stops [] Stopped
passes l r (suc n) = and_then (event.Label l ∷ []) (r n)

-- at most so many turns, each beginning where the one before goes on
abbrev pub turns : {A : Type 0} → ((A → Rest) → A → Rest) → ℕ → A → Rest
turns F zero a = only (Stops [] Stopped)
turns F (suc k) a = F (turns F k) a

-- turn after turn. Each turn passes a label before the next one begins, so a budget of n sees n + 1 turns at most.
unfoldable pub again : {A : Type 0} → ((A → Rest) → A → Rest) → A → Rest
again F a n = turns F (suc n) a n

-- ---- answers, and what goes on with them

abbrev pub with_value : Answer → (w.Value → Rest) → Rest
with_value (Err k) go = only (Faults [] k)
with_value (Ok w) go = go w

abbrev pub with_values : Result (List w.Value) FaultKind → (List w.Value → Rest) → Rest
with_values (Err k) go = only (Faults [] k)
with_values (Ok ws) go = go ws

abbrev pub with_state : Result State FaultKind → (State → Rest) → Rest
with_state (Err k) go = only (Faults [] k)
with_state (Ok st) go = go st

abbrev pub with_truth : Result Bool FaultKind → Rest → Rest → Rest
with_truth (Err k) one other = only (Faults [] k)
with_truth (Ok true) one other = one
with_truth (Ok false) one other = other

abbrev pub then_state : Result State FaultKind → (State → Result State FaultKind) → Result State FaultKind
then_state (Err k) go = Err k
then_state (Ok st) go = go st

-- ---- conditions

abbrev pub truth_of : Memory → Answer → Result Bool FaultKind
truth_of m (Err k) = Err k
truth_of m (Ok x) = is_true m x

-- a condition, and what goes on where it is true and where it isn't
abbrev pub test : {L : Type 0} → TypedProgram L → Cond Label → State → Rest → Rest → Rest
test p (Truth e) st one other = with_truth (truth_of st.memory (value p e st)) one other
test p (InParentheses left c right) st one other = test p c st one other
test p (Not at c) st one other = test p c st other one
test p (Both l at on_true on_false r) st one other = test p l st (passes on_true (test p r st one other)) (passes on_false other)
test p (Either l at on_true on_false r) st one other = test p l st (passes on_true one) (passes on_false (test p r st one other))

-- the condition of a `for`, which is true where there is none
abbrev pub test_if_any : {L : Type 0} → TypedProgram L → Option (Cond Label) → State → Rest → Rest → Rest
test_if_any p None st one other = one
test_if_any p (Some c) st one other = test p c st one other

-- ---- assignments (6.5.16)

abbrev pub stored_value : CType → Position → Answer → State → Result State FaultKind
stored_value T at (Err k) st = Err k
stored_value T at (Ok w) st = stored_in T at w st

-- a value of the type S as one of the type T
abbrev pub converted_answer : CType → CType → Answer → Answer
converted_answer S T w = then_value w (assigned_value S T)

-- the place first, then the value, its conversion from the type S to the place's type T, and the access
abbrev pub assigned_to : CType → Result Position FaultKind → CType → Answer → State → Result State FaultKind
assigned_to T (Err k) S w st = Err k
assigned_to T (Ok at) S w st = stored_value T at (converted_answer S T w) st

abbrev pub assigned : {L : Type 0} → TypedProgram L → Assignment → State → Result State FaultKind
assigned p a st = assigned_to (type_at a.target) (position p a.target st) (type_at a.value) (value p a.value st) st

abbrev pub assigned_if_any : {L : Type 0} → TypedProgram L → Option Assignment → State → Result State FaultKind
assigned_if_any p None st = Ok st
assigned_if_any p (Some a) st = assigned p a st

abbrev pub type_in : Option Variable' → CType
type_in None = Void
type_in (Some x) = x.type

-- the type of the variable with this number
abbrev pub variable_type : {L : Type 0} → TypedProgram L → ℕ → CType
variable_type p n = type_in (slice_get p.variables n)

-- a value of the type S is assigned to the variable with this number
abbrev pub assigned_variable : {L : Type 0} → TypedProgram L → ℕ → CType → Answer → State → Result State FaultKind
assigned_variable p n S w st = assigned_to (variable_type p n) (Ok (variable_position p n st.frame)) S w st

-- ---- ports

-- a reading takes the script's next byte, 255 behind its end
abbrev pub after_reading : State → State
after_reading st = record st { script = drop 1 st.script }

abbrev pub with_byte : Answer → (ℕ → Rest) → Rest
with_byte (Err k) go = only (Faults [] k)
with_byte (Ok (v.Integer n)) go = go n
with_byte (Ok v.Null) go = only (Faults [] Outside)
with_byte (Ok (v.Pointer at)) go = only (Faults [] Outside)

-- ---- calls (6.5.2.2, 6.9.1)

abbrev pub joined : Answer → Result (List w.Value) FaultKind → Result (List w.Value) FaultKind
joined (Err k) r = Err k
joined (Ok w) (Err k) = Err k
joined (Ok w) (Ok ws) = Ok (w ∷ ws)

abbrev pub argument_list : Arguments → List Expr
argument_list NoArguments = []
argument_list (Arguments' earlier last) = map (λ (a : EarlierArgument). a.value) earlier ++ last ∷ []

-- the arguments' values from left to right, each converted to the type of its parameter; the parameters are numbered from here
abbrev pub argument_values : {L : Type 0} → TypedProgram L → List Expr → ℕ → State → Result (List w.Value) FaultKind
argument_values p [] n st = Ok []
argument_values p (e ∷ es) n st = joined (converted_answer (type_at e) (variable_type p n) (value p e st)) (argument_values p es (suc n) st)

abbrev pub parameter_in : {L : Type 0} → Option (Function L) → ℕ
parameter_in None = 0
parameter_in (Some f) = f.first_variable

-- the number of the first parameter of the function with this number
abbrev pub first_parameter : {L : Type 0} → TypedProgram L → ℕ → ℕ
first_parameter p f = parameter_in (slice_get p.functions f)

-- the first values of the scalars among some variables
abbrev pub initials : List Variable' → List w.Value
initials [] = []
initials (x ∷ xs) = if is_scalar x.type then initial x.type ∷ initials xs else initials xs

-- a call of a function begins with these arguments: it has fresh blocks and scalars
abbrev pub entered : {L : Type 0} → TypedProgram L → Function L → List w.Value → State → State
entered p f ws st = record {
  memory = with_blocks st.made (own_blocks p.structs (own_variables f p.variables)) st.memory;
  made = suc st.made;
  frame = record {
    blocks = length st.memory.blocks;
    cells = length st.memory.cells;
    call = st.made;
    depth = suc st.frame.depth;
    result = f.result;
    scalars = ws ++ drop (length ws) (initials (own_variables f p.variables));
  };
  script = st.script;
}

-- the call is over, its blocks die, and its caller goes on with its own frame
abbrev pub returned : Frame → State → State
returned frame st = record st { memory = left st.frame.blocks st.frame.cells st.memory; frame = frame }

-- a scalar that lives in a block gets its first value by a store
abbrev pub homed_in : Home → CType → Option w.Value → State → Result State FaultKind
homed_in (home.Block b) T (Some x) st = stored_in T (home_position (home.Block b) st.frame) x st
homed_in _ T x st = Ok st

-- the same for each of these variables, the scalars among which are numbered from here
abbrev pub homed : List Variable' → ℕ → State → Result State FaultKind
homed [] n st = Ok st
homed (x ∷ xs) n st =
    if is_scalar x.type then then_state (homed_in x.home x.type (slice_get st.frame.scalars n) st) (homed xs (suc n)) else homed xs n st

abbrev pub initialised_by : {L : Type 0} → TypedProgram L → ℕ → LocalInitialiser → State → Result State FaultKind
initialised_by p n NoValue st = Ok st
initialised_by p n (Value equals e) st = assigned_variable p n (type_at e) (value p e st) st

-- the initialisers of locals, in order; the locals' variables are numbered from here
abbrev pub initialised : {L : Type 0} → TypedProgram L → List Local → ℕ → State → Result State FaultKind
initialised p [] n st = Ok st
initialised p (l ∷ ls) n st = then_state (initialised_by p n l.initialiser st) (initialised p ls (suc n))

-- what comes before the statements of a function's body
abbrev pub prepared : {L : Type 0} → TypedProgram L → Function L → State → Result State FaultKind
prepared p f st = then_state (homed (own_variables f p.variables) 0 st) (initialised p f.locals (f.first_variable + f.parameters))

abbrev pub result_in : {L : Type 0} → Option (Function L) → CType
result_in None = Void
result_in (Some f) = f.result

-- the result type of the function with this number
abbrev pub result_type : {L : Type 0} → TypedProgram L → ℕ → CType
result_type p f = result_in (slice_get p.functions f)

-- the caller takes a result of the type R
abbrev pub taken : {L : Type 0} → TypedProgram L → Option ResultTarget → CType → w.Value → State → Result State FaultKind
taken p None R x st = Ok st
taken p (Some target) R x st = assigned_variable p target.variable R (Ok x) st

-- a call of a function by its number with arguments, from a state, and what goes on with its result
pub record Calling : Type 0 where
  pub function : ℕ
  pub arguments : List w.Value
  pub from : State
  pub return : w.Value → State → Rest

-- ---- statements (6.8)

-- what goes on after a statement, by the way in which it is left
pub record Goes : Type 0 where
  pub next : State → Rest
  pub break : State → Rest
  pub continue : State → Rest
  pub return : w.Value → State → Rest

-- in a loop: what its next turn begins with, and the label behind it
abbrev pub loop_goes : Goes → Label → (State → Rest) → Goes
loop_goes k after turn = record { next = turn; continue = turn; break = λ st. passes after (k.next st); return = k.return }

-- behind the body of a `do`
abbrev pub until : {L : Type 0} → TypedProgram L → Cond Label → Label → Label → Goes → (State → Rest) → State → Rest
until p c back after k turn st = test p c st (passes back (turn st)) (passes after (k.next st))

-- the third part of a `for`, and then its next turn
abbrev pub next_of_for : {L : Type 0} → TypedProgram L → Option Assignment → (State → Rest) → State → Rest
next_of_for p step turn st = with_state (assigned_if_any p step st) turn

-- what a statement does, given what calls do and what goes on
abbrev mutual
  pub run : TypedProgram Label → (Calling → Rest) → Stmt Label → Goes → State → Rest
  run p calls (Empty semicolon) k st = k.next st
  run p calls (Block left body right) k st = run_all p calls body k st
  run p calls (Assign a semicolon) k st = with_state (assigned p a st) k.next
  run p calls (ReadPort target equals port semicolon) k st =
      says (event.Read P1 (next_reading st.script))
      (with_state (assigned_to (type_at target) (position p target (after_reading st)) unsigned_char (Ok (v.Integer (next_reading st.script))) (after_reading st)) k.next)
  run p calls (WritePort port equals e semicolon) k st =
      with_byte (converted_answer (type_at e) unsigned_char (value p e st)) (λ b. says (event.Write P1 b) (k.next st))
  run p calls (CallOf c semicolon back) k st =
      with_values (argument_values p (argument_list c.arguments) (first_parameter p c.function) st) (λ ws. calls (record {
        function = c.function;
        arguments = ws;
        from = st;
        return = λ x st'. passes back (with_state (taken p c.target (result_type p c.function) x (returned st.frame st')) k.next);
      }))
  run p calls (If c one arm other) k st = test p c.condition st (passes one (run p calls arm k st)) (passes other (k.next st))
  run p calls (IfElse c one arm keyword other otherwise) k st =
      test p c.condition st (passes one (run p calls arm k st)) (passes other (run p calls otherwise k st))
  run p calls (While c l body after) k st =
      again (λ turn st. test p c.condition st (passes l (run p calls body (loop_goes k after turn) st)) (passes after (k.next st))) st
  run p calls (Do keyword body c back semicolon after) k st =
      again (λ turn st. run p calls body (loop_goes k after (until p c.condition back after k turn)) st) st
  run p calls (For head l body after) k st =
      with_state (assigned_if_any p head.first st)
      (again (λ turn st. test_if_any p head.condition st (passes l (run p calls body (loop_goes k after (next_of_for p head.step turn)) st)) (passes after (k.next st))))
  run p calls (Break keyword semicolon) k st = k.break st
  run p calls (Continue keyword semicolon) k st = k.continue st
  run p calls (Return keyword None semicolon) k st = k.return (initial st.frame.result) st
  run p calls (Return keyword (Some e) semicolon) k st =
      with_value (converted_answer (type_at e) st.frame.result (value p e st)) (λ x. k.return x st)

  -- one after the other
  pub run_all : TypedProgram Label → (Calling → Rest) → Stmts Label → Goes → State → Rest
  run_all p calls NoStmts k st = k.next st
  run_all p calls (Then earlier last) k st = run_all p calls earlier (record k { next = run p calls last k }) st

-- A body that runs off its end returns 0 or null, as one does that is left in no other way.
abbrev pub body_goes : (w.Value → State → Rest) → Goes
body_goes return = record {
  next = λ st. return (initial st.frame.result) st;
  break = λ st. return (initial st.frame.result) st;
  continue = λ st. return (initial st.frame.result) st;
  return = return;
}

abbrev pub call_of : TypedProgram Label → Option (Function Label) → (Calling → Rest) → Calling → Rest
call_of p None calls c = only (Stops [] Ended)
call_of p (Some f) calls c = passes f.label (with_state (prepared p f (entered p f c.arguments c.from)) (run_all p calls f.body (body_goes c.return)))

-- a call, given what the calls in it do: the function's label, its locals, its body, and what goes on with the result
abbrev pub call : TypedProgram Label → (Calling → Rest) → Calling → Rest
call p calls c = call_of p (slice_get p.functions c.function) calls c

unfoldable pub calls : TypedProgram Label → Calling → Rest
calls p = again (call p)

-- ---- a whole run

abbrev pub global_cells : {L : Type 0} → TypedProgram L → Global → ℕ → List Cell
global_cells p g n = filled (kinds_of p.structs (variable_type p n)) (numbers_of g.initialiser) 0

-- the blocks of the globals, in the order of the text
abbrev pub global_blocks : {L : Type 0} → TypedProgram L → List Item → List (List Cell)
global_blocks p [] = []
global_blocks p (GlobalItem g n ∷ items) = global_cells p g n ∷ global_blocks p items
global_blocks p (StructItem s ∷ items) = global_blocks p items
global_blocks p (PrototypeItem q ∷ items) = global_blocks p items
global_blocks p (FunctionItem f ∷ items) = global_blocks p items

-- Before `main` is called there are the globals. They are made by call 0, and `main` is call 1.
abbrev pub beginning : {L : Type 0} → TypedProgram L → List ℕ → State
beginning p script = record {
  memory = with_blocks 0 (global_blocks p p.items) (record { cells = []; blocks = [] });
  made = 1;
  frame = record { blocks = 0; cells = 0; call = 0; depth = 0; result = Void; scalars = [] };
  script = script;
}

-- the meaning of a program: what is told of its run on a port script, for each budget of labels
abbrev pub source : TypedProgram Label → Source FaultKind
source p script = calls p (record { function = p.main; arguments = []; from = beginning p script; return = λ x st. only (Stops [] Ended) })
