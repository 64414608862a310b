-- The meaning of Cminor (CerCo, deliverable 3.3; the statements and operators of ISO/IEC 9899:1999, 6.5 and 6.8): small steps over
-- what each open call has left to do, over its variables, one result, and the world. A call of a function that isn't there stays
-- where it is, and so does a break that no loop takes, so every program has a meaning.
use Rattle.std.specs.Prelude.{ℕ, List, [], ◌∷◌, ◌++◌, length, Option, Some, None, slice_get, Bool, true, false}
use Rattle.cerco_base.specs.declared.events.Label.{Label}
use Rattle.cerco_base.specs.declared.events.Event.TheVariants as event
use Rattle.cerco_base.specs.declared.events.Port.TheVariants.{P1}
use Rattle.cerco_base.specs.Events.{next_reading}
use Rattle.cerco_traces.specs.Systems.{System}
use Rattle.cerco_traces.specs.Worlds.{World, shown, after_reading, start_world}
use Rattle.cerco_middle.specs.declared.operators.Held.{Held}
use Rattle.cerco_middle.specs.Operators.{word_bytes, as_word, kept, held_at, held_in, held_addresses, negated, complement, shifted_left, shifted_right, operator_value, low_byte, branch}
use Rattle.cerco_middle.specs.Calls.{Values, all_zero, handed_over, first_variables, assigned, returned, is_over}
use Rattle.cerco_middle.specs.Cminor.Trees.{CmExpr, Const, Var, Load, Neg, Complement, Narrow, Bin, Shl, Shr, CmCond, Test, Not, Both, Either, CmStmt, Seq, Set, Store, ReadPort, WritePort, Call, If, Loop, Do, Break, Continue, Return, CmStmts, NoStmts, Then, CmFunction, Cminor, held_parameters}

-- ---- expressions

abbrev pub value : CmExpr → Values → World → ℕ
value (Const number) vs w = as_word number
value (Var x) vs w = vs x
value (Load h e) vs w = held_at h w (value e vs w)
value (Neg e) vs w = negated word_bytes (value e vs w)
value (Complement e) vs w = complement word_bytes (value e vs w)
value (Narrow h e) vs w = kept h (value e vs w)
value (Bin o a b) vs w = operator_value word_bytes o (value a vs w) (value b vs w)
value (Shl k e) vs w = shifted_left word_bytes k (value e vs w)
value (Shr k arithmetic e) vs w = shifted_right word_bytes k arithmetic (value e vs w)

abbrev pub values : List CmExpr → Values → World → List ℕ
values [] vs w = []
values (e ∷ es) vs w = value e vs w ∷ values es vs w

-- the addresses that are read for a value
abbrev pub reads : CmExpr → Values → World → List ℕ
reads (Const number) vs w = []
reads (Var x) vs w = []
reads (Load h e) vs w = reads e vs w ++ held_addresses h (value e vs w)
reads (Neg e) vs w = reads e vs w
reads (Complement e) vs w = reads e vs w
reads (Narrow h e) vs w = reads e vs w
reads (Bin o a b) vs w = reads a vs w ++ reads b vs w
reads (Shl k e) vs w = reads e vs w
reads (Shr k arithmetic e) vs w = reads e vs w

abbrev pub all_reads : List CmExpr → Values → World → List ℕ
all_reads [] vs w = []
all_reads (e ∷ es) vs w = reads e vs w ++ all_reads es vs w

abbrev pub reads_if_any : Option CmExpr → Values → World → List ℕ
reads_if_any None vs w = []
reads_if_any (Some e) vs w = reads e vs w

-- ---- what is left to do in a call

pub data Work : Type 0 where
  -- the body has ended
  Done : Work
  Execute : (s : CmStmt) (w : Work) → Work
  ExecuteAll : (statements : CmStmts) (w : Work) → Work
  -- a label is due
  Pass : (l : Label) (w : Work) → Work
  -- the result, which is held so, is taken into a variable
  Take : (held : Held) (variable : ℕ) (w : Work) → Work
  -- a condition, with what is left to do where it is true and where it is false
  Check : (c : CmCond) (on_true on_false : Work) → Work
  -- a loop, at its step and at its condition
  Step : (c : Option CmCond) (body_label : Label) (body step : CmStmt) (exit_label : Label) (w : Work) → Work
  Turn : (c : Option CmCond) (body_label : Label) (body step : CmStmt) (exit_label : Label) (w : Work) → Work
  -- a loop with its condition after the body, at the condition
  Again : (c : CmCond) (repeat_label : Label) (body : CmStmt) (exit_label : Label) (w : Work) → Work

-- what is left to do at a break: the innermost loop is left by its exit label
abbrev pub broken : Work → Work
broken Done = Done
broken (Execute s w) = Execute Break w
broken (ExecuteAll statements w) = Execute Break w
broken (Pass l w) = Execute Break w
broken (Take h x w) = Execute Break w
broken (Check c on_true on_false) = Execute Break (Check c on_true on_false)
broken (Step c l body step m w) = Pass m w
broken (Turn c l body step m w) = Pass m w
broken (Again c l body m w) = Pass m w

-- what is left to do at a continue: the innermost loop goes on after its body
abbrev pub continued : Work → Work
continued Done = Done
continued (Execute s w) = Execute Continue w
continued (ExecuteAll statements w) = Execute Continue w
continued (Pass l w) = Execute Continue w
continued (Take h x w) = Execute Continue w
continued (Check c on_true on_false) = Execute Continue (Check c on_true on_false)
continued (Step c l body step m w) = Step c l body step m w
continued (Turn c l body step m w) = Turn c l body step m w
continued (Again c l body m w) = Again c l body m w

-- an open call: its function, what is left to do, and its variables
pub record CmCall : Type 0 where
  pub of : CmFunction
  pub work : Work
  pub variables : Values

-- The running call is the first one. There is none when `main` has returned.
pub record CmState : Type 0 where
  pub calls : List CmCall
  pub result : ℕ
  pub world : World

-- a call of f has this left to do, above other calls
abbrev pub left_to_do : CmFunction → Work → Values → List CmCall → ℕ → World → CmState
left_to_do f work vs cs r w = record { calls = (record { of = f; work = work; variables = vs }) ∷ cs; result = r; world = w }

-- a new call of a function
abbrev pub first_call : CmFunction → Values → CmCall
first_call g slots = record { of = g; work = Pass g.label (Execute g.body Done); variables = first_variables g.held g.params slots }

-- the result goes into the target, where there are both
abbrev pub taken : Option Held → Option ℕ → Work → Work
taken (Some h) (Some x) work = Take h x work
taken _ _ work = work

-- a call of the function with these arguments, after whose return a label is due
abbrev pub called : Option CmFunction → List ℕ → Option ℕ → Label → CmState → CmFunction → Work → Values → List CmCall → ℕ → World → CmState
called None arguments target after stays f work vs cs r w = stays
called (Some g) arguments target after stays f work vs cs r w = record {
  calls = first_call g (handed_over (held_parameters g) 0 arguments all_zero) ∷ (record { of = f; work = Pass after (taken g.result target work); variables = vs }) ∷ cs;
  result = r;
  world = w;
}

-- the call returns: with 0 where it has a result and no value
abbrev pub returns : CmFunction → Option CmExpr → Values → List CmCall → ℕ → World → CmState
returns f None vs cs r w = record { calls = cs; result = returned f.result 0 r; world = w }
returns f (Some e) vs cs r w = record { calls = cs; result = returned f.result (value e vs w) r; world = w }

-- ---- steps

-- the step of a statement, with what is left to do after it
abbrev pub stmt_step : List CmFunction → CmStmt → Work → CmFunction → Values → List CmCall → ℕ → World → CmState
stmt_step fs (Seq statements) work f vs cs r w = left_to_do f (ExecuteAll statements work) vs cs r w
stmt_step fs (Set x e) work f vs cs r w = left_to_do f work (assigned f.held x (value e vs w) vs) cs r w
stmt_step fs (Store h a e) work f vs cs r w = left_to_do f work vs cs r (held_in h w (value a vs w) (value e vs w))
stmt_step fs (ReadPort x) work f vs cs r w = left_to_do f work (assigned f.held x (next_reading w.script) vs) cs r (after_reading w)
stmt_step fs (WritePort e) work f vs cs r w = left_to_do f work vs cs r (shown (event.Write P1 (low_byte (value e vs w))) w)
stmt_step fs (Call target g es after) work f vs cs r w =
    called (slice_get fs g) (values es vs w) target after (left_to_do f (Execute (Call target g es after) work) vs cs r w) f work vs cs r w
stmt_step fs (If c on_true a on_false b) work f vs cs r w = left_to_do f (Check c (Pass on_true (Execute a work)) (Pass on_false (Execute b work))) vs cs r w
stmt_step fs (Loop c l body step m) work f vs cs r w = left_to_do f (Turn c l body step m work) vs cs r w
stmt_step fs (Do body c l m) work f vs cs r w = left_to_do f (Execute body (Again c l body m work)) vs cs r w
stmt_step fs Break work f vs cs r w = left_to_do f (broken work) vs cs r w
stmt_step fs Continue work f vs cs r w = left_to_do f (continued work) vs cs r w
stmt_step fs (Return e) work f vs cs r w = returns f e vs cs r w

abbrev pub all_step : CmStmts → Work → Work
all_step NoStmts work = work
all_step (Then earlier s) work = ExecuteAll earlier (Execute s work)

abbrev pub check_step : CmCond → Work → Work → CmFunction → Values → List CmCall → ℕ → World → CmState
check_step (Test e) one other f vs cs r w = left_to_do f (branch (value e vs w) one other) vs cs r w
check_step (Not c) one other f vs cs r w = left_to_do f (Check c other one) vs cs r w
check_step (Both a on_true on_false b) one other f vs cs r w = left_to_do f (Check a (Pass on_true (Check b one other)) (Pass on_false other)) vs cs r w
check_step (Either a on_true on_false b) one other f vs cs r w = left_to_do f (Check a (Pass on_true one) (Pass on_false (Check b one other))) vs cs r w

-- a loop without a condition goes on
abbrev pub turn_step : Option CmCond → Work → Work → Work
turn_step None one other = one
turn_step (Some c) one other = Check c one other

abbrev pub work_step : List CmFunction → Work → CmFunction → Values → List CmCall → ℕ → World → CmState
work_step fs Done f vs cs r w = returns f None vs cs r w
work_step fs (Execute s work) f vs cs r w = stmt_step fs s work f vs cs r w
work_step fs (ExecuteAll statements work) f vs cs r w = left_to_do f (all_step statements work) vs cs r w
work_step fs (Pass l work) f vs cs r w = left_to_do f work vs cs r (shown (event.Label l) w)
work_step fs (Take h x work) f vs cs r w = left_to_do f work (assigned f.held x (kept h r) vs) cs r w
work_step fs (Check c one other) f vs cs r w = check_step c one other f vs cs r w
work_step fs (Step c l body step m work) f vs cs r w = left_to_do f (Execute step (Turn c l body step m work)) vs cs r w
work_step fs (Turn c l body step m work) f vs cs r w = left_to_do f (turn_step c (Pass l (Execute body (Step c l body step m work))) (Pass m work)) vs cs r w
work_step fs (Again c l body m work) f vs cs r w = left_to_do f (Check c (Pass l (Execute body (Again c l body m work))) (Pass m work)) vs cs r w

abbrev pub step : List CmFunction → List CmCall → CmState → CmState
step fs [] s = s
step fs (c ∷ cs) s = work_step fs c.work c.of c.variables cs s.result s.world

-- ---- what a step touches, and where a label is due

abbrev pub stmt_touched : CmStmt → Values → World → List ℕ
stmt_touched (Set x e) vs w = reads e vs w
stmt_touched (Store h a e) vs w = reads a vs w ++ (reads e vs w ++ held_addresses h (value a vs w))
stmt_touched (WritePort e) vs w = reads e vs w
stmt_touched (Call target g es after) vs w = all_reads es vs w
stmt_touched (Return e) vs w = reads_if_any e vs w
stmt_touched _ vs w = []

abbrev pub check_touched : CmCond → Values → World → List ℕ
check_touched (Test e) vs w = reads e vs w
check_touched _ vs w = []

abbrev pub work_touched : Work → Values → World → List ℕ
work_touched (Execute s work) vs w = stmt_touched s vs w
work_touched (Check c one other) vs w = check_touched c vs w
work_touched _ vs w = []

abbrev pub touched : List CmCall → World → List ℕ
touched [] w = []
touched (c ∷ cs) w = work_touched c.work c.variables w

abbrev pub work_due : Work → Bool
work_due (Pass l work) = true
work_due _ = false

abbrev pub due : List CmCall → Bool
due [] = false
due (c ∷ cs) = work_due c.work

-- ---- the program

abbrev pub main_call : Option CmFunction → List CmCall
main_call None = []
main_call (Some f) = first_call f all_zero ∷ []

abbrev pub cminor : Cminor → System CmState
cminor p = record {
  start = λ script. record { calls = main_call (slice_get p.functions p.main); result = 0; world = start_world p.start script };
  step = λ s. step p.functions s.calls s;
  events = λ s. s.world.made;
  due = λ s. due s.calls;
  ended = λ s. is_over s.calls;
  touched = λ s. touched s.calls s.world;
  opened = λ s. length s.calls;
}
