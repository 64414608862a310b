-- What an evaluator does with its first work moves the rest of the run by just what is seen of it.
use Rattle.std.proofs.Common.{◌≡◌, Bool, true, false, ℕ, List, [], ◌∷◌, Option, Some, None, Result, Ok, Err, refl, ap, ◌∙◌}
use Rattle.std.specs.Prelude.{slice_get}
use Rattle.cerco_base.specs.Events.{Ended}
use Rattle.cerco_traces.specs.Preservation.{Stops, Faults}
use Rattle.cerco_base.specs.declared.events.Event.TheVariants as event
use Rattle.cerco_base.specs.declared.events.Label.{Label}
use Rattle.cerco_base.specs.declared.events.Port.TheVariants.{P1}
use Rattle.cerco_base.specs.declared.events.FaultKind.{FaultKind}
use Rattle.clight_syntax.specs.TypedTrees as t
use Rattle.clight_syntax.specs.TypedTrees.{Cond, Truth, InParentheses, Not, Both, Either, Stmt, Empty, Block, Assign, ReadPort, WritePort, CallOf, If, IfElse, While, Do, For, Break, Continue, Return, Stmts, NoStmts, Then, Function, TypedProgram}
use Rattle.clight_values.specs.declared.value.Value.{Value}
use Rattle.clight_values.specs.declared.value.Value.TheVariants as v
use Rattle.clight_values.specs.Memory.{Answer, State}
use Rattle.clight_meaning.specs.Meaning.{Rest, only, says, passes, again, with_value, with_values, with_state, with_truth, with_byte, test, test_if_any, Calling, returned, taken, result_type, Goes, run, run_all, call_of, call, calls}
use Rattle.clight_meaning.specs.Code.Evaluation.{Way, ByBreak, ByContinue, ByReturn, Waiting, Chooser, Negation, AndThen, OrElse, Work, Run, All, Turn', Check, Outcome', Wait, Pass, Caller, Take, Leave, Faulty, run_list, loop_of, onward, standing, rest_of, Move, Silent, Says, SaysAndFails, Fails, Ends, quietly, listed, after_read, written, called_of, called, for_turned, for_begun, given_back, ran, turned, broken, chosen, decided, comes_out, outcome_of, checked, left_by, begun, stepped}
use Rattle.clight_meaning.proofs.Agreeing.{calls_unfold, for_turn, while_unfolds, do_unfolds, for_unfolds}

-- what is seen of the move comes before the rest from there on
abbrev pub Moves : TypedProgram Label → Move → Rest → Type 0
Moves p (Silent ws st) before = before ≡ rest_of p ws st
Moves p (Says (event.Label l) ws st) before = before ≡ passes l (rest_of p ws st)
Moves p (Says (event.Read port byte) ws st) before = before ≡ says (event.Read port byte) (rest_of p ws st)
Moves p (Says (event.Write port byte) ws st) before = before ≡ says (event.Write port byte) (rest_of p ws st)
Moves p (SaysAndFails (event.Label l) kind) before = before ≡ passes l (only (Faults [] kind))
Moves p (SaysAndFails (event.Read port byte) kind) before = before ≡ says (event.Read port byte) (only (Faults [] kind))
Moves p (SaysAndFails (event.Write port byte) kind) before = before ≡ says (event.Write port byte) (only (Faults [] kind))
Moves p (Fails kind) before = before ≡ only (Faults [] kind)
Moves p Ends before = before ≡ only (Stops [] Ended)

-- ---- lists of statements

pub run_listed : (p : TypedProgram Label) (ss : Stmts Label) (later : List (Stmt Label)) (k : Goes) → run_all p (calls p) ss (record k { next = run_list p later k }) ≡ run_list p (listed ss later) k
run_listed p NoStmts later k = refl
run_listed p (Then ss s) later k = run_listed p ss (s ∷ later) k

-- ---- answers

module _ (p : TypedProgram Label) (ws : List Work) where
  abbrev k : Goes
  k = (standing p ws).goes

  moves_quietly : (r : Result State FaultKind) → Moves p (quietly ws r) (with_state r k.next)
  moves_quietly (Err f) = refl
  moves_quietly (Ok st) = refl

  moves_read : (byte : ℕ) (r : Result State FaultKind) → Moves p (after_read byte ws r) (says (event.Read P1 byte) (with_state r k.next))
  moves_read byte (Err f) = refl
  moves_read byte (Ok new) = refl

  moves_written : (st : State) (a : Answer) → Moves p (written ws st a) (with_byte a (λ b. says (event.Write P1 b) (k.next st)))
  moves_written st (Err f) = refl
  moves_written st (Ok (v.Integer n)) = refl
  moves_written st (Ok v.Null) = refl
  moves_written st (Ok (v.Pointer at)) = refl

  -- the call by its parts
  abbrev the_call : t.Call → Label → State → List Value → Calling
  the_call c back st xs = record {
    function = c.function;
    arguments = xs;
    from = st;
    return = λ x st'. passes back (with_state (taken p c.target (result_type p c.function) x (returned st.frame st')) k.next);
  }

  -- the locals of a function, and its body
  moves_begun : (f : Function Label) (vs : List Work) (r : Result State FaultKind) → Moves p (begun f vs r) (passes f.label (with_state r (run_all p (calls p) f.body (standing p vs).goes)))
  moves_begun f vs (Err x) = refl
  moves_begun f vs (Ok st) = ap (λ (g : State → Rest). passes f.label (g st)) (run_listed p f.body [] (standing p vs).goes)

  moves_called_of : (c : t.Call) (back : Label) (st : State) (xs : List Value) (o : Option (Function Label)) → Moves p (called_of p c back ws st xs o) (call_of p o (calls p) (the_call c back st xs))
  moves_called_of c back st xs None = refl
  moves_called_of c back st xs (Some f) = moves_begun f _ _

  -- the same of an equal rest
  pub moves_as : (m : Move) (before next : Rest) → next ≡ before → Moves p m before → Moves p m next
  moves_as (Silent vs st) before next e h = e ∙ h
  moves_as (Says (event.Label l) vs st) before next e h = e ∙ h
  moves_as (Says (event.Read port byte) vs st) before next e h = e ∙ h
  moves_as (Says (event.Write port byte) vs st) before next e h = e ∙ h
  moves_as (SaysAndFails (event.Label l) kind) before next e h = e ∙ h
  moves_as (SaysAndFails (event.Read port byte) kind) before next e h = e ∙ h
  moves_as (SaysAndFails (event.Write port byte) kind) before next e h = e ∙ h
  moves_as (Fails kind) before next e h = e ∙ h
  moves_as Ends before next e h = e ∙ h

  moves_called : (c : t.Call) (back : Label) (st : State) (r : Result (List Value) FaultKind) → Moves p (called p c back ws st r) (with_values r (λ xs. calls p (the_call c back st xs)))
  moves_called c back st (Err f) = refl
  moves_called c back st (Ok xs) =
      moves_as (called_of p c back ws st xs (slice_get p.functions c.function)) (call p (calls p) (the_call c back st xs)) (calls p (the_call c back st xs))
      (calls_unfold p (the_call c back st xs)) (moves_called_of c back st xs (slice_get p.functions c.function))

  moves_given_back : (st : State) (a : Answer) → Moves p (given_back ws st a) (with_value a (λ x. k.return x st))
  moves_given_back st (Err f) = refl
  moves_given_back st (Ok x) = refl

  moves_outcome : (st : State) (r : Result Bool FaultKind) → Moves p (outcome_of ws st r) (with_truth r ((standing p ws).outcome true st) ((standing p ws).outcome false st))
  moves_outcome st (Err f) = refl
  moves_outcome st (Ok true) = refl
  moves_outcome st (Ok false) = refl

  -- ---- loops

  moves_while : (c : t.Test Label) (l : Label) (body : Stmt Label) (after : Label) (st : State)
      → run p (calls p) (While c l body after) k st ≡ rest_of p (Check c.condition ∷ Wait (Chooser (While c l body after)) ∷ ws) st
  moves_while c l body after st = while_unfolds p c.condition l body after k st

  moves_for_turned : (head : t.ForHead Label) (l : Label) (body : Stmt Label) (after : Label) (c : Option (Cond Label)) (st : State)
      → Moves p (for_turned c l body (For head l body after) ws st)
      (test_if_any p c st (passes l (run p (calls p) body (loop_of p (For head l body after) k) st)) (passes after (k.next st)))
  moves_for_turned head l body after None st = refl
  moves_for_turned head l body after (Some c) st = refl

  moves_for : (head : t.ForHead Label) (l : Label) (body : Stmt Label) (after : Label) (r : Result State FaultKind)
      → Moves p (for_begun head.condition l body (For head l body after) ws r) (with_state r (again (for_turn p (calls p) head.condition head.step l body after k)))
  moves_for head l body after (Err f) = refl
  moves_for head l body after (Ok st) =
      moves_as (for_turned head.condition l body (For head l body after) ws st) _ _ (for_unfolds p head.condition head.step l body after k st)
      (moves_for_turned head l body after head.condition st)

  -- ---- statements

  pub moves_ran : (s : Stmt Label) (st : State) → Moves p (ran p s ws st) (run p (calls p) s k st)
  moves_ran (Empty a) st = refl
  moves_ran (Block l body r) st = ap (λ (g : State → Rest). g st) (run_listed p body [] k)
  moves_ran (Assign a q) st = moves_quietly _
  moves_ran (ReadPort x q port a) st = moves_read _ _
  moves_ran (WritePort port q e a) st = moves_written st _
  moves_ran (CallOf c a back) st = moves_called c back st _
  moves_ran (If c one arm other) st = refl
  moves_ran (IfElse c one arm q other otherwise) st = refl
  moves_ran (While c l body after) st = moves_while c l body after st
  moves_ran (Do q body c back a after) st = do_unfolds p body c.condition back after k st
  moves_ran (For head l body after) st = moves_for head l body after _
  moves_ran (Break q a) st = refl
  moves_ran (Continue q a) st = refl
  moves_ran (Return q None a) st = refl
  moves_ran (Return q (Some e) a) st = moves_given_back st _

  moves_chosen : (s : Stmt Label) (b : Bool) (st : State) → Moves p (chosen s b ws st) ((onward p (Wait (Chooser s)) (standing p ws)).outcome b st)
  moves_chosen (If c one arm other) true st = refl
  moves_chosen (If c one arm other) false st = refl
  moves_chosen (IfElse c one arm q other otherwise) true st = refl
  moves_chosen (IfElse c one arm q other otherwise) false st = refl
  moves_chosen (While c l body after) true st = refl
  moves_chosen (While c l body after) false st = refl
  moves_chosen (Do q body c back a after) true st = ap (passes back) (do_unfolds p body c.condition back after k st)
  moves_chosen (Do q body c back a after) false st = refl
  moves_chosen (For head l body after) true st = refl
  moves_chosen (For head l body after) false st = refl
  moves_chosen s true st = refl
  moves_chosen s false st = refl

  moves_decided : (w : Waiting) (b : Bool) (st : State) → Moves p (decided w b ws st) ((onward p (Wait w) (standing p ws)).outcome b st)
  moves_decided (Chooser s) b st = moves_chosen s b st
  moves_decided Negation b st = refl
  moves_decided (AndThen t f c) true st = refl
  moves_decided (AndThen t f c) false st = refl
  moves_decided (OrElse t f c) true st = refl
  moves_decided (OrElse t f c) false st = refl

  moves_checked : (c : Cond Label) (st : State) → Moves p (checked p c ws st) (test p c st ((standing p ws).outcome true st) ((standing p ws).outcome false st))
  moves_checked (Truth e) st = moves_outcome st _
  moves_checked (InParentheses l c r) st = refl
  moves_checked (Not at c) st = refl
  moves_checked (Both c at t f d) st = refl
  moves_checked (Either c at t f d) st = refl

  moves_comes_out : (b : Bool) (w : Work) (st : State) → Moves p (comes_out b w ws st) ((onward p w (standing p ws)).outcome b st)
  moves_comes_out b (Wait w) st = moves_decided w b st
  moves_comes_out b w st = refl

  -- where a loop goes on after its body
  moves_next : (s : Stmt Label) (st : State) → Moves p (turned p s ws st) ((loop_of p s k).next st)
  moves_next (While c l body after) st = moves_while c l body after st
  moves_next (Do q body c back a after) st = refl
  moves_next (For head l body after) st = moves_for head l body after _
  moves_next s st = refl

  moves_continued : (s : Stmt Label) (st : State) → Moves p (turned p s ws st) ((loop_of p s k).continue st)
  moves_continued (While c l body after) st = moves_while c l body after st
  moves_continued (Do q body c back a after) st = refl
  moves_continued (For head l body after) st = moves_for head l body after _
  moves_continued s st = refl

  moves_broken : (s : Stmt Label) (st : State) → Moves p (broken s ws st) ((loop_of p s k).break st)
  moves_broken (While c l body after) st = refl
  moves_broken (Do q body c back a after) st = refl
  moves_broken (For head l body after) st = refl
  moves_broken s st = refl

  moves_returned : (s : Stmt Label) (x : Value) (st : State) → (loop_of p s k).return x st ≡ k.return x st
  moves_returned (While c l body after) x st = refl
  moves_returned (Do q body c back a after) x st = refl
  moves_returned (For head l body after) x st = refl
  moves_returned s x st = refl

  moves_left : (way : Way) (w : Work) (st : State) → Moves p (left_by p way w ws st) (rest_of p (Leave way ∷ w ∷ ws) st)
  moves_left ByBreak (Turn' s) st = moves_broken s st
  moves_left ByContinue (Turn' s) st = moves_continued s st
  moves_left (ByReturn x) (Turn' s) st = moves_returned s x st
  moves_left ByBreak w st = refl
  moves_left ByContinue w st = refl
  moves_left (ByReturn x) w st = refl

pub moves_step : (p : TypedProgram Label) (ws : List Work) (st : State) → Moves p (stepped p ws st) (rest_of p ws st)
moves_step p [] st = refl
moves_step p (Run s ∷ ws) st = moves_ran p ws s st
moves_step p (All [] ∷ ws) st = refl
moves_step p (All (s ∷ ss) ∷ ws) st = moves_ran p (All ss ∷ ws) s st
moves_step p (Turn' s ∷ ws) st = moves_next p ws s st
moves_step p (Check c ∷ ws) st = moves_checked p ws c st
moves_step p (Outcome' b ∷ []) st = refl
moves_step p (Outcome' b ∷ w ∷ ws) st = moves_comes_out p ws b w st
moves_step p (Wait w ∷ ws) st = refl
moves_step p (Pass l ∷ ws) st = refl
moves_step p (Caller target R back frame ∷ ws) st = refl
moves_step p (Take target R x ∷ ws) st = moves_quietly p ws _
moves_step p (Leave ByBreak ∷ []) st = refl
moves_step p (Leave ByContinue ∷ []) st = refl
moves_step p (Leave (ByReturn x) ∷ []) st = refl
moves_step p (Leave way ∷ w ∷ ws) st = moves_left p ws way w st
moves_step p (Faulty kind ∷ ws) st = refl
