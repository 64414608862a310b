-- A run that may pass n labels passes exactly n where it stops before one, and no more elsewhere.
use Rattle.std.proofs.Common.{◌≡◌, Bool, true, false, ℕ, zero, suc, ◌<◌, ◌≤◌, List, [], ◌∷◌, Option, Some, None, Result, Ok, Err, refl, sym, subst, arith}
use Rattle.std.specs.Prelude.{slice_get}
use Rattle.cerco_base.specs.Events.{label_count, Stopped, Ended}
use Rattle.cerco_traces.specs.Preservation.{Outcome, Stops, Faults, and_then}
use Rattle.cerco_base.specs.declared.events.Event.{Event}
use Rattle.cerco_base.specs.declared.events.Event.TheVariants as event
use Rattle.cerco_base.specs.declared.events.Label.{Label}
use Rattle.cerco_base.specs.declared.events.FaultKind.{FaultKind}
use Rattle.clight_syntax.specs.TypedTrees.{Cond, Truth, InParentheses, Not, Both, Either, Stmt, Empty, Block, Assign, ReadPort, WritePort, CallOf, If, IfElse, While, Do, For, Break, Continue, Return, Stmts, NoStmts, Then, Function, TypedProgram}
use Rattle.clight_values.specs.declared.value.Value.{Value}
use Rattle.clight_values.specs.declared.value.Value.TheVariants as v
use Rattle.clight_values.specs.Memory.{Answer, State}
use Rattle.clight_meaning.specs.Meaning.{Rest, only, says, passes, again, with_value, with_values, with_state, with_truth, with_byte, test, test_if_any, Calling, Goes, loop_goes, until, next_of_for, run, run_all, body_goes, prepared, entered, beginning, call_of, calls}
use Rattle.meaning_laws.specs.Counting.{CountsLabels, StopsAreCounted}
use Rattle.clight_meaning.proofs.Agreeing.{calls_unfold, while_turn, do_turn, for_turn, while_unfolds, do_unfolds, for_unfolds}

-- the labels are counted below a budget
record Counted (m : ℕ) (r : Rest) : Type 0 where
  at : (n : ℕ) → n < m → CountsLabels n (r n)

less : (j m : ℕ) (r : Rest) → j ≤ m → Counted m r → Counted j r
less j m r le h = record { at = λ n lt. h.at n (omega arith) }

none : (r : Rest) → Counted 0 r
none r = record { at = λ n lt. absurd (omega arith) }

fault : (m : ℕ) (k : FaultKind) → Counted m (only (Faults [] k))
fault m k = record { at = λ n lt. omega arith }

ended : (m : ℕ) → Counted m (only (Stops [] Ended))
ended m = record { at = λ n lt. omega arith }

-- a label before counts one more
label_before : (l : Label) (n : ℕ) (o : Outcome FaultKind) → CountsLabels n o → CountsLabels (suc n) (and_then (event.Label l ∷ []) o)
label_before l n (Stops es Stopped) h = omega arith
label_before l n (Stops es Ended) h = omega arith
label_before l n (Faults es k) h = omega arith

-- a port's event is none
count_behind : (e : Event) (n : ℕ) (o : Outcome FaultKind) → label_count (e ∷ []) ≡ 0 → CountsLabels n o → CountsLabels n (and_then (e ∷ []) o)
count_behind (event.Label l) n o silent h = absurd (omega arith)
count_behind (event.Read port byte) n (Stops es Stopped) silent h = h
count_behind (event.Read port byte) n (Stops es Ended) silent h = h
count_behind (event.Read port byte) n (Faults es k) silent h = h
count_behind (event.Write port byte) n (Stops es Stopped) silent h = h
count_behind (event.Write port byte) n (Stops es Ended) silent h = h
count_behind (event.Write port byte) n (Faults es k) silent h = h

passes_at : (l : Label) (m : ℕ) (r : Rest) → Counted m r → (n : ℕ) → n < suc m → CountsLabels n (passes l r n)
passes_at l m r h zero lt = refl
passes_at l m r h (suc n) lt = label_before l n (r n) (h.at n (omega arith))

passed : (l : Label) (m : ℕ) (r : Rest) → Counted m r → Counted (suc m) (passes l r)
passed l m r h = record { at = passes_at l m r h }

passes_counted : (l : Label) (m : ℕ) (r : Rest) → Counted m r → Counted m (passes l r)
passes_counted l m r h = less m (suc m) _ (omega arith) (passed l m r h)

says_counted : (e : Event) (m : ℕ) (r : Rest) → label_count (e ∷ []) ≡ 0 → Counted m r → Counted m (says e r)
says_counted e m r silent h = record { at = λ n lt. count_behind e n (r n) silent (h.at n lt) }

value_counted : (m : ℕ) (a : Answer) (g : Value → Rest) → ((x : Value) → Counted m (g x)) → Counted m (with_value a g)
value_counted m (Ok x) g h = h x
value_counted m (Err k) g h = fault m k

values_counted : (m : ℕ) (a : Result (List Value) FaultKind) (g : List Value → Rest) → ((xs : List Value) → Counted m (g xs)) → Counted m (with_values a g)
values_counted m (Ok xs) g h = h xs
values_counted m (Err k) g h = fault m k

state_counted : (m : ℕ) (a : Result State FaultKind) (g : State → Rest) → ((st : State) → Counted m (g st)) → Counted m (with_state a g)
state_counted m (Ok st) g h = h st
state_counted m (Err k) g h = fault m k

byte_counted : (m : ℕ) (a : Answer) (g : ℕ → Rest) → ((x : ℕ) → Counted m (g x)) → Counted m (with_byte a g)
byte_counted m (Err k) g h = fault m k
byte_counted m (Ok (v.Integer n)) g h = h n
byte_counted m (Ok v.Null) g h = fault m _
byte_counted m (Ok (v.Pointer at)) g h = fault m _

truth_counted : (m : ℕ) (a : Result Bool FaultKind) (r s : Rest) → Counted m r → Counted m s → Counted m (with_truth a r s)
truth_counted m (Err k) r s h i = fault m k
truth_counted m (Ok true) r s h i = h
truth_counted m (Ok false) r s h i = i

test_counted : (p : TypedProgram Label) (c : Cond Label) (m : ℕ) (st : State) (a b : Rest) → Counted m a → Counted m b → Counted m (test p c st a b)
test_counted p (Truth e) m st a b h i = truth_counted m _ _ _ h i
test_counted p (InParentheses l c r) m st a b h i = test_counted p c m st a b h i
test_counted p (Not at c) m st a b h i = test_counted p c m st b a i h
test_counted p (Both x at t f y) m st a b h i = test_counted p x m st _ _ (passes_counted t m _ (test_counted p y m st a b h i)) (passes_counted f m _ i)
test_counted p (Either x at t f y) m st a b h i = test_counted p x m st _ _ (passes_counted t m _ h) (passes_counted f m _ (test_counted p y m st a b h i))

test_if_any_counted : (p : TypedProgram Label) (c : Option (Cond Label)) (m : ℕ) (st : State) (a b : Rest) → Counted m a → Counted m b → Counted m (test_if_any p c st a b)
test_if_any_counted p None m st a b h i = h
test_if_any_counted p (Some c) m st a b h i = test_counted p c m st a b h i

-- the same of what goes on
record CountedGoes (m : ℕ) (k : Goes) : Type 0 where
  next : (st : State) → Counted m (k.next st)
  break : (st : State) → Counted m (k.break st)
  continue : (st : State) → Counted m (k.continue st)
  return : (x : Value) (st : State) → Counted m (k.return x st)

goes_less : (j m : ℕ) (k : Goes) → j ≤ m → CountedGoes m k → CountedGoes j k
goes_less j m k le h = record {
  next = λ st. less j m _ le (h.next st);
  break = λ st. less j m _ le (h.break st);
  continue = λ st. less j m _ le (h.continue st);
  return = λ x st. less j m _ le (h.return x st);
}

loop_counted : (l : Label) (m : ℕ) (k : Goes) (g : State → Rest) → CountedGoes m k → ((st : State) → Counted m (g st)) → CountedGoes m (loop_goes k l g)
loop_counted l m k g h i = record { next = i; continue = i; break = λ st. passes_counted l m _ (h.next st); return = h.return }

body_counted : (m : ℕ) (r : Value → State → Rest) → ((x : Value) (st : State) → Counted m (r x st)) → CountedGoes m (body_goes r)
body_counted m r h = record { next = λ st. h _ st; break = λ st. h _ st; continue = λ st. h _ st; return = h }

-- the labels of calls are counted below each budget up to m where those of what goes on after them are
record CountedCalls (m : ℕ) (c : Calling → Rest) : Type 0 where
  at : (j : ℕ) → j ≤ m → (x : Calling) → ((y : Value) (st : State) → Counted j (x.return y st)) → Counted j (c x)

calls_less : (j m : ℕ) (c : Calling → Rest) → j ≤ m → CountedCalls m c → CountedCalls j c
calls_less j m c le h = record { at = λ i lt. h.at i (omega arith) }

-- a rest that is a turn and then turns, where the labels of a turn are counted one budget further than those of the turns behind it
turns_counted : (turn : State → Rest) (F : (State → Rest) → State → Rest) → ((st : State) → turn st ≡ F turn st) → (m : ℕ)
    → ((j : ℕ) → j < m → ((st : State) → Counted j (turn st)) → (st : State) → Counted (suc j) (F turn st)) → (st : State) → Counted m (turn st)
turns_counted turn F is zero h st = none _
turns_counted turn F is (suc m) h st =
    subst (Counted (suc m)) (sym (is st)) (h m (omega arith) (turns_counted turn F is m (λ j lt. h j (omega arith))) st)

mutual
  run_counted : (p : TypedProgram Label) (s : Stmt Label) (m : ℕ) (k : Goes) → CountedCalls m (calls p) → CountedGoes m k → (st : State) → Counted m (run p (calls p) s k st)
  run_counted p (Empty a) m k h i st = i.next st
  run_counted p (Block l body r) m k h i st = run_all_counted p body m k h i st
  run_counted p (Assign x a) m k h i st = state_counted m _ _ i.next
  run_counted p (ReadPort x q port a) m k h i st = says_counted _ m _ refl (state_counted m _ _ i.next)
  run_counted p (WritePort port q e a) m k h i st = byte_counted m _ _ (λ b. says_counted _ m _ refl (i.next st))
  run_counted p (CallOf x a back) m k h i st = values_counted m _ _ (λ xs. h.at m (omega arith) _ (λ y st'. passes_counted back m _ (state_counted m _ _ i.next)))
  run_counted p (If t l x n) m k h i st = test_counted p t.condition m st _ _ (passes_counted l m _ (run_counted p x m k h i st)) (passes_counted n m _ (i.next st))
  run_counted p (IfElse t l x a n y) m k h i st =
      test_counted p t.condition m st _ _ (passes_counted l m _ (run_counted p x m k h i st)) (passes_counted n m _ (run_counted p y m k h i st))
  run_counted p (While t l x n) m k h i st =
      turns_counted (again (while_turn p (calls p) t.condition l x n k)) (while_turn p (calls p) t.condition l x n k) (while_unfolds p t.condition l x n k) m
      (λ j lt gs st. test_counted p t.condition (suc j) st _ _
      (passed l j _ (run_counted p x j (loop_goes k n (again (while_turn p (calls p) t.condition l x n k))) (calls_less j m (calls p) (omega arith) h)
      (loop_counted n j k _ (goes_less j m k (omega arith) i) gs) st))
      (passed n j _ (less j m _ (omega arith) (i.next st)))) st
  run_counted p (Do q x t l a n) m k h i st =
      turns_counted (again (do_turn p (calls p) x t.condition l n k)) (do_turn p (calls p) x t.condition l n k) (do_unfolds p x t.condition l n k) m
      (λ j lt gs st. run_counted p x (suc j) (loop_goes k n (until p t.condition l n k (again (do_turn p (calls p) x t.condition l n k)))) (calls_less (suc j) m (calls p) (omega arith) h)
      (loop_counted n (suc j) k _ (goes_less (suc j) m k (omega arith) i)
      (λ st. test_counted p t.condition (suc j) st _ _ (passed l j _ (gs st)) (passed n j _ (less j m _ (omega arith) (i.next st))))) st) st
  run_counted p (For d l x n) m k h i st =
      state_counted m _ _ (turns_counted (again (for_turn p (calls p) d.condition d.step l x n k)) (for_turn p (calls p) d.condition d.step l x n k) (for_unfolds p d.condition d.step l x n k) m
      (λ j lt gs st. test_if_any_counted p d.condition (suc j) st _ _
      (passed l j _ (run_counted p x j (loop_goes k n (next_of_for p d.step (again (for_turn p (calls p) d.condition d.step l x n k)))) (calls_less j m (calls p) (omega arith) h)
      (loop_counted n j k _ (goes_less j m k (omega arith) i) (λ st. state_counted j _ _ gs)) st))
      (passed n j _ (less j m _ (omega arith) (i.next st)))))
  run_counted p (Break q a) m k h i st = i.break st
  run_counted p (Continue q a) m k h i st = i.continue st
  run_counted p (Return q None a) m k h i st = i.return _ st
  run_counted p (Return q (Some e) a) m k h i st = value_counted m _ _ (λ x. i.return x st)

  run_all_counted : (p : TypedProgram Label) (ss : Stmts Label) (m : ℕ) (k : Goes) → CountedCalls m (calls p) → CountedGoes m k → (st : State) → Counted m (run_all p (calls p) ss k st)
  run_all_counted p NoStmts m k h i st = i.next st
  run_all_counted p (Then ss s) m k h i st =
      run_all_counted p ss m _ h (record { next = λ st. run_counted p s m k h i st; break = i.break; continue = i.continue; return = i.return }) st

call_counted : (p : TypedProgram Label) (o : Option (Function Label)) (m : ℕ) (x : Calling) → CountedCalls m (calls p) → ((y : Value) (st : State) → Counted m (x.return y st))
    → Counted (suc m) (call_of p o (calls p) x)
call_counted p None m x h i = ended (suc m)
call_counted p (Some f) m x h i =
    passed f.label m _ (state_counted m (prepared p f (entered p f x.arguments x.from)) _ (run_all_counted p f.body m _ h (body_counted m x.return i)))

calls_upto : (p : TypedProgram Label) (m j : ℕ) → j ≤ m → (x : Calling) → ((y : Value) (st : State) → Counted j (x.return y st)) → Counted j (calls p x)
calls_upto p m zero le x h = none _
calls_upto p zero (suc j) le x h = absurd (omega arith)
calls_upto p (suc m) (suc j) le x h =
    subst (Counted (suc j)) (sym (calls_unfold p x))
    (call_counted p (slice_get p.functions x.function) j x (calls_less j m (calls p) (omega arith) (record { at = calls_upto p m })) (λ y st. less j (suc j) _ (omega arith) (h y st)))

pub counted : StopsAreCounted
counted p script n =
    (calls_upto p (suc n) (suc n) (omega arith) (record { function = p.main; arguments = []; from = beginning p script; return = λ x st. only (Stops [] Ended) }) (λ y st. ended (suc n))).at n (omega arith)
