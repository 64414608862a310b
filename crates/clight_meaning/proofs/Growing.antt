-- A run that may pass one more label tells the same, and more where it stopped.
use Rattle.std.proofs.Common.{◌≡◌, Bool, true, false, ℕ, zero, suc, ◌<◌, ◌≤◌, List, [], ◌∷◌, Option, Some, None, Result, Ok, Err, refl, sym, ap, subst, ◌∙◌, arith}
use Rattle.std.specs.Prelude.{slice_get}
use Rattle.cerco_base.specs.Events.{Stopped, Ended}
use Rattle.cerco_traces.specs.Preservation.{Outcome, Stops, Faults, and_then}
use Rattle.cerco_base.specs.declared.events.Event.{Event}
use Rattle.cerco_base.specs.declared.events.Event.TheVariants as event
use Rattle.cerco_base.specs.declared.events.Label.{Label}
use Rattle.cerco_base.specs.declared.events.FaultKind.{FaultKind}
use Rattle.clight_syntax.specs.TypedTrees.{Cond, Truth, InParentheses, Not, Both, Either, Stmt, Empty, Block, Assign, ReadPort, WritePort, CallOf, If, IfElse, While, Do, For, Break, Continue, Return, Stmts, NoStmts, Then, Function, TypedProgram}
use Rattle.clight_values.specs.declared.value.Value.{Value}
use Rattle.clight_values.specs.declared.value.Value.TheVariants as v
use Rattle.clight_values.specs.Memory.{Answer, State}
use Rattle.clight_meaning.specs.Meaning.{Rest, only, says, passes, again, with_value, with_values, with_state, with_truth, with_byte, test, test_if_any, Calling, Goes, loop_goes, until, next_of_for, run, run_all, body_goes, prepared, entered, beginning, call_of, calls, source}
use Rattle.clight_meaning.specs.Budgets.{events_told, Extends}
use Rattle.clight_meaning.proofs.Agreeing.{calls_unfold, while_turn, do_turn, for_turn, while_unfolds, do_unfolds, for_unfolds}

-- below a budget each one tells what the next smaller one does
record Grows (m : ℕ) (r : Rest) : Type 0 where
  at : (n : ℕ) → n < m → Extends (r n) (r (suc n))

less : (j m : ℕ) (r : Rest) → j ≤ m → Grows m r → Grows j r
less j m r le h = record { at = λ n lt. h.at n (omega arith) }

none : (r : Rest) → Grows 0 r
none r = record { at = λ n lt. absurd (omega arith) }

fault : (m : ℕ) (k : FaultKind) → Grows m (only (Faults [] k))
fault m k = record { at = λ n lt. refl }

ended : (m : ℕ) → Grows m (only (Stops [] Ended))
ended m = record { at = λ n lt. refl }

events_behind : (e : Event) (o : Outcome FaultKind) → events_told (and_then (e ∷ []) o) ≡ e ∷ events_told o
events_behind e (Stops es s) = refl
events_behind e (Faults es k) = refl

-- an event before both
behind : (e : Event) (o next : Outcome FaultKind) → Extends o next → Extends (and_then (e ∷ []) o) (and_then (e ∷ []) next)
behind e (Stops es Stopped) next h = record { rest = h.rest; whole = events_behind e next ∙ ap (λ fs. e ∷ fs) h.whole }
behind e (Stops es Ended) next h = ap (and_then (e ∷ [])) h
behind e (Faults es k) next h = ap (and_then (e ∷ [])) h

passes_at : (l : Label) (m : ℕ) (r : Rest) → Grows m r → (n : ℕ) → n < suc m → Extends (passes l r n) (passes l r (suc n))
passes_at l m r h zero lt = record { rest = events_told (passes l r 1); whole = refl }
passes_at l m r h (suc n) lt = behind (event.Label l) (r n) (r (suc n)) (h.at n (omega arith))

passed : (l : Label) (m : ℕ) (r : Rest) → Grows m r → Grows (suc m) (passes l r)
passed l m r h = record { at = passes_at l m r h }

passes_grow : (l : Label) (m : ℕ) (r : Rest) → Grows m r → Grows m (passes l r)
passes_grow l m r h = less m (suc m) _ (omega arith) (passed l m r h)

says_grow : (e : Event) (m : ℕ) (r : Rest) → Grows m r → Grows m (says e r)
says_grow e m r h = record { at = λ n lt. behind e (r n) (r (suc n)) (h.at n lt) }

value_grows : (m : ℕ) (a : Answer) (g : Value → Rest) → ((x : Value) → Grows m (g x)) → Grows m (with_value a g)
value_grows m (Ok x) g h = h x
value_grows m (Err k) g h = fault m k

values_grow : (m : ℕ) (a : Result (List Value) FaultKind) (g : List Value → Rest) → ((xs : List Value) → Grows m (g xs)) → Grows m (with_values a g)
values_grow m (Ok xs) g h = h xs
values_grow m (Err k) g h = fault m k

state_grows : (m : ℕ) (a : Result State FaultKind) (g : State → Rest) → ((st : State) → Grows m (g st)) → Grows m (with_state a g)
state_grows m (Ok st) g h = h st
state_grows m (Err k) g h = fault m k

byte_grows : (m : ℕ) (a : Answer) (g : ℕ → Rest) → ((x : ℕ) → Grows m (g x)) → Grows m (with_byte a g)
byte_grows m (Err k) g h = fault m k
byte_grows m (Ok (v.Integer n)) g h = h n
byte_grows m (Ok v.Null) g h = fault m _
byte_grows m (Ok (v.Pointer at)) g h = fault m _

truth_grows : (m : ℕ) (a : Result Bool FaultKind) (r s : Rest) → Grows m r → Grows m s → Grows m (with_truth a r s)
truth_grows m (Err k) r s h i = fault m k
truth_grows m (Ok true) r s h i = h
truth_grows m (Ok false) r s h i = i

test_grows : (p : TypedProgram Label) (c : Cond Label) (m : ℕ) (st : State) (a b : Rest) → Grows m a → Grows m b → Grows m (test p c st a b)
test_grows p (Truth e) m st a b h i = truth_grows m _ _ _ h i
test_grows p (InParentheses l c r) m st a b h i = test_grows p c m st a b h i
test_grows p (Not at c) m st a b h i = test_grows p c m st b a i h
test_grows p (Both x at t f y) m st a b h i = test_grows p x m st _ _ (passes_grow t m _ (test_grows p y m st a b h i)) (passes_grow f m _ i)
test_grows p (Either x at t f y) m st a b h i = test_grows p x m st _ _ (passes_grow t m _ h) (passes_grow f m _ (test_grows p y m st a b h i))

test_if_any_grows : (p : TypedProgram Label) (c : Option (Cond Label)) (m : ℕ) (st : State) (a b : Rest) → Grows m a → Grows m b → Grows m (test_if_any p c st a b)
test_if_any_grows p None m st a b h i = h
test_if_any_grows p (Some c) m st a b h i = test_grows p c m st a b h i

-- the same of what goes on
record GrowingGoes (m : ℕ) (k : Goes) : Type 0 where
  next : (st : State) → Grows m (k.next st)
  break : (st : State) → Grows m (k.break st)
  continue : (st : State) → Grows m (k.continue st)
  return : (x : Value) (st : State) → Grows m (k.return x st)

goes_less : (j m : ℕ) (k : Goes) → j ≤ m → GrowingGoes m k → GrowingGoes j k
goes_less j m k le h = record {
  next = λ st. less j m _ le (h.next st);
  break = λ st. less j m _ le (h.break st);
  continue = λ st. less j m _ le (h.continue st);
  return = λ x st. less j m _ le (h.return x st);
}

loop_grows : (l : Label) (m : ℕ) (k : Goes) (g : State → Rest) → GrowingGoes m k → ((st : State) → Grows m (g st)) → GrowingGoes m (loop_goes k l g)
loop_grows l m k g h i = record { next = i; continue = i; break = λ st. passes_grow l m _ (h.next st); return = h.return }

body_grows : (m : ℕ) (r : Value → State → Rest) → ((x : Value) (st : State) → Grows m (r x st)) → GrowingGoes m (body_goes r)
body_grows m r h = record { next = λ st. h _ st; break = λ st. h _ st; continue = λ st. h _ st; return = h }

-- what calls do grows below each budget up to m where what goes on after them does
record GrowingCalls (m : ℕ) (c : Calling → Rest) : Type 0 where
  at : (j : ℕ) → j ≤ m → (x : Calling) → ((y : Value) (st : State) → Grows j (x.return y st)) → Grows j (c x)

calls_less : (j m : ℕ) (c : Calling → Rest) → j ≤ m → GrowingCalls m c → GrowingCalls j c
calls_less j m c le h = record { at = λ i lt. h.at i (omega arith) }

-- a rest that is a turn and then turns, where a turn grows one budget further than the turns behind it
turns_grow : (turn : State → Rest) (F : (State → Rest) → State → Rest) → ((st : State) → turn st ≡ F turn st) → (m : ℕ)
    → ((j : ℕ) → j < m → ((st : State) → Grows j (turn st)) → (st : State) → Grows (suc j) (F turn st)) → (st : State) → Grows m (turn st)
turns_grow turn F is zero h st = none _
turns_grow turn F is (suc m) h st =
    subst (Grows (suc m)) (sym (is st)) (h m (omega arith) (turns_grow turn F is m (λ j lt. h j (omega arith))) st)

mutual
  run_grows : (p : TypedProgram Label) (s : Stmt Label) (m : ℕ) (k : Goes) → GrowingCalls m (calls p) → GrowingGoes m k → (st : State) → Grows m (run p (calls p) s k st)
  run_grows p (Empty a) m k h i st = i.next st
  run_grows p (Block l body r) m k h i st = run_all_grows p body m k h i st
  run_grows p (Assign x a) m k h i st = state_grows m _ _ i.next
  run_grows p (ReadPort x q port a) m k h i st = says_grow _ m _ (state_grows m _ _ i.next)
  run_grows p (WritePort port q e a) m k h i st = byte_grows m _ _ (λ b. says_grow _ m _ (i.next st))
  run_grows p (CallOf x a back) m k h i st = values_grow m _ _ (λ xs. h.at m (omega arith) _ (λ y st'. passes_grow back m _ (state_grows m _ _ i.next)))
  run_grows p (If t l x n) m k h i st = test_grows p t.condition m st _ _ (passes_grow l m _ (run_grows p x m k h i st)) (passes_grow n m _ (i.next st))
  run_grows p (IfElse t l x a n y) m k h i st =
      test_grows p t.condition m st _ _ (passes_grow l m _ (run_grows p x m k h i st)) (passes_grow n m _ (run_grows p y m k h i st))
  run_grows p (While t l x n) m k h i st =
      turns_grow (again (while_turn p (calls p) t.condition l x n k)) (while_turn p (calls p) t.condition l x n k) (while_unfolds p t.condition l x n k) m
      (λ j lt gs st. test_grows p t.condition (suc j) st _ _
      (passed l j _ (run_grows p x j (loop_goes k n (again (while_turn p (calls p) t.condition l x n k))) (calls_less j m (calls p) (omega arith) h)
      (loop_grows n j k _ (goes_less j m k (omega arith) i) gs) st))
      (passed n j _ (less j m _ (omega arith) (i.next st)))) st
  run_grows p (Do q x t l a n) m k h i st =
      turns_grow (again (do_turn p (calls p) x t.condition l n k)) (do_turn p (calls p) x t.condition l n k) (do_unfolds p x t.condition l n k) m
      (λ j lt gs st. run_grows p x (suc j) (loop_goes k n (until p t.condition l n k (again (do_turn p (calls p) x t.condition l n k)))) (calls_less (suc j) m (calls p) (omega arith) h)
      (loop_grows n (suc j) k _ (goes_less (suc j) m k (omega arith) i)
      (λ st. test_grows p t.condition (suc j) st _ _ (passed l j _ (gs st)) (passed n j _ (less j m _ (omega arith) (i.next st))))) st) st
  run_grows p (For d l x n) m k h i st =
      state_grows m _ _ (turns_grow (again (for_turn p (calls p) d.condition d.step l x n k)) (for_turn p (calls p) d.condition d.step l x n k) (for_unfolds p d.condition d.step l x n k) m
      (λ j lt gs st. test_if_any_grows p d.condition (suc j) st _ _
      (passed l j _ (run_grows p x j (loop_goes k n (next_of_for p d.step (again (for_turn p (calls p) d.condition d.step l x n k)))) (calls_less j m (calls p) (omega arith) h)
      (loop_grows n j k _ (goes_less j m k (omega arith) i) (λ st. state_grows j _ _ gs)) st))
      (passed n j _ (less j m _ (omega arith) (i.next st)))))
  run_grows p (Break q a) m k h i st = i.break st
  run_grows p (Continue q a) m k h i st = i.continue st
  run_grows p (Return q None a) m k h i st = i.return _ st
  run_grows p (Return q (Some e) a) m k h i st = value_grows m _ _ (λ x. i.return x st)

  run_all_grows : (p : TypedProgram Label) (ss : Stmts Label) (m : ℕ) (k : Goes) → GrowingCalls m (calls p) → GrowingGoes m k → (st : State) → Grows m (run_all p (calls p) ss k st)
  run_all_grows p NoStmts m k h i st = i.next st
  run_all_grows p (Then ss s) m k h i st =
      run_all_grows p ss m _ h (record { next = λ st. run_grows p s m k h i st; break = i.break; continue = i.continue; return = i.return }) st

call_grows : (p : TypedProgram Label) (o : Option (Function Label)) (m : ℕ) (x : Calling) → GrowingCalls m (calls p) → ((y : Value) (st : State) → Grows m (x.return y st))
    → Grows (suc m) (call_of p o (calls p) x)
call_grows p None m x h i = ended (suc m)
call_grows p (Some f) m x h i =
    passed f.label m _ (state_grows m (prepared p f (entered p f x.arguments x.from)) _ (run_all_grows p f.body m _ h (body_grows m x.return i)))

calls_upto : (p : TypedProgram Label) (m j : ℕ) → j ≤ m → (x : Calling) → ((y : Value) (st : State) → Grows j (x.return y st)) → Grows j (calls p x)
calls_upto p m zero le x h = none _
calls_upto p zero (suc j) le x h = absurd (omega arith)
calls_upto p (suc m) (suc j) le x h =
    subst (Grows (suc j)) (sym (calls_unfold p x))
    (call_grows p (slice_get p.functions x.function) j x (calls_less j m (calls p) (omega arith) (record { at = calls_upto p m })) (λ y st. less j (suc j) _ (omega arith) (h y st)))

pub longer : (p : TypedProgram Label) (script : List ℕ) (n : ℕ) → Extends (source p script n) (source p script (suc n))
longer p script n =
    (calls_upto p (suc n) (suc n) (omega arith) (record { function = p.main; arguments = []; from = beginning p script; return = λ x st. only (Stops [] Ended) }) (λ y st. ended (suc n))).at n (omega arith)
