-- Two rests that tell the same below a budget. What a statement does below a budget depends only on what goes on after it below
-- that budget, and behind a label only on what goes on below a smaller one. So loops and calls unfold.
use Rattle.std.proofs.Common.{◌≡◌, Bool, true, false, ℕ, zero, suc, ◌<◌, ◌≤◌, List, [], ◌∷◌, Option, Some, None, Result, Ok, Err, refl, ap, arith}
use Rattle.std.specs.Prelude.{slice_get}
use Rattle.cerco_base.specs.declared.events.Event.{Event}
use Rattle.cerco_base.specs.declared.events.Event.TheVariants as event
use Rattle.cerco_base.specs.declared.events.Label.{Label}
use Rattle.cerco_base.specs.declared.events.FaultKind.{FaultKind}
use Rattle.cerco_traces.specs.Preservation.{and_then}
use Rattle.clight_syntax.specs.TypedTrees.{Cond, Truth, InParentheses, Not, Both, Either, Assignment, Stmt, Empty, Block, Assign, ReadPort, WritePort, CallOf, If, IfElse, While, Do, For, Break, Continue, Return, Stmts, NoStmts, Then, Function, TypedProgram}
use Rattle.clight_values.specs.declared.value.Value.{Value}
use Rattle.clight_values.specs.declared.value.Value.TheVariants as v
use Rattle.clight_values.specs.Memory.{Answer, State}
use Rattle.clight_meaning.specs.Meaning.{Rest, says, passes, turns, again, with_value, with_values, with_state, with_truth, with_byte, test, test_if_any, Calling, Goes, loop_goes, until, next_of_for, run, run_all, body_goes, prepared, entered, call_of, call, calls}

-- the two tell the same for each budget below m
pub record Agree (m : ℕ) (r r' : Rest) : Type 0 where
  pub at : (n : ℕ) → n < m → r n ≡ r' n

pub agree_less : (j m : ℕ) (r r' : Rest) → j ≤ m → Agree m r r' → Agree j r r'
agree_less j m r r' le h = record { at = λ n lt. h.at n (omega arith) }

pub agree_same : (m : ℕ) (r : Rest) → Agree m r r
agree_same m r = record { at = λ n lt. refl }

pub agree_says : (m : ℕ) (e : Event) (r r' : Rest) → Agree m r r' → Agree m (says e r) (says e r')
agree_says m e r r' h = record { at = λ n lt. ap (and_then (e ∷ [])) (h.at n lt) }

passes_at : (l : Label) (m : ℕ) (r r' : Rest) → Agree m r r' → (n : ℕ) → n < suc m → passes l r n ≡ passes l r' n
passes_at l m r r' h zero lt = refl
passes_at l m r r' h (suc n) lt = ap (and_then (event.Label l ∷ [])) (h.at n (omega arith))

pub agree_passes : (l : Label) (m : ℕ) (r r' : Rest) → Agree m r r' → Agree (suc m) (passes l r) (passes l r')
agree_passes l m r r' h = record { at = passes_at l m r r' h }

-- a turn that is given what agrees below a budget agrees one budget further
pub record Turning (A : Type 0) (m : ℕ) (F F' : (A → Rest) → A → Rest) : Type 0 where
  pub step : (j : ℕ) → j < m → (g g' : A → Rest) → ((a : A) → Agree j (g a) (g' a)) → (a : A) → Agree (suc j) (F g a) (F' g' a)

turning_less : (A : Type 0) (j m : ℕ) (F F' : (A → Rest) → A → Rest) → j ≤ m → Turning A m F F' → Turning A j F F'
turning_less A j m F F' le t = record { step = λ i lt. t.step i (omega arith) }

turns_agree : (A : Type 0) (F F' : (A → Rest) → A → Rest) (m f f' : ℕ) → Turning A m F F' → m ≤ f → m ≤ f' → (a : A) → Agree m (turns F f a) (turns F' f' a)
turns_agree A F F' zero f f' t le le' a = record { at = λ n lt. absurd (omega arith) }
turns_agree A F F' (suc m) zero f' t le le' a = absurd (omega arith)
turns_agree A F F' (suc m) (suc f) zero t le le' a = absurd (omega arith)
turns_agree A F F' (suc m) (suc f) (suc f') t le le' a =
    t.step m (omega arith) (turns F f) (turns F' f')
    (turns_agree A F F' m f f' (turning_less A m (suc m) F F' (omega arith) t) (omega arith) (omega arith)) a

pub again_agrees : (A : Type 0) (F F' : (A → Rest) → A → Rest) (m : ℕ) → Turning A m F F' → (a : A) → Agree m (again F a) (again F' a)
unfolding again
again_agrees A F F' m t a = record {
  at = λ n lt. (turns_agree A F F' (suc n) (suc n) (suc n) (turning_less A (suc n) m F F' (omega arith) t) (omega arith) (omega arith) a).at n (omega arith);
}

turns_again : (A : Type 0) (F : (A → Rest) → A → Rest) → ((m : ℕ) → Turning A m F F) → (f : ℕ) (a : A) → Agree f (turns F f a) (again F a)
unfolding again
turns_again A F t f a = record {
  at = λ n lt. (turns_agree A F F (suc n) f (suc n) (t (suc n)) (omega arith) (omega arith) a).at n (omega arith);
}

-- turn after turn is a turn, and then turn after turn
pub again_unfolds : (A : Type 0) (F : (A → Rest) → A → Rest) → ((m : ℕ) → Turning A m F F) → (a : A) (n : ℕ) → again F a n ≡ F (again F) a n
unfolding again
again_unfolds A F t a n =
    ((t (suc n)).step n (omega arith) (turns F n) (again F) (turns_again A F t n) a).at n (omega arith)

-- ---- answers

with_value_agrees : (m : ℕ) (a : Answer) (g g' : Value → Rest) → ((x : Value) → Agree m (g x) (g' x)) → Agree m (with_value a g) (with_value a g')
with_value_agrees m (Ok x) g g' h = h x
with_value_agrees m (Err k) g g' h = agree_same m _

with_values_agrees : (m : ℕ) (a : Result (List Value) FaultKind) (g g' : List Value → Rest) → ((xs : List Value) → Agree m (g xs) (g' xs)) → Agree m (with_values a g) (with_values a g')
with_values_agrees m (Ok xs) g g' h = h xs
with_values_agrees m (Err k) g g' h = agree_same m _

pub with_state_agrees : (m : ℕ) (a : Result State FaultKind) (g g' : State → Rest) → ((st : State) → Agree m (g st) (g' st)) → Agree m (with_state a g) (with_state a g')
with_state_agrees m (Ok st) g g' h = h st
with_state_agrees m (Err k) g g' h = agree_same m _

with_byte_agrees : (m : ℕ) (a : Answer) (g g' : ℕ → Rest) → ((x : ℕ) → Agree m (g x) (g' x)) → Agree m (with_byte a g) (with_byte a g')
with_byte_agrees m (Err k) g g' h = agree_same m _
with_byte_agrees m (Ok (v.Integer n)) g g' h = h n
with_byte_agrees m (Ok v.Null) g g' h = agree_same m _
with_byte_agrees m (Ok (v.Pointer at)) g g' h = agree_same m _

with_truth_agrees : (m : ℕ) (a : Result Bool FaultKind) (r r' s s' : Rest) → Agree m r r' → Agree m s s' → Agree m (with_truth a r s) (with_truth a r' s')
with_truth_agrees m (Err k) r r' s s' h i = agree_same m _
with_truth_agrees m (Ok true) r r' s s' h i = h
with_truth_agrees m (Ok false) r r' s s' h i = i

pub passes_agrees : (l : Label) (m : ℕ) (r r' : Rest) → Agree m r r' → Agree m (passes l r) (passes l r')
passes_agrees l m r r' h = agree_less m (suc m) _ _ (omega arith) (agree_passes l m r r' h)

-- ---- statements

-- the same of what goes on
pub record AgreeGoes (m : ℕ) (k k' : Goes) : Type 0 where
  pub next : (st : State) → Agree m (k.next st) (k'.next st)
  pub break : (st : State) → Agree m (k.break st) (k'.break st)
  pub continue : (st : State) → Agree m (k.continue st) (k'.continue st)
  pub return : (x : Value) (st : State) → Agree m (k.return x st) (k'.return x st)

goes_less : (j m : ℕ) (k k' : Goes) → j ≤ m → AgreeGoes m k k' → AgreeGoes j k k'
goes_less j m k k' le h = record {
  next = λ st. agree_less j m _ _ le (h.next st);
  break = λ st. agree_less j m _ _ le (h.break st);
  continue = λ st. agree_less j m _ _ le (h.continue st);
  return = λ x st. agree_less j m _ _ le (h.return x st);
}

pub goes_same : (m : ℕ) (k : Goes) → AgreeGoes m k k
goes_same m k = record { next = λ st. agree_same m _; break = λ st. agree_same m _; continue = λ st. agree_same m _; return = λ x st. agree_same m _ }

-- a call by its parts
abbrev made : ℕ → List Value → State → (Value → State → Rest) → Calling
made f xs st r = record { function = f; arguments = xs; from = st; return = r }

-- what calls do agrees below each budget up to m where what goes on after them does
pub record AgreeCalls (m : ℕ) (c c' : Calling → Rest) : Type 0 where
  pub at : (j : ℕ) → j ≤ m → (f : ℕ) (xs : List Value) (st : State) (r r' : Value → State → Rest) → ((x : Value) (st : State) → Agree j (r x st) (r' x st)) →
      Agree j (c (made f xs st r)) (c' (made f xs st r'))

calls_less : (j m : ℕ) (c c' : Calling → Rest) → j ≤ m → AgreeCalls m c c' → AgreeCalls j c c'
calls_less j m c c' le h = record { at = λ i lt. h.at i (omega arith) }

pub test_agrees : (p : TypedProgram Label) (c : Cond Label) (m : ℕ) (st : State) (a a' b b' : Rest) → Agree m a a' → Agree m b b' → Agree m (test p c st a b) (test p c st a' b')
test_agrees p (Truth e) m st a a' b b' h i = with_truth_agrees m _ _ _ _ _ h i
test_agrees p (InParentheses l c r) m st a a' b b' h i = test_agrees p c m st a a' b b' h i
test_agrees p (Not at c) m st a a' b b' h i = test_agrees p c m st b b' a a' i h
test_agrees p (Both x at t f y) m st a a' b b' h i =
    test_agrees p x m st _ _ _ _ (passes_agrees t m _ _ (test_agrees p y m st a a' b b' h i)) (passes_agrees f m _ _ i)
test_agrees p (Either x at t f y) m st a a' b b' h i =
    test_agrees p x m st _ _ _ _ (passes_agrees t m _ _ h) (passes_agrees f m _ _ (test_agrees p y m st a a' b b' h i))

pub test_if_any_agrees : (p : TypedProgram Label) (c : Option (Cond Label)) (m : ℕ) (st : State) (a a' b b' : Rest) → Agree m a a' → Agree m b b'
    → Agree m (test_if_any p c st a b) (test_if_any p c st a' b')
test_if_any_agrees p None m st a a' b b' h i = h
test_if_any_agrees p (Some c) m st a a' b b' h i = test_agrees p c m st a a' b b' h i

pub loop_goes_agrees : (l : Label) (m : ℕ) (k k' : Goes) (g g' : State → Rest) → AgreeGoes m k k' → ((st : State) → Agree m (g st) (g' st))
    → AgreeGoes m (loop_goes k l g) (loop_goes k' l g')
loop_goes_agrees l m k k' g g' h i = record { next = i; continue = i; break = λ st. passes_agrees l m _ _ (h.next st); return = h.return }

-- a turn of each loop, given what its next turn does

abbrev pub while_turn : TypedProgram Label → (Calling → Rest) → Cond Label → Label → Stmt Label → Label → Goes → (State → Rest) → State → Rest
while_turn p calls c l body after k turn st = test p c st (passes l (run p calls body (loop_goes k after turn) st)) (passes after (k.next st))

abbrev pub do_turn : TypedProgram Label → (Calling → Rest) → Stmt Label → Cond Label → Label → Label → Goes → (State → Rest) → State → Rest
do_turn p calls body c back after k turn st = run p calls body (loop_goes k after (until p c back after k turn)) st

abbrev pub for_turn : TypedProgram Label → (Calling → Rest) → Option (Cond Label) → Option Assignment → Label → Stmt Label → Label → Goes → (State → Rest) → State → Rest
for_turn p calls c step l body after k turn st =
    test_if_any p c st (passes l (run p calls body (loop_goes k after (next_of_for p step turn)) st)) (passes after (k.next st))

mutual
  pub run_agrees : (p : TypedProgram Label) (s : Stmt Label) (m : ℕ) (c c' : Calling → Rest) (k k' : Goes) → AgreeCalls m c c' → AgreeGoes m k k' → (st : State)
      → Agree m (run p c s k st) (run p c' s k' st)
  run_agrees p (Empty a) m c c' k k' h i st = i.next st
  run_agrees p (Block l body r) m c c' k k' h i st = run_all_agrees p body m c c' k k' h i st
  run_agrees p (Assign x a) m c c' k k' h i st = with_state_agrees m _ _ _ i.next
  run_agrees p (ReadPort x q port a) m c c' k k' h i st = agree_says m _ _ _ (with_state_agrees m _ _ _ i.next)
  run_agrees p (WritePort port q e a) m c c' k k' h i st = with_byte_agrees m _ _ _ (λ b. agree_says m _ _ _ (i.next st))
  run_agrees p (CallOf x a back) m c c' k k' h i st =
      with_values_agrees m _ _ _ (λ xs. h.at m (omega arith) _ xs st _ _ (λ x st'. passes_agrees back m _ _ (with_state_agrees m _ _ _ i.next)))
  run_agrees p (If t l x n) m c c' k k' h i st =
      test_agrees p t.condition m st _ _ _ _ (passes_agrees l m _ _ (run_agrees p x m c c' k k' h i st)) (passes_agrees n m _ _ (i.next st))
  run_agrees p (IfElse t l x a n y) m c c' k k' h i st =
      test_agrees p t.condition m st _ _ _ _ (passes_agrees l m _ _ (run_agrees p x m c c' k k' h i st)) (passes_agrees n m _ _ (run_agrees p y m c c' k k' h i st))
  run_agrees p (While t l x n) m c c' k k' h i st =
      again_agrees State (while_turn p c t.condition l x n k) (while_turn p c' t.condition l x n k') m (record {
        step = λ j lt g g' gs st. test_agrees p t.condition (suc j) st _ _ _ _
            (agree_passes l j _ _ (run_agrees p x j c c' (loop_goes k n g) (loop_goes k' n g') (calls_less j m c c' (omega arith) h)
            (loop_goes_agrees n j k k' g g' (goes_less j m k k' (omega arith) i) gs) st))
            (agree_passes n j _ _ (agree_less j m _ _ (omega arith) (i.next st)));
      }) st
  run_agrees p (Do q x t l a n) m c c' k k' h i st =
      again_agrees State (do_turn p c x t.condition l n k) (do_turn p c' x t.condition l n k') m (record {
        step = λ j lt g g' gs st. run_agrees p x (suc j) c c' (loop_goes k n (until p t.condition l n k g)) (loop_goes k' n (until p t.condition l n k' g')) (calls_less (suc j) m c c' (omega arith) h)
            (loop_goes_agrees n (suc j) k k' (until p t.condition l n k g) (until p t.condition l n k' g') (goes_less (suc j) m k k' (omega arith) i)
            (λ st. test_agrees p t.condition (suc j) st _ _ _ _ (agree_passes l j _ _ (gs st)) (agree_passes n j _ _ (agree_less j m _ _ (omega arith) (i.next st))))) st;
      }) st
  run_agrees p (For d l x n) m c c' k k' h i st =
      with_state_agrees m _ _ _ (λ st. again_agrees State (for_turn p c d.condition d.step l x n k) (for_turn p c' d.condition d.step l x n k') m (record {
        step = λ j lt g g' gs st. test_if_any_agrees p d.condition (suc j) st _ _ _ _
            (agree_passes l j _ _ (run_agrees p x j c c' (loop_goes k n (next_of_for p d.step g)) (loop_goes k' n (next_of_for p d.step g')) (calls_less j m c c' (omega arith) h)
            (loop_goes_agrees n j k k' (next_of_for p d.step g) (next_of_for p d.step g') (goes_less j m k k' (omega arith) i) (λ st. with_state_agrees j _ _ _ gs)) st))
            (agree_passes n j _ _ (agree_less j m _ _ (omega arith) (i.next st)));
      }) st)
  run_agrees p (Break q a) m c c' k k' h i st = i.break st
  run_agrees p (Continue q a) m c c' k k' h i st = i.continue st
  run_agrees p (Return q None a) m c c' k k' h i st = i.return _ st
  run_agrees p (Return q (Some e) a) m c c' k k' h i st = with_value_agrees m _ _ _ (λ x. i.return x st)

  pub run_all_agrees : (p : TypedProgram Label) (ss : Stmts Label) (m : ℕ) (c c' : Calling → Rest) (k k' : Goes) → AgreeCalls m c c' → AgreeGoes m k k' → (st : State)
      → Agree m (run_all p c ss k st) (run_all p c' ss k' st)
  run_all_agrees p NoStmts m c c' k k' h i st = i.next st
  run_all_agrees p (Then ss s) m c c' k k' h i st =
      run_all_agrees p ss m c c' _ _ h (record { next = λ st. run_agrees p s m c c' k k' h i st; break = i.break; continue = i.continue; return = i.return }) st

body_goes_agrees : (m : ℕ) (r r' : Value → State → Rest) → ((x : Value) (st : State) → Agree m (r x st) (r' x st)) → AgreeGoes m (body_goes r) (body_goes r')
body_goes_agrees m r r' h = record { next = λ st. h _ st; break = λ st. h _ st; continue = λ st. h _ st; return = h }

-- ---- calls

call_of_agrees : (p : TypedProgram Label) (o : Option (Function Label)) (m f : ℕ) (xs : List Value) (st : State) (r r' : Value → State → Rest) (c c' : Calling → Rest) → AgreeCalls m c c'
    → ((x : Value) (st : State) → Agree m (r x st) (r' x st)) → Agree (suc m) (call_of p o c (made f xs st r)) (call_of p o c' (made f xs st r'))
call_of_agrees p None m f xs st r r' c c' h i = agree_same (suc m) _
call_of_agrees p (Some fn) m f xs st r r' c c' h i =
    agree_passes fn.label m _ _ (with_state_agrees m (prepared p fn (entered p fn xs st)) _ _ (run_all_agrees p fn.body m c c' _ _ h (body_goes_agrees m r r' i)))

returns_less : (j m : ℕ) (r r' : Value → State → Rest) → j ≤ m → ((x : Value) (st : State) → Agree m (r x st) (r' x st)) → (x : Value) (st : State) → Agree j (r x st) (r' x st)
returns_less j m r r' le h x st = agree_less j m _ _ le (h x st)

calls_upto : (p : TypedProgram Label) (m j g g' : ℕ) → j ≤ m → j ≤ g → j ≤ g' → (f : ℕ) (xs : List Value) (st : State) (r r' : Value → State → Rest)
    → ((x : Value) (st : State) → Agree j (r x st) (r' x st)) → Agree j (turns (call p) g (made f xs st r)) (turns (call p) g' (made f xs st r'))
calls_upto p m zero g g' a b d f xs st r r' h = record { at = λ n lt. absurd (omega arith) }
calls_upto p zero (suc j) g g' a b d f xs st r r' h = absurd (omega arith)
calls_upto p (suc m) (suc j) zero g' a b d f xs st r r' h = absurd (omega arith)
calls_upto p (suc m) (suc j) (suc g) zero a b d f xs st r r' h = absurd (omega arith)
calls_upto p (suc m) (suc j) (suc g) (suc g') a b d f xs st r r' h =
    call_of_agrees p (slice_get p.functions f) j f xs st r r' (turns (call p) g) (turns (call p) g')
    (record { at = λ i le. calls_upto p m i g g' (omega arith) (omega arith) (omega arith) })
    (returns_less j (suc j) r r' (omega arith) h)

-- what a program's calls do agrees with itself
pub calls_agree : (p : TypedProgram Label) (m : ℕ) → AgreeCalls m (calls p) (calls p)
unfolding calls again
calls_agree p m = record {
  at = λ j le f xs st r r' h. record {
    at = λ n lt. (calls_upto p (suc n) (suc n) (suc n) (suc n) (omega arith) (omega arith) (omega arith) f xs st r r' (returns_less (suc n) j r r' (omega arith) h)).at n (omega arith);
  };
}

turns_calls : (p : TypedProgram Label) (m : ℕ) → AgreeCalls m (turns (call p) m) (calls p)
unfolding calls again
turns_calls p m = record {
  at = λ j le f xs st r r' h. record {
    at = λ n lt. (calls_upto p (suc n) (suc n) m (suc n) (omega arith) (omega arith) (omega arith) f xs st r r' (returns_less (suc n) j r r' (omega arith) h)).at n (omega arith);
  };
}

-- a call is the function's label, its locals and its body, with calls in it
pub calls_unfold : (p : TypedProgram Label) (c : Calling) → calls p c ≡ call p (calls p) c
unfolding calls again
calls_unfold p c = λ i n. whole n i
  where
    whole : (n : ℕ) → calls p c n ≡ call p (calls p) c n
    whole n = (call_of_agrees p (slice_get p.functions c.function) n c.function c.arguments c.from c.return c.return (turns (call p) n) (calls p) (turns_calls p n) (λ x st. agree_same n _)).at n (omega arith)

-- ---- loops

while_turning : (p : TypedProgram Label) (c : Cond Label) (l : Label) (x : Stmt Label) (n : Label) (k : Goes) (m : ℕ) → Turning State m (while_turn p (calls p) c l x n k) (while_turn p (calls p) c l x n k)
while_turning p c l x n k m = record {
  step = λ j lt g g' gs st. test_agrees p c (suc j) st _ _ _ _
      (agree_passes l j _ _ (run_agrees p x j (calls p) (calls p) (loop_goes k n g) (loop_goes k n g') (calls_agree p j) (loop_goes_agrees n j k k g g' (goes_same j k) gs) st))
      (agree_same (suc j) _);
}

pub while_unfolds : (p : TypedProgram Label) (c : Cond Label) (l : Label) (x : Stmt Label) (n : Label) (k : Goes) (st : State)
    → again (while_turn p (calls p) c l x n k) st ≡ while_turn p (calls p) c l x n k (again (while_turn p (calls p) c l x n k)) st
while_unfolds p c l x n k st = λ i b. again_unfolds State (while_turn p (calls p) c l x n k) (while_turning p c l x n k) st b i

do_turning : (p : TypedProgram Label) (x : Stmt Label) (c : Cond Label) (l n : Label) (k : Goes) (m : ℕ) → Turning State m (do_turn p (calls p) x c l n k) (do_turn p (calls p) x c l n k)
do_turning p x c l n k m = record {
  step = λ j lt g g' gs st. run_agrees p x (suc j) (calls p) (calls p) (loop_goes k n (until p c l n k g)) (loop_goes k n (until p c l n k g')) (calls_agree p (suc j))
      (loop_goes_agrees n (suc j) k k (until p c l n k g) (until p c l n k g') (goes_same (suc j) k)
      (λ st. test_agrees p c (suc j) st _ _ _ _ (agree_passes l j _ _ (gs st)) (agree_same (suc j) _))) st;
}

pub do_unfolds : (p : TypedProgram Label) (x : Stmt Label) (c : Cond Label) (l n : Label) (k : Goes) (st : State)
    → again (do_turn p (calls p) x c l n k) st ≡ do_turn p (calls p) x c l n k (again (do_turn p (calls p) x c l n k)) st
do_unfolds p x c l n k st = λ i b. again_unfolds State (do_turn p (calls p) x c l n k) (do_turning p x c l n k) st b i

for_turning : (p : TypedProgram Label) (c : Option (Cond Label)) (s : Option Assignment) (l : Label) (x : Stmt Label) (n : Label) (k : Goes) (m : ℕ)
    → Turning State m (for_turn p (calls p) c s l x n k) (for_turn p (calls p) c s l x n k)
for_turning p c s l x n k m = record {
  step = λ j lt g g' gs st. test_if_any_agrees p c (suc j) st _ _ _ _
      (agree_passes l j _ _ (run_agrees p x j (calls p) (calls p) (loop_goes k n (next_of_for p s g)) (loop_goes k n (next_of_for p s g')) (calls_agree p j)
      (loop_goes_agrees n j k k (next_of_for p s g) (next_of_for p s g') (goes_same j k) (λ st. with_state_agrees j _ _ _ gs)) st))
      (agree_same (suc j) _);
}

pub for_unfolds : (p : TypedProgram Label) (c : Option (Cond Label)) (s : Option Assignment) (l : Label) (x : Stmt Label) (n : Label) (k : Goes) (st : State)
    → again (for_turn p (calls p) c s l x n k) st ≡ for_turn p (calls p) c s l x n k (again (for_turn p (calls p) c s l x n k)) st
for_unfolds p c s l x n k st = λ i b. again_unfolds State (for_turn p (calls p) c s l x n k) (for_turning p c s l x n k) st b i
