-- Each step of a program is a step of the program without vain operations, or none where a vain operation is made.
use Rattle.std.proofs.Common.{◌≡◌, ℕ, suc, ◌<◌, ◌≤◌, List, [], ◌∷◌, length, true, false, IsTrue, ◌⊎◌, inl, inr, refl, sym, ap, ◌∙◌, subst, arith}
use Rattle.cerco_base.specs.declared.events.Event.TheVariants as Event
use Rattle.cerco_base.specs.Events.{IsPrefix}
use Rattle.cerco_traces.specs.Worlds.{World, shown}
use Rattle.cerco_traces.specs.Systems.{System, EachWithin, IsWithin, Run, here}
use Rattle.cerco_traces.specs.Systems as Systems
use Rattle.cerco_traces.proofs.Simulation.{prefix_refl, Simulates}
use Rattle.rtl.specs.declared.graphs.Exit.{Exit}
use Rattle.rtl.specs.declared.graphs.Exit.TheVariants.{Next, Test, Call, Label, Return}
use Rattle.rtl.specs.Operations.{ByteOp}
use Rattle.rtl.specs.Programs.{Graph}
use Rattle.rtl.specs.Effects.{Storage, Loc, Carry, Effect, effect}
use Rattle.rtl.specs.Graphs.{ops_at, exit_at}
use Rattle.rtl.specs.Meaning.{State, OpenCall, state, call_at, all_zero, seen, shared_after, own_after, branch, after_op, exit_step, call_step, graph_step, next_touched, label_comes, label_due, no_call, graph_system, shares_first}
use Rattle.rtl.specs.Liveness.{IsAmong, GoesTo, Overwrites, Uses}
use Rattle.rtl.specs.StrongLiveness.{StronglyLive, kept, used_by_exit, onward, IsNeeded}
use Rattle.rtl.specs.CallingConvention.{Path, at_entry, RespectsConvention}
use Rattle.rtl.specs.CallingConvention as On
use Rattle.rtl.proofs.EffectLaws.{effect_same, writes_are, quiet_world}
use Rattle.pruned_graphs.specs.Pruning.{IsVain, Pruned, nothing, keep, drop, IsPruned}
use Rattle.pruned_graphs.proofs.Strong.{strong_is_live, read_is_strong, before_vain}
use Rattle.pruned_graphs.proofs.Values.{same_assignments, unassigned, seen_argument, seen_own, branch_goes, written_on}
use Rattle.pruned_graphs.proofs.Related.{LivesOnlyErtl, Counterpart, y_calls, AllWait, Runs, AllRun, as_many}

module _ (gs hs : ℕ → Graph ℕ) (main : ℕ) (bytes : List (ℕ × ℕ)) (d : ℕ) (conv : RespectsConvention 0 gs) (only : (f : ℕ) → LivesOnlyErtl (gs f)) (pruned : (f : ℕ) → IsPruned 0 (gs f) (hs f)) where
  abbrev x_run : System State
  x_run = graph_system shares_first gs main bytes

  abbrev y_run : System State
  y_run = graph_system shares_first hs main bytes

  abbrev y_state : State → List Counterpart → (Storage → ℕ) → State
  y_state x ls n = state (y_calls x.calls ls) n x.world

  -- from y the program without vain operations comes to what stands for x
  record After (x y : State) : Type 0 where
    links : List Counterpart
    n : Storage → ℕ
    all : AllRun gs hs x.calls links x.shared n
    run : Run y_run d y (y_state x links n)

  -- the exits are the same
  exit_same : (f p : ℕ) (e : Exit ℕ) → exit_at (gs f) p ≡ e → exit_at (hs f) p ≡ e
  exit_same f p e is = (pruned f).exits p ∙ is

  module _ (f p : ℕ) (own : Storage → ℕ) (cs : List OpenCall) (m : Storage → ℕ) (w : World) (own' : Storage → ℕ) (ls : List Counterpart) (n : Storage → ℕ) (wait : AllWait gs hs f cs ls) where
    abbrev stands : List (ByteOp ℕ) → State
    stands rest = state ((record { function = f; node = p; left = rest; own = own' }) ∷ y_calls cs ls) n w

    -- one step of the program without vain operations
    one : (rest : List (ByteOp ℕ)) (y : State) → EachWithin d (next_touched shares_first rest own' n w) → call_step shares_first hs rest f p own' (y_calls cs ls) n w ≡ y → length y.calls ≤ 64 → Run y_run d (stands rest) y
    one rest y ok is fits =
        let within : IsWithin y_run d (stands rest) = record { bytes = ok; calls = subst (λ (z : State). length z.calls ≤ 64) (sym is) fits } in
        Systems.onward _ _ within (subst (λ z. Run y_run d z y) (sym is) (here y))

    -- as many calls are open
    fits_too : suc (length cs) ≤ 64 → suc (length (y_calls cs ls)) ≤ 64
    fits_too fits = let e = as_many gs hs f cs ls wait in omega (arith, e, fits)

    keep_case :
        (op : ByteOp ℕ) (ops rest : List (ByteOp ℕ)) → Path (gs f) p (op ∷ ops) → ((s : Storage) → StronglyLive 0 (gs f) s p (op ∷ ops) → seen shares_first m own s ≡ seen shares_first n own' s)
        → IsNeeded 0 (gs f) p op ops → Pruned 0 (gs f) p ops rest → EachWithin d (effect op (seen shares_first m own) w).touched → suc (length cs) ≤ 64
        → After (after_op shares_first (effect op (seen shares_first m own) w) f p ops own cs m) (stands (op ∷ rest))
    keep_case op ops rest path alike needed left ok fits =
        let e = effect op (seen shares_first m own) w in
        let same : effect op (seen shares_first n own') w ≡ e = sym (effect_same op (seen shares_first m own) (seen shares_first n own') w (λ s i. alike s (read_is_strong 0 (gs f) p op ops needed s i))) in
        record {
          links = (record { left = rest; own = own_after shares_first e.sets own' }) ∷ ls;
          n = shared_after shares_first e.sets n;
          all = (
            record {
              path = On.past p op ops path;
              left = left;
              alike = same_assignments shares_first (λ s. StronglyLive 0 (gs f) s p ops) e.sets m own n own'
                  (λ s live out. alike s (kept s p op ops (λ i. out (subst (IsAmong s) (sym (writes_are op (seen shares_first m own) w)) i)) live));
            },
            wait,
          );
          run = one (op ∷ rest) (after_op shares_first e f p rest own' (y_calls cs ls) n) (subst (λ (z : Effect). EachWithin d z.touched) (sym same) ok)
              (ap (λ z. after_op shares_first z f p rest own' (y_calls cs ls) n) same) (fits_too fits);
        }

    drop_case :
        (op : ByteOp ℕ) (ops rest : List (ByteOp ℕ)) → Path (gs f) p (op ∷ ops) → ((s : Storage) → StronglyLive 0 (gs f) s p (op ∷ ops) → seen shares_first m own s ≡ seen shares_first n own' s)
        → IsVain 0 (gs f) p op ops → Pruned 0 (gs f) p ops rest → After (after_op shares_first (effect op (seen shares_first m own) w) f p ops own cs m) (stands rest)
    drop_case op ops rest path alike vain left =
        let e = effect op (seen shares_first m own) w in
        record {
          links = (record { left = rest; own = own' }) ∷ ls;
          n = n;
          all = (
            record {
              path = On.past p op ops path;
              left = left;
              alike = λ s live.
                  unassigned shares_first e.sets m own s (λ i. vain.unused s (subst (IsAmong s) (writes_are op (seen shares_first m own) w) i) live) ∙ alike s (before_vain 0 (gs f) s p op ops vain live);
            },
            wait,
          );
          run = subst (λ z. Run y_run d (stands rest) (state ((record { function = f; node = p; left = rest; own = own' }) ∷ y_calls cs ls) n z)) (sym (quiet_world op (seen shares_first m own) w vain.quiet)) (here (stands rest));
        }

    module _ (path : Path (gs f) p []) (alike : (s : Storage) → StronglyLive 0 (gs f) s p [] → seen shares_first m own s ≡ seen shares_first n own' s) where
      -- on to the node q of the same call
      goes_on : (q : ℕ) → GoesTo (exit_at (gs f) p) q → ((s : Storage) → Overwrites 0 (exit_at (gs f) p) s → ⊥) → Runs gs hs f q (ops_at (gs f) q) (ops_at (hs f) q) own m own' n
      goes_on q goes keeps = record {
        path = On.through p q goes path;
        left = (pruned f).ops q;
        alike = λ s live. alike s (onward s p q (keeps s) goes live);
      }

      onto :
          (q : ℕ) (w' : World) → GoesTo (exit_at (gs f) p) q → ((s : Storage) → Overwrites 0 (exit_at (gs f) p) s → ⊥)
          → Run y_run d (stands []) (state (call_at hs f q own' ∷ y_calls cs ls) n w') → After (state (call_at gs f q own ∷ cs) m w') (stands [])
      onto q w' goes keeps run = record {
        links = (record { left = ops_at (hs f) q; own = own' }) ∷ ls;
        n = n;
        all = (goes_on q goes keeps, wait);
        run = run;
      }

      -- back to the call that waits
      returns : (cs' : List OpenCall) (ls' : List Counterpart) → AllWait gs hs f cs' ls' → exit_at (gs f) p ≡ Return → AllRun gs hs cs' ls' m n
      returns [] ls' wait' e = tt
      returns (c ∷ cs') [] wait' e = absurd wait'
      returns (c ∷ cs') (l ∷ ls') wait' e =
          let u = wait'.0 in
          let goes : GoesTo (exit_at (gs c.function) u.from) c.node = subst (λ z. GoesTo z c.node) (sym u.called) refl in (
            record {
              path = subst (Path (gs c.function) c.node) (sym u.left_is) (On.through u.from c.node goes u.path);
              left = subst (λ z. Pruned 0 (gs c.function) c.node z l.left) (sym u.left_is) (subst (Pruned 0 (gs c.function) c.node (ops_at (gs c.function) c.node)) (sym u.rest_is) ((pruned c.function).ops c.node));
              alike = λ s live. back s (subst (StronglyLive 0 (gs c.function) s c.node) u.left_is live);
            },
            wait'.1,
          )
        where
          back : (s : Storage) → StronglyLive 0 (gs c.function) s c.node (ops_at (gs c.function) c.node) → seen shares_first m c.own s ≡ seen shares_first n l.own s
          back Carry live = absurd (conv.carry c.function f wait'.0.from c.node wait'.0.called (strong_is_live 0 (gs c.function) Carry c.node (ops_at (gs c.function) c.node) live))
          back (Loc v) live = by_kind (only c.function v c.node (strong_is_live 0 (gs c.function) (Loc v) c.node (ops_at (gs c.function) c.node) live))
            where
              by_kind : (v < 12) ⊎ (24 ≤ v) → seen shares_first m c.own (Loc v) ≡ seen shares_first n l.own (Loc v)
              by_kind (inl low) =
                  let live' = strong_is_live 0 (gs c.function) (Loc v) c.node (ops_at (gs c.function) c.node) live in
                  let before = written_on (gs f) (Loc v) p [] path (conv.results c.function f wait'.0.from c.node p (Loc v) wait'.0.called (omega arith, low) live' e path) in
                  let uses : Uses 0 Return (gs f) p (Loc v) = ((omega arith, low), before) in
                  let same = alike (Loc v) (used_by_exit (Loc v) p (subst (λ z. Uses 0 z (gs f) p (Loc v)) (sym e) uses)) in
                  seen_argument m c.own (Loc v) (omega arith, low) ∙ sym (seen_argument m own (Loc v) (omega arith, low)) ∙ same
                  ∙ seen_argument n own' (Loc v) (omega arith, low) ∙ sym (seen_argument n l.own (Loc v) (omega arith, low))
              by_kind (inr high) = seen_own m c.own v high ∙ wait'.0.keeps v high live ∙ sym (seen_own n l.own v high)

      exit_case : (e : Exit ℕ) → exit_at (gs f) p ≡ e → length (exit_step shares_first gs e f own cs m w).calls ≤ 64 → After (exit_step shares_first gs e f own cs m w) (stands [])
      exit_case (Next q) e fits =
          onto q w (subst (λ z. GoesTo z q) (sym e) refl) (λ s. subst (λ z. Overwrites 0 z s → ⊥) (sym e) (λ o. o))
          (one [] _ tt (ap (λ z. exit_step shares_first hs z f own' (y_calls cs ls) n w) (exit_same f p (Next q) e)) (fits_too fits))
      exit_case (Test v true_arm false_arm) e fits =
          let same = alike (Loc v) (used_by_exit (Loc v) p (subst (λ z. Uses 0 z (gs f) p (Loc v)) (sym e) refl)) in
          let q = branch (seen shares_first m own (Loc v)) true_arm false_arm in
          onto q w (subst (λ z. GoesTo z q) (sym e) (branch_goes (seen shares_first m own (Loc v)) v true_arm false_arm)) (λ s. subst (λ z. Overwrites 0 z s → ⊥) (sym e) (λ o. o))
          (one [] _ tt
          (ap (λ z. exit_step shares_first hs z f own' (y_calls cs ls) n w) (exit_same f p (Test v true_arm false_arm) e) ∙ ap (λ z. state (call_at hs f (branch z true_arm false_arm) own' ∷ y_calls cs ls) n w) (sym same))
          (fits_too fits))
      exit_case (Call g q) e fits =
          let goes : GoesTo (exit_at (gs f) p) q = subst (λ z. GoesTo z q) (sym e) refl in
          let before : (v : ℕ) → 24 ≤ v → StronglyLive 0 (gs f) (Loc v) q (ops_at (gs f) q) → StronglyLive 0 (gs f) (Loc v) p [] =
          λ v high live. onward (Loc v) p q (subst (λ z. Overwrites 0 z (Loc v) → ⊥) (sym e) (λ o. let low = o.1 in omega (arith, low, high))) goes live in
          record {
            links = (record { left = ops_at (hs g) (gs g).entry; own = all_zero }) ∷ (record { left = ops_at (hs f) q; own = own' }) ∷ ls;
            n = n;
            all = (
              record { path = at_entry; left = (pruned g).ops (gs g).entry; alike = enters },
              (
                record {
                  from = p;
                  called = e;
                  path = path;
                  left_is = refl;
                  rest_is = refl;
                  keeps = λ v high live. sym (seen_own m own v high) ∙ alike (Loc v) (before v high live) ∙ seen_own n own' v high;
                },
                wait,
              ),
            );
            run = one [] _ tt
                (ap (λ z. exit_step shares_first hs z f own' (y_calls cs ls) n w) (exit_same f p (Call g q) e) ∙ ap (λ z. state (call_at hs g z all_zero ∷ call_at hs f q own' ∷ y_calls cs ls) n w) (pruned g).entry)
                (let k = as_many gs hs f cs ls wait in omega (arith, k, fits));
          }
        where
          enters : (s : Storage) → StronglyLive 0 (gs g) s (gs g).entry (ops_at (gs g) (gs g).entry) → seen shares_first m all_zero s ≡ seen shares_first n all_zero s
          enters s live =
              let live' = strong_is_live 0 (gs g) s (gs g).entry (ops_at (gs g) (gs g).entry) live in
              let argument = conv.entries g s live' in
              let before = written_on (gs f) s p [] path (conv.arguments f g p q s e live' path) in
              let uses : Uses 0 (Call g q) (gs f) p s = (argument, before) in
              let same = alike s (used_by_exit s p (subst (λ z. Uses 0 z (gs f) p s) (sym e) uses)) in
              seen_argument m all_zero s argument ∙ sym (seen_argument m own s argument) ∙ same ∙ seen_argument n own' s argument ∙ sym (seen_argument n all_zero s argument)
      exit_case (Label l q) e fits =
          onto q (shown (Event.Label l) w) (subst (λ z. GoesTo z q) (sym e) refl) (λ s. subst (λ z. Overwrites 0 z s → ⊥) (sym e) (λ o. o))
          (one [] _ tt (ap (λ z. exit_step shares_first hs z f own' (y_calls cs ls) n w) (exit_same f p (Label l q) e)) (fits_too fits))
      exit_case Return e fits = record {
        links = ls;
        n = n;
        all = returns cs ls wait e;
        run = one [] _ tt (ap (λ z. exit_step shares_first hs z f own' (y_calls cs ls) n w) (exit_same f p Return e)) (let k = as_many gs hs f cs ls wait in omega (arith, k, fits));
      }

    call_case :
        (ops rest : List (ByteOp ℕ)) → Path (gs f) p ops → ((s : Storage) → StronglyLive 0 (gs f) s p ops → seen shares_first m own s ≡ seen shares_first n own' s) → Pruned 0 (gs f) p ops rest
        → EachWithin d (next_touched shares_first ops own m w) → length (call_step shares_first gs ops f p own cs m w).calls ≤ 64 → After (call_step shares_first gs ops f p own cs m w) (stands rest)
    call_case ops rest path alike nothing ok fits = exit_case path alike (exit_at (gs f) p) refl fits
    call_case ops rest path alike (keep op ops' rest' needed left) ok fits = keep_case op ops' rest' path alike needed left ok fits
    call_case ops rest path alike (drop op ops' rest' vain left) ok fits = drop_case op ops' rest' path alike vain left

  step_case : (cs : List OpenCall) (ls : List Counterpart) (m : Storage → ℕ) (w : World) (n : Storage → ℕ) → AllRun gs hs cs ls m n → IsWithin x_run d (state cs m w) → After (graph_step shares_first gs cs m w) (state (y_calls cs ls) n w)
  step_case [] ls m w n all within = record { links = []; n = n; all = tt; run = here _ }
  step_case (c ∷ cs) [] m w n all within = absurd all
  step_case (c ∷ cs) (l ∷ ls) m w n all within = call_case c.function c.node c.own cs m w l.own ls n all.1 c.left l.left all.0.path all.0.alike all.0.left within.bytes within.calls

  not_true : false ≡ true → ⊥
  not_true e = cc

  due_too : (cs : List OpenCall) (ls : List Counterpart) (m n : Storage → ℕ) → AllRun gs hs cs ls m n → IsTrue (label_due gs cs) → IsTrue (label_due hs (y_calls cs ls))
  due_too [] ls m n all due = due
  due_too (c ∷ cs) [] m n all due = absurd all
  due_too (c ∷ cs) (l ∷ ls) m n all due = top c.left l.left all.0.left due
    where
      top : (ops rest : List (ByteOp ℕ)) → Pruned 0 (gs c.function) c.node ops rest → IsTrue (label_comes ops (exit_at (gs c.function) c.node)) → IsTrue (label_comes rest (exit_at (hs c.function) c.node))
      top ops rest nothing h = subst (λ e. IsTrue (label_comes [] e)) (sym ((pruned c.function).exits c.node)) h
      top ops rest (keep op ops' rest' needed left) h = absurd (not_true h)
      top ops rest (drop op ops' rest' vain left) h = absurd (not_true h)

  over_too : (cs : List OpenCall) (ls : List Counterpart) → IsTrue (no_call cs) → IsTrue (no_call (y_calls cs ls))
  over_too [] ls over = refl
  over_too (c ∷ cs) ls over = absurd (not_true over)

  -- the state y is that of x, with what is strongly live seen alike
  pub record IsState (x y : State) : Type 0 where
    pub links : List Counterpart
    pub n : Storage → ℕ
    pub all : AllRun gs hs x.calls links x.shared n
    pub is : y ≡ y_state x links n

  pub simulates : Simulates x_run y_run d d IsState
  simulates = record {
    begins = λ script ok. (
      _,
      here _,
      record {
        links = (record { left = ops_at (hs main) (gs main).entry; own = all_zero }) ∷ [];
        n = all_zero;
        all = (record { path = at_entry; left = (pruned main).ops (gs main).entry; alike = λ s live. refl }, tt);
        is = ap (λ z. state (call_at hs main z all_zero ∷ []) all_zero (y_run.start script).world) (pruned main).entry;
      },
    );
    steps = λ x y rel within.
        let a = step_case x.calls rel.links x.shared x.world rel.n rel.all within in
        (y_state (graph_step shares_first gs x.calls x.shared x.world) a.links a.n, subst (λ z. Run y_run d z (y_state (graph_step shares_first gs x.calls x.shared x.world) a.links a.n)) (sym rel.is) a.run, record { links = a.links; n = a.n; all = a.all; is = refl });
    ahead = λ x y rel. subst (λ (z : State). IsPrefix x.world.made z.world.made) (sym rel.is) (prefix_refl x.world.made);
    stops = λ x y rel due. (y, here _, subst (λ (z : State). IsTrue (label_due hs z.calls)) (sym rel.is) (due_too x.calls rel.links x.shared rel.n rel.all due), ap (λ (z : State). z.world.made) rel.is);
    ends = λ x y rel over. (y, here _, subst (λ (z : State). IsTrue (no_call z.calls)) (sym rel.is) (over_too x.calls rel.links over), ap (λ (z : State). z.world.made) rel.is);
  }
