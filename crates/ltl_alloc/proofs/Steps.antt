-- Each step of a program over virtual registers is a step of the program over places.
use Rattle.std.proofs.Common.{◌≡◌, ℕ, suc, ◌<◌, ◌≤◌, List, [], ◌∷◌, length, map, IsTrue, ◌⊎◌, inl, inr, refl, sym, ap, ap₂, ◌∙◌, subst, arith}
use Rattle.cerco_base.specs.declared.events.Event.TheVariants as Event
use Rattle.cerco_base.specs.Events.{IsPrefix}
use Rattle.cerco_traces.specs.Worlds.{World, shown, start_world}
use Rattle.cerco_traces.specs.Systems.{System, EachWithin, IsWithin, Run, here}
use Rattle.cerco_traces.proofs.Simulation.{one_step, prefix_refl, Simulates}
use Rattle.rtl.specs.declared.locations.Place.{Place}
use Rattle.rtl.specs.declared.locations.Place.TheVariants.{Cell}
use Rattle.rtl.specs.declared.graphs.Exit.{Exit}
use Rattle.rtl.specs.declared.graphs.Exit.TheVariants.{Next, Test, Call, Label, Return}
use Rattle.rtl.specs.Operations.{ByteOp}
use Rattle.rtl.specs.Programs.{Graph}
use Rattle.rtl.specs.Locations.{place_number, argument_place}
use Rattle.rtl.specs.Effects.{Storage, Loc, Carry, writes, Effect, effect}
use Rattle.rtl.specs.Graphs.{renamed_op, renamed_exit, ops_at, exit_at}
use Rattle.rtl.specs.Meaning.{State, OpenCall, state, call_at, all_zero, seen, shared_after, branch, after_op, exit_step, call_step, graph_step, next_touched, calls_touched, is_label, label_comes, label_due, no_call, graph_system, shares_first, shares_all}
use Rattle.rtl.specs.Liveness.{IsAmong, IsArgument, IsPoint, GoesTo, Overwrites, Uses, Live, used, kept, used_by_exit, onward, LiveAt}
use Rattle.rtl.specs.CallingConvention.{Path, at_entry, RespectsConvention}
use Rattle.rtl.specs.CallingConvention as On
use Rattle.rtl.specs.Interference.{live_where_written, IsProperColouring}
use Rattle.rtl.proofs.Points.{path_to_point}
use Rattle.rtl.proofs.EffectLaws.{renamed_effect, effect_same, effect_renamed}
use Rattle.rtl.proofs.ValueLaws.{renamed_storage, renamed_assignment, assigned_alike, not_assigned, own_stays}
use Rattle.rtl.proofs.EffectLaws as Law
use Rattle.byte_renaming.proofs.Programs.{ops_renamed, exit_renamed}
use Rattle.ltl_alloc.specs.Translation.{at_base}
use Rattle.ltl_alloc.proofs.Places.{argument_stays, numbers_apart, number_below}
use Rattle.ltl_alloc.proofs.Related.{seen_zero, seen_argument, seen_own, branch_goes, written_on, number_at, placed_graphs, AreFramed, LivesOnlyErtl, AllWait, Runs, AllRun, still_waiting}

same_location : (k l : ℕ) → Loc k ≡ Loc l → k ≡ l
same_location k l e = cc

module _ (gs : ℕ → Graph ℕ) (place : ℕ → ℕ → Place) (base size : ℕ → ℕ) (proper : (f : ℕ) → IsProperColouring (gs f) (place f)) (conv : RespectsConvention 0 gs) (framed : AreFramed gs place base size) (only : (f : ℕ) → LivesOnlyErtl (gs f)) where
  abbrev pub hs : ℕ → Graph ℕ
  hs = placed_graphs gs place base

  abbrev pub to : ℕ → ℕ → ℕ
  to = number_at place base

  abbrev pub y_call : OpenCall → OpenCall
  y_call c = record { function = c.function; node = c.node; left = map (renamed_op (to c.function)) c.left; own = all_zero }

  abbrev pub y_state : State → (Storage → ℕ) → State
  y_state x n = state (map y_call x.calls) n x.world

  -- the state y is that of x, with n in the places
  pub record IsState (x y : State) : Type 0 where
    pub n : Storage → ℕ
    pub all : AllRun gs place base size x.calls x.shared n
    pub is : y ≡ y_state x n

  pub call_same : (f p : ℕ) (own : Storage → ℕ) → call_at hs f p all_zero ≡ y_call (call_at gs f p own)
  call_same f p own = ap (λ (ops : List (ByteOp ℕ)). record { function = f; node = p; left = ops; own = all_zero }) (ops_renamed (to f) (gs f) p)

  -- an argument place has one number in all functions
  argument_number : (f g : ℕ) (s : Storage) → IsArgument 0 s → renamed_storage (to f) s ≡ renamed_storage (to g) s
  argument_number f g Carry argument = absurd argument
  argument_number f g (Loc v) argument = ap Loc (own_number f ∙ sym (own_number g))
    where
      own_number : (h : ℕ) → to h v ≡ place_number (argument_place v)
      own_number h = ap place_number (ap (at_base (base h)) ((proper h).arguments v argument.1) ∙ argument_stays (base h) v)

  storages_apart : (f p : ℕ) (op : ByteOp ℕ) (ops : List (ByteOp ℕ)) → IsPoint (gs f) p (op ∷ ops) → (s w : Storage) → Live 0 (gs f) s p ops → IsAmong w (writes op) → (s ≡ w → ⊥) → renamed_storage (to f) s ≡ renamed_storage (to f) w → ⊥
  storages_apart f p op ops point Carry Carry live i differ e = differ refl
  storages_apart f p op ops point Carry (Loc w) live i differ e = cc
  storages_apart f p op ops point (Loc v) Carry live i differ e = cc
  storages_apart f p op ops point (Loc v) (Loc w) live i differ e =
      numbers_apart (base f) (place f v) (place f w) ((proper f).differ v w (λ e. differ (ap Loc e)) (live_where_written p op ops point live i)) (same_location (to f v) (to f w) e)

  module _ (f p : ℕ) (own : Storage → ℕ) (cs : List OpenCall) (m : Storage → ℕ) (w : World) (n : Storage → ℕ) (wait : AllWait gs place base size f (base f) cs n) where
    op_effect : (op : ByteOp ℕ) (ops : List (ByteOp ℕ)) → Runs gs place base size f p (op ∷ ops) own m n → effect (renamed_op (to f) op) n w ≡ renamed_effect (to f) (effect op (seen shares_first m own) w)
    op_effect op ops runs =
        effect_renamed (to f) op n w
        ∙ ap (renamed_effect (to f)) (sym (effect_same op (seen shares_first m own) (λ s. n (renamed_storage (to f) s)) w (λ s i. runs.alike s (used p op ops i))))

    op_case : (op : ByteOp ℕ) (ops : List (ByteOp ℕ)) → Runs gs place base size f p (op ∷ ops) own m n → IsState (after_op shares_first (effect op (seen shares_first m own) w) f p ops own cs m) (after_op shares_all (effect (renamed_op (to f) op) n w) f p (map (renamed_op (to f)) ops) all_zero (map y_call cs) n)
    op_case op ops runs =
        let e = effect op (seen shares_first m own) w in
        let sets = map (renamed_assignment (to f)) e.sets in
        let n' = shared_after shares_all sets n in
        record {
          n = n';
          all = (
            record {
              path = On.past p op ops runs.path;
              alike = assigned_alike shares_first (to f) (λ s. Live 0 (gs f) s p ops) e.sets m own n
                  (λ s t live i differ. storages_apart f p op ops (path_to_point (gs f) p (op ∷ ops) runs.path) s t live (subst (IsAmong t) (Law.writes_are op (seen shares_first m own) w) i) differ)
                  (λ s live out. runs.alike s (kept p op ops (λ i. out (subst (IsAmong s) (sym (Law.writes_are op (seen shares_first m own) w)) i)) live));
            },
            still_waiting gs place base size framed.cells f (base f) cs n n' (λ k low. not_assigned (to f) e.sets n (Loc (place_number (Cell k))) (λ s i. outside k low s)) wait,
          );
          is = ap (λ z. after_op shares_all z f p (map (renamed_op (to f)) ops) all_zero (map y_call cs) n) (op_effect op ops runs)
              ∙ ap (λ z. state ((record { function = f; node = p; left = map (renamed_op (to f)) ops; own = z }) ∷ map y_call cs) n' e.world) (own_stays sets all_zero);
        }
      where
        -- no place of the function is a cell of the waiting calls
        outside : (k : ℕ) → k < base f → (s : Storage) → renamed_storage (to f) s ≡ Loc (place_number (Cell k)) → ⊥
        outside k low Carry e = cc
        outside k low (Loc v) e = number_below (base f) k (place f v) (same_location (to f v) (place_number (Cell k)) e) low

    module _ (runs : Runs gs place base size f p [] own m n) where
      -- on to the node q of the same call
      goes_on : (q : ℕ) → GoesTo (exit_at (gs f) p) q → ((s : Storage) → Overwrites 0 (exit_at (gs f) p) s → ⊥) → Runs gs place base size f q (ops_at (gs f) q) own m n
      goes_on q goes keeps = record {
        path = On.through p q goes runs.path;
        alike = λ s live. runs.alike s (onward p q (keeps s) goes live);
      }

      next_same : (q : ℕ) (w' : World) → state (call_at hs f q all_zero ∷ map y_call cs) n w' ≡ y_state (state (call_at gs f q own ∷ cs) m w') n
      next_same q w' = ap (λ c. state (c ∷ map y_call cs) n w') (call_same f q own)

      -- back to the call that waits
      returns : (cs' : List OpenCall) → AllWait gs place base size f (base f) cs' n → exit_at (gs f) p ≡ Return → AllRun gs place base size cs' m n
      returns [] wait' e = tt
      returns (c ∷ cs') wait' e =
          let u = wait'.0 in
          let goes : GoesTo (exit_at (gs c.function) u.from) c.node = subst (λ z. GoesTo z c.node) (sym u.called) refl in (
            record {
              path = subst (Path (gs c.function) c.node) (sym u.left_is) (On.through u.from c.node goes u.path);
              alike = λ s live. back s (subst (Live 0 (gs c.function) s c.node) u.left_is live);
            },
            wait'.1,
          )
        where
          back : (s : Storage) → LiveAt 0 (gs c.function) s c.node → seen shares_first m c.own s ≡ n (renamed_storage (to c.function) s)
          back Carry live = absurd (conv.carry c.function f wait'.0.from c.node wait'.0.called live)
          back (Loc v) live = by_kind (only c.function v c.node live)
            where
              by_kind : (v < 12) ⊎ (24 ≤ v) → seen shares_first m c.own (Loc v) ≡ n (Loc (to c.function v))
              by_kind (inl low) =
                  let argument : IsArgument 0 (Loc v) = (omega arith, low) in
                  let before = written_on (gs f) (Loc v) p [] runs.path (conv.results c.function f wait'.0.from c.node p (Loc v) wait'.0.called argument live e runs.path) in
                  let uses : Uses 0 Return (gs f) p (Loc v) = (argument, before) in
                  let same = runs.alike (Loc v) (used_by_exit p (subst (λ z. Uses 0 z (gs f) p (Loc v)) (sym e) uses)) in
                  seen_argument m c.own (Loc v) argument ∙ sym (seen_argument m own (Loc v) argument) ∙ same ∙ ap n (argument_number f c.function (Loc v) argument)
              by_kind (inr high) = seen_own m c.own v high ∙ wait'.0.keeps v high live

      exit_case : (e : Exit ℕ) → exit_at (gs f) p ≡ e → IsState (exit_step shares_first gs e f own cs m w) (exit_step shares_all hs (renamed_exit (to f) e) f all_zero (map y_call cs) n w)
      exit_case (Next q) e = record {
        n = n;
        all = (goes_on q (subst (λ z. GoesTo z q) (sym e) refl) (λ s. subst (λ z. Overwrites 0 z s → ⊥) (sym e) (λ o. o)), wait);
        is = next_same q w;
      }
      exit_case (Test v true_arm false_arm) e =
          let same = runs.alike (Loc v) (used_by_exit p (subst (λ z. Uses 0 z (gs f) p (Loc v)) (sym e) refl)) in
          let q = branch (seen shares_first m own (Loc v)) true_arm false_arm in
          record {
            n = n;
            all = (goes_on q (subst (λ z. GoesTo z q) (sym e) (branch_goes (seen shares_first m own (Loc v)) v true_arm false_arm)) (λ s. subst (λ z. Overwrites 0 z s → ⊥) (sym e) (λ o. o)), wait);
            is = ap (λ z. state (call_at hs f (branch z true_arm false_arm) all_zero ∷ map y_call cs) n w) (sym same) ∙ next_same q w;
          }
      exit_case (Call g q) e =
          let goes : GoesTo (exit_at (gs f) p) q = subst (λ z. GoesTo z q) (sym e) refl in
          let before : (v : ℕ) → 24 ≤ v → LiveAt 0 (gs f) (Loc v) q → Live 0 (gs f) (Loc v) p [] =
          λ v high live. onward p q (subst (λ z. Overwrites 0 z (Loc v) → ⊥) (sym e) (λ o. let low = o.1 in omega (arith, low, high))) goes live in
          record {
            n = n;
            all = (
              record { path = at_entry; alike = enters },
              (
                record {
                  from = p;
                  called = e;
                  path = runs.path;
                  left_is = refl;
                  room = framed.stacked f g p q e;
                  in_cell = λ v high live. (proper f).across v (omega (arith, high)) (p, g, q, e, live);
                  keeps = λ v high live. sym (seen_own m own v high) ∙ runs.alike (Loc v) (before v high live);
                },
                wait,
              ),
            );
            is = ap₂ (λ c d. state (c ∷ d ∷ map y_call cs) n w) (call_same g (gs g).entry all_zero) (call_same f q own);
          }
        where
          enters : (s : Storage) → LiveAt 0 (gs g) s (gs g).entry → seen shares_first m all_zero s ≡ n (renamed_storage (to g) s)
          enters s live =
              let argument = conv.entries g s live in
              let before = written_on (gs f) s p [] runs.path (conv.arguments f g p q s e live runs.path) in
              let uses : Uses 0 (Call g q) (gs f) p s = (argument, before) in
              let same = runs.alike s (used_by_exit p (subst (λ z. Uses 0 z (gs f) p s) (sym e) uses)) in
              seen_argument m all_zero s argument ∙ sym (seen_argument m own s argument) ∙ same ∙ ap n (argument_number f g s argument)
      exit_case (Label l q) e = record {
        n = n;
        all = (goes_on q (subst (λ z. GoesTo z q) (sym e) refl) (λ s. subst (λ z. Overwrites 0 z s → ⊥) (sym e) (λ o. o)), wait);
        is = next_same q (shown (Event.Label l) w);
      }
      exit_case Return e = record { n = n; all = returns cs wait e; is = refl }

    call_case : (ops : List (ByteOp ℕ)) → Runs gs place base size f p ops own m n → IsState (call_step shares_first gs ops f p own cs m w) (call_step shares_all hs (map (renamed_op (to f)) ops) f p all_zero (map y_call cs) n w)
    call_case [] runs =
        subst (λ e. IsState (exit_step shares_first gs (exit_at (gs f) p) f own cs m w) (exit_step shares_all hs e f all_zero (map y_call cs) n w)) (sym (exit_renamed (to f) (gs f) p)) (exit_case runs (exit_at (gs f) p) refl)
    call_case (op ∷ ops) runs = op_case op ops runs

    touched_case : (ops : List (ByteOp ℕ)) → Runs gs place base size f p ops own m n → next_touched shares_all (map (renamed_op (to f)) ops) all_zero n w ≡ next_touched shares_first ops own m w
    touched_case [] runs = refl
    touched_case (op ∷ ops) runs = ap (λ (e : Effect). e.touched) (op_effect op ops runs)

  pub step_case : (cs : List OpenCall) (m : Storage → ℕ) (w : World) (n : Storage → ℕ) → AllRun gs place base size cs m n → IsState (graph_step shares_first gs cs m w) (graph_step shares_all hs (map y_call cs) n w)
  step_case [] m w n all = record { n = n; all = tt; is = refl }
  step_case (c ∷ cs) m w n all = call_case c.function c.node c.own cs m w n all.1 c.left all.0

  pub touched_same : (cs : List OpenCall) (m : Storage → ℕ) (w : World) (n : Storage → ℕ) → AllRun gs place base size cs m n → calls_touched shares_all (map y_call cs) n w ≡ calls_touched shares_first cs m w
  touched_same [] m w n all = refl
  touched_same (c ∷ cs) m w n all = touched_case c.function c.node c.own cs m w n all.1 c.left all.0

  pub count_same : (cs : List OpenCall) → length (map y_call cs) ≡ length cs
  count_same [] = refl
  count_same (c ∷ cs) = ap suc (count_same cs)

  is_label_same : (f : ℕ) (e : Exit ℕ) → is_label (renamed_exit (to f) e) ≡ is_label e
  is_label_same f (Next q) = refl
  is_label_same f (Test v true_arm false_arm) = refl
  is_label_same f (Call g q) = refl
  is_label_same f (Label l q) = refl
  is_label_same f Return = refl

  comes_same : (f : ℕ) (ops : List (ByteOp ℕ)) (e : Exit ℕ) → label_comes (map (renamed_op (to f)) ops) (renamed_exit (to f) e) ≡ label_comes ops e
  comes_same f [] e = is_label_same f e
  comes_same f (op ∷ ops) e = refl

  pub due_same : (cs : List OpenCall) → label_due hs (map y_call cs) ≡ label_due gs cs
  due_same [] = refl
  due_same (c ∷ cs) = ap (label_comes (map (renamed_op (to c.function)) c.left)) (exit_renamed (to c.function) (gs c.function) c.node) ∙ comes_same c.function c.left (exit_at (gs c.function) c.node)

  pub none_same : (cs : List OpenCall) → no_call (map y_call cs) ≡ no_call cs
  none_same [] = refl
  none_same (c ∷ cs) = refl

  module _ (main : ℕ) (bytes : List (ℕ × ℕ)) (d : ℕ) where
    abbrev vreg_run : System State
    vreg_run = graph_system shares_first gs main bytes

    abbrev place_run : System State
    place_run = graph_system shares_all hs main bytes

    within_same : (x : State) (n : Storage → ℕ) (all : AllRun gs place base size x.calls x.shared n) → IsWithin vreg_run d x → IsWithin place_run d (y_state x n)
    within_same x n all within =
        let next = step_case x.calls x.shared x.world n all in
        record {
          bytes = subst (EachWithin d) (sym (touched_same x.calls x.shared x.world n all)) within.bytes;
          calls = subst (λ k. k ≤ 64) (sym (ap (λ (z : State). length z.calls) next.is ∙ count_same (graph_step shares_first gs x.calls x.shared x.world).calls)) within.calls;
        }

    pub simulates : Simulates vreg_run place_run d d IsState
    simulates = record {
      begins = λ script ok. (
        _,
        here _,
        record {
          n = all_zero;
          all = (record { path = at_entry; alike = λ s live. seen_zero s }, tt);
          is = ap (λ c. state (c ∷ []) all_zero (start_world bytes script)) (call_same main (gs main).entry all_zero);
        },
      );
      steps = λ x y rel within. (
        place_run.step (y_state x rel.n),
        subst (λ z. Run place_run d z (place_run.step (y_state x rel.n))) (sym rel.is) (one_step place_run d (y_state x rel.n) (within_same x rel.n rel.all within)),
        step_case x.calls x.shared x.world rel.n rel.all,
      );
      ahead = λ x y rel. subst (λ (z : State). IsPrefix x.world.made z.world.made) (sym rel.is) (prefix_refl x.world.made);
      stops = λ x y rel due. (y, here _, subst (λ (z : State). IsTrue (label_due hs z.calls)) (sym rel.is) (due_same x.calls ∙ due), ap (λ (z : State). z.world.made) rel.is);
      ends = λ x y rel over. (y, here _, subst (λ (z : State). IsTrue (no_call z.calls)) (sym rel.is) (none_same x.calls ∙ over), ap (λ (z : State). z.world.made) rel.is);
    }
