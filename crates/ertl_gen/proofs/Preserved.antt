-- An ERTL program makes the steps of the RTL program: each state of the one is a state of the other under the exchanged numbers.
use Rattle.std.proofs.Common.{◌≡◌, ℕ, suc, ◌≤◌, List, [], ◌∷◌, length, map, IsTrue, refl, sym, ap, ap₂, ◌∙◌, subst}
use Rattle.cerco_base.specs.declared.events.Event.TheVariants as Event
use Rattle.cerco_traces.specs.Worlds.{World, shown, start_world}
use Rattle.cerco_base.specs.Events.{IsPrefix}
use Rattle.cerco_traces.specs.Systems.{System, EachWithin, IsWithin, Run, here}
use Rattle.cerco_traces.specs.Preservation.{Preserves}
use Rattle.cerco_traces.proofs.Simulation.{one_step, prefix_refl, Simulates, simulation_preserves}
use Rattle.rtl.specs.Operations.{ByteOp}
use Rattle.rtl.specs.declared.graphs.Exit.{Exit}
use Rattle.rtl.specs.declared.graphs.Exit.TheVariants.{Next, Test, Call, Label, Return}
use Rattle.rtl.specs.Programs.{Graph}
use Rattle.rtl.specs.Effects.{Storage, Loc, Effect, effect}
use Rattle.rtl.specs.Graphs.{renamed_op, renamed_exit, renamed_graph, exit_at}
use Rattle.rtl.specs.Meaning.{State, OpenCall, state, call_at, all_zero, seen, branch, after_op, exit_step, call_step, graph_step, next_touched, calls_touched, is_label, label_comes, label_due, no_call, graph_system, shares_first}
use Rattle.rtl.proofs.EffectLaws.{renamed_effect, seen_as, effect_renamed}
use Rattle.byte_renaming.proofs.Programs.{same_function, ops_renamed, exit_renamed}
use Rattle.ertl_gen.specs.Translation.{exchanged_number}
use Rattle.ertl_gen.proofs.Related.{turned, seen_turned, shared_turned, own_turned}

module _ (gs : ℕ → Graph ℕ) where
  abbrev pub exchanged_graphs : ℕ → Graph ℕ
  exchanged_graphs k = renamed_graph exchanged_number (gs k)

  abbrev y_call : OpenCall → OpenCall
  y_call c = record { function = c.function; node = c.node; left = map (renamed_op exchanged_number) c.left; own = turned c.own }

  abbrev y_state : State → State
  y_state x = state (map y_call x.calls) (turned x.shared) x.world

  call_same : (k p : ℕ) (own : Storage → ℕ) → call_at exchanged_graphs k p (turned own) ≡ y_call (call_at gs k p own)
  call_same k p own = ap (λ (ops : List (ByteOp ℕ)). record { function = k; node = p; left = ops; own = turned own }) (ops_renamed exchanged_number (gs k) p)

  module _ (k p : ℕ) (own : Storage → ℕ) (cs : List OpenCall) (m : Storage → ℕ) (w : World) where
    -- an operation does the same
    effect_same : (op : ByteOp ℕ) → effect (renamed_op exchanged_number op) (seen shares_first (turned m) (turned own)) w ≡ renamed_effect exchanged_number (effect op (seen shares_first m own) w)
    effect_same op =
        effect_renamed exchanged_number op (seen shares_first (turned m) (turned own)) w
        ∙ ap (λ see. renamed_effect exchanged_number (effect op see w)) (same_function (seen_as exchanged_number (seen shares_first (turned m) (turned own))) (seen shares_first m own) (seen_turned m own))

    op_case : (op : ByteOp ℕ) (ops : List (ByteOp ℕ)) → after_op shares_first (effect (renamed_op exchanged_number op) (seen shares_first (turned m) (turned own)) w) k p (map (renamed_op exchanged_number) ops) (turned own) (map y_call cs) (turned m) ≡ y_state (after_op shares_first (effect op (seen shares_first m own) w) k p ops own cs m)
    op_case op ops =
        let e = effect op (seen shares_first m own) w in
        ap (λ z. after_op shares_first z k p (map (renamed_op exchanged_number) ops) (turned own) (map y_call cs) (turned m)) (effect_same op)
        ∙ ap₂ (λ o s. state ((record { function = k; node = p; left = map (renamed_op exchanged_number) ops; own = o }) ∷ map y_call cs) s e.world) (own_turned e.sets own) (shared_turned e.sets m)

    -- a call goes on at a node
    goes_on : (q : ℕ) (w' : World) → state (call_at exchanged_graphs k q (turned own) ∷ map y_call cs) (turned m) w' ≡ y_state (state (call_at gs k q own ∷ cs) m w')
    goes_on q w' = ap (λ c. state (c ∷ map y_call cs) (turned m) w') (call_same k q own)

    exit_case : (e : Exit ℕ) → exit_step shares_first exchanged_graphs (renamed_exit exchanged_number e) k (turned own) (map y_call cs) (turned m) w ≡ y_state (exit_step shares_first gs e k own cs m w)
    exit_case (Next q) = goes_on q w
    exit_case (Test v true_arm false_arm) =
        ap (λ n. state (call_at exchanged_graphs k (branch n true_arm false_arm) (turned own) ∷ map y_call cs) (turned m) w) (seen_turned m own (Loc v))
        ∙ goes_on (branch (seen shares_first m own (Loc v)) true_arm false_arm) w
    exit_case (Call g q) = ap₂ (λ c d. state (c ∷ d ∷ map y_call cs) (turned m) w) (call_same g (gs g).entry all_zero) (call_same k q own)
    exit_case (Label l q) = goes_on q (shown (Event.Label l) w)
    exit_case Return = refl

    step_case : (ops : List (ByteOp ℕ)) → call_step shares_first exchanged_graphs (map (renamed_op exchanged_number) ops) k p (turned own) (map y_call cs) (turned m) w ≡ y_state (call_step shares_first gs ops k p own cs m w)
    step_case [] = ap (λ e. exit_step shares_first exchanged_graphs e k (turned own) (map y_call cs) (turned m) w) (exit_renamed exchanged_number (gs k) p) ∙ exit_case (exit_at (gs k) p)
    step_case (op ∷ ops) = op_case op ops

    touched_case : (ops : List (ByteOp ℕ)) → next_touched shares_first (map (renamed_op exchanged_number) ops) (turned own) (turned m) w ≡ next_touched shares_first ops own m w
    touched_case [] = refl
    touched_case (op ∷ ops) = ap (λ (e : Effect). e.touched) (effect_same op)

  steps_same : (cs : List OpenCall) (m : Storage → ℕ) (w : World) → graph_step shares_first exchanged_graphs (map y_call cs) (turned m) w ≡ y_state (graph_step shares_first gs cs m w)
  steps_same [] m w = refl
  steps_same (c ∷ cs) m w = step_case c.function c.node c.own cs m w c.left

  touched_same : (cs : List OpenCall) (m : Storage → ℕ) (w : World) → calls_touched shares_first (map y_call cs) (turned m) w ≡ calls_touched shares_first cs m w
  touched_same [] m w = refl
  touched_same (c ∷ cs) m w = touched_case c.function c.node c.own cs m w c.left

  count_same : (cs : List OpenCall) → length (map y_call cs) ≡ length cs
  count_same [] = refl
  count_same (c ∷ cs) = ap suc (count_same cs)

  is_label_same : (e : Exit ℕ) → is_label (renamed_exit exchanged_number e) ≡ is_label e
  is_label_same (Next q) = refl
  is_label_same (Test v true_arm false_arm) = refl
  is_label_same (Call g q) = refl
  is_label_same (Label l q) = refl
  is_label_same Return = refl

  comes_same : (ops : List (ByteOp ℕ)) (e : Exit ℕ) → label_comes (map (renamed_op exchanged_number) ops) (renamed_exit exchanged_number e) ≡ label_comes ops e
  comes_same [] e = is_label_same e
  comes_same (op ∷ ops) e = refl

  due_same : (cs : List OpenCall) → label_due exchanged_graphs (map y_call cs) ≡ label_due gs cs
  due_same [] = refl
  due_same (c ∷ cs) = ap (label_comes (map (renamed_op exchanged_number) c.left)) (exit_renamed exchanged_number (gs c.function) c.node) ∙ comes_same c.left (exit_at (gs c.function) c.node)

  none_same : (cs : List OpenCall) → no_call (map y_call cs) ≡ no_call cs
  none_same [] = refl
  none_same (c ∷ cs) = refl

  module _ (main : ℕ) (bytes : List (ℕ × ℕ)) (d : ℕ) where
    abbrev rtl_system : System State
    rtl_system = graph_system shares_first gs main bytes

    abbrev ertl_system : System State
    ertl_system = graph_system shares_first exchanged_graphs main bytes

    Related : State → State → Type 0
    Related x y = y ≡ y_state x

    within_same : (x : State) → IsWithin rtl_system d x → IsWithin ertl_system d (y_state x)
    within_same x within = record {
      bytes = subst (EachWithin d) (sym (touched_same x.calls x.shared x.world)) within.bytes;
      calls = subst (λ n. n ≤ 64) (sym (ap (λ (z : State). length z.calls) (steps_same x.calls x.shared x.world) ∙ count_same (graph_step shares_first gs x.calls x.shared x.world).calls)) within.calls;
    }

    simulates : Simulates rtl_system ertl_system d d Related
    unfolding Related
    simulates = record {
      begins = λ script ok. (_, here _, ap (λ c. state (c ∷ []) all_zero (start_world bytes script)) (call_same main (gs main).entry all_zero));
      steps = λ x y rel within.
          (ertl_system.step (y_state x), subst (λ z. Run ertl_system d z (ertl_system.step (y_state x))) (sym rel) (one_step ertl_system d (y_state x) (within_same x within)), steps_same x.calls x.shared x.world);
      ahead = λ x y rel. subst (λ (z : State). IsPrefix x.world.made z.world.made) (sym rel) (prefix_refl x.world.made);
      stops = λ x y rel due. (y, here _, subst (λ (z : State). IsTrue (label_due exchanged_graphs z.calls)) (sym rel) (due_same x.calls ∙ due), ap (λ (z : State). z.world.made) rel);
      ends = λ x y rel over. (y, here _, subst (λ (z : State). IsTrue (no_call z.calls)) (sym rel) (none_same x.calls ∙ over), ap (λ (z : State). z.world.made) rel);
    }

  pub exchange_preserves : (main : ℕ) (bytes : List (ℕ × ℕ)) → Preserves (graph_system shares_first gs main bytes) (graph_system shares_first exchanged_graphs main bytes)
  exchange_preserves main bytes d small = simulation_preserves _ _ d d (Related main bytes d) (simulates main bytes d)
