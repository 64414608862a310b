-- The translation of a program of RTLabs preserves its traces.
use Rattle.std.proofs.Common.{◌≡◌, ℕ, suc, ◌<◌, ◌≤◌, ◌⊎◌, inl, inr, ⊎_elim, List, [], ◌∷◌, map, length, take, Option, Some, None, true, false, IsTrue, refl, sym, ap, ◌∙◌, subst, arith}
use Rattle.std.specs.Prelude.{Contains, slice_get, option_map}
use Rattle.std.proofs.lemmas.Option.{slice_get-get_or}
use Rattle.std.proofs.lemmas.Bool.Decides.{eqb_tells}
use Rattle.cerco_base.specs.Events.{IsScript, IsPrefix}
use Rattle.cerco_traces.specs.Systems.{System, EachWithin, IsWithin, Run, here}
use Rattle.cerco_traces.specs.Preservation.{Preserves}
use Rattle.cerco_traces.specs.Worlds.{World, update, started_from, start_world}
use Rattle.cerco_traces.specs.LabelledGraphs.{SoundlyLabelled, IsLabelNode}
use Rattle.cerco_traces.proofs.WorldLaws.{update_same, update_other}
use Rattle.cerco_traces.proofs.Simulation.{Simulates, simulation_preserves, prefix_refl}
use Rattle.cerco_middle.specs.declared.operators.Held.{Held}
use Rattle.cerco_middle.specs.declared.rtlabs.RtOp.{RtOp}
use Rattle.cerco_middle.specs.declared.rtlabs.RtOp.TheVariants as op
use Rattle.cerco_middle.specs.declared.rtlabs.RtNode.{RtNode}
use Rattle.cerco_middle.specs.Calls.{Values, all_zero, arguments_from, first_variables}
use Rattle.cerco_middle.specs.Programs.{AreBytesAtAddresses}
use Rattle.cerco_middle.specs.RtLabs.Graphs.{RtFunction, RtLabs, flow_graph, node_kind}
use Rattle.cerco_middle.specs.RtLabs.Meaning.{RtState, main_call, op_step, node_step, called, op_touched, node_touched, op_due, node_due, rtlabs}
use Rattle.cerco_middle.specs.RtLabs.WellFormed.{OfFunctions, IsWellFormed, IsWellFormedFunction, IsAt, GoesOn, ReturnsAs}
use Rattle.rtl.specs.Programs.{Node, Graph}
use Rattle.rtl.specs.Effects.{Storage}
use Rattle.rtl.specs.Graphs.{node_at, exit_at}
use Rattle.rtl.specs.Meaning.{State, state, call_at, label_comes, rtl}
use Rattle.rtl.specs.Meaning.{all_zero as own_zero}
use Rattle.byte_sequences.proofs.MoveLaws.{AllBytes}
use Rattle.rtl_gen.specs.Translation.{translated}
use Rattle.rtl_gen.proofs.Numbered.{graphs_of, graph_is}
use Rattle.rtl_gen.proofs.Nodes.{node_is, entry_is}
use Rattle.rtl_gen.proofs.Handing.{contains_none}
use Rattle.rtl_gen.proofs.States.{Link, lab_call, byte_call, Inside, Fresh, Runs, Mode, over, runs, lab_state, byte_state, Fine, Relates}
use Rattle.rtl_gen.proofs.Steps.{length_links, Comes, const_step, get_step, neg_step, not_step, narrow_step, bin_step, shl_step, shr_step, result_step, put_step, load_step, store_step, read_step, write_step, arg_step, label_step, test_step}
use Rattle.rtl_gen.proofs.CallSteps.{return_step, return_value_step, call_step, entry_step}

-- ---- what the start holds

start_bytes : (bytes : List (ℕ × ℕ)) (xram : ℕ → ℕ) → AreBytesAtAddresses bytes → ((a : ℕ) → xram a < 256) → (a : ℕ) → started_from bytes xram a < 256
start_bytes [] xram all small = small
start_bytes (b ∷ bytes) xram all small = start_bytes bytes (update xram b.0 b.1) all.2 with_one
  where
    with_one : (a : ℕ) → update xram b.0 b.1 a < 256
    with_one a = ⊎_elim
        (λ e. subst (λ x. x < 256) (sym (update_same xram b.0 a b.1 e.1)) all.1)
        (λ e. subst (λ x. x < 256) (sym (update_other xram b.0 a b.1 e.1)) (small a))
        (eqb_tells a b.0)

script_bytes : (script : List ℕ) → IsScript script → AllBytes script
script_bytes [] ok = tt
script_bytes (b ∷ script) ok = (ok 0 0 (omega arith), script_bytes script (λ i e below. ok (suc i) e (omega (arith, below))))

-- ---- what is known of returns

result_none : (r : Option Held) → ReturnsAs r op.Return → r ≡ None
result_none None fits = refl
result_none (Some h) fits = absurd fits

result_some : (r : Option Held) (t : ℕ) → ReturnsAs r (op.ReturnValue t) → (h : Held) × (r ≡ Some h)
result_some None t fits = absurd fits
result_some (Some h) t fits = (h, refl)

module _ (p : RtLabs) (wf : IsWellFormed p) (labelled : OfFunctions p (λ f. SoundlyLabelled (flow_graph f) f.entry)) (d : ℕ) where
  abbrev X : System RtState
  X = rtlabs p

  -- ---- a step of a running call, past its entry
  module _ (k : Link) (ks : List Link) (slots : Values) (result : ℕ) (shared : Storage → ℕ) (w : World) (fine : Runs p k ks slots result shared w) (inside : Inside p k slots result shared) where
    abbrev f : RtFunction
    f = k.function

    abbrev m0 : Mode p
    m0 = runs k ks slots result shared w

    abbrev after : RtOp → Option ℕ → RtState
    after o next = op_step p.functions o next (lab_state p m0) f k.temps k.vars (map lab_call ks) slots result w

    sound : SoundlyLabelled (flow_graph f) f.entry
    sound = labelled k.index f fine.is

    formed : IsWellFormedFunction p f
    formed = wf.functions k.index f fine.is

    -- where there is a next node
    with_next : (o : RtOp) (next : Option ℕ) → ((q : ℕ) × (next ≡ Some q)) → IsAt f k.node (record { op = o; next = next })
        → ((q : ℕ) → next ≡ Some q → IsAt f k.node (record { op = o; next = Some q }) → Comes p d m0 (after o (Some q))) → Comes p d m0 (after o next)
    with_next o next g is step = subst (λ n. Comes p d m0 (after o n)) (sym g.1) (step g.0 g.1 (is ∙ ap (λ n. Some (record { op = o; next = n })) g.1))

    with_none : (o : RtOp) (next : Option ℕ) → next ≡ None → IsAt f k.node (record { op = o; next = next })
        → (IsAt f k.node (record { op = o; next = None }) → Comes p d m0 (after o None)) → Comes p d m0 (after o next)
    with_none o next none is step = subst (λ n. Comes p d m0 (after o n)) (sym none) (step (is ∙ ap (λ n. Some (record { op = o; next = n })) none))

    call_of : (g q : ℕ) (callee : RtFunction) → slice_get p.functions g ≡ Some callee → IsAt f k.node (record { op = op.Call g; next = Some q }) → length ((after (op.Call g) (Some q)).calls) ≤ 64 → Comes p d m0 (after (op.Call g) (Some q))
    call_of g q callee callee_is is few =
        let there = ap (λ c. called c (Some q) (lab_state p m0) f k.temps k.vars (map lab_call ks) slots result w) callee_is in
        let few' : length ((called (Some callee) (Some q) (lab_state p m0) f k.temps k.vars (map lab_call ks) slots result w).calls) ≤ 64 = subst (λ (s : RtState). length s.calls ≤ 64) there few in
        let same = length_links lab_call ks in
        subst (Comes p d m0) (sym there)
        (call_step p d k ks slots result shared w labelled sound fine inside g q callee is callee_is
        (formed.arguments_meet_calls inside.arguments k.node (record { op = op.Call g; next = Some q }) is inside.path callee callee_is)
        ((wf.functions g callee callee_is).parameters_are_few) (omega (arith, few', same)))

    op_steps : (o : RtOp) (next : Option ℕ) → IsAt f k.node (record { op = o; next = next }) → GoesOn o next → EachWithin d (op_touched o k.temps) → length ((after o next).calls) ≤ 64 → Comes p d m0 (after o next)
    op_steps (op.Const t n) next is g touched few = with_next (op.Const t n) next g is (λ q e is'. const_step p d k ks slots result shared w sound fine inside t n q is')
    op_steps (op.Get t x) next is g touched few = with_next (op.Get t x) next g is (λ q e is'. get_step p d k ks slots result shared w sound fine inside t x q is')
    op_steps (op.Put x t) next is g touched few = with_next (op.Put x t) next g is (λ q e is'. put_step p d k ks slots result shared w sound fine inside x t q is')
    op_steps (op.Neg t) next is g touched few = with_next (op.Neg t) next g is (λ q e is'. neg_step p d k ks slots result shared w sound fine inside t q is')
    op_steps (op.Not t) next is g touched few = with_next (op.Not t) next g is (λ q e is'. not_step p d k ks slots result shared w sound fine inside t q is')
    op_steps (op.Narrow h t) next is g touched few = with_next (op.Narrow h t) next g is (λ q e is'. narrow_step p d k ks slots result shared w sound fine inside h t q is')
    op_steps (op.Bin o t u) next is g touched few = with_next (op.Bin o t u) next g is (λ q e is'. bin_step p d k ks slots result shared w sound fine inside o t u q is')
    op_steps (op.Shl n t) next is g touched few = with_next (op.Shl n t) next g is (λ q e is'. shl_step p d k ks slots result shared w sound fine inside n t q is')
    op_steps (op.Shr n keeps_sign t) next is g touched few = with_next (op.Shr n keeps_sign t) next g is (λ q e is'. shr_step p d k ks slots result shared w sound fine inside n keeps_sign t q is')
    op_steps (op.Load h t) next is g touched few = with_next (op.Load h t) next g is (λ q e is'. load_step p d k ks slots result shared w sound fine inside h t q is' touched)
    op_steps (op.Store h t u) next is g touched few = with_next (op.Store h t u) next g is (λ q e is'. store_step p d k ks slots result shared w sound fine inside h t u q is' touched)
    op_steps (op.ReadPort t) next is g touched few = with_next (op.ReadPort t) next g is (λ q e is'. read_step p d k ks slots result shared w sound fine inside t q is')
    op_steps (op.WritePort t) next is g touched few = with_next (op.WritePort t) next g is (λ q e is'. write_step p d k ks slots result shared w sound fine inside t q is')
    op_steps (op.Arg h first t) next is g touched few =
        let within = formed.arguments_are_within_twelve k.node (record { op = op.Arg h first t; next = next }) is in
        with_next (op.Arg h first t) next g is (λ q e is'. arg_step p d k ks slots result shared w sound fine inside h first t q is' within)
    op_steps (op.Call g') next is g touched few =
        let exists = wf.functions_exist.1 k.index f fine.is k.node (record { op = op.Call g'; next = next }) is g' (inl refl) in
        let callee_is = slice_get-get_or p.functions g' f exists in
        with_next (op.Call g') next g is (λ q e is'. call_of g' q _ callee_is is' (subst (λ n. length ((after (op.Call g') n).calls) ≤ 64) e few))
    op_steps (op.Result h t) next is g touched few =
        let came = formed.results_follow_calls k.node (record { op = op.Result h t; next = next }) is in
        with_next (op.Result h t) next g is (λ q e is'. result_step p d k ks slots result shared w sound fine inside h t q is' came)
    op_steps (op.Label l) next is g touched few = with_next (op.Label l) next g is (λ q e is'. label_step p d k ks slots result shared w sound fine inside l q is')
    op_steps (op.Test t on_true on_false) next is g touched few = with_none (op.Test t on_true on_false) next g is (λ is'. test_step p d k ks slots result shared w sound fine inside t on_true on_false is')
    op_steps op.Return next is g touched few =
        let none = result_none f.result (formed.returns_fit k.node (record { op = op.Return; next = next }) is) in
        with_none op.Return next g is (λ is'. return_step p d k ks slots result shared w labelled sound fine inside is' none)
    op_steps (op.ReturnValue t) next is g touched few =
        let some = result_some f.result t (formed.returns_fit k.node (record { op = op.ReturnValue t; next = next }) is) in
        with_none (op.ReturnValue t) next g is (λ is'. return_value_step p d k ks slots result shared w labelled sound fine inside t some.0 is' some.1)

  -- ---- a step of a running call at its entry
  module _ (k : Link) (ks : List Link) (slots : Values) (result : ℕ) (shared : Storage → ℕ) (w : World) (fine : Runs p k ks slots result shared w) (fresh : Fresh p k shared) where
    abbrev entry_after : RtOp → Option ℕ → RtState
    entry_after o next = op_step p.functions o next (lab_state p (runs k ks slots result shared w)) k.function k.temps k.vars (map lab_call ks) slots result w

    -- the entry is a label
    entry_label : (o : RtOp) (next : Option ℕ) → IsLabelNode (Some (node_kind (record { op = o; next = next }))) → (P : RtOp → Type 0) → ((l : _) → P (op.Label l)) → P o
    entry_label (op.Label l) next is P at_label = at_label l
    entry_label (op.Const t n) next is P at_label = absurd is
    entry_label (op.Get t x) next is P at_label = absurd is
    entry_label (op.Put x t) next is P at_label = absurd is
    entry_label (op.Neg t) next is P at_label = absurd is
    entry_label (op.Not t) next is P at_label = absurd is
    entry_label (op.Narrow h t) next is P at_label = absurd is
    entry_label (op.Bin o t u) next is P at_label = absurd is
    entry_label (op.Shl n t) next is P at_label = absurd is
    entry_label (op.Shr n keeps_sign t) next is P at_label = absurd is
    entry_label (op.Load h t) next is P at_label = absurd is
    entry_label (op.Store h t u) next is P at_label = absurd is
    entry_label (op.ReadPort t) next is P at_label = absurd is
    entry_label (op.WritePort t) next is P at_label = absurd is
    entry_label (op.Arg h first t) next is P at_label = absurd is
    entry_label (op.Call g) next is P at_label = absurd is
    entry_label (op.Result h t) next is P at_label = absurd is
    entry_label (op.Test t on_true on_false) next is P at_label = absurd is
    entry_label op.Return next is P at_label = absurd is
    entry_label (op.ReturnValue t) next is P at_label = absurd is

    entry_steps : (o : RtOp) (next : Option ℕ) → IsAt k.function k.node (record { op = o; next = next }) → GoesOn o next → Comes p d (runs k ks slots result shared w) (entry_after o next)
    entry_steps o next is g =
        let sound = labelled k.index k.function fine.is in
        let flow : flow_graph k.function k.function.entry ≡ Some (node_kind (record { op = o; next = next })) = ap (flow_graph k.function) (sym fresh.at_entry) ∙ ap (λ (n : Option RtNode). option_map node_kind n) is in
        entry_label o next (subst IsLabelNode flow sound.entry_marked)
        (λ o'. IsAt k.function k.node (record { op = o'; next = next }) → GoesOn o' next → Comes p d (runs k ks slots result shared w) (entry_after o' next))
        (λ l is' g'. subst (λ n. Comes p d (runs k ks slots result shared w) (entry_after (op.Label l) n)) (sym g'.1)
        (entry_step p d k ks slots result shared w sound fine fresh l g'.0 (is' ∙ ap (λ n. Some (record { op = op.Label l; next = n })) g'.1) ((wf.functions k.index k.function fine.is).parameters_are_few)))
        is g

  -- ---- all steps

  run_step : (k : Link) (ks : List Link) (slots : Values) (result : ℕ) (shared : Storage → ℕ) (w : World) → Runs p k ks slots result shared w → IsWithin X d (lab_state p (runs k ks slots result shared w))
      → (node : Option RtNode) → slice_get k.function.nodes k.node ≡ node
      → Comes p d (runs k ks slots result shared w) (node_step p.functions node (lab_state p (runs k ks slots result shared w)) k.function k.temps k.vars (map lab_call ks) slots result w)
  run_step k ks slots result shared w fine within None is = record { next = runs k ks slots result shared w; run = here _; is = refl; fine = fine }
  run_step k ks slots result shared w fine within (Some node) is =
      let m = runs k ks slots result shared w in
      let goes = (wf.functions k.index k.function fine.is).paths_go_on k.node node is in
      let touched : EachWithin d (op_touched node.op k.temps) = subst (λ n. EachWithin d (node_touched n k.temps)) is within.bytes in
      let few = subst (λ n. length ((node_step p.functions n (lab_state p m) k.function k.temps k.vars (map lab_call ks) slots result w).calls) ≤ 64) is within.calls in
      ⊎_elim
      (λ inside. op_steps k ks slots result shared w fine inside node.op node.next is goes touched few)
      (λ fresh. entry_steps k ks slots result shared w fine fresh node.op node.next is goes)
      fine.place

  mode_step : (m : Mode p) → Fine p m → IsWithin X d (lab_state p m) → Comes p d m (X.step (lab_state p m))
  mode_step (over slots result shared w) fine within = record { next = over slots result shared w; run = here _; is = refl; fine = tt }
  mode_step (runs k ks slots result shared w) fine within = run_step k ks slots result shared w fine within (slice_get k.function.nodes k.node) refl

  abbrev Z : System State
  Z = rtl (translated p)

  -- ---- the start

  begins : (script : List ℕ) → IsScript script → Relates p (X.start script) (Z.start script)
  begins script ok =
      let exists = slice_get-get_or p.functions p.main (record { held = []; params = 0; result = None; entry = 0; nodes = [] }) wf.functions_exist.0 in
      by _ exists
    where
      by : (f : RtFunction) → slice_get p.functions p.main ≡ Some f → Relates p (X.start script) (Z.start script)
      by f is =
          let w = start_world p.start script in
          let first : Link = record { index = p.main; function = f; node = f.entry; temps = all_zero; vars = first_variables f.held f.params all_zero; own = own_zero } in
          let plain = wf.main_is_plain f is in
          let entry : (graphs_of p p.main).entry ≡ f.entry = ap (λ (g : Graph ℕ). g.entry) (graph_is p p.main f is) in
          record {
            mode = runs first [] all_zero 0 own_zero w;
            is_x = ap (λ calls. record { calls = calls; slots = all_zero; result = 0; world = w }) (ap main_call is);
            is_y = ap (λ e. state (call_at (graphs_of p) p.main e own_zero ∷ []) own_zero w) entry;
            fine = record {
              is = is;
              place = inr (record {
                given = all_zero;
                at_entry = refl;
                temps_are = refl;
                vars_are = refl;
                parameters = λ a among. absurd (contains_none a (subst (λ n. Contains (arguments_from 0 (take n f.held)) a) plain.0 among));
                own_are = λ r far. refl;
              });
              own_bytes = λ r far. omega arith;
              shared_bytes = λ r near. omega arith;
              world_bytes = record { xram = start_bytes p.start (λ a. 0) wf.starts_with_bytes (λ a. omega arith); script = script_bytes script ok };
              waits = tt;
              few = omega arith;
            };
          }

  -- ---- stops

  no_more : false ≡ true → ⊥
  no_more e = cc

  due_at : (k : Link) (slots : Values) (result : ℕ) (shared : Storage → ℕ) → slice_get p.functions k.index ≡ Some k.function → (Inside p k slots result shared ⊎ Fresh p k shared)
      → (o : RtOp) (next : Option ℕ) → IsAt k.function k.node (record { op = o; next = next }) → op_due o next ≡ true → label_comes (byte_call p k).left (exit_at (graphs_of p k.index) k.node) ≡ true
  due_at k slots result shared f_is (inl inside) (op.Label l) (Some q) is due =
      ap (λ (n : Node ℕ). label_comes n.ops n.exit) (ap (λ (g : Graph ℕ). node_at g k.node) (graph_is p k.index k.function f_is) ∙ node_is k.function k.node (op.Label l) q is inside.away)
  due_at k slots result shared f_is (inr fresh) (op.Label l) (Some q) is due =
      ap (λ (n : Node ℕ). label_comes n.ops n.exit) (ap (λ (g : Graph ℕ). node_at g k.node) (graph_is p k.index k.function f_is) ∙ entry_is k.function k.node (op.Label l) q is fresh.at_entry)
  due_at k slots result shared f_is place _ next is due = absurd (no_more due)

  due_node : (k : Link) (slots : Values) (result : ℕ) (shared : Storage → ℕ) → slice_get p.functions k.index ≡ Some k.function → (Inside p k slots result shared ⊎ Fresh p k shared)
      → (node : Option RtNode) → slice_get k.function.nodes k.node ≡ node → node_due node ≡ true → label_comes (byte_call p k).left (exit_at (graphs_of p k.index) k.node) ≡ true
  due_node k slots result shared f_is place None is due = absurd (no_more due)
  due_node k slots result shared f_is place (Some node) is due = due_at k slots result shared f_is place node.op node.next is due

  due_too : (m : Mode p) → Fine p m → IsTrue (X.due (lab_state p m)) → IsTrue (Z.due (byte_state p m))
  due_too (over slots result shared w) fine due = absurd (no_more due)
  due_too (runs k ks slots result shared w) fine due = due_node k slots result shared fine.is fine.place (slice_get k.function.nodes k.node) refl due

  ended_too : (m : Mode p) → IsTrue (X.ended (lab_state p m)) → IsTrue (Z.ended (byte_state p m))
  ended_too (over slots result shared w) ended = refl
  ended_too (runs k ks slots result shared w) ended = absurd (no_more ended)

  same_events : (m : Mode p) → Z.events (byte_state p m) ≡ X.events (lab_state p m)
  same_events (over slots result shared w) = refl
  same_events (runs k ks slots result shared w) = refl

  -- ---- the simulation

  events_are : (x : RtState) (y : State) → Relates p x y → Z.events y ≡ X.events x
  events_are x y r = ap Z.events r.is_y ∙ same_events r.mode ∙ sym (ap X.events r.is_x)

  simulates : Simulates X Z d d (Relates p)
  simulates = record {
    begins = λ script ok. (Z.start script, here _, begins script ok);
    steps = λ x y r within.
        let m = r.mode in
        let c = mode_step m r.fine (subst (IsWithin X d) r.is_x within) in
        (byte_state p c.next, subst (λ s. Run Z d s (byte_state p c.next)) (sym r.is_y) c.run, record { mode = c.next; is_x = ap X.step r.is_x ∙ c.is; is_y = refl; fine = c.fine });
    ahead = λ x y r. subst (λ es. IsPrefix es (Z.events y)) (events_are x y r) (prefix_refl (Z.events y));
    stops = λ x y r due. (y, here y, subst (λ s. IsTrue (Z.due s)) (sym r.is_y) (due_too r.mode r.fine (subst (λ s. IsTrue (X.due s)) r.is_x due)), events_are x y r);
    ends = λ x y r ended. (y, here y, subst (λ s. IsTrue (Z.ended s)) (sym r.is_y) (ended_too r.mode (subst (λ s. IsTrue (X.ended s)) r.is_x ended)), events_are x y r);
  }

-- the clause on traces
pub translation_preserves : (p : RtLabs) → IsWellFormed p → OfFunctions p (λ f. SoundlyLabelled (flow_graph f) f.entry) → Preserves (rtlabs p) (rtl (translated p))
translation_preserves p wf labelled d small = simulation_preserves (rtlabs p) (rtl (translated p)) d d (Relates p) (simulates p wf labelled d)
