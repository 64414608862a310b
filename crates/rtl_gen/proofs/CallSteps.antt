-- Calls, returns and entries of a program of RTLabs are runs of its translation.
use Rattle.std.proofs.Common.{◌≡◌, ℕ, suc, ◌+◌, ◌*◌, ◌%◌, ◌<◌, ◌≤◌, inl, inr, List, [], ◌∷◌, map, length, take, Option, Some, None, refl, sym, ap, ◌∙◌, subst, arith}
use Rattle.std.specs.Prelude.{slice_get, IsPermutation}
use Rattle.std.proofs.lemmas.Option.{none-some, same_Some}
use Rattle.cerco_base.specs.Bytes.{count_of_values}
use Rattle.cerco_base.specs.declared.events.Event.TheVariants as event
use Rattle.cerco_traces.specs.Systems.{EachWithin, Run}
use Rattle.cerco_traces.specs.Worlds.{World, shown}
use Rattle.cerco_traces.specs.LabelledGraphs.{SoundlyLabelled}
use Rattle.cerco_traces.proofs.Simulation.{joined}
use Rattle.cerco_middle.specs.declared.operators.Held.{Held}
use Rattle.cerco_middle.specs.declared.rtlabs.RtOp.TheVariants as op
use Rattle.cerco_middle.specs.declared.rtlabs.RtNode.{RtNode}
use Rattle.cerco_middle.specs.Operators.{held_bytes, all_held_bytes, read_from, kept}
use Rattle.cerco_middle.specs.Calls.{Values, all_zero, first_variables, returned}
use Rattle.cerco_middle.specs.RtLabs.Graphs.{RtFunction, RtLabs, parameters_of, flow_graph}
use Rattle.cerco_middle.specs.RtLabs.Meaning.{at_node, first_call}
use Rattle.cerco_middle.specs.RtLabs.WellFormed.{OfFunctions, IsAt, HandsOver, at_entry, after_call, onward as further}
use Rattle.rtl.specs.Operations.{ByteOp}
use Rattle.rtl.specs.Programs.{Node, Graph}
use Rattle.rtl.specs.Effects.{Storage, Loc}
use Rattle.rtl.specs.Graphs.{node_at}
use Rattle.rtl.specs.Meaning.{shares_first, State, state, call_at, exit_step}
use Rattle.rtl.specs.Meaning.{all_zero as own_zero}
use Rattle.byte_sequences.specs.Words.{word_from, temporary}
use Rattle.byte_sequences.specs.Operations.{result_code, operation_code, operation_node}
use Rattle.byte_sequences.proofs.Machine.{Cpu, all_done, byte}
use Rattle.byte_sequences.proofs.SoundBytes.{IsByteWorld, all_done_has_bytes}
use Rattle.byte_sequences.proofs.OperationLaws.{number, moves_give}
use Rattle.byte_sequences.proofs.TouchedBytes.{all_touched, calm_bytes, calm_none}
use Rattle.rtl_gen.specs.Translation.{entry_code, entry_node}
use Rattle.rtl_gen.proofs.Numbered.{graphs_of, graph_is}
use Rattle.rtl_gen.proofs.Nodes.{node_is, last_node_is, entry_is, new_is}
use Rattle.rtl_gen.proofs.Running.{seen_own, seen_shared, in_node, ops_run, leaves}
use Rattle.rtl_gen.proofs.Related.{scalar_in, scalar_alike, some_bytes, Holds, holds_alike}
use Rattle.rtl_gen.proofs.Handing.{from_first, none_handed, all_handed, contains_none}
use Rattle.rtl_gen.proofs.Entered.{entered, calm_entry}
use Rattle.rtl_gen.proofs.States.{Link, lab_call, SharedBytes, cpu_of, seen_bytes, NotCall, one_operation, leads, byte_call, ResultIs, result_past_label, called_from, AllWait, Inside, Fresh, Runs, Mode, over, runs, byte_state}
use Rattle.rtl_gen.proofs.Steps.{length_links, target, Comes, passed, left_to, stands, calm_ops, calm_within, has0, holds0}

module _ (p : RtLabs) (d : ℕ) where
  -- ---- returns

  -- A call of f has returned to the calls that wait, with a result in its place.
  returned_to : OfFunctions p (λ f. SoundlyLabelled (flow_graph f) f.entry) → (m : Mode p) (index : ℕ) (f : RtFunction) → slice_get p.functions index ≡ Some f
      → (ks : List Link) → AllWait p index ks → suc (length ks) ≤ 64 → (slots : Values) (result : ℕ) (shared : Storage → ℕ) (w : World) → SharedBytes shared → IsByteWorld w
      → ((h : Held) → f.result ≡ Some h → scalar_in h 12 shared ≡ result)
      → Run (target p d) d (byte_state p m) (state (map (byte_call p) ks) shared w)
      → Comes p d m (record { calls = map lab_call ks; slots = slots; result = result; world = w })
  returned_to labelled m index f f_is [] waits few slots result shared w shared_bytes world_bytes result_is run = record { next = over slots result shared w; run = run; is = refl; fine = tt }
  returned_to labelled m index f f_is (k ∷ ks) waits few slots result shared w shared_bytes world_bytes result_is run =
      let wait = waits.0 in
      let sound = labelled k.index k.function wait.is in
      let node : RtNode = record { op = op.Call index; next = Some k.node } in
      record {
        next = runs k ks slots result shared w;
        run = run;
        is = refl;
        fine = record {
          is = wait.is;
          place = inl (record {
            holds = wait.holds;
            away = λ e. sound.entry_alone wait.call (leads k.function wait.call k.function.entry node wait.calls (inl e));
            arguments = [];
            path = after_call wait.call k.node node wait.calls refl (inl refl);
            handed = none_handed slots shared;
            within = λ a among. absurd (contains_none a among);
            result_is = record {
              after_call = λ c g callee h calls callee_is has.
                  let same : wait.call ≡ c = called_from p k.function sound c g k.node wait.call node calls wait.calls (inl refl) in
                  let calls' : IsAt k.function wait.call (record { op = op.Call g; next = Some k.node }) = subst (λ x. IsAt k.function x (record { op = op.Call g; next = Some k.node })) (sym same) calls in
                  let index_is : index ≡ g = same_callee (one_operation k.function wait.call node (record { op = op.Call g; next = Some k.node }) wait.calls calls') in
                  let callee_is' : f ≡ callee = same_Some f callee (sym f_is ∙ ap (slice_get p.functions) index_is ∙ callee_is) in
                  result_is h (ap (λ (z : RtFunction). z.result) callee_is' ∙ has);
              after_label = λ h a.
                  let same : wait.call ≡ a.after = a.alone wait.call node wait.calls (inl refl) in
                  let labels' = subst (λ x. IsAt k.function x (record { op = op.Label a.label; next = Some k.node })) (sym same) a.labels in
                  absurd (subst NotCall (one_operation k.function wait.call (record { op = op.Label a.label; next = Some k.node }) node labels' wait.calls) tt);
            };
          });
          own_bytes = wait.bytes;
          shared_bytes = shared_bytes;
          world_bytes = world_bytes;
          waits = waits.1;
          few = omega (arith, few);
        };
      }
    where
      same_callee : {g h : ℕ} → op.Call g ≡ op.Call h → g ≡ h
      same_callee e = cc

  -- ---- a running call, past its entry
  module _ (k : Link) (ks : List Link) (slots : Values) (result : ℕ) (shared : Storage → ℕ) (w : World) (all_labelled : OfFunctions p (λ f. SoundlyLabelled (flow_graph f) f.entry))
      (labelled : SoundlyLabelled (flow_graph k.function) k.function.entry) (fine : Runs p k ks slots result shared w) (inside : Inside p k slots result shared) where
    abbrev f : RtFunction
    f = k.function

    abbrev m0 : Mode p
    m0 = runs k ks slots result shared w

    abbrev c0 : Cpu
    c0 = cpu_of k.own shared w

    waiting_few : length (map (byte_call p) ks) ≤ 64
    waiting_few = let few = fine.few in let same = length_links (byte_call p) ks in omega (arith, few, same)

    pub return_step : IsAt f k.node (record { op = op.Return; next = None }) → f.result ≡ None → Comes p d m0 (record { calls = map lab_call ks; slots = slots; result = result; world = w })
    return_step is none =
        let o = op.Return in
        let last = last_node_is f k.node o is in
        let stand = stands p d k ks slots result shared w labelled fine inside o last.0 last.1 in
        let ops = calm_ops p d k ks slots result shared w labelled fine inside o tt in
        let within = calm_within p d k ks slots result shared w labelled fine inside o tt in
        let run = passed p d k ks slots result shared w labelled fine inside o None last.0 is stand ops within in
        let end : State = state (map (byte_call p) ks) run.shared' w in
        returned_to all_labelled m0 k.index f fine.is ks fine.waits fine.few slots result run.shared' w run.shared_bytes run.world_bytes
        (λ h has. absurd (none-some h (sym none ∙ has)))
        (left_to p d k ks slots result shared w labelled fine inside o None last.0 is stand ops within run end refl waiting_few)

    -- the result in its place
    result_moved : (h : Held) (t : ℕ) → f.result ≡ Some h
        → (scalar_in h 12 (all_done (operation_code number f.held f.result (op.ReturnValue t)) c0).see ≡ kept h (k.temps t)) × ((all_done (operation_code number f.held f.result (op.ReturnValue t)) c0).world ≡ w)
    unfolding kept
    result_moved h t has =
        let P : Option Held → Type 0 = λ r. (scalar_in h 12 (all_done (result_code (word_from number 12) r (temporary number t)) c0).see ≡ kept h (k.temps t)) × ((all_done (result_code (word_from number 12) r (temporary number t)) c0).world ≡ w) in
        let has_bytes = has0 p d k ks slots result shared w labelled fine inside in
        let holds = holds0 p d k ks slots result shared w labelled fine inside in
        let m = moves_give h 12 (27 + 4 * t) c0 (record { low_high = λ e. omega (arith, e); high_low = λ e. omega (arith, e) }) (λ e. omega (arith, e)) has_bytes in
        subst P (sym has) (ap (read_from h) (m.0 ∙ ap (λ v. v % count_of_values (held_bytes h)) (holds.temps_are t)), m.2)

    pub return_value_step : (t : ℕ) (h : Held) → IsAt f k.node (record { op = op.ReturnValue t; next = None }) → f.result ≡ Some h
        → Comes p d m0 (record { calls = map lab_call ks; slots = slots; result = returned f.result (k.temps t) result; world = w })
    return_value_step t h is has =
        let o = op.ReturnValue t in
        let last = last_node_is f k.node o is in
        let stand = stands p d k ks slots result shared w labelled fine inside o last.0 last.1 in
        let ops = calm_ops p d k ks slots result shared w labelled fine inside o tt in
        let within = calm_within p d k ks slots result shared w labelled fine inside o tt in
        let run = passed p d k ks slots result shared w labelled fine inside o None last.0 is stand ops within in
        let moved = result_moved h t has in
        let c1 : Cpu = all_done (operation_code number f.held f.result o) c0 in
        let end : State = state (map (byte_call p) ks) run.shared' w in
        let result' = returned f.result (k.temps t) result in
        returned_to all_labelled m0 k.index f fine.is ks fine.waits fine.few slots result' run.shared' w run.shared_bytes (subst IsByteWorld moved.1 run.world_bytes)
        (λ g has'.
        let same : h ≡ g = same_Some h g (sym has ∙ has') in
        subst (λ z. scalar_in z 12 run.shared' ≡ result') same
        (scalar_alike h 12 c1.see run.shared' (λ r from below. run.shared_is r (near r (some_bytes h) below)) ∙ moved.0 ∙ sym (ap (λ z. returned z (k.temps t) result) has)))
        (left_to p d k ks slots result shared w labelled fine inside o None last.0 is stand ops within run end (ap (λ w'. state (map (byte_call p) ks) run.shared' w') moved.1) waiting_few)
      where
        near : (r : ℕ) → ((1 ≤ held_bytes h) × (held_bytes h ≤ 2)) → r < 12 + held_bytes h → r < 24
        near r few below = let most = few.1 in omega (arith, most, below)

    -- ---- calls

    pub call_step : (g q : ℕ) (callee : RtFunction) → IsAt f k.node (record { op = op.Call g; next = Some q }) → slice_get p.functions g ≡ Some callee
        → IsPermutation (parameters_of callee) inside.arguments → all_held_bytes (take callee.params callee.held) ≤ 12 → suc (suc (length ks)) ≤ 64
        → Comes p d m0 (record { calls = first_call callee slots ∷ (record { of = f; node = q; temporaries = k.temps; variables = k.vars }) ∷ map lab_call ks; slots = all_zero; result = result; world = w })
    call_step g q callee is callee_is permuted few_bytes few =
        let o = op.Call g in
        let stand = stands p d k ks slots result shared w labelled fine inside o q (node_is f k.node o q is inside.away) in
        let ops = calm_ops p d k ks slots result shared w labelled fine inside o tt in
        let within = calm_within p d k ks slots result shared w labelled fine inside o tt in
        let run = passed p d k ks slots result shared w labelled fine inside o (Some q) q is stand ops within in
        let caller : Link = record k { node = q; own = run.own' } in
        let fresh : Link = record { index = g; function = callee; node = callee.entry; temps = all_zero; vars = first_variables callee.held callee.params slots; own = own_zero } in
        let entry : (graphs_of p g).entry ≡ callee.entry = ap (λ (z : Graph ℕ). z.entry) (graph_is p g callee callee_is) in
        let end : State = state (byte_call p fresh ∷ map (byte_call p) (caller ∷ ks)) run.shared' w in
        let waiting = length_links (byte_call p) ks in
        record {
          next = runs fresh (caller ∷ ks) all_zero result run.shared' w;
          run = left_to p d k ks slots result shared w labelled fine inside o (Some q) q is stand ops within run end
              (ap (λ e. state (call_at (graphs_of p) g e own_zero ∷ map (byte_call p) (caller ∷ ks)) run.shared' w) entry)
              (omega (arith, waiting, few));
          is = refl;
          fine = record {
            is = callee_is;
            place = inr (record {
              given = slots;
              at_entry = refl;
              temps_are = refl;
              vars_are = refl;
              parameters = λ a among.
                  let low = (from_first (take callee.params callee.held) 0 a among).1 in
                  scalar_alike a.held (12 + a.first_byte) shared run.shared' (λ r from below. stays run.shared' run.shared_is r (omega (arith, low, few_bytes, below)))
                  ∙ all_handed (take callee.params callee.held) inside.arguments slots shared permuted inside.handed a among;
              own_are = λ r far. refl;
            });
            own_bytes = λ r far. omega arith;
            shared_bytes = run.shared_bytes;
            world_bytes = run.world_bytes;
            waits = (
              record {
                is = fine.is;
                holds = holds_alike f.held k.temps k.vars c0.see run.own' (holds0 p d k ks slots result shared w labelled fine inside) (λ s far. run.own_is s (omega (arith, far)));
                bytes = run.own_bytes;
                call = k.node;
                calls = is;
              },
              fine.waits,
            );
            few = few;
          };
        }
      where
        stays : (shared' : Storage → ℕ) → ((s : ℕ) → s < 24 → shared' (Loc s) ≡ byte c0 s) → (s : ℕ) → s < 24 → shared' (Loc s) ≡ shared (Loc s)
        stays shared' is' s near = is' s near ∙ seen_shared shared k.own s near

  -- ---- entries

  module _ (k : Link) (ks : List Link) (slots : Values) (result : ℕ) (shared : Storage → ℕ) (w : World) (labelled : SoundlyLabelled (flow_graph k.function) k.function.entry)
      (fine : Runs p k ks slots result shared w) (fresh : Fresh p k shared) where
    pub entry_step : (l : _) (q : ℕ) → IsAt k.function k.node (record { op = op.Label l; next = Some q }) → all_held_bytes (take k.function.params k.function.held) ≤ 12
        → Comes p d (runs k ks slots result shared w) (at_node k.function q k.temps k.vars (map lab_call ks) slots result (shown (event.Label l) w))
    entry_step l q is few_bytes =
        let f = k.function in
        let G = graphs_of p in
        let new = length f.nodes in
        let here' : node_at (G k.index) k.node ≡ operation_node number f.held f.result (op.Label l) new = ap (λ (g : Graph ℕ). node_at g k.node) (graph_is p k.index f fine.is) ∙ entry_is f k.node (op.Label l) q is fresh.at_entry in
        let there : node_at (G k.index) new ≡ entry_node number f.held f.params q = ap (λ (g : Graph ℕ). node_at g new) (graph_is p k.index f fine.is) ∙ new_is f k.node (op.Label l) q is fresh.at_entry in
        let others = map (byte_call p) ks in
        let few : suc (length others) ≤ 64 = let few' = fine.few in let same = length_links (byte_call p) ks in omega (arith, few', same) in
        let w1 : World = shown (event.Label l) w in
        let world1 : IsByteWorld w1 = record { xram = fine.world_bytes.xram; script = fine.world_bytes.script } in
        let code : List (ByteOp ℕ) = entry_code number f.held f.params in
        let c0 : Cpu = cpu_of k.own shared w1 in
        let has = seen_bytes k.own shared w1 fine.own_bytes fine.shared_bytes world1 in
        let at_new : State = state (call_at G k.index new k.own ∷ others) shared w1 in
        let first : Run (target p d) d (byte_state p (runs k ks slots result shared w)) at_new =
        subst (λ (n : Node ℕ). Run (target p d) d (state (in_node k.index k.node n.ops k.own ∷ others) shared w) at_new) (sym here')
        (leaves G p.main p.start d k.index k.node k.own shared others w at_new (ap (λ (n : Node ℕ). exit_step shares_first G n.exit k.index k.own others shared w) here') few) in
        let within : EachWithin d (all_touched code c0) = subst (EachWithin d) (sym (calm_none code c0 (calm_entry f.held f.params))) tt in
        let ran = ops_run G p.main p.start d code k.index new k.own shared others c0 (λ s. refl) within few in
        let e = entered f.held f.params fresh.given c0 few_bytes
        (λ a among. let low = (from_first (take f.params f.held) 0 a among).1 in scalar_alike a.held (12 + a.first_byte) shared c0.see (λ r from below. seen_shared shared k.own r (omega (arith, low, few_bytes, below))) ∙ fresh.parameters a among)
        (λ r far. seen_own shared k.own r far ∙ fresh.own_are r far) has in
        let c1 : Cpu = all_done code c0 in
        let has1 = all_done_has_bytes code c0 (calm_bytes code (calm_entry f.held f.params)) has in
        let own_is : (s : ℕ) → 24 ≤ s → ran.own' (Loc s) ≡ byte c1 s = λ s far. sym (seen_own ran.shared' ran.own' s far) ∙ ran.alike (Loc s) in
        let shared_is : (s : ℕ) → s < 24 → ran.shared' (Loc s) ≡ byte c1 s = λ s near. sym (seen_shared ran.shared' ran.own' s near) ∙ ran.alike (Loc s) in
        let end : State = state (call_at G k.index q ran.own' ∷ others) ran.shared' w1 in
        let second : Run (target p d) d at_new end =
        subst (λ (n : Node ℕ). Run (target p d) d (state (in_node k.index new n.ops k.own ∷ others) shared w1) end) (sym there)
        (joined ran.run (leaves G p.main p.start d k.index new ran.own' ran.shared' others c1.world end
        (ap (λ (n : Node ℕ). exit_step shares_first G n.exit k.index ran.own' others ran.shared' c1.world) there ∙ ap (λ w'. state (call_at G k.index q ran.own' ∷ others) ran.shared' w') e.world) few)) in
        let node : RtNode = record { op = op.Label l; next = Some q } in
        record {
          next = runs (record k { node = q; own = ran.own' }) ks slots result ran.shared' w1;
          run = joined first second;
          is = refl;
          fine = record {
            is = fine.is;
            place = inl (record {
              holds = subst (λ ts. Holds f.held ts k.vars ran.own') (sym fresh.temps_are)
                  (subst (λ vs. Holds f.held all_zero vs ran.own') (sym fresh.vars_are) (holds_alike f.held all_zero (first_variables f.held f.params fresh.given) c1.see ran.own' e.holds (λ s far. own_is s (omega (arith, far))))
                  );
              away = λ e'. labelled.entry_alone k.node (leads f k.node f.entry node is (inl e'));
              arguments = [];
              path = further k.node q node [] (subst (λ z. HandsOver f z []) (sym fresh.at_entry) at_entry) is refl (inl refl);
              handed = none_handed slots ran.shared';
              within = λ a among. absurd (contains_none a among);
              result_is = result_past_label p f labelled k.node q l result ran.shared' is (none_at_entry ran.shared');
            });
            own_bytes = λ s far. subst (λ b. b < 256) (sym (own_is s far)) (has1.hold s);
            shared_bytes = λ s near. subst (λ b. b < 256) (sym (shared_is s near)) (has1.hold s);
            world_bytes = subst IsByteWorld e.world has1.world;
            waits = fine.waits;
            few = fine.few;
          };
        }
      where
        none_at_entry : (shared' : Storage → ℕ) → ResultIs p k.function k.node result shared'
        none_at_entry shared' = record {
          after_call = λ c g callee h calls callee_is has. absurd (labelled.entry_alone c (leads k.function c k.function.entry (record { op = op.Call g; next = Some k.node }) calls (inl fresh.at_entry)));
          after_label = λ h a. absurd (labelled.entry_alone a.after (leads k.function a.after k.function.entry (record { op = op.Label a.label; next = Some k.node }) a.labels (inl fresh.at_entry)));
        }
