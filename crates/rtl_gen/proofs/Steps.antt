-- Each step of a program of RTLabs is a run of its translation.
use Rattle.std.proofs.Common.{◌≡◌, ◌≢◌, ℕ, zero, suc, ◌+◌, ◌*◌, ◌%◌, ◌<◌, ◌≤◌, inl, inr, ⊎_elim, List, [], ◌∷◌, map, length, Option, Some, None, Bool, false, refl, sym, ap, ap₂, ◌∙◌, subst, arith}
use Rattle.std.specs.Prelude.{Contains}
use Rattle.std.proofs.lemmas.List.Elements.{Contains-append_cases}
use Rattle.std.proofs.Math.Nat.{mod-eq_of_lt}
use Rattle.cerco_base.specs.Bytes.{count_of_values}
use Rattle.cerco_base.specs.Events.{next_reading}
use Rattle.cerco_base.specs.declared.events.Event.TheVariants as event
use Rattle.cerco_base.specs.declared.events.Port.TheVariants.{P1}
use Rattle.cerco_traces.specs.Systems.{System, EachWithin, Run}
use Rattle.cerco_traces.specs.Worlds.{World, update, shown, after_reading}
use Rattle.cerco_traces.specs.LabelledGraphs.{SoundlyLabelled, In}
use Rattle.cerco_traces.proofs.Simulation.{joined}
use Rattle.cerco_middle.specs.declared.operators.Held.{Held}
use Rattle.cerco_middle.specs.declared.operators.CmOp.{CmOp}
use Rattle.cerco_middle.specs.declared.rtlabs.RtOp.{RtOp}
use Rattle.cerco_middle.specs.declared.rtlabs.RtOp.TheVariants as op
use Rattle.cerco_middle.specs.Operators.{word_bytes, as_word, held_bytes, read_from, kept, held_at, held_in, held_addresses, negated, complement, shifted_left, shifted_right, operator_value, low_byte}
use Rattle.cerco_middle.specs.Operators.{branch as value_branch}
use Rattle.cerco_middle.specs.Calls.{Values, Argument, assigned, variable_held}
use Rattle.cerco_middle.proofs.OperatorLaws.{kept_twice}
use Rattle.cerco_middle.specs.RtLabs.Graphs.{RtFunction, RtLabs, flow_graph, next_nodes}
use Rattle.cerco_middle.specs.RtLabs.Meaning.{RtState, at_node}
use Rattle.cerco_middle.specs.RtLabs.WellFormed.{IsAt, IsAfterCall, onward as further, is_call, and_argument}
use Rattle.rtl.specs.declared.graphs.Exit.TheVariants.{Next}
use Rattle.rtl.specs.Operations.{ByteOp}
use Rattle.rtl.specs.Programs.{Node, Graph}
use Rattle.rtl.specs.Effects.{Storage, Loc}
use Rattle.rtl.specs.Graphs.{node_at}
use Rattle.rtl.specs.Meaning.{seen, shares_first, OpenCall, State, state, call_at, exit_step}
use Rattle.rtl.specs.Meaning.{branch as byte_branch}
use Rattle.byte_sequences.specs.Words.{word_from, temporary}
use Rattle.byte_sequences.specs.Sequences.{held_part, load, store}
use Rattle.byte_sequences.specs.Operations.{operation_code, operation_exit, operation_node}
use Rattle.byte_sequences.proofs.Machine.{Cpu, all_done, byte, value, Off}
use Rattle.byte_sequences.proofs.Sums.{Gives}
use Rattle.byte_sequences.proofs.SoundBytes.{IsByteWorld, HasBytes, AreByteOps, all_done_has_bytes}
use Rattle.byte_sequences.proofs.ComparisonLaws.{tests}
use Rattle.byte_sequences.proofs.OperationLaws.{number, AreWords, IsOff, operator_gives, negated_gives, complemented_gives, constant_gives, shifted_left_gives, shifted_right_gives, narrowed_gives, reading_gives, moves_give, load_gives, store_gives, port_reading_gives, off_part, length_part}
use Rattle.byte_sequences.proofs.ShiftLaws.{value_lt}
use Rattle.byte_sequences.proofs.TouchedBytes.{all_touched, LeavesMemory, calm_code, calm_bytes, calm_none, load_bytes, load_touches, store_touches}
use Rattle.rtl_gen.specs.Translation.{translated_function}
use Rattle.rtl_gen.proofs.Numbered.{graphs_of, graph_is}
use Rattle.rtl_gen.proofs.Nodes.{node_is, last_node_is}
use Rattle.rtl_gen.proofs.Running.{seen_own, seen_shared, in_node, Y, ops_run, leaves}
use Rattle.rtl_gen.proofs.Related.{word_in, scalar_in, scalar_alike, off_scalar, some_bytes, Holds, holds_alike, holds_temporary, holds_variable}
use Rattle.rtl_gen.proofs.Handing.{contains_none, contains_cons, AreHanded, handed_alike, one_handed}
use Rattle.rtl_gen.proofs.States.{Link, lab_call, OwnBytes, SharedBytes, cpu_of, seen_bytes, NotLabel, leads, byte_call, ResultIs, no_result, result_past_label, Inside, Runs, Mode, runs, lab_state, byte_state, Fine}

pub length_links : {A : Type 0} (call : Link → A) (ks : List Link) → length (map call ks) ≡ length ks
length_links call [] = refl
length_links call (k ∷ ks) = ap suc (length_links call ks)

module _ (p : RtLabs) (d : ℕ) where
  abbrev pub target : System State
  target = Y (graphs_of p) p.main p.start d

  -- from this mode a run comes to the state x of RTLabs
  pub record Comes (m : Mode p) (x : RtState) : Type 0 where
    pub next : Mode p
    pub run : Run target d (byte_state p m) (byte_state p next)
    pub is : x ≡ lab_state p next
    pub fine : Fine p next

  -- a running call, past its entry
  module _ (k : Link) (ks : List Link) (slots : Values) (result : ℕ) (shared : Storage → ℕ) (w : World) (labelled : SoundlyLabelled (flow_graph k.function) k.function.entry)
      (fine : Runs p k ks slots result shared w) (inside : Inside p k slots result shared) where
    abbrev f : RtFunction
    f = k.function

    abbrev c0 : Cpu
    c0 = cpu_of k.own shared w

    abbrev m0 : Mode p
    m0 = runs k ks slots result shared w

    abbrev others : List OpenCall
    others = map (byte_call p) ks

    pub has0 : HasBytes c0
    has0 = seen_bytes k.own shared w fine.own_bytes fine.shared_bytes fine.world_bytes

    few : suc (length others) ≤ 64
    few = let f = fine.few in let same = length_links (byte_call p) ks in omega (arith, f, same)

    pub holds0 : Holds f.held k.temps k.vars c0.see
    holds0 = holds_alike f.held k.temps k.vars k.own c0.see inside.holds (λ r far. seen_own shared k.own r (omega (arith, far)))

    -- the node, in the graph of the program
    pub stands : (o : RtOp) (r : ℕ) → node_at (translated_function number f) k.node ≡ operation_node number f.held f.result o r → node_at (graphs_of p k.index) k.node ≡ operation_node number f.held f.result o r
    stands o r is = ap (λ (g : Graph ℕ). node_at g k.node) (graph_is p k.index f fine.is) ∙ is

    -- the operations of the node are made
    module _ (o : RtOp) (next : Option ℕ) (r : ℕ) (is : IsAt f k.node (record { op = o; next = next })) (stand : node_at (graphs_of p k.index) k.node ≡ operation_node number f.held f.result o r)
        (bytes : AreByteOps (operation_code number f.held f.result o)) (within : EachWithin d (all_touched (operation_code number f.held f.result o) (cpu_of k.own shared w))) where
      abbrev code : List (ByteOp ℕ)
      code = operation_code number f.held f.result o

      abbrev c1 : Cpu
      c1 = all_done code c0

      pub record Passed : Type 0 where
        pub own' : Storage → ℕ
        pub shared' : Storage → ℕ
        pub run : Run target d (byte_state p m0) (state (in_node k.index k.node [] own' ∷ others) shared' c1.world)
        pub alike : (s : Storage) → seen shares_first shared' own' s ≡ c1.see s
        pub own_is : (s : ℕ) → 24 ≤ s → own' (Loc s) ≡ byte c1 s
        pub shared_is : (s : ℕ) → s < 24 → shared' (Loc s) ≡ byte c1 s
        pub own_bytes : OwnBytes own'
        pub shared_bytes : SharedBytes shared'
        pub world_bytes : IsByteWorld c1.world

      pub passed : Passed
      passed =
          let ran = ops_run (graphs_of p) p.main p.start d code k.index k.node k.own shared others c0 (λ s. refl) within few in
          let end : State = state (in_node k.index k.node [] ran.own' ∷ others) ran.shared' c1.world in
          let has1 = all_done_has_bytes code c0 bytes has0 in
          let own_is : (s : ℕ) → 24 ≤ s → ran.own' (Loc s) ≡ byte c1 s = λ s far. sym (seen_own ran.shared' ran.own' s far) ∙ ran.alike (Loc s) in
          let shared_is : (s : ℕ) → s < 24 → ran.shared' (Loc s) ≡ byte c1 s = λ s near. sym (seen_shared ran.shared' ran.own' s near) ∙ ran.alike (Loc s) in
          record {
            own' = ran.own';
            shared' = ran.shared';
            run = subst (λ (n : Node ℕ). Run target d (state (in_node k.index k.node n.ops k.own ∷ others) shared w) end) (sym stand) ran.run;
            alike = ran.alike;
            own_is = own_is;
            shared_is = shared_is;
            own_bytes = λ s far. subst (λ b. b < 256) (sym (own_is s far)) (has1.hold s);
            shared_bytes = λ s near. subst (λ b. b < 256) (sym (shared_is s near)) (has1.hold s);
            world_bytes = has1.world;
          }

      -- the node is left, to this state
      pub left_to : (run : Passed) (end : State) → exit_step shares_first (graphs_of p) (operation_exit number o r) k.index run.own' others run.shared' c1.world ≡ end → length end.calls ≤ 64
          → Run target d (byte_state p m0) end
      left_to run end goes small =
          joined run.run
          (leaves (graphs_of p) p.main p.start d k.index k.node run.own' run.shared' others c1.world end
          (ap (λ (n : Node ℕ). exit_step shares_first (graphs_of p) n.exit k.index run.own' others run.shared' c1.world) stand ∙ goes) small)

      -- the call goes on at the node q, with these values
      moved_on : (q : ℕ) (after : World) (temps' vars' slots' : Values) → In q (next_nodes (record { op = o; next = next })) → is_call o ≡ false
          → ((own' shared' : Storage → ℕ) → ((s : Storage) → seen shares_first shared' own' s ≡ c1.see s)
          → exit_step shares_first (graphs_of p) (operation_exit number o r) k.index own' others shared' c1.world ≡ state (call_at (graphs_of p) k.index q own' ∷ others) shared' after)
          → (IsByteWorld c1.world → IsByteWorld after)
          → Holds f.held temps' vars' c1.see
          → ((shared' : Storage → ℕ) → ((s : ℕ) → s < 24 → shared' (Loc s) ≡ byte c1 s) → AreHanded (and_argument inside.arguments o) slots' shared')
          → ((a : Argument) → Contains (and_argument inside.arguments o) a → a.first_byte + held_bytes a.held ≤ 12)
          → ((shared' : Storage → ℕ) → ((s : ℕ) → s < 24 → shared' (Loc s) ≡ byte c1 s) → ResultIs p f q result shared')
          → Comes m0 (at_node f q temps' vars' (map lab_call ks) slots' result after)
      moved_on q after temps' vars' slots' comes not_call goes world_bytes holds' handed' within' result' =
          let run = passed in
          record {
            next = runs (record k { node = q; own = run.own'; temps = temps'; vars = vars' }) ks slots' result run.shared' after;
            run = left_to run _ (goes run.own' run.shared' run.alike) few;
            is = refl;
            fine = record {
              is = fine.is;
              place = inl (record {
                holds = holds_alike f.held temps' vars' c1.see run.own' holds' (λ s far. run.own_is s (omega (arith, far)));
                away = λ e. labelled.entry_alone k.node (leads f k.node f.entry (record { op = o; next = next }) is (subst (λ z. In z (next_nodes (record { op = o; next = next }))) e comes));
                arguments = and_argument inside.arguments o;
                path = further k.node q (record { op = o; next = next }) inside.arguments inside.path is not_call comes;
                handed = handed' run.shared' run.shared_is;
                within = within';
                result_is = result' run.shared' run.shared_is;
              });
              own_bytes = run.own_bytes;
              shared_bytes = run.shared_bytes;
              world_bytes = world_bytes run.world_bytes;
              waits = fine.waits;
              few = fine.few;
            };
          }

      -- what is shared stays
      shared_stays : ((s : ℕ) → s < 24 → byte c1 s ≡ byte c0 s) → (shared' : Storage → ℕ) → ((s : ℕ) → s < 24 → shared' (Loc s) ≡ byte c1 s) → (s : ℕ) → s < 24 → shared' (Loc s) ≡ shared (Loc s)
      shared_stays same shared' is' s near = is' s near ∙ same s near ∙ seen_shared shared k.own s near

    -- An operation that goes on at the next node, and is no label, call or argument.
    module _ (o : RtOp) (q : ℕ) (is : IsAt f k.node (record { op = o; next = Some q })) (comes : In q (next_nodes (record { op = o; next = Some q }))) (exit : operation_exit number o q ≡ Next q)
        (not_call : is_call o ≡ false) (not_label : NotLabel o) (no_argument : (arguments : List Argument) → and_argument arguments o ≡ arguments)
        (bytes : AreByteOps (operation_code number f.held f.result o)) (within : EachWithin d (all_touched (operation_code number f.held f.result o) (cpu_of k.own shared w))) where
      stand_here : node_at (graphs_of p k.index) k.node ≡ operation_node number f.held f.result o q
      stand_here = stands o q (node_is f k.node o q is inside.away)

      went_on : (after : World) (temps' vars' : Values) → (all_done (operation_code number f.held f.result o) c0).world ≡ after → Holds f.held temps' vars' (all_done (operation_code number f.held f.result o) c0).see
          → ((s : ℕ) → s < 24 → byte (all_done (operation_code number f.held f.result o) c0) s ≡ byte c0 s)
          → Comes m0 (at_node f q temps' vars' (map lab_call ks) slots result after)
      went_on after temps' vars' world holds' same =
          let c1 : Cpu = all_done (operation_code number f.held f.result o) c0 in
          moved_on o (Some q) q is stand_here bytes within q after temps' vars' slots comes not_call
          (λ own' shared' alike. ap₂ (λ e w'. exit_step shares_first (graphs_of p) e k.index own' others shared' w') exit world)
          (subst IsByteWorld world)
          holds'
          (λ shared' is'. subst (λ as'. AreHanded as' slots shared') (sym (no_argument inside.arguments))
          (handed_alike inside.arguments slots shared shared' inside.within (shared_stays o (Some q) q is stand_here bytes within same shared' is') inside.handed))
          (λ a. subst (λ as'. Contains as' a → a.first_byte + held_bytes a.held ≤ 12) (sym (no_argument inside.arguments)) (inside.within a))
          (λ shared' is'. no_result p f labelled k.node q (record { op = o; next = Some q }) result shared' is comes not_call not_label)

      -- a temporary gets a value
      calculated : (t v : ℕ) (after : World) → word_in (27 + 4 * t) (all_done (operation_code number f.held f.result o) c0).see ≡ v
          → ((s : ℕ) → Off s (temporary number t) → s ≢ 24 → byte (all_done (operation_code number f.held f.result o) c0) s ≡ byte c0 s)
          → (all_done (operation_code number f.held f.result o) c0).world ≡ after
          → Comes m0 (at_node f q (update k.temps t v) k.vars (map lab_call ks) slots result after)
      calculated t v after value_is same world =
          went_on after (update k.temps t v) k.vars world
          (holds_temporary f.held k.temps k.vars c0.see (all_done (operation_code number f.held f.result o) c0).see holds0 t v value_is same)
          (λ s near. same s (λ e. omega (arith, e, near), (λ e. omega (arith, e, near), tt)) (λ e. omega (arith, e, near)))

      gives_temporary : (t v v' : ℕ) → Gives (operation_code number f.held f.result o) 24 c0 (temporary number t) v → v ≡ v' → Comes m0 (at_node f q (update k.temps t v') k.vars (map lab_call ks) slots result w)
      gives_temporary t v v' g e = calculated t v' w (g.is ∙ e) g.same g.world

    -- ---- operations that neither load nor store

    module _ (o : RtOp) (leaves_memory : LeavesMemory o) where
      pub calm_ops : AreByteOps (operation_code number f.held f.result o)
      calm_ops = calm_bytes (operation_code number f.held f.result o) (calm_code f.held f.result o leaves_memory)

      pub calm_within : EachWithin d (all_touched (operation_code number f.held f.result o) (cpu_of k.own shared w))
      calm_within = subst (EachWithin d) (sym (calm_none (operation_code number f.held f.result o) c0 (calm_code f.held f.result o leaves_memory))) tt

    two_words : (t u : ℕ) → AreWords (27 + 4 * t) (27 + 4 * u)
    two_words t u = record { low_high = λ e. omega (arith, e); high_low = λ e. omega (arith, e) }

    scratch_off : (t : ℕ) → IsOff 24 (27 + 4 * t)
    scratch_off t = (λ e. omega (arith, e), (λ e. omega (arith, e), tt))

    pub const_step : (t n q : ℕ) → IsAt f k.node (record { op = op.Const t n; next = Some q }) → Comes m0 (at_node f q (update k.temps t (as_word n)) k.vars (map lab_call ks) slots result w)
    const_step t n q is =
        gives_temporary (op.Const t n) q is (inl refl) refl refl tt (λ as'. refl) (calm_ops (op.Const t n) tt) (calm_within (op.Const t n) tt) t _ _ (constant_gives 24 (27 + 4 * t) n c0) refl

    pub get_step : (t x q : ℕ) → IsAt f k.node (record { op = op.Get t x; next = Some q }) → Comes m0 (at_node f q (update k.temps t (k.vars x)) k.vars (map lab_call ks) slots result w)
    get_step t x q is =
        gives_temporary (op.Get t x) q is (inl refl) refl refl tt (λ as'. refl) (calm_ops (op.Get t x) tt) (calm_within (op.Get t x) tt) t _ _
        (reading_gives 24 (variable_held f.held x) (27 + 4 * t) (25 + 4 * x) c0 (record { low_high = λ e. omega (arith, e); high_low = λ e. omega (arith, e) }) (λ e. omega (arith, e)) has0)
        (holds0.vars_are x)

    pub neg_step : (t q : ℕ) → IsAt f k.node (record { op = op.Neg t; next = Some q }) → Comes m0 (at_node f q (update k.temps t (negated word_bytes (k.temps t))) k.vars (map lab_call ks) slots result w)
    neg_step t q is =
        gives_temporary (op.Neg t) q is (inl refl) refl refl tt (λ as'. refl) (calm_ops (op.Neg t) tt) (calm_within (op.Neg t) tt) t _ _ (negated_gives 24 (27 + 4 * t) c0 has0) (ap (negated word_bytes) (holds0.temps_are t))

    pub not_step : (t q : ℕ) → IsAt f k.node (record { op = op.Not t; next = Some q }) → Comes m0 (at_node f q (update k.temps t (complement word_bytes (k.temps t))) k.vars (map lab_call ks) slots result w)
    not_step t q is =
        gives_temporary (op.Not t) q is (inl refl) refl refl tt (λ as'. refl) (calm_ops (op.Not t) tt) (calm_within (op.Not t) tt) t _ _ (complemented_gives 24 (27 + 4 * t) c0 has0) (ap (complement word_bytes) (holds0.temps_are t))

    pub narrow_step : (h : Held) (t q : ℕ) → IsAt f k.node (record { op = op.Narrow h t; next = Some q }) → Comes m0 (at_node f q (update k.temps t (kept h (k.temps t))) k.vars (map lab_call ks) slots result w)
    narrow_step h t q is =
        gives_temporary (op.Narrow h t) q is (inl refl) refl refl tt (λ as'. refl) (calm_ops (op.Narrow h t) tt) (calm_within (op.Narrow h t) tt) t _ _ (narrowed_gives 24 h (27 + 4 * t) c0 has0) (ap (kept h) (holds0.temps_are t))

    pub bin_step : (o : CmOp) (t u q : ℕ) → IsAt f k.node (record { op = op.Bin o t u; next = Some q }) → Comes m0 (at_node f q (update k.temps t (operator_value word_bytes o (k.temps t) (k.temps u))) k.vars (map lab_call ks) slots result w)
    bin_step o t u q is =
        gives_temporary (op.Bin o t u) q is (inl refl) refl refl tt (λ as'. refl) (calm_ops (op.Bin o t u) tt) (calm_within (op.Bin o t u) tt) t _ _
        (operator_gives 24 o (27 + 4 * t) (27 + 4 * u) c0 (two_words t u) (scratch_off t) (scratch_off u) has0)
        (ap₂ (operator_value word_bytes o) (holds0.temps_are t) (holds0.temps_are u))

    pub shl_step : (n t q : ℕ) → IsAt f k.node (record { op = op.Shl n t; next = Some q }) → Comes m0 (at_node f q (update k.temps t (shifted_left word_bytes n (k.temps t))) k.vars (map lab_call ks) slots result w)
    shl_step n t q is =
        gives_temporary (op.Shl n t) q is (inl refl) refl refl tt (λ as'. refl) (calm_ops (op.Shl n t) tt) (calm_within (op.Shl n t) tt) t _ _ (shifted_left_gives 24 n (27 + 4 * t) c0 has0) (ap (shifted_left word_bytes n) (holds0.temps_are t))

    pub shr_step : (n : ℕ) (keeps_sign : Bool) (t q : ℕ) → IsAt f k.node (record { op = op.Shr n keeps_sign t; next = Some q }) → Comes m0 (at_node f q (update k.temps t (shifted_right word_bytes n keeps_sign (k.temps t))) k.vars (map lab_call ks) slots result w)
    shr_step n keeps_sign t q is =
        gives_temporary (op.Shr n keeps_sign t) q is (inl refl) refl refl tt (λ as'. refl) (calm_ops (op.Shr n keeps_sign t) tt) (calm_within (op.Shr n keeps_sign t) tt) t _ _
        (shifted_right_gives 24 n keeps_sign (27 + 4 * t) c0 has0) (ap (shifted_right word_bytes n keeps_sign) (holds0.temps_are t))

    -- a result is what it is kept as
    kept_itself : (h : Held) → kept h (scalar_in h 12 c0.see) ≡ scalar_in h 12 c0.see
    unfolding kept
    kept_itself h =
        let part = value (held_part h (word_from number 12)) c0 in
        let small : part < count_of_values (held_bytes h) = subst (λ n. part < count_of_values n) (length_part h 12) (value_lt (held_part h (word_from number 12)) c0.see has0.hold) in
        let itself : kept h part ≡ read_from h part = ap (read_from h) (mod-eq_of_lt small) in
        ap (kept h) (sym itself) ∙ kept_twice h part ∙ itself

    pub result_step : (h : Held) (t q : ℕ) → IsAt f k.node (record { op = op.Result h t; next = Some q }) → IsAfterCall p f k.node h → Comes m0 (at_node f q (update k.temps t (kept h result)) k.vars (map lab_call ks) slots result w)
    result_step h t q is came =
        let result_is : scalar_in h 12 c0.see ≡ result = scalar_alike h 12 shared c0.see (λ r from below. seen_shared shared k.own r (near r (some_bytes h) below)) ∙ inside.result_is.after_label h came in
        gives_temporary (op.Result h t) q is (inl refl) refl refl tt (λ as'. refl) (calm_ops (op.Result h t) tt) (calm_within (op.Result h t) tt) t _ _
        (reading_gives 24 h (27 + 4 * t) 12 c0 (record { low_high = λ e. omega (arith, e); high_low = λ e. omega (arith, e) }) (λ e. omega (arith, e)) has0)
        (sym (kept_itself h) ∙ ap (kept h) result_is)
      where
        near : (r : ℕ) → ((1 ≤ held_bytes h) × (held_bytes h ≤ 2)) → r < 12 + held_bytes h → r < 24
        near r few below = let most = few.1 in omega (arith, most, below)

    -- ---- variables, memory and the port

    pub put_step : (x t q : ℕ) → IsAt f k.node (record { op = op.Put x t; next = Some q }) → Comes m0 (at_node f q k.temps (assigned f.held x (k.temps t) k.vars) (map lab_call ks) slots result w)
    unfolding kept
    put_step x t q is =
        let h = variable_held f.held x in
        let m = moves_give h (25 + 4 * x) (27 + 4 * t) c0 (record { low_high = λ e. omega (arith, e); high_low = λ e. omega (arith, e) }) (λ e. omega (arith, e)) has0 in
        let c1 : Cpu = all_done (operation_code number f.held f.result (op.Put x t)) c0 in
        let value_is : scalar_in h (25 + 4 * x) c1.see ≡ kept h (k.temps t) = ap (read_from h) (m.0 ∙ ap (λ v. v % count_of_values (held_bytes h)) (holds0.temps_are t)) in
        went_on (op.Put x t) q is (inl refl) refl refl tt (λ as'. refl) (calm_ops (op.Put x t) tt) (calm_within (op.Put x t) tt) w k.temps (assigned f.held x (k.temps t) k.vars) m.2
        (holds_variable f.held k.temps k.vars c0.see c1.see holds0 x (kept h (k.temps t)) value_is m.1)
        (λ s near. m.1 s (off_part h s (25 + 4 * x) (λ e. omega (arith, e, near), (λ e. omega (arith, e, near), tt))))

    pub load_step : (h : Held) (t q : ℕ) → IsAt f k.node (record { op = op.Load h t; next = Some q }) → EachWithin d (held_addresses h (k.temps t)) → Comes m0 (at_node f q (update k.temps t (held_at h w (k.temps t))) k.vars (map lab_call ks) slots result w)
    load_step h t q is within =
        let touches : all_touched (load h (temporary number t)) c0 ≡ held_addresses h (k.temps t) = load_touches h (27 + 4 * t) c0 ∙ ap (held_addresses h) (holds0.temps_are t) in
        gives_temporary (op.Load h t) q is (inl refl) refl refl tt (λ as'. refl) (load_bytes h (27 + 4 * t)) (subst (EachWithin d) (sym touches) within) t _ _
        (load_gives 24 h (27 + 4 * t) c0 has0) (ap (held_at h w) (holds0.temps_are t))

    pub store_step : (h : Held) (t u q : ℕ) → IsAt f k.node (record { op = op.Store h t u; next = Some q }) → EachWithin d (held_addresses h (k.temps t)) → Comes m0 (at_node f q k.temps k.vars (map lab_call ks) slots result (held_in h w (k.temps t) (k.temps u)))
    store_step h t u q is within =
        let touches : all_touched (store h (temporary number t) (temporary number u)) c0 ≡ held_addresses h (k.temps t) = store_touches h (27 + 4 * t) (27 + 4 * u) c0 ∙ ap (held_addresses h) (holds0.temps_are t) in
        let g = store_gives h (27 + 4 * t) (27 + 4 * u) c0 has0 in
        let c1 : Cpu = all_done (operation_code number f.held f.result (op.Store h t u)) c0 in
        went_on (op.Store h t u) q is (inl refl) refl refl tt (λ as'. refl) (tt, tt) (subst (EachWithin d) (sym touches) within) (held_in h w (k.temps t) (k.temps u)) k.temps k.vars
        (g.0 ∙ ap₂ (held_in h w) (holds0.temps_are t) (holds0.temps_are u))
        (holds_alike f.held k.temps k.vars c0.see c1.see holds0 (λ s far. g.1 s))
        (λ s near. g.1 s)

    pub read_step : (t q : ℕ) → IsAt f k.node (record { op = op.ReadPort t; next = Some q }) → Comes m0 (at_node f q (update k.temps t (next_reading w.script)) k.vars (map lab_call ks) slots result (after_reading w))
    read_step t q is =
        let g = port_reading_gives 24 (27 + 4 * t) c0 in
        calculated (op.ReadPort t) q is (inl refl) refl refl tt (λ as'. refl) (calm_ops (op.ReadPort t) tt) (calm_within (op.ReadPort t) tt) t (next_reading w.script) (after_reading w) g.0 (λ s off other. g.1 s off) g.2

    pub write_step : (t q : ℕ) → IsAt f k.node (record { op = op.WritePort t; next = Some q }) → Comes m0 (at_node f q k.temps k.vars (map lab_call ks) slots result (shown (event.Write P1 (low_byte (k.temps t))) w))
    write_step t q is =
        let low = has0.hold (27 + 4 * t) in
        let byte_is : byte c0 (27 + 4 * t) ≡ low_byte (word_in (27 + 4 * t) c0.see) = omega (arith, low) in
        went_on (op.WritePort t) q is (inl refl) refl refl tt (λ as'. refl) (calm_ops (op.WritePort t) tt) (calm_within (op.WritePort t) tt) (shown (event.Write P1 (low_byte (k.temps t))) w) k.temps k.vars
        (ap (λ b. shown (event.Write P1 b) w) (byte_is ∙ ap low_byte (holds0.temps_are t)))
        holds0
        (λ s near. refl)

    -- ---- arguments, labels and tests

    pub arg_step : (h : Held) (first t q : ℕ) → IsAt f k.node (record { op = op.Arg h first t; next = Some q }) → first + held_bytes h ≤ 12
        → Comes m0 (at_node f q k.temps k.vars (map lab_call ks) (update slots first (kept h (k.temps t))) result w)
    unfolding kept
    arg_step h first t q is within =
        let o = op.Arg h first t in
        let some = (some_bytes h).0 in
        let m = moves_give h (12 + first) (27 + 4 * t) c0 (record { low_high = λ e. omega (arith, e, within, some); high_low = λ e. omega (arith, e, within, some) }) (λ e. omega (arith, e, within, some)) has0 in
        let c1 : Cpu = all_done (operation_code number f.held f.result o) c0 in
        let stand = stands o q (node_is f k.node o q is inside.away) in
        let value_is : scalar_in h (12 + first) c1.see ≡ kept h (k.temps t) = ap (read_from h) (m.0 ∙ ap (λ v. v % count_of_values (held_bytes h)) (holds0.temps_are t)) in
        let c : Argument = record { held = h; first_byte = first } in
        moved_on o (Some q) q is stand (calm_ops o tt) (calm_within o tt) q w k.temps k.vars (update slots first (kept h (k.temps t))) (inl refl) refl
        (λ own' shared' alike. ap (λ w'. state (call_at (graphs_of p) k.index q own' ∷ others) shared' w') m.2)
        (subst IsByteWorld m.2)
        (holds_alike f.held k.temps k.vars c0.see c1.see holds0 (λ s far. m.1 s (off_scalar h s (12 + first) (inr (omega (arith, within, far))))))
        (λ shared' is'. one_handed inside.arguments c (kept h (k.temps t)) slots shared shared' inside.handed
        (scalar_alike h (12 + first) c1.see shared' (λ r from below. is' r (omega (arith, below, within))) ∙ value_is)
        (λ r near off. is' r near ∙ m.1 r off ∙ seen_shared shared k.own r near)
        inside.within)
        (λ a among. ⊎_elim (λ earlier. inside.within a earlier) (λ last. ⊎_elim (λ e. subst (λ (b : Argument). b.first_byte + held_bytes b.held ≤ 12) e within) (λ n. absurd (contains_none a n)) (contains_cons c [] a last)) (Contains-append_cases inside.arguments (c ∷ []) a among))
        (λ shared' is'. no_result p f labelled k.node q (record { op = o; next = Some q }) result shared' is (inl refl) refl tt)

    pub label_step : (l : _) (q : ℕ) → IsAt f k.node (record { op = op.Label l; next = Some q }) → Comes m0 (at_node f q k.temps k.vars (map lab_call ks) slots result (shown (event.Label l) w))
    label_step l q is =
        let o = op.Label l in
        let stand = stands o q (node_is f k.node o q is inside.away) in
        let stays = shared_stays o (Some q) q is stand (calm_ops o tt) (calm_within o tt) (λ s near. refl) in
        moved_on o (Some q) q is stand (calm_ops o tt) (calm_within o tt) q (shown (event.Label l) w) k.temps k.vars slots (inl refl) refl
        (λ own' shared' alike. refl)
        (λ bytes. record { xram = bytes.xram; script = bytes.script })
        holds0
        (λ shared' is'. handed_alike inside.arguments slots shared shared' inside.within (stays shared' is') inside.handed)
        inside.within
        (λ shared' is'. result_past_label p f labelled k.node q l result shared' is (result_alike inside.result_is (stays shared' is')))
      where
        result_alike : {at : ℕ} {shared' : Storage → ℕ} → ResultIs p f at result shared → ((s : ℕ) → s < 24 → shared' (Loc s) ≡ shared (Loc s)) → ResultIs p f at result shared'
        result_alike {shared' = shared'} before alike = record {
          after_call = λ c g callee h calls callee_is has. scalar_alike h 12 shared shared' (λ r from below. alike r (near h r (some_bytes h) below)) ∙ before.after_call c g callee h calls callee_is has;
          after_label = λ h a. scalar_alike h 12 shared shared' (λ r from below. alike r (near h r (some_bytes h) below)) ∙ before.after_label h a;
        }
          where
            near : (h : Held) (r : ℕ) → ((1 ≤ held_bytes h) × (held_bytes h ≤ 2)) → r < 12 + held_bytes h → r < 24
            near h r few below = let most = few.1 in omega (arith, most, below)

    same_branch : (m n on_true on_false : ℕ) → (m ≡ 0 → n ≡ 0) → (n ≡ 0 → m ≡ 0) → byte_branch n on_true on_false ≡ value_branch m on_true on_false
    same_branch zero zero on_true on_false f g = refl
    same_branch zero (suc n) on_true on_false f g = let e = f refl in absurd (omega (arith, e))
    same_branch (suc m) zero on_true on_false f g = let e = g refl in absurd (omega (arith, e))
    same_branch (suc m) (suc n) on_true on_false f g = refl

    one_arm : (m on_true on_false : ℕ) → In (value_branch m on_true on_false) (on_true ∷ on_false ∷ [])
    one_arm zero on_true on_false = inr (inl refl)
    one_arm (suc m) on_true on_false = inl refl

    pub test_step : (t on_true on_false : ℕ) → IsAt f k.node (record { op = op.Test t on_true on_false; next = None })
        → Comes m0 (at_node f (value_branch (k.temps t) on_true on_false) k.temps k.vars (map lab_call ks) slots result w)
    test_step t on_true on_false is =
        let o = op.Test t on_true on_false in
        let q = value_branch (k.temps t) on_true on_false in
        let last = last_node_is f k.node o is in
        let stand = stands o last.0 last.1 in
        let g = tests 24 (27 + 4 * t) (27 + 4 * t + 1) [] c0 tt in
        let c1 : Cpu = all_done (operation_code number f.held f.result o) c0 in
        let same : (s : ℕ) → s < 24 → byte c1 s ≡ byte c0 s = λ s near. g.same s (λ e. omega (arith, e, near)) in
        let branch_is : byte_branch (byte c1 24) on_true on_false ≡ q =
        same_branch (k.temps t) (byte c1 24) on_true on_false (λ e. g.to_zero (holds0.temps_are t ∙ e)) (λ e. sym (holds0.temps_are t) ∙ g.from_zero e) in
        let no_more = no_result p f labelled k.node q (record { op = o; next = None }) result in
        moved_on o None last.0 is stand (calm_ops o tt) (calm_within o tt) q w k.temps k.vars slots (one_arm (k.temps t) on_true on_false) refl
        (λ own' shared' alike. ap (λ n. state (call_at (graphs_of p) k.index n own' ∷ others) shared' w) (ap (λ b. byte_branch b on_true on_false) (alike (Loc 24)) ∙ branch_is))
        (λ bytes. bytes)
        (holds_alike f.held k.temps k.vars c0.see c1.see holds0 (λ s far. g.same s (λ e. omega (arith, e, far))))
        (λ shared' is'. handed_alike inside.arguments slots shared shared' inside.within (shared_stays o None last.0 is stand (calm_ops o tt) (calm_within o tt) same shared' is') inside.handed)
        inside.within
        (λ shared' is'. no_more shared' is (one_arm (k.temps t) on_true on_false) refl tt)
