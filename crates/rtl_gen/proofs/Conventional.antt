-- The translation respects the calling convention: arguments and results are written before they are used, and nothing else crosses
-- a call.
use Rattle.std.proofs.Common.{◌≡◌, ◌≢◌, ℕ, zero, suc, ◌+◌, ◌*◌, ◌<◌, ◌⊎◌, inl, inr, ⊎_elim, List, [], ◌∷◌, ◌++◌, length, Option, Some, None, Bool, true, false, refl, sym, ap, ◌∙◌, subst, arith, append-nil, append_assoc}
use Rattle.std.specs.Prelude.{slice_get, option_map, Contains}
use Rattle.std.proofs.lemmas.Bool.Decides.{eqb_tells}
use Rattle.std.proofs.lemmas.List.Elements.{Contains-append_cases}
use Rattle.std.proofs.lemmas.List.Sorted.{Contains-permutation}
use Rattle.std.proofs.lemmas.Option.{none-some, same_Some, slice_get-get_or, slice_get_within}
use Rattle.cerco_traces.specs.LabelledGraphs.{In, CallNode, SoundlyLabelled}
use Rattle.cerco_middle.specs.declared.operators.Held.{Held}
use Rattle.cerco_middle.specs.declared.operators.Held.TheVariants.{U8, I8, W16}
use Rattle.cerco_middle.specs.declared.rtlabs.RtOp.{RtOp}
use Rattle.cerco_middle.specs.declared.rtlabs.RtOp.TheVariants as op
use Rattle.cerco_middle.specs.declared.rtlabs.RtNode.{RtNode}
use Rattle.cerco_middle.specs.Operators.{held_bytes}
use Rattle.cerco_middle.specs.Calls.{Argument}
use Rattle.cerco_middle.specs.RtLabs.Graphs.{RtFunction, RtLabs, parameters_of, flow_graph, node_kind, next_nodes}
use Rattle.cerco_middle.specs.RtLabs.WellFormed.{IsWellFormed, IsWellFormedFunction, IsAt, IsAfterCall, ReturnsAs, is_call, and_argument, HandsOver, at_entry, after_call, onward as further}
use Rattle.rtl.specs.declared.graphs.Exit.{Exit}
use Rattle.rtl.specs.declared.graphs.Exit.TheVariants as exit
use Rattle.rtl.specs.Operations.{ByteOp}
use Rattle.rtl.specs.Programs.{Node, Graph}
use Rattle.rtl.specs.Effects.{Storage, Loc, Carry, writes}
use Rattle.rtl.specs.Graphs.{ops_at, exit_at, graph_or}
use Rattle.rtl.specs.Liveness.{IsAmong, IsArgument, IsCall, Uses, GoesTo, Live, used, kept, used_by_exit, onward, LiveAt}
use Rattle.rtl.specs.WellFormed.{gathered, op_locations}
use Rattle.rtl.specs.CallingConvention.{Path, past, through, IsWrittenOn, IsWrittenBefore, RespectsConvention}
use Rattle.rtl.specs.CallingConvention.{at_entry as path_entry}
use Rattle.byte_sequences.specs.Words.{word_from, temporary, argument}
use Rattle.byte_sequences.specs.Sequences.{held_part, moves}
use Rattle.byte_sequences.specs.Operations.{result_code, operation_code, operation_exit}
use Rattle.byte_sequences.proofs.OperationLaws.{number}
use Rattle.rtl_gen.specs.Translation.{next_or, next_of, translated_function}
use Rattle.rtl_gen.specs.Promises.{GraphsAreLabelled}
use Rattle.rtl_gen.proofs.Numbered.{graphs_of, graph_is, no_graph}
use Rattle.rtl_gen.proofs.Nodes.{node_is, entry_is, new_is, next_other}
use Rattle.rtl_gen.proofs.Handing.{contains_none, contains_cons}
use Rattle.rtl_gen.proofs.Named.{named_reading}
use Rattle.rtl_gen.proofs.States.{NotCall, called_from, one_operation, leads}
use Rattle.rtl_gen.proofs.LivePaths.{Free, not_read, none_first, none_second, Guarded, Ends, never_live}
use Rattle.rtl_gen.proofs.Fronts.{entry_label, label_at_node, IsLabelAt, node_here, goes_named}
use Rattle.rtl_gen.proofs.Entries.{entry_argument}
use Rattle.rtl_gen.proofs.ArgumentPlaces.{IsFrom, IsIn, IsPlace, from_or_not, part_in, part_not, cold_next, cold_dead, entry_parameter}
use Rattle.rtl_gen.proofs.CarryInside.{NodeIs, of_operation, of_entry, of_none, node_cases, translation_carry}

-- ---- exits that are calls and returns

abbrev callee_in : Exit ℕ → Option ℕ
callee_in (exit.Call g q) = Some g
callee_in _ = None

abbrev next_in_call : Exit ℕ → Option ℕ
next_in_call (exit.Call g q) = Some q
next_in_call _ = None

abbrev returns : Exit ℕ → Bool
returns exit.Return = true
returns _ = false

call_is : (o : RtOp) (r g : ℕ) → callee_in (operation_exit number o r) ≡ Some g → o ≡ op.Call g
call_is (op.Call c) r g e = ap op.Call (same_Some c g e)
call_is _ r g e = absurd (none-some g e)

goes_on_at : (o : RtOp) (r q : ℕ) → next_in_call (operation_exit number o r) ≡ Some q → r ≡ q
goes_on_at (op.Call c) r q e = same_Some r q e
goes_on_at _ r q e = absurd (none-some q e)

-- a return, with or without a value
abbrev NotResultOp : RtOp → Type 0
NotResultOp (op.Result h t) = ⊥
NotResultOp _ = Unit {0}

abbrev IsReturn : RtOp → Type 0
IsReturn op.Return = Unit {0}
IsReturn (op.ReturnValue t) = Unit {0}
IsReturn _ = ⊥

no : false ≡ true → ⊥
no e = cc

return_is : (o : RtOp) (r : ℕ) → returns (operation_exit number o r) ≡ true → IsReturn o
return_is op.Return r e = tt
return_is (op.ReturnValue t) r e = tt
return_is _ r e = absurd (no e)

no_exit_call : (o : RtOp) (r : ℕ) → is_call o ≡ false → IsCall (operation_exit number o r) → ⊥
no_exit_call (op.Call c) r e calls = no (sym e)
no_exit_call _ r e calls = calls

-- ---- paths

-- some operation of these writes s
abbrev SomeWrites : Storage → List (ByteOp ℕ) → Type 0
SomeWrites s [] = ⊥
SomeWrites s (op ∷ ops) = IsAmong s (writes op) ⊎ SomeWrites s ops

some_last : (s : Storage) (ops : List (ByteOp ℕ)) (op : ByteOp ℕ) → SomeWrites s (ops ++ op ∷ []) → SomeWrites s ops ⊎ IsAmong s (writes op)
some_last s [] op (inl among) = inr among
some_last s [] op (inr n) = absurd n
some_last s (x ∷ ops) op (inl among) = inl (inl among)
some_last s (x ∷ ops) op (inr later) = ⊎_elim (λ a. inl (inr a)) (λ b. inr b) (some_last s ops op later)

-- moves into a scalar's places write its bytes
moves_write : (v : ℕ) (h : Held) (a b : ℕ) → IsFrom v a (held_bytes h) → SomeWrites (Loc v) (moves (held_part h (word_from number a)) (held_part h (word_from number b)))
moves_write v h a b has = by h (part_in v h a has)
  where
    by : (k : Held) → In v (held_part k (word_from number a)) → SomeWrites (Loc v) (moves (held_part k (word_from number a)) (held_part k (word_from number b)))
    by U8 (inl e) = inl (inl (ap Loc e))
    by U8 (inr n) = absurd n
    by I8 (inl e) = inl (inl (ap Loc e))
    by I8 (inr n) = absurd n
    by W16 (inl e) = inl (inl (ap Loc e))
    by W16 (inr (inl e)) = inr (inl (inl (ap Loc e)))
    by W16 (inr (inr n)) = absurd n

module _ (v : ℕ) (place : IsPlace v) (p : RtLabs) (wf : IsWellFormed p) (i : ℕ) (f : RtFunction) (f_is : slice_get p.functions i ≡ Some f) (formed : IsWellFormedFunction p f) (labelled : SoundlyLabelled (flow_graph f) f.entry) where
  abbrev g : Graph ℕ
  g = translated_function number f

  -- what was handed over on a path to a point, and what the node has made so far, is written on it
  record Gone (at : ℕ) (ops : List (ByteOp ℕ)) (path : Path g at ops) : Type 0 where
    arguments : List Argument
    hands_over : HandsOver f at arguments
    below : at < length f.nodes
    handed : (a : Argument) → Contains arguments a → IsIn v a → IsWrittenOn (Loc v) path

  record Facts (at : ℕ) (ops : List (ByteOp ℕ)) (path : Path g at ops) : Type 0 where
    made : List (ByteOp ℕ)
    whole : made ++ ops ≡ ops_at g at
    made_written : SomeWrites (Loc v) made → IsWrittenOn (Loc v) path
    where_it_is : (at ≡ length f.nodes) ⊎ Gone at ops path

  argument_writes : (o : RtOp) (a : Argument) (arguments : List Argument) → Contains (and_argument arguments o) a → IsIn v a → Contains arguments a ⊎ SomeWrites (Loc v) (operation_code number f.held f.result o)
  argument_writes (op.Arg h first t) a arguments c has = ⊎_elim
      (λ earlier. inl earlier)
      (λ last. ⊎_elim
      (λ e. inr (moves_write v h (12 + first) (27 + 4 * t) (subst (IsIn v) (sym e) has)))
      (λ n. absurd (contains_none a n))
      (contains_cons (record { held = h; first_byte = first }) [] a last))
      (Contains-append_cases arguments (record { held = h; first_byte = first } ∷ []) a c)
  argument_writes _ a arguments c has = inl c

  entry_at : IsLabelAt f f.entry
  entry_at = entry_label f formed.nodes_exist formed.paths_go_on labelled

  led_below : (at q : ℕ) (node : RtNode) → IsAt f at node → In q (next_nodes node) → (q ≢ f.entry) × (q < length f.nodes)
  led_below at q node is named = (λ e. labelled.entry_alone at (leads f at f.entry node is (subst (λ z. In z (next_nodes node)) e named)), formed.nodes_exist.1 at node is q named)

  -- a node further, from an old node that isn't the entry
  gone_on : (at q : ℕ) (goes : GoesTo (exit_at g at) q) (path : Path g at []) → at ≢ f.entry → (facts : Facts at [] path) → Gone at [] path → (node : RtNode) → IsAt f at node → (b : Bool) → is_call node.op ≡ b → Gone q (ops_at g q) (through at q goes path)
  gone_on at q goes path other facts gone node is b calls = by b calls
    where
      exit_is : exit_at g at ≡ operation_exit number node.op (next_of f.entry (length f.nodes) at node.next)
      exit_is = ap (λ (n : Node ℕ). n.exit) (node_here f at node is)

      named : In q (next_nodes node)
      named = goes_named node.op node.next at (next_of f.entry (length f.nodes) at node.next) q (formed.paths_go_on at node is) (next_other f.entry (length f.nodes) at node.next other) (subst (λ x. GoesTo x q) exit_is goes)

      code_made : facts.made ≡ operation_code number f.held f.result node.op
      code_made = sym (append-nil facts.made) ∙ facts.whole ∙ ap (λ (n : Node ℕ). n.ops) (node_here f at node is)

      by : (b : Bool) → is_call node.op ≡ b → Gone q (ops_at g q) (through at q goes path)
      by true e = record {
        arguments = [];
        hands_over = after_call at q node is e named;
        below = (led_below at q node is named).1;
        handed = λ a c has. absurd (contains_none a c);
      }
      by false e = record {
        arguments = and_argument gone.arguments node.op;
        hands_over = further at q node gone.arguments gone.hands_over is e named;
        below = (led_below at q node is named).1;
        handed = λ a c has. (
          λ calls'. no_exit_call node.op (next_of f.entry (length f.nodes) at node.next) e (subst IsCall exit_is calls'),
          ⊎_elim (λ earlier. gone.handed a earlier has) (λ wrote. facts.made_written (subst (SomeWrites (Loc v)) (sym code_made) wrote)) (argument_writes node.op a gone.arguments c has),
        );
      }

  -- from the entry and from the new node
  past_entry : (q : ℕ) → GoesTo (exit_at g f.entry) q → q ≡ length f.nodes
  past_entry q goes =
      let l = entry_at in
      sym (subst (λ x. GoesTo x q) (ap (λ (n : Node ℕ). n.exit) (entry_is f f.entry (op.Label l.label) l.next l.is refl)) goes)

  past_new : (q : ℕ) → GoesTo (exit_at g (length f.nodes)) q → entry_at.next ≡ q
  past_new q goes =
      let l = entry_at in
      subst (λ x. GoesTo x q) (ap (λ (n : Node ℕ). n.exit) (new_is f f.entry (op.Label l.label) l.next l.is refl)) goes

  facts_next : (at q : ℕ) (goes : GoesTo (exit_at g at) q) (path : Path g at []) → (facts : Facts at [] path) → Facts q (ops_at g q) (through at q goes path)
  facts_next at q goes path facts = record {
    made = [];
    whole = refl;
    made_written = λ n. absurd n;
    where_it_is = ⊎_elim
        (λ new. inr (first (subst (λ z. GoesTo (exit_at g z) q) new goes)))
        (λ gone. ⊎_elim
        (λ e. inl (past_entry q (subst (λ z. GoesTo (exit_at g z) q) e.1 goes)))
        (λ e. inr (gone_on at q goes path e.1 facts gone _ (slice_get-get_or f.nodes at (record { op = op.Return; next = None }) gone.below) _ refl))
        (eqb_tells at f.entry))
        facts.where_it_is;
  }
    where
      first : GoesTo (exit_at g (length f.nodes)) q → Gone q (ops_at g q) (through at q goes path)
      first goes' =
          let l = entry_at in
          let node : RtNode = record { op = op.Label l.label; next = Some l.next } in
          let same = past_new q goes' in
          let named : In q (next_nodes node) = inl same in
          record {
            arguments = [];
            hands_over = further f.entry q node [] at_entry l.is refl named;
            below = (led_below f.entry q node l.is named).1;
            handed = λ a c has. absurd (contains_none a c);
          }

  facts_past : (at : ℕ) (op : ByteOp ℕ) (ops : List (ByteOp ℕ)) (path : Path g at (op ∷ ops)) → Facts at (op ∷ ops) path → Facts at ops (past at op ops path)
  facts_past at op ops path facts = record {
    made = facts.made ++ op ∷ [];
    whole = append_assoc facts.made (op ∷ []) ops ∙ facts.whole;
    made_written = λ some. ⊎_elim (λ early. inr (facts.made_written early)) (λ last. inl last) (some_last (Loc v) facts.made op some);
    where_it_is = ⊎_elim
        (λ new. inl new)
        (λ gone. inr (record { arguments = gone.arguments; hands_over = gone.hands_over; below = gone.below; handed = λ a c has. inr (gone.handed a c has) }))
        facts.where_it_is;
  }

  facts_of : (at : ℕ) (ops : List (ByteOp ℕ)) (path : Path g at ops) → Facts at ops path
  facts_of at ops path_entry = record {
    made = [];
    whole = refl;
    made_written = λ n. absurd n;
    where_it_is = inr (record { arguments = []; hands_over = at_entry; below = formed.nodes_exist.0; handed = λ a c has. absurd (contains_none a c) });
  }
  facts_of at ops (past _ op _ path) = facts_past at op ops path (facts_of at (op ∷ ops) path)
  facts_of at ops (through b _ goes path) = facts_next b at goes path (facts_of b [] path)

  -- ---- arguments

  new_exit : (x : Exit ℕ → Bool) → exit_at g (length f.nodes) ≡ exit.Next entry_at.next
  new_exit x = let l = entry_at in ap (λ (n : Node ℕ). n.exit) (new_is f f.entry (op.Label l.label) l.next l.is refl)

  -- the operation of a node that is left by a call
  called_at : (at c q : ℕ) → exit_at g at ≡ exit.Call c q → at < length f.nodes → (node : RtNode) × IsAt f at node × (node.op ≡ op.Call c) × (next_of f.entry (length f.nodes) at node.next ≡ q)
  called_at at c q e below =
      let is = slice_get-get_or f.nodes at (record { op = op.Return; next = None }) below in
      by _ is
    where
      by : (node : RtNode) → IsAt f at node → (n : RtNode) × IsAt f at n × (n.op ≡ op.Call c) × (next_of f.entry (length f.nodes) at n.next ≡ q)
      by node is =
          let exit' : operation_exit number node.op (next_of f.entry (length f.nodes) at node.next) ≡ exit.Call c q = sym (ap (λ (n : Node ℕ). n.exit) (node_here f at node is)) ∙ e in
          (node, is, call_is node.op _ c (ap callee_in exit'), goes_on_at node.op _ q (ap next_in_call exit'))

  pub arguments_written : (at c q : ℕ) (callee : RtFunction) (a : Argument) → exit_at g at ≡ exit.Call c q → slice_get p.functions c ≡ Some callee → Contains (parameters_of callee) a → IsIn v a → IsWrittenBefore g (Loc v) at
  arguments_written at c q callee a e callee_is among has path =
      let facts = facts_of at [] path in
      ⊎_elim
      (λ new. absurd (none-some c (sym (ap callee_in (new_exit returns)) ∙ ap (λ z. callee_in (exit_at g z)) (sym new) ∙ ap callee_in e)))
      (λ gone.
      let call = called_at at c q e gone.below in
      let is : IsAt f at (record { op = op.Call c; next = call.0.next }) = call.1 ∙ ap (λ o. Some (record { op = o; next = call.0.next })) call.2 in
      let permuted = formed.arguments_meet_calls gone.arguments at (record { op = op.Call c; next = call.0.next }) is gone.hands_over callee callee_is in
      gone.handed a (Contains-permutation (parameters_of callee) gone.arguments a permuted among) has)
      facts.where_it_is

  -- ---- results

  return_writes : (o : RtOp) (h : Held) → IsReturn o → ReturnsAs f.result o → f.result ≡ Some h → IsFrom v 12 (held_bytes h) → SomeWrites (Loc v) (operation_code number f.held f.result o)
  return_writes op.Return h is fits has from = absurd (subst (λ r. ReturnsAs r op.Return) has fits)
  return_writes (op.ReturnValue t) h is fits has from = subst (λ r. SomeWrites (Loc v) (result_code (word_from number 12) r (temporary number t))) (sym has) (moves_write v h 12 (27 + 4 * t) from)
  return_writes _ h is fits has from = absurd is

  pub result_written : (at : ℕ) (h : Held) → exit_at g at ≡ exit.Return → f.result ≡ Some h → IsFrom v 12 (held_bytes h) → IsWrittenBefore g (Loc v) at
  result_written at h e has from path =
      let facts = facts_of at [] path in
      ⊎_elim
      (λ new. absurd (no (sym (ap returns (new_exit returns)) ∙ ap (λ z. returns (exit_at g z)) (sym new) ∙ ap returns e)))
      (λ gone. by facts _ (slice_get-get_or f.nodes at (record { op = op.Return; next = None }) gone.below))
      facts.where_it_is
    where
      by : (facts : Facts at [] path) → (node : RtNode) → IsAt f at node → IsWrittenOn (Loc v) path
      by facts node is =
          let here = node_here f at node is in
          let is_return = return_is node.op (next_of f.entry (length f.nodes) at node.next) (ap returns (sym (ap (λ (n : Node ℕ). n.exit) here) ∙ e)) in
          let code : facts.made ≡ operation_code number f.held f.result node.op = sym (append-nil facts.made) ∙ facts.whole ∙ ap (λ (n : Node ℕ). n.ops) here in
          facts.made_written (subst (SomeWrites (Loc v)) (sym code) (return_writes node.op h is_return (formed.returns_fit at node is) has from))

  -- ---- what is live after a call

  -- a label is passed
  past_label : (at : ℕ) (l : _) (q : ℕ) → exit_at g at ≡ exit.Label l q → Live 12 g (Loc v) at [] → LiveAt 12 g (Loc v) q
  past_label at l q e (used_by_exit _ uses) = absurd (subst (λ x. Uses 12 x g at (Loc v)) e uses)
  past_label at l q e (onward _ r not_over goes live) = subst (LiveAt 12 g (Loc v)) (sym (subst (λ x. GoesTo x r) e goes)) live

  -- operations that don't name v are passed, and a node that just goes on
  past_free : (at : ℕ) (ops : List (ByteOp ℕ)) → Free v ops → Live 12 g (Loc v) at ops → Live 12 g (Loc v) at []
  past_free at [] free live = live
  past_free at (op ∷ ops) free (used _ _ _ among) = absurd (not_read v op (none_first v (op_locations op) (gathered op_locations ops) free) among)
  past_free at (op ∷ ops) free (kept _ _ _ not_among live) = past_free at ops (none_second v (op_locations op) (gathered op_locations ops) free) live

  past_next : (at q : ℕ) → exit_at g at ≡ exit.Next q → Live 12 g (Loc v) at [] → LiveAt 12 g (Loc v) q
  past_next at q e (used_by_exit _ uses) = absurd (subst (λ x. Uses 12 x g at (Loc v)) e uses)
  past_next at q e (onward _ r not_over goes live) = subst (LiveAt 12 g (Loc v)) (sym (subst (λ x. GoesTo x r) e goes)) live

  -- a result that doesn't hold v
  result_free : (h : Held) (t : ℕ) → (IsFrom v 12 (held_bytes h) → ⊥) → Free v (operation_code number f.held f.result (op.Result h t))
  result_free h t none =
      let near = place.1 in
      named_reading number (λ w. w ≢ v) h (27 + 4 * t) 12 (λ e. omega (arith, e, near), λ e. omega (arith, e, near)) (part_not v h 12 none)

  not_result_or : (o : RtOp) → ((h : Held) × (t : ℕ) × (o ≡ op.Result h t)) ⊎ ((h : Held) (t : ℕ) → o ≡ op.Result h t → ⊥)
  not_result_or (op.Result h t) = inl (h, t, refl)
  not_result_or o = inr (λ h t e. subst NotResultOp e tt)

  -- the result of the function that was called
  pub live_result : (c callee_number q : ℕ) (callee : RtFunction) → IsAt f c (record { op = op.Call callee_number; next = Some q }) → slice_get p.functions callee_number ≡ Some callee → LiveAt 12 g (Loc v) q
      → (h : Held) × (callee.result ≡ Some h) × IsFrom v 12 (held_bytes h)
  live_result c callee_number q callee calls callee_is live =
      let call : RtNode = record { op = op.Call callee_number; next = Some q } in
      let flow : flow_graph f c ≡ Some (CallNode (Some q)) = ap (λ (n : Option RtNode). option_map node_kind n) calls in
      let there = led_below c q call calls (inl refl) in
      let l = label_at_node f q formed.paths_go_on (labelled.after_call c q flow).0 in
      let label : RtNode = record { op = op.Label l.label; next = Some l.next } in
      let q_is = node_is f q (op.Label l.label) l.next l.is there.0 in
      let live1 = past_label q l.label l.next (ap (λ (n : Node ℕ). n.exit) q_is) (subst (λ ops. Live 12 g (Loc v) q ops) (ap (λ (n : Node ℕ). n.ops) q_is) live) in
      let there1 = led_below q l.next label l.is (inl refl) in
      let not_after1 : (b x : ℕ) → IsAt f b (record { op = op.Call x; next = Some l.next }) → ⊥ =
      λ b x calls1.
      let same = called_from p f labelled b x l.next q label calls1 l.is (inl refl) in
      subst NotCall (one_operation f q label (record { op = op.Call x; next = Some l.next }) l.is (subst (λ z. IsAt f z (record { op = op.Call x; next = Some l.next })) (sym same) calls1)) tt in
      let path1 : HandsOver f l.next [] = further q l.next label [] (after_call c q call calls refl (inl refl)) l.is refl (inl refl) in
      at_second l.next there1 live1 path1 not_after1 c callee_number q callee calls callee_is l.is
    where
      at_second : (s : ℕ) → (s ≢ f.entry) × (s < length f.nodes) → LiveAt 12 g (Loc v) s → HandsOver f s [] → ((b x : ℕ) → IsAt f b (record { op = op.Call x; next = Some s }) → ⊥)
          → (c callee_number q : ℕ) (callee : RtFunction) → IsAt f c (record { op = op.Call callee_number; next = Some q }) → slice_get p.functions callee_number ≡ Some callee → {l : _} → IsAt f q (record { op = op.Label l; next = Some s })
          → (h : Held) × (callee.result ≡ Some h) × IsFrom v 12 (held_bytes h)
      at_second s there live' path not_after c callee_number q callee calls callee_is {l} label_is = by _ (slice_get-get_or f.nodes s (record { op = op.Return; next = None }) there.1)
        where
          came_from : (h : Held) → IsAfterCall p f s h → callee.result ≡ Some h
          came_from h a =
              let label_here : q ≡ a.after = a.alone q (record { op = op.Label l; next = Some s }) label_is (inl refl) in
              let calls' : IsAt f a.call (record { op = op.Call a.callee; next = Some q }) = subst (λ z. IsAt f a.call (record { op = op.Call a.callee; next = Some z })) (sym label_here) a.calls in
              let same = called_from p f labelled a.call a.callee q c (record { op = op.Call callee_number; next = Some q }) calls' calls (inl refl) in
              let number_is : callee_number ≡ a.callee = same_callee (one_operation f c (record { op = op.Call callee_number; next = Some q }) (record { op = op.Call a.callee; next = Some q }) calls (subst (λ z. IsAt f z (record { op = op.Call a.callee; next = Some q })) (sym same) calls')) in
              let function_is : callee ≡ a.function = same_Some callee a.function (sym callee_is ∙ ap (slice_get p.functions) number_is ∙ a.is_callee) in
              ap (λ (z : RtFunction). z.result) function_is ∙ a.held_so
            where
              same_callee : {m n : ℕ} → op.Call m ≡ op.Call n → m ≡ n
              same_callee e = cc

          of_result : (h : Held) (t : ℕ) (next : Option ℕ) → IsAt f s (record { op = op.Result h t; next = next }) → (k : Held) × (callee.result ≡ Some k) × IsFrom v 12 (held_bytes k)
          of_result h t next is = ⊎_elim
              (λ from. (h, came_from h (formed.results_follow_calls s (record { op = op.Result h t; next = next }) is), from))
              (λ none.
              let goes = formed.paths_go_on s (record { op = op.Result h t; next = next }) is in
              let node : RtNode = record { op = op.Result h t; next = Some goes.0 } in
              let is' : IsAt f s node = is ∙ ap (λ n. Some (record { op = op.Result h t; next = n })) goes.1 in
              let here = node_is f s (op.Result h t) goes.0 is' there.0 in
              let live1 = past_free s (operation_code number f.held f.result (op.Result h t)) (result_free h t none) (subst (λ ops. Live 12 g (Loc v) s ops) (ap (λ (n : Node ℕ). n.ops) here) live') in
              let live2 = past_next s goes.0 (ap (λ (n : Node ℕ). n.exit) here) live1 in
              let there2 = led_below s goes.0 node is' (inl refl) in
              let after = cold_next v place p wf i f f_is formed labelled s goes.0 node is' (inl refl) refl not_after in
              absurd (cold_dead v place p wf i f f_is formed labelled goes.0 there2.0 there2.1 (record {
                arguments = [];
                path = further s goes.0 node [] path is' refl (inl refl);
                none = λ a c' has. contains_none a c';
                not_after = after.0;
                not_result = after.1;
              }) live2))
              (from_or_not v 12 (held_bytes h))

          by : (node : RtNode) → IsAt f s node → (h : Held) × (callee.result ≡ Some h) × IsFrom v 12 (held_bytes h)
          by node is = ⊎_elim
              (λ r. of_result r.0 r.1 node.next (is ∙ ap (λ o. Some (record { op = o; next = node.next })) r.2))
              (λ other. absurd (cold_dead v place p wf i f f_is formed labelled s there.0 there.1 (record {
                arguments = [];
                path = path;
                none = λ a c' has. contains_none a c';
                not_after = not_after;
                not_result = λ h t next is'. other h t (one_operation f s node (record { op = op.Result h t; next = next }) is is');
              }) live'))
              (not_result_or node.op)

-- ---- functions that aren't there

absent_dead : (s : Storage) (q : ℕ) → LiveAt 12 (graph_or None) s q → ⊥
absent_dead s q live = never_live (graph_or None) s (λ z. Unit {0}) each q tt live
  where
    each : (z : ℕ) → Unit {0} → Guarded s (ops_at (graph_or None) z) (Ends (graph_or None) s (λ y. Unit {0}) z)
    each zero unit = record { unused = λ u. u; next = λ r not_over goes. tt }
    each (suc z) unit = record { unused = λ u. u; next = λ r not_over goes. tt }

absent_exit : (q : ℕ) → callee_in (exit_at (graph_or None) q) ≡ None
absent_exit zero = refl
absent_exit (suc q) = refl

-- a node that is left by a call is an old one
call_below : (f : RtFunction) (at c q : ℕ) → exit_at (translated_function number f) at ≡ exit.Call c q → at < length f.nodes
call_below f at c q e = by (node_cases f at)
  where
    by : NodeIs f at → at < length f.nodes
    by (of_operation node r is eq) = slice_get_within f.nodes at node is
    by (of_entry r last eq) = absurd (none-some c (sym (ap (λ (n : Node ℕ). callee_in n.exit) eq) ∙ ap callee_in e))
    by (of_none eq) = absurd (none-some c (sym (ap (λ (n : Node ℕ). callee_in n.exit) eq) ∙ ap callee_in e))

-- ---- the program

module _ (p : RtLabs) (wf : IsWellFormed p) (labelled : GraphsAreLabelled p) where
  -- the node of a call in a function
  record CallIs (f : RtFunction) (at c q : ℕ) : Type 0 where
    callee : RtFunction
    is : IsAt f at (record { op = op.Call c; next = Some q })
    callee_is : slice_get p.functions c ≡ Some callee

  call_at_node : (i : ℕ) (f : RtFunction) → slice_get p.functions i ≡ Some f → (at c q : ℕ) → exit_at (translated_function number f) at ≡ exit.Call c q → CallIs f at c q
  call_at_node i f f_is at c q e =
      let formed = wf.functions i f f_is in
      let below = call_below f at c q e in
      by _ (slice_get-get_or f.nodes at (record { op = op.Return; next = None }) below)
    where
      of_call : (o : RtOp) (next : Option ℕ) → o ≡ op.Call c → IsAt f at (record { op = o; next = next }) → next_of f.entry (length f.nodes) at next ≡ q → CallIs f at c q
      of_call o next same is next_is =
          let formed = wf.functions i f f_is in
          let is' : IsAt f at (record { op = op.Call c; next = next }) = is ∙ ap (λ z. Some (record { op = z; next = next })) same in
          let goes = formed.paths_go_on at (record { op = op.Call c; next = next }) is' in
          let l = entry_label f formed.nodes_exist formed.paths_go_on (labelled i f f_is) in
          let other : at ≢ f.entry = λ e'. subst NotCall (one_operation f at (record { op = op.Label l.label; next = Some l.next }) (record { op = op.Call c; next = next }) (ap (slice_get f.nodes) e' ∙ l.is) is') tt in
          let q_is : goes.0 ≡ q = sym (next_other f.entry (length f.nodes) at next other ∙ ap (next_or at) goes.1) ∙ next_is in
          record {
            callee = _;
            is = is' ∙ ap (λ n. Some (record { op = op.Call c; next = n })) (goes.1 ∙ ap Some q_is);
            callee_is = slice_get-get_or p.functions c f (wf.functions_exist.1 i f f_is at (record { op = op.Call c; next = next }) is' c (inl refl));
          }

      by : (node : RtNode) → IsAt f at node → CallIs f at c q
      by node is =
          let exit' : operation_exit number node.op (next_of f.entry (length f.nodes) at node.next) ≡ exit.Call c q = sym (ap (λ (n : Node ℕ). n.exit) (node_here f at node is)) ∙ e in
          of_call node.op node.next (call_is node.op _ c (ap callee_in exit')) is (goes_on_at node.op _ q (ap next_in_call exit'))

  entry_live : (i : ℕ) (s : Storage) → LiveAt 12 (graphs_of p i) s (graphs_of p i).entry → IsArgument 12 s
  entry_live i Carry live = absurd (translation_carry p i (graphs_of p i).entry live)
  entry_live i (Loc v) live = by (slice_get p.functions i) refl
    where
      by : (n : Option RtFunction) → slice_get p.functions i ≡ n → IsArgument 12 (Loc v)
      by (Some f) is = entry_argument p f (wf.functions i f is) (labelled i f is) v (subst (λ (g : Graph ℕ). LiveAt 12 g (Loc v) g.entry) (graph_is p i f is) live)
      by None is = absurd (absent_dead (Loc v) 0 (subst (λ (g : Graph ℕ). LiveAt 12 g (Loc v) g.entry) (no_graph p i is) live))

  -- a function that calls is there
  caller_is : (i at c q : ℕ) → exit_at (graphs_of p i) at ≡ exit.Call c q → (f : RtFunction) × (slice_get p.functions i ≡ Some f)
  caller_is i at c q e = by (slice_get p.functions i) refl
    where
      by : (n : Option RtFunction) → slice_get p.functions i ≡ n → (f : RtFunction) × (slice_get p.functions i ≡ Some f)
      by (Some f) is = (f, is)
      by None is = absurd (none-some c (sym (absent_exit at) ∙ ap (λ (g : Graph ℕ). callee_in (exit_at g at)) (sym (no_graph p i is)) ∙ ap callee_in e))

  arguments_clause : (i c at q : ℕ) (s : Storage) → exit_at (graphs_of p i) at ≡ exit.Call c q → LiveAt 12 (graphs_of p c) s (graphs_of p c).entry → IsWrittenBefore (graphs_of p i) s at
  arguments_clause i c at q Carry e live = absurd (translation_carry p c (graphs_of p c).entry live)
  arguments_clause i c at q (Loc v) e live =
      let place = entry_live c (Loc v) live in
      let caller = caller_is i at c q e in
      let f = caller.0 in
      let here = graph_is p i f caller.1 in
      let e' : exit_at (translated_function number f) at ≡ exit.Call c q = ap (λ (g : Graph ℕ). exit_at g at) (sym here) ∙ e in
      let call = call_at_node i f caller.1 at c q e' in
      let parameter = entry_parameter v place p wf c call.callee call.callee_is (wf.functions c call.callee call.callee_is) (labelled c call.callee call.callee_is)
      (subst (λ (g : Graph ℕ). LiveAt 12 g (Loc v) g.entry) (graph_is p c call.callee call.callee_is) live) in
      subst (λ (g : Graph ℕ). IsWrittenBefore g (Loc v) at) (sym here)
      (arguments_written v place p wf i f caller.1 (wf.functions i f caller.1) (labelled i f caller.1) at c q call.callee parameter.0 e' call.callee_is parameter.1 parameter.2)

  results_clause : (i c at q r : ℕ) (s : Storage) → exit_at (graphs_of p i) at ≡ exit.Call c q → IsArgument 12 s → LiveAt 12 (graphs_of p i) s q → exit_at (graphs_of p c) r ≡ exit.Return → IsWrittenBefore (graphs_of p c) s r
  results_clause i c at q r Carry e argument live returns' = absurd argument
  results_clause i c at q r (Loc v) e place live returns' =
      let caller = caller_is i at c q e in
      let f = caller.0 in
      let here = graph_is p i f caller.1 in
      let call = call_at_node i f caller.1 at c q (ap (λ (g : Graph ℕ). exit_at g at) (sym here) ∙ e) in
      let there = graph_is p c call.callee call.callee_is in
      let result = live_result v place p wf i f caller.1 (wf.functions i f caller.1) (labelled i f caller.1) at c q call.callee call.is call.callee_is (subst (λ (g : Graph ℕ). LiveAt 12 g (Loc v) q) here live) in
      subst (λ (g : Graph ℕ). IsWrittenBefore g (Loc v) r) (sym there)
      (result_written v place p wf c call.callee call.callee_is (wf.functions c call.callee call.callee_is) (labelled c call.callee call.callee_is) r result.0 (ap (λ (g : Graph ℕ). exit_at g r) (sym there) ∙ returns') result.1 result.2)

-- the clause on the calling convention
pub translation_conventional : (p : RtLabs) → IsWellFormed p → GraphsAreLabelled p → RespectsConvention 12 (graphs_of p)
translation_conventional p wf labelled = record {
  entries = λ f s live. entry_live p wf labelled f s live;
  arguments = λ f g at q s e live. arguments_clause p wf labelled f g at q s e live;
  results = λ f g at q r s e argument live returns'. results_clause p wf labelled f g at q r s e argument live returns';
  carry = λ f g at q e live. translation_carry p f q live;
}
