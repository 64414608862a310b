-- The relation between the states of a program of RTLabs and those of its translation. Both states are computed from one mode.
use Rattle.std.proofs.Common.{◌≡◌, ◌≢◌, ℕ, suc, ◌+◌, ◌<◌, ◌≤◌, ◌⊎◌, inl, ⊎_elim, List, [], ◌∷◌, map, length, Some, true, false, refl, sym, ap, ◌∙◌, subst}
use Rattle.std.specs.Prelude.{Contains, slice_get, option_map}
use Rattle.std.proofs.lemmas.Bool.{cases_lt}
use Rattle.std.proofs.lemmas.Option.{same_Some}
use Rattle.cerco_traces.specs.LabelledGraphs.{SoundlyLabelled, LeadsTo, In}
use Rattle.cerco_traces.specs.Worlds.{World}
use Rattle.cerco_middle.specs.declared.operators.Held.{Held}
use Rattle.cerco_middle.specs.declared.rtlabs.RtOp.{RtOp}
use Rattle.cerco_middle.specs.declared.rtlabs.RtOp.TheVariants as op
use Rattle.cerco_middle.specs.declared.rtlabs.RtNode.{RtNode}
use Rattle.cerco_middle.specs.Operators.{held_bytes}
use Rattle.cerco_middle.specs.Calls.{Values, Argument, all_zero, first_variables}
use Rattle.cerco_middle.specs.RtLabs.Graphs.{RtFunction, RtLabs, parameters_of, flow_graph, node_kind, next_nodes}
use Rattle.cerco_middle.specs.RtLabs.Meaning.{RtCall, RtState}
use Rattle.cerco_middle.specs.RtLabs.WellFormed.{IsAt, IsAfterCall, HandsOver, is_call}
use Rattle.rtl.specs.Effects.{Storage, Loc}
use Rattle.rtl.specs.Meaning.{seen, shares_first, OpenCall, State, state, call_at}
use Rattle.byte_sequences.proofs.Machine.{Cpu}
use Rattle.byte_sequences.proofs.SoundBytes.{IsByteWorld, HasBytes}
use Rattle.rtl_gen.proofs.Numbered.{graphs_of}
use Rattle.rtl_gen.proofs.Running.{seen_own, seen_shared}
use Rattle.rtl_gen.proofs.Related.{scalar_in, Holds}
use Rattle.rtl_gen.proofs.Handing.{place_value, AreHanded}

-- an open call, on both sides
pub record Link : Type 0 where
  pub index : ℕ
  pub function : RtFunction
  pub node : ℕ
  pub temps : Values
  pub vars : Values
  pub own : Storage → ℕ

abbrev pub lab_call : Link → RtCall
lab_call k = record { of = k.function; node = k.node; temporaries = k.temps; variables = k.vars }

-- a call's own bytes, and those that are shared
abbrev pub OwnBytes : (Storage → ℕ) → Type 0
OwnBytes own = (r : ℕ) → 24 ≤ r → own (Loc r) < 256

abbrev pub SharedBytes : (Storage → ℕ) → Type 0
SharedBytes shared = (r : ℕ) → r < 24 → shared (Loc r) < 256

-- what the running call sees, as one map
abbrev pub cpu_of : (Storage → ℕ) → (Storage → ℕ) → World → Cpu
cpu_of own shared w = record { see = seen shares_first shared own; world = w }

pub seen_bytes : (own shared : Storage → ℕ) (w : World) → OwnBytes own → SharedBytes shared → IsByteWorld w → HasBytes (cpu_of own shared w)
seen_bytes own shared w owned together world = record {
  hold = λ r. ⊎_elim (λ near. subst (λ b. b < 256) (sym (seen_shared shared own r near)) (together r near)) (λ far. subst (λ b. b < 256) (sym (seen_own shared own r far)) (owned r far)) (cases_lt r 24);
  world = world;
}

-- the operation is no label
abbrev pub NotLabel : RtOp → Type 0
NotLabel (op.Label l) = ⊥
NotLabel _ = Unit {0}

-- the operation is no call
abbrev pub NotCall : RtOp → Type 0
NotCall (op.Call g) = ⊥
NotCall _ = Unit {0}

-- one node has one operation
pub one_operation : (f : RtFunction) (at : ℕ) (m n : RtNode) → IsAt f at m → IsAt f at n → m.op ≡ n.op
one_operation f at m n is is' = ap (λ (x : RtNode). x.op) (same_Some m n (sym is ∙ is'))

pub leads : (f : RtFunction) (at q : ℕ) (node : RtNode) → IsAt f at node → In q (next_nodes node) → LeadsTo (flow_graph f at) q
leads f at q node is next = subst (λ o. LeadsTo o q) (sym (ap (λ o. option_map node_kind o) is)) next

module _ (p : RtLabs) where
  abbrev pub byte_call : Link → OpenCall
  byte_call k = call_at (graphs_of p) k.index k.node k.own

  -- ---- results

  -- the result is in its place where a call has returned, and after the label there
  pub record ResultIs (f : RtFunction) (at result : ℕ) (shared : Storage → ℕ) : Type 0 where
    pub after_call : (c g : ℕ) (callee : RtFunction) (h : Held) → IsAt f c (record { op = op.Call g; next = Some at }) → slice_get p.functions g ≡ Some callee → callee.result ≡ Some h → scalar_in h 12 shared ≡ result
    pub after_label : (h : Held) → IsAfterCall p f at h → scalar_in h 12 shared ≡ result

  pub called_from : (f : RtFunction) → SoundlyLabelled (flow_graph f) f.entry → (c g at b : ℕ) (node : RtNode) → IsAt f c (record { op = op.Call g; next = Some at }) → IsAt f b node → In at (next_nodes node) → b ≡ c
  called_from f labelled c g at b node calls is next = (labelled.after_call c at (ap (λ o. option_map node_kind o) calls)).1 b (leads f b at node is next)

  -- after any other node there is none
  pub no_result : (f : RtFunction) → SoundlyLabelled (flow_graph f) f.entry → (b at : ℕ) (node : RtNode) (result : ℕ) (shared : Storage → ℕ) → IsAt f b node → In at (next_nodes node) → is_call node.op ≡ false → NotLabel node.op → ResultIs f at result shared
  no_result f labelled b at node result shared is next not_call not_label = record {
    after_call = λ c g callee h calls callee_is has.
        let same = called_from f labelled c g at b node calls is next in
        let calls' : IsAt f b (record { op = op.Call g; next = Some at }) = subst (λ x. IsAt f x (record { op = op.Call g; next = Some at })) (sym same) calls in
        absurd (differ (sym not_call ∙ ap is_call (one_operation f b node _ is calls')));
    after_label = λ h a.
        let same : b ≡ a.after = a.alone b node is next in
        let labels' = subst (λ x. IsAt f x (record { op = op.Label a.label; next = Some at })) (sym same) a.labels in
        absurd (subst NotLabel (one_operation f b node _ is labels') not_label);
  }
    where
      differ : false ≡ true → ⊥
      differ e = cc

  -- after a label it is what it was before the label
  pub result_past_label : (f : RtFunction) → SoundlyLabelled (flow_graph f) f.entry → (b at : ℕ) (l : _) (result : ℕ) (shared : Storage → ℕ) → IsAt f b (record { op = op.Label l; next = Some at }) → ResultIs f b result shared → ResultIs f at result shared
  result_past_label f labelled b at l result shared is before = record {
    after_call = λ c g callee h calls callee_is has.
        let same = called_from f labelled c g at b (record { op = op.Label l; next = Some at }) calls is (inl refl) in
        let calls' : IsAt f b (record { op = op.Call g; next = Some at }) = subst (λ x. IsAt f x (record { op = op.Call g; next = Some at })) (sym same) calls in
        absurd (subst NotCall (one_operation f b (record { op = op.Label l; next = Some at }) (record { op = op.Call g; next = Some at }) is calls') tt);
    after_label = λ h a.
        let same : b ≡ a.after = a.alone b (record { op = op.Label l; next = Some at }) is (inl refl) in
        before.after_call a.call a.callee a.function h (subst (λ x. IsAt f a.call (record { op = op.Call a.callee; next = Some x })) (sym same) a.calls) a.is_callee a.held_so;
  }

  -- ---- calls

  -- a waiting call, which called this function
  pub record Waits (callee : ℕ) (k : Link) : Type 0 where
    pub is : slice_get p.functions k.index ≡ Some k.function
    pub holds : Holds k.function.held k.temps k.vars k.own
    pub bytes : OwnBytes k.own
    pub call : ℕ
    pub calls : IsAt k.function call (record { op = op.Call callee; next = Some k.node })

  -- the function was called by the first one, and so on
  abbrev pub AllWait : ℕ → List Link → Type 0
  AllWait callee [] = Unit {0}
  AllWait callee (k ∷ ks) = Waits callee k × AllWait k.index ks

  -- the running call, past its entry
  pub record Inside (k : Link) (slots : Values) (result : ℕ) (shared : Storage → ℕ) : Type 0 where
    pub holds : Holds k.function.held k.temps k.vars k.own
    pub away : k.node ≢ k.function.entry
    pub arguments : List Argument
    pub path : HandsOver k.function k.node arguments
    pub handed : AreHanded arguments slots shared
    pub within : (a : Argument) → Contains arguments a → a.first_byte + held_bytes a.held ≤ 12
    pub result_is : ResultIs k.function k.node result shared

  -- at its entry
  pub record Fresh (k : Link) (shared : Storage → ℕ) : Type 0 where
    pub given : Values
    pub at_entry : k.node ≡ k.function.entry
    pub temps_are : k.temps ≡ all_zero
    pub vars_are : k.vars ≡ first_variables k.function.held k.function.params given
    pub parameters : (a : Argument) → Contains (parameters_of k.function) a → place_value a shared ≡ given a.first_byte
    pub own_are : (r : ℕ) → 24 ≤ r → k.own (Loc r) ≡ 0

  pub record Runs (k : Link) (ks : List Link) (slots : Values) (result : ℕ) (shared : Storage → ℕ) (w : World) : Type 0 where
    pub is : slice_get p.functions k.index ≡ Some k.function
    pub place : Inside k slots result shared ⊎ Fresh k shared
    pub own_bytes : OwnBytes k.own
    pub shared_bytes : SharedBytes shared
    pub world_bytes : IsByteWorld w
    pub waits : AllWait k.index ks
    pub few : suc (length ks) ≤ 64

  -- ---- states

  pub data Mode : Type 0 where
    over : (slots : Values) (result : ℕ) (shared : Storage → ℕ) (w : World) → Mode
    runs : (k : Link) (ks : List Link) (slots : Values) (result : ℕ) (shared : Storage → ℕ) (w : World) → Mode

  abbrev pub lab_state : Mode → RtState
  lab_state (over slots result shared w) = record { calls = []; slots = slots; result = result; world = w }
  lab_state (runs k ks slots result shared w) = record { calls = lab_call k ∷ map lab_call ks; slots = slots; result = result; world = w }

  abbrev pub byte_state : Mode → State
  byte_state (over slots result shared w) = state [] shared w
  byte_state (runs k ks slots result shared w) = state (byte_call k ∷ map byte_call ks) shared w

  abbrev pub Fine : Mode → Type 0
  Fine (over slots result shared w) = Unit {0}
  Fine (runs k ks slots result shared w) = Runs k ks slots result shared w

  pub record Relates (x : RtState) (y : State) : Type 0 where
    pub mode : Mode
    pub is_x : x ≡ lab_state mode
    pub is_y : y ≡ byte_state mode
    pub fine : Fine mode
