-- How a run goes through the operations of a node.
use Rattle.std.proofs.Common.{◌≡◌, ℕ, suc, ◌≤◌, ◌<◌, List, [], ◌∷◌, length, false, nat_lt, if◌then◌else◌, sym, ap, subst, arith, lt-ltb}
use Rattle.cerco_traces.specs.Systems.{System, EachWithin, Run, here, onward}
use Rattle.cerco_traces.specs.Worlds.{World}
use Rattle.cerco_traces.proofs.Simulation.{each_front, each_back}
use Rattle.rtl.specs.Operations.{ByteOp}
use Rattle.rtl.specs.Programs.{Graph}
use Rattle.rtl.specs.Effects.{Storage, Loc, Effect, effect}
use Rattle.rtl.specs.Meaning.{seen, shared_after, own_after, shares_first, OpenCall, State, state, after_op, graph_system}
use Rattle.rtl.proofs.EffectLaws.{effect_same}
use Rattle.rtl.proofs.ValueLaws.{seen_after}
use Rattle.byte_sequences.proofs.Machine.{Cpu, done, all_done}
use Rattle.byte_sequences.proofs.TouchedBytes.{all_touched}

-- ---- which values are shared

pub seen_own : (shared own : Storage → ℕ) (r : ℕ) → 24 ≤ r → seen shares_first shared own (Loc r) ≡ own (Loc r)
seen_own shared own r far = ap (λ b. if b then shared (Loc r) else own (Loc r)) (not_below r far)
  where
    not_below : (v : ℕ) → 24 ≤ v → nat_lt v 24 ≡ false
    not_below v far = grind (arith, far)

pub seen_shared : (shared own : Storage → ℕ) (r : ℕ) → r < 24 → seen shares_first shared own (Loc r) ≡ shared (Loc r)
seen_shared shared own r near = ap (λ b. if b then shared (Loc r) else own (Loc r)) (lt-ltb r 24 near)

-- ---- runs

-- a call in the node p of the function f, with these operations left
abbrev pub in_node : ℕ → ℕ → List (ByteOp ℕ) → (Storage → ℕ) → OpenCall
in_node f p ops own = record { function = f; node = p; left = ops; own = own }

module _ (G : ℕ → Graph ℕ) (main : ℕ) (bytes : List (ℕ × ℕ)) (d : ℕ) where
  abbrev pub Y : System State
  Y = graph_system shares_first G main bytes

  -- these operations are made, as they are where one map holds all values
  pub record Ran (ops : List (ByteOp ℕ)) (f p : ℕ) (own shared : Storage → ℕ) (calls : List OpenCall) (c : Cpu) : Type 0 where
    pub own' : Storage → ℕ
    pub shared' : Storage → ℕ
    pub run : Run Y d (state (in_node f p ops own ∷ calls) shared c.world) (state (in_node f p [] own' ∷ calls) shared' (all_done ops c).world)
    pub alike : (s : Storage) → seen shares_first shared' own' s ≡ (all_done ops c).see s

  pub ops_run : (ops : List (ByteOp ℕ)) (f p : ℕ) (own shared : Storage → ℕ) (calls : List OpenCall) (c : Cpu)
      → ((s : Storage) → seen shares_first shared own s ≡ c.see s) → EachWithin d (all_touched ops c) → suc (length calls) ≤ 64 → Ran ops f p own shared calls c
  ops_run [] f p own shared calls c alike within few = record { own' = own; shared' = shared; run = here _; alike = alike }
  ops_run (op ∷ ops) f p own shared calls c alike within few =
      let e0 : Effect = effect op c.see c.world in
      let same : effect op (seen shares_first shared own) c.world ≡ e0 = effect_same op (seen shares_first shared own) c.see c.world (λ s i. alike s) in
      let own1 : Storage → ℕ = own_after shares_first e0.sets own in
      let shared1 : Storage → ℕ = shared_after shares_first e0.sets shared in
      let rest = ops_run ops f p own1 shared1 calls (done op c) (seen_after shares_first e0.sets shared own c.see alike) (each_back d e0.touched (all_touched ops (done op c)) within) few in
      let first : State = state (in_node f p (op ∷ ops) own ∷ calls) shared c.world in
      let end : State = state (in_node f p [] rest.own' ∷ calls) rest.shared' (all_done ops (done op c)).world in
      let touches : EachWithin d (Y.touched first) = subst (λ (e : Effect). EachWithin d e.touched) (sym same) (each_front d e0.touched (all_touched ops (done op c)) within) in
      let step_is : Y.step first ≡ after_op shares_first e0 f p ops own calls shared = ap (λ e. after_op shares_first e f p ops own calls shared) same in
      record {
        own' = rest.own';
        shared' = rest.shared';
        run = onward first end (record { bytes = touches; calls = few }) (subst (λ s. Run Y d s end) (sym step_is) rest.run);
        alike = rest.alike;
      }

  -- a step that leaves a node
  pub leaves : (f p : ℕ) (own shared : Storage → ℕ) (calls : List OpenCall) (w : World) (after : State) → Y.step (state (in_node f p [] own ∷ calls) shared w) ≡ after → length after.calls ≤ 64
      → Run Y d (state (in_node f p [] own ∷ calls) shared w) after
  leaves f p own shared calls w after is few =
      let first : State = state (in_node f p [] own ∷ calls) shared w in
      onward first after (record { bytes = tt; calls = subst (λ (s : State). length s.calls ≤ 64) (sym is) few }) (subst (λ s. Run Y d s after) (sym is) (here after))
