-- Where the bounds of a source say that there is room, its program of Cminor has room, so that the back end doesn't refuse it.
use Rattle.std.proofs.Common.{◌≡◌, ℕ, ◌≤◌, length, Option, Some, None, refl, sym, subst, ◌∙◌, arith}
use Rattle.std.specs.Prelude.{slice_get, option_map}
use Rattle.std.proofs.lemmas.List.{length-map}
use Rattle.std.proofs.lemmas.Option.{slice_get-map}
use Rattle.cerco_base.specs.declared.events.Label.{Label}
use Rattle.cerco_base.specs.declared.reasons.Reason.{Reason}
use Rattle.cerco_traces.specs.Preservation.{PreservesSource}
use Rattle.call_graph.specs.CallPaths.{CallsIn, IsLargestSum}
use Rattle.cerco_middle.specs.Cminor.Trees.{Cminor}
use Rattle.cerco_middle.specs.Cminor.Meaning.{cminor}
use Rattle.cerco_middle.specs.Cminor.Sums.{long_length}
use Rattle.cerco_middle.specs.Cminor.Sums as cm
use Rattle.clight_syntax.specs.Bounds.{code_bound}
use Rattle.clight_syntax.specs.TypedTrees.{TypedProgram}
use Rattle.clight_meaning.specs.Meaning.{source as meaning}
use Rattle.checked_programs.specs.Limits.{AreWithinNeeds, IsWithinLimits}
use Rattle.cminor_gen.specs.Promises.{KeepsProgram, NeedNoMore}
use Rattle.back_end.specs.Needs.{needs}
use Rattle.back_end.specs.Refusals.{Suffices, IsRefused as IsTooBig}
use Rattle.cerco_pipeline.specs.Programs.{HasRoom}
use Rattle.cerco_pipeline.specs.Built.{LacksRoom}

-- what each function of Cminor needs is within the source's bound
mapped : {A : Type 0} (f : A → ℕ) (n : ℕ) (x : Option A) → option_map f x ≡ Some n → (y : A) × (x ≡ Some y) × (f y ≡ n)
mapped f n None e = absurd cc
mapped f n (Some y) e = (y, refl, cc)

within_needs : (p : TypedProgram Label) (c : Cminor) → KeepsProgram p c → NeedNoMore p c → AreWithinNeeds p (needs c)
within_needs p c keeps less = record {
  count = length-map c.functions (cm.register_need c.functions) ∙ keeps.count;
  each = λ i f need at has.
      let g = mapped (cm.register_need c.functions) need (slice_get c.functions i) (sym (slice_get-map (cm.register_need c.functions) c.functions i) ∙ has) in
      omega (arith, less i f g.0 at g.1, g.2);
}

pub suffices : (p : TypedProgram Label) (c : Cminor) → IsWithinLimits p → KeepsProgram p c → NeedNoMore p c → long_length c ≤ code_bound p → HasRoom p → Suffices c
suffices p c limits keeps less short room =
    let found = limits.needs (needs c) (within_needs p c keeps less) in
    let calls : IsLargestSum (length p.functions) (CallsIn c.calls) (needs c) found.0 = subst (λ l. IsLargestSum (length p.functions) (CallsIn l) (needs c) found.0) (sym keeps.calls) found.1 in
    record {
      most = found.0;
      need = subst (λ n. IsLargestSum n (CallsIn c.calls) (needs c) found.0) (sym keeps.count) calls;
      cells = omega (arith, found.2 room.most room.need, room.cells);
      code = omega (arith, short, room.code);
    }

pub lacks_room :
    (p : TypedProgram Label) (c : Cminor) (reason : Reason) → PreservesSource (meaning p) (cminor c) p.data_bytes → IsTooBig c reason
    → (HasRoom p → ⊥) → LacksRoom p reason
lacks_room p c reason preserves big room = record { source = c; preserves = preserves; too_big = big; not_by_bounds = room }
