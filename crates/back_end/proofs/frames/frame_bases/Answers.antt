use Rattle.std.proofs.Common.{◌≡◌, ℕ, ◌≤◌, length, sym, ap, ◌∙◌, subst}
use Rattle.std.specs.Prelude.{All, IfOk}
use Rattle.std.proofs.lemmas.List.{length-map}
use Rattle.call_graph.proofs.OrderPaths.{length-functions}
use Rattle.ltl_alloc.specs.declared.allocation.Allocation.{Allocation}
use Rattle.ltl_alloc.specs.Allocated.{sizes_of}
use Rattle.ltl_alloc.specs.Frames.{AreBases}
use Rattle.back_end.specs.Refusals.{IsLack}
use Rattle.back_end.proofs.Placed.{functions_listed, sums_are_small, product_is_small}
use Rattle.back_end.proofs.Refused.{lack_of_result}
use Rattle.back_end.proofs.frames.frame_bases.Goals as goal

pub place_frames-requires-clause-functions : goal.place_frames-requires-clause-functions
place_frames-requires-clause-functions c =
    let are : c.deref-2.result.now ≡ sizes_of c.args.allocations.now = c.deref-2.ensures.value ∙ c.in_ok-sizes.ensures in
    functions_listed c.args.ertl.now.calls (length c.args.allocations.now) c.deref-2.result.now c.requires (ap length are ∙ length-map c.args.allocations.now (λ (a : Allocation). a.cells))

pub place_frames-requires-clause-small : goal.place_frames-requires-clause-small
place_frames-requires-clause-small c =
    let calls = c.args.ertl.now.calls in
    let count = length c.functions-functions.result.now in
    let listed = place_frames-requires-clause-functions c in
    let same : count ≡ length calls = ap length c.functions-functions.ensures.functions ∙ length-functions calls in
    let all = subst (All (λ (s : ℕ). s ≤ c.largest.result)) (c.deref.ensures.value ∙ sym c.deref-2.ensures.value) c.largest.ensures in
    let small = product_is_small count c.largest.result c.saturating_mul.result c.saturating_mul.ensures c.if-saturating_mul-ge-SUM_LIMIT.false in
    sums_are_small calls count c.largest.result c.deref-2.result.now c.functions-functions.ensures.order (λ f within. (listed f).1 within) same all small

pub returns : goal.returns
returns c =
    let calls = c.args.ertl.now.calls in
    let are : c.deref-2.result.now ≡ sizes_of c.args.allocations.now = c.deref-2.ensures.value ∙ c.in_ok-sizes.ensures in
    record {
      bases = subst (λ sizes. IfOk c.place_frames.result (AreBases calls sizes)) are c.place_frames.ensures.bases;
      enough = c.place_frames.ensures.enough;
      refused = λ reason is. subst (λ sizes. IsLack calls sizes reason) are (lack_of_result calls c.deref-2.result.now c.place_frames.result c.place_frames.ensures.refused reason is);
    }
