use Rattle.std.proofs.Common.{◌≡◌, ℕ, ◌<◌, ◌≤◌, length, subst, sym, arith}
use Rattle.std.specs.Prelude.{All, Contains, ◌↔◌}
use Rattle.cerco_base.specs.CallOrder.{functions_of}
use Rattle.call_graph.specs.CallPaths.{CallsIn, IsCallPath}
use Rattle.call_graph.proofs.Consequences.{sum-bound, length-path_of_program}
use Rattle.backend_tests.proofs.frames.bases_of.Goals as goal

pub place_frames-requires-clause-functions : goal.place_frames-requires-clause-functions
place_frames-requires-clause-functions c =
    let is = c.in_ok-order.ensures.order in
    let len : length c.args.sizes.now ≡ length c.args.graph.now = let count = c.functions-functions.ensures.count in let same = c.if-sizes-functions.false in omega arith in
    λ f. subst (λ (n : ℕ). Contains (functions_of c.in_ok-order.order) f ↔ (f < n)) (sym len) (is.functions f)

pub place_frames-requires-clause-small : goal.place_frames-requires-clause-small
place_frames-requires-clause-small c =
    let is = c.in_ok-order.ensures.order in
    let len : length c.args.sizes.now ≡ length c.args.graph.now = let count = c.functions-functions.ensures.count in let same = c.if-sizes-functions.false in omega arith in
    let small : All (λ s. s ≤ 1000) c.args.sizes.now = c.are_small.ensures.0 c.if-not-are_small.false in
    λ path way.
    let le = length-path_of_program c.args.graph.now c.in_ok-order.order is path (subst (λ (n : ℕ). IsCallPath n (CallsIn c.in_ok-order.order) path) len way) in
    let bound = sum-bound c.args.sizes.now path 1000 small in
    let few : length c.args.graph.now < 1000 = let count = c.functions-functions.ensures.count in let below = c.if-functions-ge1000.false in omega arith in
    omega arith
