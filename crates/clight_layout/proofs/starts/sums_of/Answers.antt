use Rattle.std.proofs.Common.{◌≤◌, arith}
use Rattle.cerco_base.specs.CallOrder.{functions_of}
use Rattle.call_graph.specs.CallPaths.{sum_along}
use Rattle.clight_layout.proofs.OrderSums.{path_within}
use Rattle.std.specs.Prelude.{length}
use Rattle.clight_layout.proofs.starts.sums_of.Goals as goal

pub largest_sums-requires-clause-fits : goal.largest_sums-requires-clause-fits
largest_sums-requires-clause-fits c = λ path way.
    let le : sum_along c.args.sizes.now path ≤ sum_along c.args.sizes.now (functions_of c.args.order.now) = path_within c.args.order.now c.requires.in_order c.args.sizes.now (length c.args.sizes.now) c.requires.functions path way in
    omega (arith, c.in_ok-check_sum.ensures)
