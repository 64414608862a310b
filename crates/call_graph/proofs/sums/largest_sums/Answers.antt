use Rattle.std.proofs.Common.{◌≤◌, length, get_or, ap, arith}
use Rattle.call_graph.proofs.OrderPaths.{contains_standing, length-functions}
use Rattle.call_graph.proofs.SumSteps.{callers_fit, callers_sized, sum_fits, sums_next, sums_before, sums_largest, max_is, at_place, largest_along}
use Rattle.call_graph.proofs.sums.largest_sums.Goals as goal

pub largest_with-sum-requires-clause-before : goal.largest_with-sum-requires-clause-before
largest_with-sum-requires-clause-before c =
    let at = at_place c.args.order.now c.functions-functions.result.now c.loop-i.i c.functions-functions.ensures.functions c.loop-i-test.true in
    rw (c.callers.ensures, c.deref.ensures.value) (callers_sized c.args.order.now c.args.sizes.now c.loop-i.before.items c.loop-i.i c.functions-functions.ensures.order c.requires.functions c.loop-i.invariant.before_length at.within)

pub largest_with-sum-requires-clause-fits : goal.largest_with-sum-requires-clause-fits
largest_with-sum-requires-clause-fits c =
    let at = at_place c.args.order.now c.functions-functions.result.now c.loop-i.i c.functions-functions.ensures.functions c.loop-i-test.true in
    rw (c.callers.ensures, c.deref.ensures.value) (callers_fit c.args.order.now c.args.sizes.now c.loop-i.before.items c.loop-i.i c.loop-i.largest c.functions-functions.ensures.order c.loop-i.invariant at.within c.requires.fits)

pub index_mut-requires : goal.index_mut-requires
index_mut-requires c =
    let at = at_place c.args.order.now c.functions-functions.result.now c.loop-i.i c.functions-functions.ensures.functions c.loop-i-test.true in
    let within = (c.requires.functions (get_or c.functions-functions.result.now c.loop-i.i 0)).0 (contains_standing c.args.order.now (get_or c.functions-functions.result.now c.loop-i.i 0) c.loop-i.i at) in
    let len = c.loop-i.invariant.before_length in
    let ok = c.loop-i.before.ok.0 in
    omega arith

pub bounds-sizes-function : goal.bounds-sizes-function
bounds-sizes-function c =
    let at = at_place c.args.order.now c.functions-functions.result.now c.loop-i.i c.functions-functions.ensures.functions c.loop-i-test.true in
    let within = (c.requires.functions (get_or c.functions-functions.result.now c.loop-i.i 0)).0 (contains_standing c.args.order.now (get_or c.functions-functions.result.now c.loop-i.i 0) c.loop-i.i at) in
    within

pub overflow_add-sum : goal.overflow_add-sum
overflow_add-sum c =
    let at = at_place c.args.order.now c.functions-functions.result.now c.loop-i.i c.functions-functions.ensures.functions c.loop-i-test.true in
    let largest = largest_along _ _ _ _ _ _ c.callers.ensures c.deref.ensures.value c.largest_with-sum.ensures in
    let fits = sum_fits c.args.order.now c.args.sizes.now c.loop-i.before.items c.loop-i.i c.loop-i.largest (get_or c.functions-functions.result.now c.loop-i.i 0) c.largest_with-sum.result c.functions-functions.ensures.order c.requires.functions c.loop-i.invariant at largest c.requires.fits in
    omega arith

pub loop-i-preserved : goal.loop-i-preserved
loop-i-preserved c =
    let at = at_place c.args.order.now c.functions-functions.result.now c.loop-i.i c.functions-functions.ensures.functions c.loop-i-test.true in
    let largest = largest_along _ _ _ _ _ _ c.callers.ensures c.deref.ensures.value c.largest_with-sum.ensures in
    rw (c.max-largest.ensures, max_is) (sums_next c.args.order.now c.args.sizes.now c.loop-i.before.items c.loop-i.i c.loop-i.largest (get_or c.functions-functions.result.now c.loop-i.i 0) c.largest_with-sum.result c.functions-functions.ensures.order c.requires.functions c.loop-i.invariant at largest)

pub returns-clause-before : goal.returns-clause-before
returns-clause-before c =
    let end : length c.args.order.now ≤ c.loop-i.i = let len = length-functions c.args.order.now in let same = ap length c.functions-functions.ensures.functions in let over = c.loop-i-test.false in omega arith in
    λ f h. sums_before c.args.order.now c.args.sizes.now c.loop-i.before.items c.loop-i.i c.loop-i.largest f c.requires.functions c.loop-i.invariant end h

pub returns-clause-largest : goal.returns-clause-largest
returns-clause-largest c =
    let end : length c.args.order.now ≤ c.loop-i.i = let len = length-functions c.args.order.now in let same = ap length c.functions-functions.ensures.functions in let over = c.loop-i-test.false in omega arith in
    sums_largest c.args.order.now c.args.sizes.now c.loop-i.before.items c.loop-i.i c.loop-i.largest c.requires.functions c.loop-i.invariant end
