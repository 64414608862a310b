use Rattle.std.proofs.Common.{◌≡◌, ◌<◌, ◌^◌, take}
use Rattle.call_graph.specs.CallPaths.{sum_along}
use Rattle.clight_layout.proofs.starts.check_sum.Given as goal

abbrev pub invariant-loop-function : goal.invariant-loop-function
invariant-loop-function l = record {
  is : l.sum ≡ sum_along l.sizes (take l.function-index l.function-items);
  small : l.sum < 2 ^ 32;
}
