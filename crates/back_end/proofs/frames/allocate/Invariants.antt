use Rattle.std.proofs.Common.{map, take}
use Rattle.rtl.specs.Code.Views.{graph_of}
use Rattle.ltl_alloc.specs.Allocated.{EachHas}
use Rattle.back_end.specs.Chain.{IsPlainest}
use Rattle.back_end.proofs.frames.allocate.Given as goal

abbrev pub invariant-loop-graph : goal.invariant-loop-graph
invariant-loop-graph l = EachHas IsPlainest (map graph_of (take l.graph-index l.graphs)) l.allocations
