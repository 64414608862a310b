use Rattle.std.proofs.Common.{take}
use Rattle.cerco_traces.specs.LabelledGraphs.{In}
use Rattle.dropping.specs.Code.Marks.{HasGrown, AreMarkedBefore}
use Rattle.dropping.proofs.marks.mark_before_each.Given as goal

abbrev pub invariant-loop-i : goal.invariant-loop-i
invariant-loop-i l = record {
  marks : AreMarkedBefore l.points l.walls (λ k. In k (take l.i-index l.list)) l.fn.needed.marks.items l.needed.marks.items;
  grown : HasGrown l.fn.needed l.needed;
}
