use Rattle.std.proofs.Common.{◌≡◌, length, take}
use Rattle.cerco_traces.specs.LabelledGraphs.{In}
use Rattle.liveness.specs.Code.Rows.{ways_of, AreDistinct, AddedTo, AddedOnce}
use Rattle.liveness.proofs.ways.add_to_each.Given as goal

abbrev pub invariant-loop-x : goal.invariant-loop-x
invariant-loop-x l = record {
  long : length l.ways.items ≡ length l.fn.ways.items;
  added : AddedTo (ways_of l.fn.ways.items) (λ y. In y (take l.x-index l.rows)) l.i (ways_of l.ways.items);
  once : AreDistinct l.rows → AddedOnce (ways_of l.fn.ways.items) l.i (ways_of l.ways.items);
}
