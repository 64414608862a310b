use Rattle.std.proofs.Common.{◌≡◌, ℕ, ◌<◌, length, Some, slice_get}
use Rattle.ltl_alloc.specs.OneCell.{cells_below, one_cell}
use Rattle.ltl_alloc.specs.Code.Spots.{is_marked}
use Rattle.ltl_alloc.proofs.plainest.spots_of.Given as goal

abbrev pub invariant-loop-v : goal.invariant-loop-v
invariant-loop-v l = record {
  long : length l.spots ≡ l.v;
  count : l.cells ≡ cells_below (is_marked l.fn.marks) l.v;
  each : (w : ℕ) → w < l.v → slice_get l.spots w ≡ Some (one_cell (is_marked l.fn.marks) w);
}
