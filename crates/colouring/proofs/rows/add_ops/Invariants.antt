use Rattle.std.proofs.Common.{◌≡◌, length, map}
use Rattle.rtl.specs.Code.Views.{op_of}
use Rattle.colouring.specs.Code.Neighbours.{HasAdded, AtOperations}
use Rattle.colouring.proofs.rows.add_ops.Given as goal

abbrev pub invariant-loop-k : goal.invariant-loop-k
invariant-loop-k l = record {
  long : length l.rows.items ≡ length l.fn.rows.items;
  added : HasAdded (AtOperations (map op_of l.ops) l.points l.k) l.fn.rows.items l.rows.items;
}
