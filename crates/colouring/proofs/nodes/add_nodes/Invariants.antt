use Rattle.std.proofs.Common.{◌≡◌, length, map}
use Rattle.rtl.specs.Code.Views.{node_of}
use Rattle.colouring.specs.Code.Neighbours.{HasAdded, AtNodes}
use Rattle.colouring.proofs.nodes.add_nodes.Given as goal

abbrev pub invariant-loop-p : goal.invariant-loop-p
invariant-loop-p l = record {
  long : length l.rows.items ≡ length l.fn.rows.items;
  added : HasAdded (AtNodes l.covered (map node_of l.nodes) l.live l.p) l.fn.rows.items l.rows.items;
}
