use Rattle.std.proofs.Common.{◌≡◌, length, take}
use Rattle.colouring.specs.Code.Neighbours.{HasAdded, ArgumentsBetween, numbers}
use Rattle.colouring.proofs.nodes.add_arguments.Given as goal

abbrev pub invariant-loop-v : goal.invariant-loop-v
invariant-loop-v l = record {
  long : length l.rows.items ≡ length l.fn.rows.items;
  added : HasAdded (ArgumentsBetween (numbers (take l.v-index l.live)) (numbers l.live)) l.fn.rows.items l.rows.items;
}
