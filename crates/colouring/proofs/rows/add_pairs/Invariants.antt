use Rattle.std.proofs.Common.{◌≡◌, length, take}
use Rattle.colouring.specs.Code.Neighbours.{HasAdded, Between, numbers}
use Rattle.colouring.proofs.rows.add_pairs.Given as goal

abbrev pub invariant-loop-v : goal.invariant-loop-v
invariant-loop-v l = record {
  long : length l.rows.items ≡ length l.fn.rows.items;
  added : HasAdded (Between (numbers (take l.v-index l.firsts)) (numbers l.others)) l.fn.rows.items l.rows.items;
}
