use Rattle.std.proofs.Common.{◌≡◌, [], ◌∷◌, length, take}
use Rattle.colouring.specs.Code.Neighbours.{HasAdded, Between, numbers}
use Rattle.colouring.proofs.rows.add_with.Given as goal

abbrev pub invariant-loop-w : goal.invariant-loop-w
invariant-loop-w l = record {
  long : length l.rows.items ≡ length l.fn.rows.items;
  added : HasAdded (Between (l.v.0 ∷ []) (numbers (take l.w-index l.others))) l.fn.rows.items l.rows.items;
}
