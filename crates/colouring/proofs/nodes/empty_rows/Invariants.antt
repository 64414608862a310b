use Rattle.std.proofs.Common.{◌≡◌, length}
use Rattle.colouring.specs.Code.Neighbours.{IsEmpty}
use Rattle.colouring.proofs.nodes.empty_rows.Given as goal

abbrev pub invariant-loop-v : goal.invariant-loop-v
invariant-loop-v l = record { long : length l.rows.items ≡ l._v; none : IsEmpty l.rows.items }
