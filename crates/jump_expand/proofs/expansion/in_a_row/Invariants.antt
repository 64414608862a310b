use Rattle.std.proofs.Common.{◌≡◌, map}
use Rattle.std.specs.List.{range_with_len}
use Rattle.asm51.specs.Layouts.{address}
use Rattle.jump_expand.proofs.expansion.in_a_row.Given as goal

abbrev pub invariant-loop-k : goal.invariant-loop-k
invariant-loop-k l = l.row.items ≡ map (address l.items l.relaxed.forms.items) (range_with_len 0 l.k)
