use Rattle.std.proofs.Common.{◌≡◌, ◌++◌, map, replicate, None}
use Rattle.clight_values.specs.Memory.{unset}
use Rattle.clight_values.specs.Code.Views.{cells_held}
use Rattle.clight_values.proofs.memory.push_gaps.Given as goal

abbrev pub invariant-loop : goal.invariant-loop
invariant-loop l = cells_held l.cells.items ≡ cells_held l.fn.cells.items ++ map unset (replicate l.counter None)
