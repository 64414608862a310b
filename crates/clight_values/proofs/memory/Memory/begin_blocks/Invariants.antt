use Rattle.std.proofs.Common.{◌≡◌, drop}
use Rattle.clight_values.specs.Memory.{with_blocks}
use Rattle.clight_values.specs.Memory.{own_blocks}
use Rattle.clight_values.specs.Code.Views.{memory_held, structs_held, variables_held}
use Rattle.clight_values.proofs.memory.Memory.begin_blocks.Given as goal

abbrev pub invariant-loop-variable : goal.invariant-loop-variable
invariant-loop-variable l =
    with_blocks l.call (own_blocks (structs_held l.structs) (variables_held (drop l.variable-index l.variables))) (memory_held l.self)
    ≡ with_blocks l.call (own_blocks (structs_held l.structs) (variables_held l.variables)) (memory_held l.fn.self)
