use Rattle.std.proofs.Common.{◌≡◌, drop, map, []}
use Rattle.clight_syntax.specs.Code.TypedViews.{item_of, program_of}
use Rattle.clight_values.specs.Memory.{with_blocks}
use Rattle.clight_values.specs.Code.Views.{memory_held}
use Rattle.clight_meaning.specs.Meaning.{global_blocks}
use Rattle.clight_meaning.proofs.beginning.globals.Given as goal

abbrev pub invariant-loop-item : goal.invariant-loop-item
invariant-loop-item l =
    with_blocks 0 (global_blocks (program_of l.program) (map item_of (drop l.item-index l.program.items.items))) (memory_held l.memory)
    ≡ with_blocks 0 (global_blocks (program_of l.program) (map item_of l.program.items.items)) (record { cells = []; blocks = [] })
