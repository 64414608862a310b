use Rattle.std.proofs.Common.{◌≡◌, ◌++◌, map, drop}
use Rattle.clight_syntax.specs.Code.TypedViews.{item_of, program_of}
use Rattle.cminor_gen.specs.Translation.Start.{items_bytes}
use Rattle.cminor_gen.proofs.start.start_bytes.Given as goal

abbrev pub invariant-loop-item : goal.invariant-loop-item
invariant-loop-item l =
    items_bytes (program_of l.program) (map item_of l.program.items.items) ≡ l.start ++ items_bytes (program_of l.program) (map item_of (drop l.item-index l.program.items.items))
