use Rattle.std.proofs.Common.{◌≡◌, ◌++◌, map, drop}
use Rattle.clight_source.specs.Code.Views.{item_of as item_source_of}
use Rattle.clight_typing.specs.Programs.{definitions as definitions_lem}
use Rattle.clight_typing.proofs.programs.definitions.Given as goal

abbrev pub invariant-loop-item : goal.invariant-loop-item
invariant-loop-item l =
    definitions_lem (map item_source_of l.items) ≡ l.names ++ definitions_lem (map item_source_of (drop l.item-index l.items))
