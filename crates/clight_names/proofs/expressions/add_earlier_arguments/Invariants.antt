use Rattle.std.proofs.Common.{◌≡◌, ◌++◌, map, take}
use Rattle.std.specs.List.{flat_map}
use Rattle.clight_source.specs.Code.Views.{earlier_argument_of}
use Rattle.clight_names.specs.Occurrences.{earlier_names}
use Rattle.clight_names.proofs.expressions.add_earlier_arguments.Given as goal

abbrev pub invariant-loop-argument : goal.invariant-loop-argument
invariant-loop-argument l = l.names.items ≡ l.initial.names.items ++ flat_map (earlier_names l.item) (map earlier_argument_of (take l.argument-index l.arguments))
