use Rattle.std.proofs.Common.{◌≡◌, ◌++◌, map, take}
use Rattle.std.specs.List.{flat_map}
use Rattle.clight_source.specs.Code.Views.{earlier_parameter_of}
use Rattle.clight_names.specs.Occurrences.{earlier_parameter_names}
use Rattle.clight_names.proofs.declarations.add_earlier_parameters.Given as goal

abbrev pub invariant-loop-parameter : goal.invariant-loop-parameter
invariant-loop-parameter l = l.names.items ≡ l.initial.names.items ++ flat_map (earlier_parameter_names l.item) (map earlier_parameter_of (take l.parameter-index l.parameters))
