use Rattle.clight_source.specs.Code.Views.{earlier_parameter_of}
use Rattle.clight_names.specs.Occurrences.{earlier_parameter_names}
use Rattle.clight_names.proofs.Appending.{listed_on}
use Rattle.clight_names.proofs.declarations.add_earlier_parameters.Goals as goal

pub loop-parameter-preserved : goal.loop-parameter-preserved
loop-parameter-preserved c =
    listed_on (earlier_parameter_names c.args.item) earlier_parameter_of _ _ _ c.args.parameters.now c.loop-parameter.parameter-index c.parameter-item.result c.loop-parameter-test.true c.parameter-item.is
    c.loop-parameter.invariant c.in_ok-add_declared.ensures
