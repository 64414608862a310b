use Rattle.clight_source.specs.Code.Views.{earlier_argument_of}
use Rattle.clight_names.specs.Occurrences.{earlier_names}
use Rattle.clight_names.proofs.Appending.{listed_on}
use Rattle.clight_names.proofs.expressions.add_earlier_arguments.Goals as goal

pub loop-argument-preserved : goal.loop-argument-preserved
loop-argument-preserved c =
    listed_on (earlier_names c.args.item) earlier_argument_of _ _ _ c.args.arguments.now c.loop-argument.argument-index c.argument-item.result c.loop-argument-test.true c.argument-item.is
    c.loop-argument.invariant c.in_ok-add_expr.ensures
