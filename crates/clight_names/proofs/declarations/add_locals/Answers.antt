use Rattle.clight_source.specs.Code.Views.{local_of}
use Rattle.clight_names.specs.Occurrences.{local_names}
use Rattle.clight_names.proofs.Appending.{listed_on}
use Rattle.clight_names.proofs.declarations.add_locals.Goals as goal

pub loop-local-preserved : goal.loop-local-preserved
loop-local-preserved c =
    listed_on (local_names c.args.item) local_of _ _ _ c.args.locals.now c.loop-local.local-index c.local-item.result c.loop-local-test.true c.local-item.is
    c.loop-local.invariant c.in_ok-add_local.ensures
