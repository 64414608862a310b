use Rattle.byte_renaming.proofs.Copied.{more_mapped, all_mapped}
use Rattle.byte_renaming.proofs.rename_each.Goals as goal

pub loop-location-preserved : goal.loop-location-preserved
loop-location-preserved g c =
    more_mapped (g.N.Naming.named c.args.names.now) c.args.locations.now c.loop-location.renamed.items _ c.name.result c.location-item.result c.loop-location.location-index
    c.loop-location.invariant c.in_ok-push.ensures.ok c.name.ensures c.loop-location-test.true c.location-item.is

pub returns : goal.returns
returns g c = all_mapped (g.N.Naming.named c.args.names.now) c.args.locations.now c.loop-location.renamed.items c.loop-location.location-index c.loop-location.invariant c.loop-location-test.false
