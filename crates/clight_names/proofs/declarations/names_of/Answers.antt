use Rattle.clight_names.proofs.Appending.{items_on}
use Rattle.clight_names.proofs.declarations.names_of.Goals as goal

pub loop-item-preserved : goal.loop-item-preserved
loop-item-preserved c =
    items_on _ _ c.deref-x-items.result.now c.loop-item.item c.x-item.result c.loop-item-test.true c.x-item.is c.loop-item.invariant c.in_ok-add_item.ensures
