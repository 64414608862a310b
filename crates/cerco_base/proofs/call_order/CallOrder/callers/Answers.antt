use Rattle.std.proofs.Common.{◌∙◌}
use Rattle.std.proofs.lemmas.List.{length-map}
use Rattle.cerco_base.proofs.CallOrders.{callers-entry}
use Rattle.cerco_base.proofs.call_order.CallOrder.callers.Goals as goal

pub returns : goal.returns
returns c =
    let within = rw (← c.self.view_is) at c.requires in
    rw (← c.self.view_is) (c.as_slice.ensures.value ∙ callers-entry _ _ _ (rw length-map at within) c.index.ensures)
