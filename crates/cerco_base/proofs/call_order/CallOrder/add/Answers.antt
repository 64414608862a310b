use Rattle.std.proofs.Common.{◌≡◌, false, sym, ◌∙◌}
use Rattle.std.specs.Prelude.{is_err}
use Rattle.cerco_base.proofs.CallOrders.{push, done}
use Rattle.cerco_base.proofs.call_order.CallOrder.add.Goals as goal

pub invariant_of-self-else-is_err : goal.invariant_of-self-else-is_err
invariant_of-self-else-is_err c =
    let worked : is_err c.push-2.result ≡ false = sym c.is_err.ensures.value ∙ c.if-is_err.false in
    let new = rw (← c.self.view_is) at c.requires.new in
    let callers = rw (← c.self.view_is) at c.requires.callers in
    rw (c.in_ok-push.ensures.items, done _ _ _ _ worked c.push-2.ensures.items)
    (push _ _ _ c.self.invariant new (rw c.in_ok-callers.ensures.items callers))
