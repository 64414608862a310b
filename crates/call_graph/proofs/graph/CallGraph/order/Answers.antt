use Rattle.std.proofs.Common.{ℕ, List, Err, length, subst, sym, ap, ◌∙◌}
use Rattle.std.specs.Prelude.{IfOk}
use Rattle.std.proofs.lemmas.Result.{IfOk-weaker}
use Rattle.call_graph.specs.CallPaths.{IsOnCycle, IsOrderOf}
use Rattle.call_graph.specs.Code.Nodes.{callees_of, callers_of, CallsTo, AreNodes}
use Rattle.call_graph.specs.Code.Walks.{IsOrderByCallers}
use Rattle.call_graph.specs.declared.nodes.Node.{Node}
use Rattle.call_graph.proofs.Opposite.{order_of, order_without_cycle, cycle_of}
use Rattle.call_graph.proofs.graph.CallGraph.order.Goals as goal

pub first_on_cycle-requires-clause-known : goal.first_on_cycle-requires-clause-known
first_on_cycle-requires-clause-known c =
    let on = c.callers_first.ensures.cycle c.in-Err-Cycle.function (c.in-Err-Cycle.is ∙ ap Err c.in-Err-Cycle.field-0-is) in
    let here = subst (λ (nodes : List Node). IsOnCycle (length nodes) (CallsTo (callers_of nodes)) c.in-Err-Cycle.function) (c.deref.ensures.value ∙ sym c.deref-in-Err-Cycle.ensures.value) on in
    cycle_of (callees_of c.deref-in-Err-Cycle.result.now) (callers_of c.deref-in-Err-Cycle.result.now) (subst AreNodes (sym c.deref-in-Err-Cycle.ensures.value) c.self.invariant) _ _ here

pub returns-in_default-2-clause-order : goal.returns-in_default-2-clause-order
returns-in_default-2-clause-order c =
    let by = subst (λ (nodes : List Node). IfOk c.callers_first.result (IsOrderByCallers (callers_of nodes))) c.deref.ensures.value c.callers_first.ensures.order in
    IfOk-weaker c.callers_first.result _ _ (λ o is. subst (λ (callees : List (List ℕ)). IsOrderOf callees o) c.self.view_is (order_of (callees_of c.self.inside.nodes.items) (callers_of c.self.inside.nodes.items) o c.self.invariant is)) by

pub returns-in_default-2-clause-no_cycle : goal.returns-in_default-2-clause-no_cycle
returns-in_default-2-clause-no_cycle c =
    let by = subst (λ (nodes : List Node). IfOk c.callers_first.result (IsOrderByCallers (callers_of nodes))) c.deref.ensures.value c.callers_first.ensures.order in
    IfOk-weaker c.callers_first.result _ _ (λ o is. order_without_cycle c.args.self.now o (subst (λ (callees : List (List ℕ)). IsOrderOf callees o) c.self.view_is (order_of (callees_of c.self.inside.nodes.items) (callers_of c.self.inside.nodes.items) o c.self.invariant is)) (length c.args.self.now)) by
