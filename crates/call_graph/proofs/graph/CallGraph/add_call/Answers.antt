use Rattle.std.proofs.Common.{ℕ, ◌<◌, List, length, sym, subst, ap, ◌∙◌}
use Rattle.call_graph.specs.Code.Nodes.{callees_of, callers_of, AreNodes}
use Rattle.call_graph.specs.declared.nodes.Node.{Node}
use Rattle.call_graph.proofs.Opposite.{connected, whole_slice}
use Rattle.call_graph.proofs.graph.CallGraph.add_call.Goals as goal

pub invariant_of-self : goal.invariant_of-self
invariant_of-self c =
    let same = c.deref_mut.ensures.value in
    let whole = whole_slice c.connect.new.nodes c.self.inside.nodes.items c.self.inside.nodes.len c.self.inside.nodes.ok.0 (c.connect.auto.nodes ∙ ap length same) in
    let below : ℕ → List Node → Type 0 = λ i nodes. i < length (callees_of nodes) in
    let caller = subst (below c.args.caller) (sym same) (rw (← c.self.view_is) at c.requires.caller) in
    let callee = subst (below c.args.callee) (sym same) (rw (← c.self.view_is) at c.requires.callee) in
    subst AreNodes (sym whole) (connected c.connect.result (callees_of c.deref_mut.result.now) (callers_of c.deref_mut.result.now) _ _ c.args.caller c.args.callee (subst AreNodes (sym same) c.self.invariant) caller callee c.connect.ensures.callees c.connect.ensures.callers c.connect.ensures.same_callees c.connect.ensures.same_callers)
