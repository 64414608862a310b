use Rattle.std.proofs.Common.{ℕ, List, arith, sym, subst}
use Rattle.call_graph.specs.CallPaths.{Calls}
use Rattle.call_graph.proofs.Turns.{length-callees}
use Rattle.call_graph.proofs.graph.CallGraph.functions.Goals as goal

pub returns-clause-callees : goal.returns-clause-callees
returns-clause-callees c =
    λ f g call.
    let lt = c.self.invariant.exist f g (subst (λ (callees : List (List ℕ)). Calls callees f g) (sym c.self.view_is) call) in
    let len = length-callees c.self.inside.nodes.items in
    let ok = c.self.inside.nodes.ok.0 in
    let is = c.len.ensures in
    omega arith
