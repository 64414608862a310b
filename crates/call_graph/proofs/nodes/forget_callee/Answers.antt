use Rattle.std.proofs.Common.{get_or, refl}
use Rattle.std.proofs.Math.Seq.{map-set_same}
use Rattle.call_graph.proofs.Added.{forgotten}
use Rattle.call_graph.specs.declared.nodes.Node.{Node}
use Rattle.call_graph.proofs.nodes.forget_callee.Goals as goal

pub returns-clause-callees : goal.returns-clause-callees
returns-clause-callees c =
    λ lists callee within e. forgotten (λ (n : Node). n.callees.items) _ _ _ c.index-nodes-function.result lists callee _ c.requires within e ((get_or c.args.nodes.now c.args.function c.index-nodes-function.result).callees.ok.0) c.pop.ensures.rest

pub returns-clause-callers : goal.returns-clause-callers
returns-clause-callers c = map-set_same (λ (n : Node). n.callers.items) _ _ _ c.index-nodes-function.result refl
