use Rattle.std.proofs.Common.{refl}
use Rattle.std.proofs.Math.Seq.{map-set_same}
use Rattle.std.proofs.lemmas.Result.{err_from_is_err_and}
use Rattle.call_graph.proofs.Added.{added}
use Rattle.call_graph.specs.declared.nodes.Node.{Node}
use Rattle.call_graph.proofs.nodes.add_caller.Goals as goal

pub returns-in_err-push-clause-same : goal.returns-in_err-push-clause-same
returns-in_err-push-clause-same c =
    let failed = err_from_is_err_and c.from_residual.result c.from_residual.ensures.1 in
    rw (failed.1) (map-set_same (λ (n : Node). n.callers.items) c.args.nodes.now c.args.function _ c.index-nodes-function.result c.in_err-push.ensures.items)

pub returns-in_err-push-clause-callees : goal.returns-in_err-push-clause-callees
returns-in_err-push-clause-callees c = map-set_same (λ (n : Node). n.callees.items) _ _ _ c.index-nodes-function.result refl

pub returns-clause-added : goal.returns-clause-added
returns-clause-added c = added (λ (n : Node). n.callers.items) _ _ _ c.index-nodes-function.result _ c.requires c.in_ok-push.ensures.items

pub returns-clause-callees : goal.returns-clause-callees
returns-clause-callees c = map-set_same (λ (n : Node). n.callees.items) _ _ _ c.index-nodes-function.result refl
