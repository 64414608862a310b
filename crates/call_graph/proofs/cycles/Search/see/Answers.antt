use Rattle.std.proofs.Common.{◌<◌, false, length, get_or, arith, sym, ◌∙◌}
use Rattle.std.proofs.lemmas.List.{take_more, get_or_read}
use Rattle.call_graph.proofs.SearchSteps.{sees_known, sees_new}
use Rattle.call_graph.proofs.cycles.Search.see.Goals as goal
use Rattle.call_graph.proofs.cycles.Search.see.Goals.{then-not-index+in_ok-push, else-not-index}

pub loop-callee-preserved : goal.loop-callee-preserved
loop-callee-preserved c =
    let more = take_more c.args.callees.now c.loop-callee.callee-index 0 c.loop-callee-test.true in
    let len = c.loop-callee.invariant.seen_length in
    let within : get_or c.args.callees.now c.loop-callee.callee-index 0 < length c.loop-callee.self.seen.items = let h = c.requires c.loop-callee.callee-index 0 c.loop-callee-test.true in omega arith in
    let read = get_or_read c.loop-callee.self.seen.items (get_or c.args.callees.now c.loop-callee.callee-index 0) c.index.result.now within c.index.ensures false in
    elim c.if-not-index.branch [
      | then-not-index+in_ok-push w ↦
          rw (more, w.self-is, w.in_ok-push.ensures.items) (sees_new _ _ _ _ _ _ _ c.loop-callee.invariant c.if-callee-goal.false within (sym read ∙ w.if-not-index.true))
      | else-not-index w ↦
          rw (more, w.self-is) (sees_known _ _ _ _ _ _ _ c.loop-callee.invariant c.if-callee-goal.false (sym read ∙ w.if-not-index.false))
    ]
