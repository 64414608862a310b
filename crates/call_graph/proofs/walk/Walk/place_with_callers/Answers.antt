use Rattle.std.proofs.Common.{refl, arith, ◌∙◌}
use Rattle.call_graph.proofs.Turns.{first_opens, length-callers}
use Rattle.call_graph.proofs.WalkSteps.{mark_read}
use Rattle.call_graph.proofs.walk.Walk.place_with_callers.Goals as goal

pub loop-top-init : goal.loop-top-init
loop-top-init c =
    let len = length-callers c.args.nodes.now in
    let e = c.requires.walk.marks_length in
    let f = c.requires.function in
    let new = mark_read c.args.self.now.marks.items c.args.function c.index.result.now (omega arith) c.index.ensures ∙ c.in-New.is in
    first_opens _ _ _ _ _ c.requires.walk c.requires.stack (omega arith) new refl refl refl refl c.in_ok-open.ensures.opens
