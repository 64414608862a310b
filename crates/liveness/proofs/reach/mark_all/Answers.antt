use Rattle.std.proofs.Common.{take, sym, subst, arith}
use Rattle.std.proofs.lemmas.List.{take_more}
use Rattle.liveness.specs.Code.Reach.{AreMarked}
use Rattle.liveness.proofs.Lists.{in_at}
use Rattle.liveness.proofs.Reaching.{mark_more}
use Rattle.liveness.proofs.reach.mark_all.Goals as goal

pub mark-requires-clause-within : goal.mark-requires-clause-within
mark-requires-clause-within c =
    let lt = c.requires.within _ (in_at c.args.row.now c.loop-j.j-index 0 c.loop-j-test.true) in
    let e = c.loop-j.invariant.long in
    omega (arith, lt, e)

pub loop-j-preserved : goal.loop-j-preserved
loop-j-preserved c =
    let i = c.loop-j.j-index in
    let row = c.args.row.now in
    subst (λ z. AreMarked c.args.walls.now c.args.marks.now.items c.args.list.now.items z c.mark.new.marks.items c.mark.new.list.items) (sym (take_more row i 0 c.loop-j-test.true))
    (mark_more c.args.walls.now c.args.marks.now.items c.args.list.now.items (take i row) c.loop-j.marks.items c.loop-j.list.items _ c.mark.new.marks.items c.mark.new.list.items c.loop-j.invariant c.in_ok-mark.ensures)
