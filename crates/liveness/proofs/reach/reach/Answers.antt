use Rattle.std.proofs.Common.{◌<◌, ◌≤◌, [], length, refl, sym, subst, arith}
use Rattle.std.proofs.lemmas.Grind.{common_steps}
use Rattle.liveness.specs.Code.Rows.{ways_of, AllBelow}
use Rattle.liveness.specs.Code.Reach.{AreMarked}
use Rattle.liveness.proofs.Lists.{read_is}
use Rattle.liveness.proofs.Reaching.{spread_first, spread_next, whole, all_below}
use Rattle.liveness.proofs.reach.reach.Goals as goal

pub mark_all-requires-clause-within : goal.mark_all-requires-clause-within
mark_all-requires-clause-within c = subst (AllBelow c.args.seeds.now) (sym c.requires.clear.long) c.requires.seeds

pub loop-next-init : goal.loop-next-init
loop-next-init c =
    spread_first c.args.seeds.now (ways_of c.args.ways.now) c.args.walls.now (length c.args.ways.now) c.args.marks.now.items c.mark_all.new.marks.items c.mark_all.new.list.items c.requires.clear
    (subst (λ z. AreMarked [] c.args.marks.now.items z c.args.seeds.now c.mark_all.new.marks.items c.mark_all.new.list.items) c.new-list.ensures.items c.in_ok-mark_all.ensures)

pub mark_all-requires-in-loop-next-clause-within : goal.mark_all-requires-in-loop-next-clause-within
mark_all-requires-in-loop-next-clause-within c =
    subst (AllBelow c.row.result.now) (sym c.loop-next.invariant.long) (subst (λ r. AllBelow r (length c.args.ways.now)) (sym c.row.ensures) (c.requires.ways c.index-i.result.now))

pub loop-next-preserved : goal.loop-next-preserved
loop-next-preserved c =
    let list = c.loop-next.list.items in
    let next = c.loop-next.next in
    let i = c.index-i.result.now in
    let marks = c.loop-next.marks.items in
    let new = c.mark_all-in-loop-next.new in
    let lt : next < length list = grind (arith, common_steps) in
    spread_next c.args.seeds.now (ways_of c.args.ways.now) c.args.walls.now (length c.args.ways.now) marks list next i new.marks.items new.list.items c.loop-next.invariant lt (read_is list next i 0 lt c.index-i.ensures)
    (subst (λ r. AreMarked c.args.walls.now marks list r new.marks.items new.list.items) c.row.ensures c.in_ok-mark_all-2.ensures)

pub set_all-requires : goal.set_all-requires
set_all-requires c =
    let marks = c.loop-next.marks.items in
    subst (λ z. AllBelow z (length marks)) (sym c.deref.ensures.value) (all_below marks c.loop-next.list.items (length marks) refl c.loop-next.invariant.exact)

pub returns-clause-exact : goal.returns-clause-exact
returns-clause-exact c =
    let past : length c.loop-next.list.items ≤ c.loop-next.next = grind (arith, common_steps) in
    λ i. (c.loop-next.invariant.sound i, λ r. whole (length c.args.ways.now) c.loop-next.marks.items c.loop-next.list.items c.loop-next.next c.loop-next.invariant past r)

pub returns-clause-below : goal.returns-clause-below
returns-clause-below c = all_below c.loop-next.marks.items c.loop-next.list.items (length c.args.ways.now) c.loop-next.invariant.long c.loop-next.invariant.exact
