use Rattle.std.proofs.Common.{◌≡◌, ◌<◌, length, sym, ◌∙◌, subst, arith}
use Rattle.std.proofs.lemmas.Grind.{common_steps}
use Rattle.cerco_traces.specs.LabelledGraphs.{In}
use Rattle.rtl.specs.Effects.{Loc}
use Rattle.liveness.specs.Code.Rows.{ways_of, AllBelow, AreDistinct, AddedTo, AddedOnce, AreTurned}
use Rattle.liveness.specs.Code.Points.{count}
use Rattle.liveness.specs.Code.Flow.{IsLive}
use Rattle.liveness.proofs.FlowTables.{live_rows_next, still_rising}
use Rattle.liveness.proofs.sets.live_rows.Goals as goal

pub add_to_each-requires : goal.add_to_each-requires
add_to_each-requires c =
    subst (AllBelow c.deref.result.now) (sym c.loop-v.invariant.long) (subst (λ r. AllBelow r (count c.args.flow.now.points)) (sym c.deref.ensures.value) c.in_ok-list.ensures.below)

pub loop-v-preserved : goal.loop-v-preserved
loop-v-preserved c =
    let flow = c.args.flow.now in
    let v = c.loop-v.v in
    let rows = c.loop-v.rows.items in
    let new = c.add_to_each.new.ways.items in
    let list = c.in_ok-list.list.items in
    let added : AddedTo (ways_of rows) (λ i. In i list) v (ways_of new) = subst (λ r. AddedTo (ways_of rows) (λ i. In i r) v (ways_of new)) c.deref.ensures.value c.in_ok-add_to_each.ensures.added in
    let once : AddedOnce (ways_of rows) v (ways_of new) = c.in_ok-add_to_each.ensures.once (subst AreDistinct (sym c.deref.ensures.value) c.in_ok-list.ensures.distinct) in
    record {
      long = c.in_ok-add_to_each.ensures.long ∙ c.loop-v.invariant.long;
      reached = c.in_ok-list.ensures.reached;
      walls = c.in_ok-list.ensures.walls;
      turned = live_rows_next flow v rows new list c.loop-v.invariant.turned c.in_ok-list.ensures.exact added;
      rising = still_rising flow v rows new c.requires.flow c.loop-v.invariant.turned c.loop-v.invariant.rising once;
    }

pub returns-clause-exact : goal.returns-clause-exact
returns-clause-exact c =
    let flow = c.args.flow.now in
    let all : c.loop-v.v ≡ length flow.uses.vregs.items = grind (arith, common_steps) in
    λ g is. subst (λ n. AreTurned (λ v i. (i < count flow.points) × IsLive g flow.points i (Loc v)) n (ways_of c.loop-v.rows.items)) all (c.loop-v.invariant.turned g is)
