use Rattle.std.proofs.Common.{◌≡◌, ℕ, length, sym, subst}
use Rattle.cerco_traces.specs.LabelledGraphs.{In}
use Rattle.liveness.specs.declared.flow.Flow.{Flow}
use Rattle.liveness.specs.Code.Rows.{ways_of, AllBelow, AreTurned}
use Rattle.liveness.specs.Code.Views.{numbered_graph}
use Rattle.liveness.proofs.FlowTables.{are_points, forward_below, flow_is}
use Rattle.liveness.proofs.flow.flow_of.Goals as goal

pub backward-requires : goal.backward-requires
backward-requires c =
    let g = c.args.graph.now in
    let points = c.in_ok-points.points in
    let ways = c.in_ok-ways.ways.items in
    let made = c.in_ok-ways.ensures in
    let below = forward_below (numbered_graph g) points (are_points g points c.in_ok-points.ensures) ways made.long made.each in
    subst (λ z. (i : ℕ) → AllBelow (ways_of z i) (length z)) (sym c.deref.ensures.value) (λ i. subst (AllBelow (ways_of ways i)) (sym made.long) (below i))

pub returns : goal.returns
returns c =
    let flow : Flow = record { points = c.in_ok-points.points; back = c.in_ok-back.back; uses = c.in_ok-uses.uses; stops = c.in_ok-stops.stops } in
    let ways = c.in_ok-ways.ways.items in
    let back = c.in_ok-back.ensures in
    flow_is c.args.graph.now flow ways c.in_ok-points.ensures c.in_ok-ways.ensures.long c.in_ok-ways.ensures.each
    (subst (λ z. length flow.back.items ≡ length z) c.deref.ensures.value back.long)
    (subst (λ z. AreTurned (λ y x. In x (ways_of z y)) (length z) (ways_of flow.back.items)) c.deref.ensures.value back.turned)
    c.in_ok-uses.ensures.turned c.in_ok-uses.ensures.few c.in_ok-stops.ensures
