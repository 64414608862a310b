use Rattle.std.proofs.Common.{◌≡◌, ◌<◌, length, Some, None, sym, ap, ◌∙◌, subst, arith}
use Rattle.std.proofs.lemmas.List.{length-map}
use Rattle.lin_gen.specs.Code.Placing.{IsBelow, way_on_of}
use Rattle.lin_gen.specs.Ordering.{follower_of}
use Rattle.rtl.specs.Code.Views.{graph_of, node_of}
use Rattle.rtl.specs.Graphs.{exit_at}
use Rattle.lin_gen.proofs.Following.{follower_within, way_on_within}
use Rattle.lin_gen.proofs.PlacingSteps.{alone_at, both_at, q_first}
use Rattle.lin_gen.proofs.placing.place_block.Goals as goal

pub place-requires-in-Some : goal.place-requires-in-Some
place-requires-in-Some c =
    let needs : follower_of (exit_at (graph_of c.args.graph.now) c.args.p) ≡ Some c.in-Some.q = cc in
    let k = length-map c.args.graph.now.nodes node_of in
    let lt = q_first (graph_of c.args.graph.now) c.requires.labelled c.requires.named c.args.placement.now.placed.items c.args.placement.now.order.items c.args.p c.requires.placing (omega arith) c.requires.new c.requires.head c.in-Some.q needs in
    subst (λ z. c.in-Some.q < length z) (sym c.in_ok-place.ensures.placed) lt

pub exit_of-requires : goal.exit_of-requires
exit_of-requires c =
    let needs : follower_of (exit_at (graph_of c.args.graph.now) c.args.p) ≡ Some c.in-Some.q = cc in
    let k = length-map c.args.graph.now.nodes node_of in
    let lt = follower_within (graph_of c.args.graph.now) c.requires.named c.args.p c.in-Some.q needs in
    omega arith

pub returns-in_ok-place-in-Some-clause-placing : goal.returns-in_ok-place-in-Some-clause-placing
returns-in_ok-place-in-Some-clause-placing c =
    let needs : follower_of (exit_at (graph_of c.args.graph.now) c.args.p) ≡ Some c.in-Some.q = cc in
    let k = length-map c.args.graph.now.nodes node_of in
    (both_at (graph_of c.args.graph.now) c.requires.labelled c.requires.named c.args.placement.now.placed.items c.args.placement.now.order.items c.args.p c.requires.placing (omega arith) c.requires.new c.requires.head c.in-Some.q _ _ _ _ c.in_ok-place.ensures.placed c.in_ok-place.ensures.order c.in_ok-place-in-Some.ensures.placed c.in_ok-place-in-Some.ensures.order needs).0

pub returns-in_ok-place-in-Some-clause-done : goal.returns-in_ok-place-in-Some-clause-done
returns-in_ok-place-in-Some-clause-done c =
    let needs : follower_of (exit_at (graph_of c.args.graph.now) c.args.p) ≡ Some c.in-Some.q = cc in
    let k = length-map c.args.graph.now.nodes node_of in
    (both_at (graph_of c.args.graph.now) c.requires.labelled c.requires.named c.args.placement.now.placed.items c.args.placement.now.order.items c.args.p c.requires.placing (omega arith) c.requires.new c.requires.head c.in-Some.q _ _ _ _ c.in_ok-place.ensures.placed c.in_ok-place.ensures.order c.in_ok-place-in-Some.ensures.placed c.in_ok-place-in-Some.ensures.order needs).1

pub returns-in_ok-place-in-Some-clause-next : goal.returns-in_ok-place-in-Some-clause-next
returns-in_ok-place-in-Some-clause-next c =
    let needs : follower_of (exit_at (graph_of c.args.graph.now) c.args.p) ≡ Some c.in-Some.q = cc in
    let lt = follower_within (graph_of c.args.graph.now) c.requires.named c.args.p c.in-Some.q needs in
    subst (IsBelow c.way_on.result) (length-map c.args.graph.now.nodes node_of)
    (subst (λ o. IsBelow o (length (graph_of c.args.graph.now).nodes)) (sym (c.way_on.ensures ∙ ap way_on_of c.exit_of.ensures)) (way_on_within (graph_of c.args.graph.now) c.requires.named c.in-Some.q lt))

pub returns-in-None-clause-placing : goal.returns-in-None-clause-placing
returns-in-None-clause-placing c =
    let none : follower_of (exit_at (graph_of c.args.graph.now) c.args.p) ≡ None = cc in
    let k = length-map c.args.graph.now.nodes node_of in
    (alone_at (graph_of c.args.graph.now) c.requires.labelled c.requires.named c.args.placement.now.placed.items c.args.placement.now.order.items c.args.p c.requires.placing (omega arith) c.requires.new c.requires.head _ _ c.in_ok-place.ensures.placed c.in_ok-place.ensures.order none).0

pub returns-in-None-clause-done : goal.returns-in-None-clause-done
returns-in-None-clause-done c =
    let none : follower_of (exit_at (graph_of c.args.graph.now) c.args.p) ≡ None = cc in
    let k = length-map c.args.graph.now.nodes node_of in
    (alone_at (graph_of c.args.graph.now) c.requires.labelled c.requires.named c.args.placement.now.placed.items c.args.placement.now.order.items c.args.p c.requires.placing (omega arith) c.requires.new c.requires.head _ _ c.in_ok-place.ensures.placed c.in_ok-place.ensures.order none).1

pub returns-in-None-clause-next : goal.returns-in-None-clause-next
returns-in-None-clause-next c =
    let k = length-map c.args.graph.now.nodes node_of in
    subst (IsBelow c.way_on-in-None.result) (length-map c.args.graph.now.nodes node_of)
    (subst (λ o. IsBelow o (length (graph_of c.args.graph.now).nodes)) (sym (c.way_on-in-None.ensures ∙ ap way_on_of c.exit_of-exit.ensures)) (way_on_within (graph_of c.args.graph.now) c.requires.named c.args.p (omega arith)))
