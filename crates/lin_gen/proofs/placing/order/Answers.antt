use Rattle.std.proofs.Common.{◌<◌, ◌≤◌, length, inl, inr, arith}
use Rattle.std.proofs.lemmas.Grind.{common_steps}
use Rattle.std.proofs.lemmas.List.{length-map}
use Rattle.rtl.specs.Code.Views.{graph_of, node_of}
use Rattle.lin_gen.proofs.PlacingSteps.{read_mark, placed_in, placed_keeps, placed_first, done_more, all_placed}
use Rattle.lin_gen.proofs.placing.order.Goals as goal
use Rattle.lin_gen.proofs.placing.order.Goals.{then-not-index+then-not-index-2+in_ok-place_run-2, else-not-index, else-not-index-via-then-not-index+else-not-index-2, else-not-index-via-else-not-index}

pub loop-p-preserved : goal.loop-p-preserved
loop-p-preserved c =
    let k = length-map c.args.graph.now.nodes node_of in
    let below : c.loop-p.p < length c.args.graph.now.nodes = grind (arith, common_steps) in
    let long = c.loop-p.invariant.placing.long in
    let long' = c.in_ok-followers.ensures.long in
    elim c.if-not-index.branch [
      | then-not-index+then-not-index-2+in_ok-place_run-2 w ↦
          let done = w.in_ok-place_run-2.ensures.done in
          rw w.placement-is (record {
            placing = w.in_ok-place_run-2.ensures.placing;
            first = placed_first done c.loop-p.invariant.first;
            done = done_more _ _ _ c.loop-p.p c.loop-p.invariant.done (placed_keeps done) (inl (placed_in done));
          })
      | else-not-index w ↦
          elim w.else-not-index.branch [
            | else-not-index-via-then-not-index+else-not-index-2 w' ↦
                rw w.placement-is (record {
                  placing = c.loop-p.invariant.placing;
                  first = c.loop-p.invariant.first;
                  done = done_more _ _ _ c.loop-p.p c.loop-p.invariant.done (λ p i. i) (inl (c.loop-p.invariant.placing.sound c.loop-p.p (read_mark c.loop-p.placement.placed.items c.loop-p.p _ (omega arith) w'.index-then-not-index.ensures w'.if-not-index-2.false)));
                })
            | else-not-index-via-else-not-index w' ↦
                rw w.placement-is (record {
                  placing = c.loop-p.invariant.placing;
                  first = c.loop-p.invariant.first;
                  done = done_more _ _ _ c.loop-p.p c.loop-p.invariant.done (λ p i. i) (inr (read_mark c.in_ok-followers.followers.items c.loop-p.p _ (omega arith) c.index.ensures w'.if-not-index.false));
                })
          ]
    ]

pub returns : goal.returns
returns c =
    let k = length-map c.args.graph.now.nodes node_of in
    let le : length (graph_of c.args.graph.now).nodes ≤ c.loop-p.p = grind (arith, common_steps) in
    all_placed (graph_of c.args.graph.now) c.requires.labelled c.in_ok-followers.followers.items c.loop-p.placement.placed.items c.loop-p.placement.order.items c.in_ok-followers.ensures c.loop-p.invariant.placing c.loop-p.invariant.first
    (λ p lt. c.loop-p.invariant.done p (omega arith))
