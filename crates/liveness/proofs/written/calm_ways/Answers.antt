use Rattle.std.proofs.Common.{◌≡◌, ◌+◌, [], ◌∷◌, ◌++◌, length, get_or, Some, slice_get, refl, sym, ap, ◌∙◌, subst, length-append}
use Rattle.std.proofs.lemmas.Option.{slice_get_read}
use Rattle.rtl.specs.declared.locations.Vreg.{Vreg}
use Rattle.rtl.specs.declared.graphs.Node.{Node as WrittenNode}
use Rattle.rtl.specs.Graphs.{exit_at}
use Rattle.liveness.specs.declared.ways.Ways.{Ways}
use Rattle.liveness.specs.Code.Rows.{ways_of}
use Rattle.liveness.specs.Code.Views.{numbered_exit, numbered_graph}
use Rattle.liveness.specs.Code.Flow.{calmly_after}
use Rattle.liveness.proofs.Nodes.{exit_is}
use Rattle.liveness.proofs.LeadLists.{rows_more}
use Rattle.liveness.proofs.written.calm_ways.Goals as goal

pub loop-p-preserved : goal.loop-p-preserved
loop-p-preserved c =
    let g = c.args.graph.now in
    let nodes = c.as_slice-nodes.result.now in
    let same = c.as_slice-nodes.ensures in
    let p = c.loop-p.p in
    let node = c.index-nodes-p.result in
    let found : slice_get g.nodes p ≡ Some node = ap (λ z. slice_get z p) (sym same) ∙ slice_get_read nodes (length nodes) p node refl c.loop-p-test.true c.index-nodes-p.is in
    let pushed = c.in_ok-push.ensures.items in
    let new : Ways = record { to = c.add_calmly_after.new.list } in
    let to : new.to.items ≡ calmly_after (exit_at (numbered_graph g) p) (length g.nodes) =
    c.in_ok-add_calmly_after.ensures ∙ ap (λ z. z ++ calmly_after (numbered_exit (get_or nodes p node).exit) (length nodes)) c.new-to.ensures.items
    ∙ ap (λ (z : WrittenNode Vreg). calmly_after (numbered_exit z.exit) (length nodes)) (sym c.index-nodes-p.is)
    ∙ ap (λ z. calmly_after (numbered_exit node.exit) (length z)) same ∙ ap (λ e. calmly_after e (length g.nodes)) (sym (exit_is g p node found)) in
    record {
      long = ap length pushed ∙ length-append c.loop-p.ways.items (new ∷ []) ∙ ap (λ n. n + 1) c.loop-p.invariant.long;
      each = λ q lt. subst (λ z. ways_of z q ≡ calmly_after (exit_at (numbered_graph g) q) (length g.nodes)) (sym pushed)
          (rows_more (λ x row. row ≡ calmly_after (exit_at (numbered_graph g) x) (length g.nodes)) c.loop-p.ways.items new p c.loop-p.invariant.long c.loop-p.invariant.each to q lt);
    }
