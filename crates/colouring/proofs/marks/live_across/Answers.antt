use Rattle.std.proofs.Common.{length, map, refl, ◌∙◌}
use Rattle.std.proofs.lemmas.Option.{slice_get_read}
use Rattle.rtl.specs.Code.Views.{node_of}
use Rattle.colouring.specs.Code.Rows.{mark_at}
use Rattle.colouring.proofs.Adding.{viewed}
use Rattle.colouring.proofs.Marked.{after_more}
use Rattle.colouring.proofs.marks.live_across.Goals as goal

pub loop-node-preserved : goal.loop-node-preserved
loop-node-preserved c =
    let found = viewed node_of c.args.nodes.now c.loop-node.node-index c.node-item.result (slice_get_read c.args.nodes.now (length c.args.nodes.now) c.loop-node.node-index c.node-item.result refl c.loop-node-test.true c.node-item.is) in
    record {
      long = c.mark_after.ensures.long ∙ c.loop-node.invariant.long;
      marked = λ v.
          after_more (map node_of c.args.nodes.now) c.args.live.now c.loop-node.node-index (node_of c.node-item.result) v (mark_at c.loop-node.marks.items v) (mark_at c.mark_after.new.marks.items v) found (c.loop-node.invariant.marked v) (c.mark_after.ensures.marked v);
    }
