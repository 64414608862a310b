use Rattle.std.proofs.Common.{length, map, refl, ◌∙◌}
use Rattle.std.proofs.lemmas.Option.{slice_get_read}
use Rattle.rtl.specs.Code.Views.{node_of}
use Rattle.colouring.specs.Code.Rows.{mark_at}
use Rattle.colouring.proofs.Adding.{viewed}
use Rattle.colouring.proofs.Marked.{gone_more}
use Rattle.colouring.proofs.marks.covered.Goals as goal

pub loop-p-preserved : goal.loop-p-preserved
loop-p-preserved c =
    let found = viewed node_of c.args.nodes.now c.loop-p.p c.index-nodes-p.result (slice_get_read c.args.nodes.now (length c.args.nodes.now) c.loop-p.p c.index-nodes-p.result refl c.loop-p-test.true c.index-nodes-p.is) in
    record {
      long = c.cover_next.ensures.long ∙ c.loop-p.invariant.long;
      only = λ q is. gone_more (map node_of c.args.nodes.now) c.loop-p.p (node_of c.index-nodes-p.result) q (mark_at c.loop-p.marks.items q) found (c.loop-p.invariant.only q) (c.cover_next.ensures.only q is);
    }
