use Rattle.std.proofs.Common.{take, slice_index_or, sym, subst}
use Rattle.std.proofs.lemmas.List.{take_more}
use Rattle.cerco_traces.specs.LabelledGraphs.{In}
use Rattle.liveness.proofs.Lists.{in_at}
use Rattle.dropping.specs.Code.Marks.{AreMarkedBefore}
use Rattle.dropping.proofs.Growing.{before_more, grown_more}
use Rattle.dropping.proofs.marks.mark_before_each.Goals as goal

pub mark_before-requires-clause-within : goal.mark_before-requires-clause-within
mark_before-requires-clause-within c = c.requires.within _ (in_at c.args.list.now c.loop-i.i-index 0 c.loop-i-test.true)

pub loop-i-preserved : goal.loop-i-preserved
loop-i-preserved c =
    let i = c.loop-i.i-index in
    let list = c.args.list.now in
    let points = c.args.points.now in
    let walls = c.args.walls.now in
    let old = c.args.needed.now in
    let new = c.mark_before.new.needed in
    record {
      marks = subst (λ z. AreMarkedBefore points walls (λ k. In k z) old.marks.items new.marks.items) (sym (take_more list i 0 c.loop-i-test.true))
          (before_more points walls (take i list) (slice_index_or list i 0) old.marks.items c.loop-i.needed.marks.items new.marks.items c.loop-i.invariant.marks c.mark_before.ensures.marks);
      grown = grown_more old c.loop-i.needed new c.loop-i.invariant.grown c.mark_before.ensures.grown;
    }
