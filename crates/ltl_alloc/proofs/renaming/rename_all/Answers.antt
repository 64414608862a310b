use Rattle.std.proofs.Common.{◌≡◌, ℕ, ◌<◌, length, Some, slice_get, sym, ap, ◌∙◌, arith}
use Rattle.std.proofs.lemmas.Option.{slice_get-get_or}
use Rattle.ltl_alloc.proofs.RenamedLists.{renamed_more}
use Rattle.ltl_alloc.proofs.renaming.rename_all.Goals as goal

pub loop-f-preserved : goal.loop-f-preserved
loop-f-preserved c =
    let lt = c.loop-f-test.true in
    let many = c.requires.allocations in
    let many' = c.requires.firsts in
    let known : c.loop-f.f < length c.args.allocations.now = omega (arith, lt, many) in
    let known' : c.loop-f.f < length c.args.firsts.now = omega (arith, lt, many') in
    let at : slice_get c.args.allocations.now c.loop-f.f ≡ Some c.index-allocations-f.result = slice_get-get_or c.args.allocations.now c.loop-f.f c.index-allocations-f.result known ∙ ap Some (sym c.index-allocations-f.is) in
    renamed_more c.args.graphs.now c.args.allocations.now c.args.firsts.now c.loop-f.f c.index-graphs-f.result c.index-allocations-f.result c.loop-f.renamed _ c.in_ok-rename.field-0
    c.loop-f.invariant c.in_ok-push.ensures.added c.in_ok-rename.ensures.is lt c.index-graphs-f.is at known'
