use Rattle.std.proofs.Common.{sym}
use Rattle.annotate.proofs.Splitting.{unmarked_first, no_mark_found, halves_found}
use Rattle.annotate.proofs.cuts.split_at_mark.Goals as goal

pub loop-at-init : goal.loop-at-init
loop-at-init c = unmarked_first c.args.text.now

pub returns-then-starts_with : goal.returns-then-starts_with
returns-then-starts_with c = halves_found c.args.text.now c.loop-at.at c.loop-at-test.true (sym c.if-starts_with.ensures.value) c.loop-at.invariant

pub loop-at-preserved : goal.loop-at-preserved
loop-at-preserved c = no_mark_found c.args.text.now c.loop-at.at c.loop-at-test.true (sym c.if-starts_with.ensures.value) c.loop-at.invariant
