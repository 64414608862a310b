use Rattle.std.proofs.Common.{◌≡◌, List, ℕ, None, Some, sym, ◌∙◌, subst}
use Rattle.annotate.specs.Numbers.{numbers}
use Rattle.annotate.proofs.Seeking.{IsAfter, after_more, no_number}
use Rattle.annotate.proofs.reading.read_cost.Goals as goal

pub loop-cut-preserved : goal.loop-cut-preserved
loop-cut-preserved c =
    let P : List ℕ → Type 0 = λ rest. IsAfter (numbers c.args.text.now) rest c.args.i c.loop-cut.skipped in
    after_more _ _ _ _ _ _ (subst P c.in-Some.ensures.counts c.loop-cut.invariant) c.in-Later.ensures

pub returns : goal.returns
returns c = λ n there.
    let none = no_number _ _ _ _ c.loop-cut.invariant c.in_default.ensures.counts in
    let wrong : Some n ≡ None = sym there ∙ none in
    absurd cc
