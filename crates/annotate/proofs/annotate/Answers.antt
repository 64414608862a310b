use Rattle.std.proofs.Common.{◌^◌, arith}
use Rattle.std.proofs.lemmas.List.{get_or_default}
use Rattle.annotate.specs.Laws.{AreCostsBelow}
use Rattle.annotate.proofs.AnnotatedText.{erased-annotated, numbers-annotated, numbers-planned}
use Rattle.annotate.proofs.annotate.Goals as goal

pub returns-clause-erases : goal.returns-clause-erases
returns-clause-erases g c = λ plain. erased-annotated _ _ _ plain c.requires.ordered

pub returns-clause-counts : goal.returns-clause-counts
returns-clause-counts g c = λ plain.
    let below : AreCostsBelow (2 ^ 64) (record { start = c.args.start; labels = c.args.costs.now }) = record {
      start = grind arith;
      labels = λ k d within. rw (get_or_default c.args.costs.now k d 0 within) (let fits = c.type_inv.costs k in omega arith);
    } in
    numbers-annotated _ _ _ plain c.requires.ordered below

pub returns-clause-costs : goal.returns-clause-costs
returns-clause-costs g c = λ plain begins order same.
    let below : AreCostsBelow (2 ^ 64) (record { start = c.args.start; labels = c.args.costs.now }) = record {
      start = grind arith;
      labels = λ k d within. rw (get_or_default c.args.costs.now k d 0 within) (let fits = c.type_inv.costs k in omega arith);
    } in
    numbers-planned _ _ _ plain c.requires.ordered below begins order same
