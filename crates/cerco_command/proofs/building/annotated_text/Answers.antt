use Rattle.std.proofs.Common.{length, ap, arith}
use Rattle.annotate.proofs.AnnotatedText.{labels_below}
use Rattle.cerco_command.proofs.building.annotated_text.Goals as goal

pub annotate-requires-clause-labelled : goal.annotate-requires-clause-labelled
annotate-requires-clause-labelled c =
    let a = c.requires.annotations in
    labels_below (length c.deref.result.now) c.args.built.now.points a.numbered (omega (arith, a.count, ap length c.deref.ensures.value))
