use Rattle.cerco_middle.specs.Code.Views.{cminor_of}
use Rattle.clight_syntax.specs.Code.TypedViews.{labelled_of}
use Rattle.cerco_pipeline.proofs.Room.{suffices, lacks_room}
use Rattle.cerco_pipeline.proofs.rear.assembled.Goals as goal

pub returns-clause-refused : goal.returns-clause-refused
returns-clause-refused c = λ reason is.
    let p = labelled_of c.args.program.now in
    let source = cminor_of c.in_ok-source.source in
    let said = c.in_ok-source.ensures in
    lacks_room p source reason (said.preserves c.requires.checked) (c.back_end.ensures.refused reason is)
    (λ room. c.back_end.ensures.complete (suffices p source c.requires.limits said.same said.need (said.length c.requires.checked) room) reason is)
