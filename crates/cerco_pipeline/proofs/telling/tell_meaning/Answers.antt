use Rattle.cerco_pipeline.proofs.MeaningTold.{puts_meaning}
use Rattle.cerco_pipeline.proofs.telling.tell_meaning.Goals as goal

pub returns-clause-told : goal.returns-clause-told
returns-clause-told g c =
    puts_meaning c.args.text.now c.args.script.now c.args.limit c.in_ok-compiled.compiled c.labelled.result.now c.start.result c.costs.result.now (g.O.Sink.state c.args.out.now) (g.O.Sink.state c.tell.new.out) c.tell.result
    c.in_ok-compiled.ensures.compiled c.labelled.ensures c.start.ensures c.costs.ensures c.tell.ensures
