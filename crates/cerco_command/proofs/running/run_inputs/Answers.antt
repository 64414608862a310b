use Rattle.std.proofs.Common.{string_bytes}
use Rattle.cerco_command.specs.Running.{texts_of, RunMeansFor}
use Rattle.cerco_command.specs.Words.{run_of_words}
use Rattle.cerco_command.proofs.Answering.{answered}
use Rattle.cerco_command.proofs.RunEnds.{not_loaded, run_answered}
use Rattle.cerco_command.proofs.running.run_inputs.Goals as goal

pub returns-in-Ok : goal.returns-in-Ok
returns-in-Ok g c =
    run_answered (run_of_words c.args.words.now) (texts_of c.args.inputs.now) c.in-Ok.machine _ _ c.print_run.result c.in_default.ensures.short c.in-Ok.ensures.loaded.0 c.in-Ok.ensures.loaded.1 c.print_run.ensures

pub returns-in-Err-load : goal.returns-in-Err-load
returns-in-Err-load g c =
    let names = run_of_words c.args.words.now in
    let texts = texts_of c.args.inputs.now in
    let reply = c.in-Err-load.reply in
    answered (RunMeansFor names texts) _ _ reply.status (string_bytes reply.line) c.answer-in-Err-load.result
    (not_loaded names texts reply.status (string_bytes reply.line) c.in_default.ensures.short c.in-Err-load.ensures.cannot) c.answer-in-Err-load.ensures
