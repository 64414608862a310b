use Rattle.cerco_command.specs.Words.{files_of}
use Rattle.cerco_command.proofs.Built.{made}
use Rattle.cerco_command.proofs.building.write_built.Goals as goal

pub returns-in-Ok-clause-builds : goal.returns-in-Ok-clause-builds
returns-in-Ok-clause-builds g c =
    made (files_of c.args.names.now) c.args.source.now _ _ _ (g.F.Files.state c.args.files.now) (g.F.Files.state c.finish.new.files)
    c.finish.result.status _ c.in-Ok.ensures c.finish.ensures.finishes
