use Rattle.cerco_command.specs.Building.{outputs}
use Rattle.cerco_command.specs.Words.{files_of}
use Rattle.cerco_command.proofs.Writing.{finish_failed}
use Rattle.cerco_command.proofs.building.finish.Goals as goal
use Rattle.std.specs.Prelude.{string_bytes}

pub returns-in-Err-clause-finishes : goal.returns-in-Err-clause-finishes
returns-in-Err-clause-finishes g c =
    let texts = c.args.texts.now in
    finish_failed (outputs (files_of c.args.names.now) texts.hex.bytes.items texts.map.bytes.items texts.annotated.bytes.items) (g.F.Files.state c.args.files.now) (g.F.Files.state c.write_texts.new.files)
    c.in-Err.reply.status (string_bytes c.in-Err.reply.line) c.in-Err.ensures.failed c.in-Err.ensures.some
