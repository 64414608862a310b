use Rattle.cerco_command.specs.Words.{files_of}
use Rattle.cerco_command.proofs.Built.{built}
use Rattle.cerco_command.proofs.building.build.Goals as goal

pub returns-in-Ok-clause-means : goal.returns-in-Ok-clause-means
returns-in-Ok-clause-means g c =
    built (files_of c.args.names.now) c.deref-in-Ok.result.now (g.F.Files.state c.args.files.now) (g.F.Files.state c.read_input.new.files) (g.F.Files.state c.build_on.new.files)
    c.read_input.ensures.later (λ h. rw (c.deref-in-Ok.ensures.value, ← c.deref.ensures) (c.in-Ok.ensures.read h)) c.read_input.ensures.same c.read_input.ensures.known
    c.requires c.build_on.result.status _ c.build_on.ensures.builds
