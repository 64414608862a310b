use Rattle.std.proofs.Common.{◌≡◌, Err, string_bytes, ap, ◌∙◌}
use Rattle.cerco_base.specs.declared.reasons.Fault.TheVariants.{Refused}
use Rattle.cerco_command.specs.Words.{files_of}
use Rattle.cerco_command.proofs.Built.{turned_down}
use Rattle.cerco_command.proofs.building.build_on.Goals as goal

pub returns-in-Err-Refused-clause-builds : goal.returns-in-Err-Refused-clause-builds
returns-in-Err-Refused-clause-builds g c =
    let is : c.build.result ≡ Err (Refused c.in-Err-Refused.reason) = c.in-Err-Refused.is ∙ ap Err c.in-Err-Refused.field-0-is in
    turned_down (files_of c.args.names.now) c.args.source.now c.in-Err-Refused.reason (g.F.Files.state c.args.files.now) c.refused.result.status (string_bytes c.refused.result.line)
    (c.build.ensures.refused c.in-Err-Refused.reason is) (λ room. c.build.ensures.complete room c.in-Err-Refused.reason is) c.refused.ensures
