use Rattle.std.proofs.Common.{map, string_bytes}
use Rattle.cerco_command.specs.Words.{request_of}
use Rattle.cerco_command.proofs.Once.{means_once}
use Rattle.cerco_command.proofs.Complete.{builds_all}
use Rattle.cerco_command.proofs.cerco.Goals as goal

pub returns-clause-once : goal.returns-clause-once
returns-clause-once g c = means_once (request_of (map string_bytes c.args.words.now))

pub returns-clause-complete : goal.returns-clause-complete
returns-clause-complete g c = rw c.code.ensures (builds_all (request_of (map string_bytes c.args.words.now)) _ _ _ _ c.carry_out.result c.carry_out.ensures.answers)
