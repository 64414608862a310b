use Rattle.cerco_command.proofs.RunOnce.{stops_once}
use Rattle.cerco_command.proofs.running.run.Goals as goal

pub returns-in-Ok-clause-one_stop : goal.returns-in-Ok-clause-one_stop
returns-in-Ok-clause-one_stop g c = stops_once

pub returns-in-Err-clause-one_stop : goal.returns-in-Err-clause-one_stop
returns-in-Err-clause-one_stop g c = stops_once
