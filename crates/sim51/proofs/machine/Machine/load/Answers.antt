use Rattle.sim51.proofs.Objects.{object_arrives_once}
use Rattle.sim51.proofs.machine.Machine.load.Goals as goal

pub returns-in_err-slots-clause-arrives_once : goal.returns-in_err-slots-clause-arrives_once
returns-in_err-slots-clause-arrives_once c = object_arrives_once _ _

pub returns-in_err-quiets-clause-arrives_once : goal.returns-in_err-quiets-clause-arrives_once
returns-in_err-quiets-clause-arrives_once c = object_arrives_once _ _

pub returns-in_err-processor-clause-arrives_once : goal.returns-in_err-processor-clause-arrives_once
returns-in_err-processor-clause-arrives_once c = object_arrives_once _ _

pub returns-in_err-to_vec-clause-arrives_once : goal.returns-in_err-to_vec-clause-arrives_once
returns-in_err-to_vec-clause-arrives_once c = object_arrives_once _ _

pub returns-in_err-to_vec-2-clause-arrives_once : goal.returns-in_err-to_vec-2-clause-arrives_once
returns-in_err-to_vec-2-clause-arrives_once c = object_arrives_once _ _

pub returns-clause-arrives_once : goal.returns-clause-arrives_once
returns-clause-arrives_once c = object_arrives_once _ _
