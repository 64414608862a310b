use Rattle.cerco_pipeline.proofs.Unique.{one_first}
use Rattle.cerco_pipeline.proofs.laws.first_reason_is_unique.Goals as goal

pub returns : goal.returns
returns c = one_first
