use Rattle.cerco_pipeline.proofs.Unique.{one_program_of}
use Rattle.cerco_pipeline.proofs.laws.program_is_unique.Goals as goal

pub returns : goal.returns
returns c = one_program_of
