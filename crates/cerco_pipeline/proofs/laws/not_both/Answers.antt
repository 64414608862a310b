use Rattle.cerco_pipeline.proofs.Unique.{sound_or_reason}
use Rattle.cerco_pipeline.proofs.laws.not_both.Goals as goal

pub returns : goal.returns
returns c = λ text p reason is has. sound_or_reason text is.tree is.laid_out reason is.is_tree is.sound has
