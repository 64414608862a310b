use Rattle.checked_programs.proofs.Assembly.{checked}
use Rattle.checked_programs.proofs.laws.well_typed_is_checked.Goals as goal

pub returns : goal.returns
returns c = λ t p well names layout. checked p t well _ well.items names layout
