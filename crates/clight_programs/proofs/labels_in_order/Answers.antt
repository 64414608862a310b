use Rattle.clight_programs.proofs.LabelsInOrder.{in_order}
use Rattle.clight_programs.proofs.labels_in_order.Goals as goal

pub returns : goal.returns
returns c = λ typed p labelled. in_order typed p labelled
