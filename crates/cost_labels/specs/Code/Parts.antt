-- The annotation of the label of a part.
use Rattle.cerco_base.specs.declared.events.Label.{Label}
use Rattle.clight_syntax.specs.declared.points.Piece.{Piece}
use Rattle.clight_syntax.specs.declared.points.Piece.TheVariants as P
use Rattle.cost_labels.specs.declared.parts.Part.{Part}
use Rattle.cost_labels.specs.declared.parts.Part.TheVariants as o

abbrev pub piece_of : Part → Label → Piece
piece_of o.After label = P.After label
piece_of o.Arm label = P.ArmOpen label
piece_of o.MissingArm label = P.ThenClose label
piece_of o.AfterBody label = P.BodyClose label
piece_of o.Repeat label = P.CondRepeat label
