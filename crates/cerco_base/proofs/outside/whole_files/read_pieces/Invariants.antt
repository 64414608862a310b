use Rattle.std.proofs.Common.{◌-◌, ◌<◌, length}
use Rattle.cerco_base.proofs.Reading.{ReadSoFar}
use Rattle.cerco_base.proofs.outside.whole_files.read_pieces.Given as goal

abbrev pub invariant-loop-bytes : goal.invariant-loop-bytes
invariant-loop-bytes g l = (0 < length l.piece) × ReadSoFar (g.F.Files.state l.initial.files) (g.F.Files.state l.files) l.name l.limit l.bytes.items

abbrev pub decreases-loop-bytes : goal.decreases-loop-bytes
decreases-loop-bytes g l = l.limit - length l.bytes.items
