use Rattle.std.proofs.Common.{length}
use Rattle.object_hex.proofs.HexWalk.{Walked}
use Rattle.object_hex.proofs.reading.hex_reader.read_hex.Given as goal

abbrev pub invariant-loop-rest : goal.invariant-loop-rest
invariant-loop-rest l = Walked l.text l.rest l.number l.reader.image.places.items l.reader.image.reach l.reader.ended

abbrev pub decreases-loop-rest : goal.decreases-loop-rest
decreases-loop-rest l = length l.rest
