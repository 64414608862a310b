use Rattle.std.proofs.Common.{◌≡◌, length, vec_len}
use Rattle.object_hex.proofs.Maps.{MapWalked}
use Rattle.object_hex.proofs.reading.map_reader.read_map.Given as goal

abbrev pub invariant-loop-rest : goal.invariant-loop-rest
invariant-loop-rest l = MapWalked l.text l.rest l.number l.labels l.seen.items × (vec_len l.seen ≡ 65536)

abbrev pub decreases-loop-rest : goal.decreases-loop-rest
decreases-loop-rest l = length l.rest
