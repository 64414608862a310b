use Rattle.std.proofs.Common.{◌≡◌, map, take, unwrap_or}
use Rattle.object_hex.proofs.reading.image.Image.code.Given as goal

abbrev pub invariant-loop-place : goal.invariant-loop-place
invariant-loop-place l = l.code ≡ map (λ place. unwrap_or place 0) (take l.place-index l.place-items)
