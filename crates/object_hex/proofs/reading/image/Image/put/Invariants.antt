use Rattle.std.proofs.Common.{◌≡◌, ℕ, take, slice_index_or, None}
use Rattle.std.specs.Option.{option_or}
use Rattle.object_hex.specs.HexMeaning.{byte_at}
use Rattle.object_hex.proofs.reading.image.Image.put.Given as goal

abbrev pub invariant-loop-i : goal.invariant-loop-i
invariant-loop-i l =
    ((address : ℕ) → slice_index_or l.self.places.items address None
    ≡ option_or (byte_at l.offset (take l.i l.bytes) address) (slice_index_or l.initial.self.places.items address None))
    × (l.self.reach ≡ l.initial.self.reach)
