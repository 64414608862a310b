use Rattle.std.proofs.Common.{refl}
use Rattle.object_hex.specs.HexMeaning.{given, has_end, highest_end}
use Rattle.object_hex.proofs.reading.hex_reader.HexReader.new.Goals as goal

pub returns : goal.returns
unfolding given has_end highest_end
returns c = record { holds = c.in_ok-new.ensures.0; reaches = c.in_ok-new.ensures.1; ends = refl }
