use Rattle.std.proofs.Common.{Ok, Err, refl, sym}
use Rattle.hex.specs.Hex.{decode_sized}
use Rattle.object_hex.proofs.Addresses.{word_read, word_refused}
use Rattle.object_hex.proofs.reading.map_reader.address_of.Goals as goal

pub returns-in-Ok : goal.returns-in-Ok
returns-in-Ok c = rw c.word.ensures (sym (word_read c.args.digits.now _ (Ok tt) tt (decode_sized c.args.digits.now 2) refl c.in-Ok.ensures.value refl))

pub returns-in-Err : goal.returns-in-Err
returns-in-Err c = sym (word_refused c.args.digits.now _ (Err _) _ (decode_sized c.args.digits.now 2) refl c.in-Err.ensures.value refl)
