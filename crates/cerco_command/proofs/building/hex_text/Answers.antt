use Rattle.std.proofs.Common.{refl}
use Rattle.std.proofs.Math.Facts.{Fits-lt-pow}
use Rattle.cerco_base.specs.Outside.InMemory.{sound_sink_state}
use Rattle.cerco_command.proofs.Compiled.{collected, hex_means}
use Rattle.cerco_command.proofs.building.hex_text.Goals as goal

pub returns-in-Ok : goal.returns-in-Ok
returns-in-Ok c =
    hex_means c.write_hex.new.out.bytes.items c.args.code.now
    (collected (sound_sink_state c.new-text.result) (sound_sink_state c.write_hex.new.out) _ c.write_hex.result c.in-Ok.field-0 c.in-Ok.is refl c.new-text.ensures c.write_hex.ensures)
    c.requires (λ i. Fits-lt-pow (c.type_inv.code i))
