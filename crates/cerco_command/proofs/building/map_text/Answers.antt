use Rattle.std.proofs.Common.{refl}
use Rattle.cerco_base.specs.Outside.InMemory.{sound_sink_state}
use Rattle.cerco_command.proofs.Compiled.{collected, map_means}
use Rattle.cerco_command.proofs.building.map_text.Goals as goal

pub returns-in-Ok : goal.returns-in-Ok
returns-in-Ok c =
    map_means c.write_map.new.out.bytes.items c.args.labels.now
    (collected (sound_sink_state c.new-text.result) (sound_sink_state c.write_map.new.out) _ c.write_map.result c.in-Ok.field-0 c.in-Ok.is refl c.new-text.ensures c.write_map.ensures)
    c.requires
