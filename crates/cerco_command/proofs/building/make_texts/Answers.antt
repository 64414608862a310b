use Rattle.cerco_command.specs.Code.Stages.{costs_in}
use Rattle.cerco_command.proofs.Compiled.{code_fits, labels_stand, texts_made}
use Rattle.cerco_command.proofs.building.make_texts.Goals as goal

pub hex_text-requires : goal.hex_text-requires
hex_text-requires c = rw c.as_slice.ensures (code_fits c.requires.program c.args.built.now.code c.args.built.now.labels c.requires.chain)

pub map_text-requires : goal.map_text-requires
map_text-requires c = rw c.as_slice-2.ensures (labels_stand c.requires.program c.args.built.now.code c.args.built.now.labels c.requires.chain)

pub returns : goal.returns
returns c =
    let built = c.args.built.now in
    texts_made c.args.source.now c.in_ok-hex.hex.bytes.items c.in_ok-map.map.bytes.items c.in_ok-annotated.annotated.bytes.items built.code built.labels built.points (costs_in built) c.requires
    (rw c.as_slice.ensures at c.in_ok-hex.ensures) (rw c.as_slice-2.ensures at c.in_ok-map.ensures) c.in_ok-annotated.ensures
