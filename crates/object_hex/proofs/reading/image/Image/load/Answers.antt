use Rattle.std.proofs.Common.{◌≡◌, true, false, length, ap, sym, ◌∙◌, arith}
use Rattle.std.specs.Option.{option_or}
use Rattle.object_hex.specs.HexMeaning.{byte_at, has_some}
use Rattle.object_hex.proofs.Places.{load_fault-none, load_fault-twice, some_in_range}
use Rattle.object_hex.proofs.reading.image.Image.load.Goals as goal

pub returns-then-has_some : goal.returns-then-has_some
returns-then-has_some c = λ before holds.
    let image = c.args.self.now in
    let whole : length image.places.items ≡ 65536 = omega (arith, image.whole, image.places.ok.0) in
    let there = some_in_range before image.places.items c.args.offset c.args.bytes.now holds whole (omega arith) in
    let twice : has_some before c.args.offset c.args.bytes.now ≡ true = sym there ∙ sym c.has_some.ensures ∙ c.if-has_some.true in
    load_fault-twice before c.args.offset c.args.bytes.now (omega arith) twice

pub returns : goal.returns
returns c = λ before holds.
    let image = c.args.self.now in
    let whole : length image.places.items ≡ 65536 = omega (arith, image.whole, image.places.ok.0) in
    let there = some_in_range before image.places.items c.args.offset c.args.bytes.now holds whole (omega arith) in
    let once : has_some before c.args.offset c.args.bytes.now ≡ false = sym there ∙ sym c.has_some.ensures ∙ c.if-has_some.false in (
      load_fault-none before c.args.offset c.args.bytes.now (omega arith) once,
      λ address within. c.put.ensures.put address ∙ ap (option_or (byte_at c.args.offset c.args.bytes.now address)) (holds address within),
      c.put.ensures.reach,
    )
