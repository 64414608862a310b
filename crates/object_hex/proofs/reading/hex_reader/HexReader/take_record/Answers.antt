use Rattle.std.proofs.Common.{◌≡◌, ◌≤◌, ◌+◌, [], refl, ap, sym, ◌∙◌, Ok, arith}
use Rattle.std.proofs.lemmas.Result.{err_from_is_err_and}
use Rattle.object_hex.specs.declared.reading.record.RecordType.TheVariants.{Data, EndOfFile, UpperAddress}
use Rattle.object_hex.specs.Records.{type_of, offset_of}
use Rattle.object_hex.specs.HexMeaning.{given}
use Rattle.object_hex.proofs.Places.{load_fault-none}
use Rattle.object_hex.proofs.Taken.{taken_bad, taken_data, taken_none}
use Rattle.object_hex.proofs.reading.hex_reader.HexReader.take_record.Goals as goal

pub returns-in_err-kind : goal.returns-in_err-kind
returns-in_err-kind c = λ before line form open_yet state.
    let p = err_from_is_err_and c.from_residual.result c.from_residual.ensures.1 in
    rw (p.1, p.2) (taken_bad before line c.args.bytes.now _ (record { form = form; open_yet = open_yet }) (sym c.in_err-kind.ensures))

pub returns-in-Data : goal.returns-in-Data
returns-in-Data c = λ before line form open_yet state.
    let right : type_of c.args.bytes.now ≡ Ok Data = sym c.in_ok-kind.ensures ∙ ap Ok c.in-Data.is in
    taken_data before line c.args.bytes.now c.offset_in-offset.result c.data_in.result.now c.args.self.now.image.places.items c.load.new.self.places.items c.args.self.now.image.reach c.load.new.self.reach c.args.self.now.ended c.load.result
    (record { form = form; open_yet = open_yet }) right c.offset_in-offset.ensures.value c.data_in.ensures state (c.load.ensures (given before) state.holds)

pub returns-in-EndOfFile : goal.returns-in-EndOfFile
returns-in-EndOfFile c = λ before line form open_yet state.
    let right : type_of c.args.bytes.now ≡ Ok EndOfFile = sym c.in_ok-kind.ensures ∙ ap Ok c.in-EndOfFile.is in
    let small : offset_of c.args.bytes.now + 0 ≤ 65536 = omega (arith, c.offset_in-offset.ensures.value, c.offset_in-offset.ensures.small) in
    taken_none before line c.args.bytes.now EndOfFile _ _ c.args.self.now.ended _ (record { form = form; open_yet = open_yet }) right refl
    (load_fault-none (given before) (offset_of c.args.bytes.now) [] small refl) state refl

pub returns-in-UpperAddress : goal.returns-in-UpperAddress
returns-in-UpperAddress c = λ before line form open_yet state.
    let right : type_of c.args.bytes.now ≡ Ok UpperAddress = sym c.in_ok-kind.ensures ∙ ap Ok c.in-UpperAddress.is in
    let small : offset_of c.args.bytes.now + 0 ≤ 65536 = omega (arith, c.offset_in-offset.ensures.value, c.offset_in-offset.ensures.small) in
    taken_none before line c.args.bytes.now UpperAddress _ _ c.args.self.now.ended _ (record { form = form; open_yet = open_yet }) right refl
    (load_fault-none (given before) (offset_of c.args.bytes.now) [] small refl) state (state.ends ∙ open_yet)
