use Rattle.std.proofs.Common.{◌≡◌, true, false, ◌+◌, length, [], sym, subst, arith, rules}
use Rattle.std.specs.Prelude.{Bool}
use Rattle.std.proofs.lemmas.Bool.{eqb-true}
use Rattle.std.proofs.lemmas.List.{nil_from_length}
use Rattle.object_hex.specs.declared.reading.faults.HexKind.TheVariants.{NoEnd}
use Rattle.object_hex.proofs.HexBack.{hex_back}
use Rattle.object_hex.proofs.HexWalk.{Walked, answer_code, answer_fault, walked_all, walked_bad, walked_more, walked_open}
use Rattle.object_hex.proofs.reading.hex_reader.read_hex.Goals as goal

pub returns-in-Err : goal.returns-in-Err
returns-in-Err c =
    let answer = answer_fault c.args.text.now (record { line = c.loop-rest.number + 1; kind = c.in-Err.kind }) (walked_bad _ _ _ _ _ _ _ _ _ c.loop-rest.invariant c.split_line.ensures.split (c.in-Err.ensures _ c.loop-rest.invariant.state)) in
    record { answer = answer; short = tt; written = hex_back _ _ answer }

pub loop-rest-preserved : goal.loop-rest-preserved
loop-rest-preserved c =
    walked_more _ _ _ _ _ _ _ _ _ _ _ c.loop-rest.invariant c.split_line.ensures.split c.split_line.ensures.shorter (c.in_default.ensures _ c.loop-rest.invariant.state)

pub returns-then-not-reader : goal.returns-then-not-reader
returns-then-not-reader c =
    let none : c.loop-rest.rest.now ≡ [] = nil_from_length c.loop-rest.rest.now (eqb-true (length c.loop-rest.rest.now) 0 (sym c.loop-rest-test.ensures)) in
    let open_yet : c.loop-rest.reader.ended ≡ false = search rules in
    let State : Bool → Type 0 = λ ended. Walked c.args.text.now c.loop-rest.rest.now c.loop-rest.number c.loop-rest.reader.image.places.items c.loop-rest.reader.image.reach ended in
    let answer = answer_fault c.args.text.now (record { line = c.loop-rest.number + 1; kind = NoEnd }) (walked_open _ _ _ _ _ (subst State open_yet c.loop-rest.invariant) none) in
    record { answer = answer; short = tt; written = hex_back _ _ answer }

pub returns : goal.returns
returns c =
    let image = c.loop-rest.reader.image in
    let none : c.loop-rest.rest.now ≡ [] = nil_from_length c.loop-rest.rest.now (eqb-true (length c.loop-rest.rest.now) 0 (sym c.loop-rest-test.ensures)) in
    let ended : c.loop-rest.reader.ended ≡ true = search rules in
    let whole : length image.places.items ≡ 65536 = omega (arith, image.whole, image.places.ok.0) in
    let State : Bool → Type 0 = λ e. Walked c.args.text.now c.loop-rest.rest.now c.loop-rest.number image.places.items image.reach e in
    let answer = answer_code c.args.text.now c.in_ok-code.field-0 (walked_all _ _ _ _ _ _ (subst State ended c.loop-rest.invariant) none image.bounded whole c.in_ok-code.ensures.code) in
    record { answer = answer; short = c.in_ok-code.ensures.short; written = hex_back _ _ answer }
