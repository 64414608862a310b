use Rattle.std.proofs.Common.{sym, ◌∙◌, ◌<◌, ◌≡◌, Some, None, get_or, rules, length, refl}
use Rattle.mcs51_isa.specs.Decoding.{decode_of}
use Rattle.mcs51_isa.proofs.Inverse.{decode_of-reserved, decode_of-None, encode_of-decoded}
use Rattle.mcs51_isa.proofs.decoding.decode.Goals as goal

pub returns-in_err-instr-clause-reserved : goal.returns-in_err-instr-clause-reserved
returns-in_err-instr-clause-reserved c =
    let opcode = get_or c.args.bytes 0 0 in
    let x = get_or c.args.bytes 1 0 in
    let y = get_or c.args.bytes 2 0 in
    let ho : opcode < 256 = search rules in
    let hx : x < 256 = search rules in
    let hy : y < 256 = search rules in
    let none : decode_of opcode x y ≡ None = sym c.instruction.ensures ∙ c.in_err-instr.was in
    (λ _. decode_of-None opcode x y ho hx hy none, λ _. search rules)

pub returns-clause-reserved : goal.returns-clause-reserved
returns-clause-reserved c =
    let opcode = get_or c.args.bytes 0 0 in
    let x = get_or c.args.bytes 1 0 in
    let y = get_or c.args.bytes 2 0 in
    let found : decode_of opcode x y ≡ Some c.in_ok-instr.instr = sym c.instruction.ensures ∙ c.in_ok-instr.was in
    (λ e. cc, λ e. let none = decode_of-reserved opcode x y e in cc)

pub returns-clause-encodes_back : goal.returns-clause-encodes_back
returns-clause-encodes_back c =
    let opcode = get_or c.args.bytes 0 0 in
    let x = get_or c.args.bytes 1 0 in
    let y = get_or c.args.bytes 2 0 in
    let ho : opcode < 256 = search rules in
    let hx : x < 256 = search rules in
    let hy : y < 256 = search rules in
    let three : length c.args.bytes ≡ 3 = search rules in
    let found : decode_of opcode x y ≡ Some c.in_ok-instr.instr = sym c.instruction.ensures ∙ c.in_ok-instr.was in
    let read = encode_of-decoded c.args.bytes c.in_ok-instr.instr three ho hx hy found in
    rw (c.length.ensures, ← read) refl
