use Rattle.std.proofs.Common.{◌∙◌, ◌++◌, ap, get_or, arith, List, ℕ}
use Rattle.cerco_base.specs.HexDigits.{hex_byte}
use Rattle.mcs51_isa.proofs.HexText.{length-with_hex_bytes, hex_bytes_more}
use Rattle.mcs51_isa.proofs.line.Line.push_hex_bytes.Goals as goal

pub push_hex_byte-requires : goal.push_hex_byte-requires
push_hex_byte-requires c =
    let size = length-with_hex_bytes c.args.self.now c.loop-byte.self c.args.bytes.now c.loop-byte.byte-index (omega arith) c.loop-byte.invariant in
    omega arith

pub loop-byte-preserved : goal.loop-byte-preserved
loop-byte-preserved c =
    let bytes = c.args.bytes.now in
    let i = c.loop-byte.byte-index in
    c.push_hex_byte.ensures ∙ ap (λ (line : List ℕ). line ++ hex_byte (get_or bytes i 0)) c.loop-byte.invariant ∙ hex_bytes_more c.args.self.now bytes i c.loop-byte-test.true

pub returns-clause-size : goal.returns-clause-size
returns-clause-size c =
    let size = length-with_hex_bytes c.args.self.now c.loop-byte.self c.args.bytes.now c.loop-byte.byte-index (omega arith) c.loop-byte.invariant in
    omega arith
