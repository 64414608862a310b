use Rattle.std.proofs.Common.{◌≡◌, ◌++◌, take}
use Rattle.std.specs.List.{flat_map}
use Rattle.cerco_base.specs.HexDigits.{hex_byte}
use Rattle.mcs51_isa.proofs.line.Line.push_hex_bytes.Given as goal

abbrev pub invariant-loop-byte : goal.invariant-loop-byte
invariant-loop-byte l = l.self ≡ l.fn.self ++ flat_map hex_byte (take l.byte-index l.bytes)
