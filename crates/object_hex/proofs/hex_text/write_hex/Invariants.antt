use Rattle.std.proofs.Common.{◌-◌, ◌++◌, length}
use Rattle.std.specs.Int.{div_ceil}
use Rattle.std.specs.List.{flat_map, range_with_len}
use Rattle.cerco_base.proofs.Putting.{SoFar}
use Rattle.object_hex.specs.HexText.{data_line, end_line, hex_text}
use Rattle.object_hex.proofs.hex_text.write_hex.Given as goal

abbrev pub invariant-loop-i : goal.invariant-loop-i
invariant-loop-i g l =
    SoFar (g.O.Sink.state l.initial.out) (g.O.Sink.state l.out) (hex_text l.code)
    (flat_map (data_line l.code) (range_with_len l.i (div_ceil (length l.code) 16 - l.i)) ++ end_line)
