use Rattle.std.proofs.Common.{◌≡◌, ◌+◌, ◌≤◌, map, drop}
use Rattle.std.specs.Prelude.{min}
use Rattle.c_types.specs.Types.{type_of}
use Rattle.clight_types.specs.Declarations.{bytes_of}
use Rattle.clight_types.specs.Code.Held.{size_cap}
use Rattle.clight_types.specs.Code.HeldStructs.{structs_of}
use Rattle.clight_types.proofs.parameters.parameter_bytes.Given as goal

abbrev pub invariant-loop-ty : goal.invariant-loop-ty
invariant-loop-ty l = record {
  capped : l.bytes ≤ size_cap;
  rest : min (bytes_of (structs_of l.structs) (map type_of l.types)) size_cap
      ≡ min (l.bytes + bytes_of (structs_of l.structs) (map type_of (drop l.ty-index l.types))) size_cap;
}
