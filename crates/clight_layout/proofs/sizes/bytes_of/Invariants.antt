use Rattle.std.proofs.Common.{◌≡◌, ◌+◌, map, drop}
use Rattle.c_types.specs.Types.{struct_type_of}
use Rattle.clight_syntax.specs.Code.TypedViews.{variable_of}
use Rattle.clight_layout.specs.Frames.{bytes_of}
use Rattle.clight_layout.proofs.sizes.bytes_of.Given as goal

abbrev pub invariant-loop-x : goal.invariant-loop-x
invariant-loop-x l =
    l.bytes + bytes_of l.area (map struct_type_of l.structs) (map variable_of (drop l.x-index l.variables))
    ≡ bytes_of l.area (map struct_type_of l.structs) (map variable_of l.variables)
