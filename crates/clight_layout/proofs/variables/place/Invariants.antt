use Rattle.std.proofs.Common.{◌≡◌, ◌++◌, map, take, drop}
use Rattle.c_types.specs.Types.{struct_type_of}
use Rattle.clight_syntax.specs.Code.TypedViews.{variable_of}
use Rattle.clight_layout.specs.Frames.{placed}
use Rattle.clight_layout.proofs.variables.place.Given as goal

abbrev pub invariant-loop-x : goal.invariant-loop-x
invariant-loop-x l =
    map variable_of (take l.x-index l.variables) ++ placed l.area (map struct_type_of l.structs) l.at (map variable_of (drop l.x-index l.variables))
    ≡ placed l.area (map struct_type_of l.structs) l.from (map variable_of l.initial.variables)
