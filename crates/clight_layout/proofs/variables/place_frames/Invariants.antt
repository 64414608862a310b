use Rattle.std.proofs.Common.{◌≡◌, map, drop}
use Rattle.c_types.specs.Types.{struct_type_of}
use Rattle.clight_syntax.specs.Code.TypedViews.{variable_of, function_of}
use Rattle.clight_layout.specs.Frames.{with_frames}
use Rattle.clight_layout.proofs.variables.place_frames.Given as goal

abbrev pub invariant-loop-i : goal.invariant-loop-i
invariant-loop-i l =
    with_frames (map struct_type_of l.structs) (map function_of (drop l.i l.functions)) (drop l.i l.starts) (map variable_of l.variables)
    ≡ with_frames (map struct_type_of l.structs) (map function_of l.functions) l.starts (map variable_of l.initial.variables)
