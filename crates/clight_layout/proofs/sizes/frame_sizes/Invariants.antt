use Rattle.std.proofs.Common.{◌≡◌, map, take}
use Rattle.c_types.specs.Types.{struct_type_of}
use Rattle.clight_syntax.specs.Code.TypedViews.{variable_of, function_of}
use Rattle.clight_layout.specs.Frames.{frame_bytes}
use Rattle.clight_layout.proofs.sizes.frame_sizes.Given as goal

abbrev pub invariant-loop-function : goal.invariant-loop-function
invariant-loop-function l =
    l.sizes.items ≡ map (frame_bytes (map struct_type_of l.structs) (map variable_of l.variables)) (map function_of (take l.function-index l.functions))
