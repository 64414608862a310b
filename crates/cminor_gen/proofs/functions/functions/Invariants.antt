use Rattle.std.proofs.Common.{◌≡◌, map, take}
use Rattle.cerco_middle.specs.Code.Views.{function_of as cm_function_of}
use Rattle.clight_syntax.specs.Code.TypedViews.{function_of, program_of}
use Rattle.cminor_gen.specs.Translation.Statements.{function}
use Rattle.cminor_gen.proofs.functions.functions.Given as goal

abbrev pub invariant-loop-f : goal.invariant-loop-f
invariant-loop-f l = map cm_function_of l.functions.items ≡ map (function (program_of l.program)) (map function_of (take l.f-index l.program.functions.items))
