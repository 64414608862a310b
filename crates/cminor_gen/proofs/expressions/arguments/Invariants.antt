use Rattle.std.proofs.Common.{◌≡◌, map, take}
use Rattle.cerco_middle.specs.Code.Views.{expr_of as cm_of}
use Rattle.clight_syntax.specs.TypedTrees.{EarlierArgument}
use Rattle.clight_syntax.specs.Code.TypedViews.{earlier_argument_of, program_of}
use Rattle.cminor_gen.specs.Translation.Expressions.{value}
use Rattle.cminor_gen.proofs.expressions.arguments.Given as goal

abbrev pub invariant-loop-argument : goal.invariant-loop-argument
invariant-loop-argument l =
    map cm_of l.values.items ≡ map (value (program_of l.program)) (map (λ (a : EarlierArgument). a.value) (map earlier_argument_of (take l.argument-index l.argument-items)))
