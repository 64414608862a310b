use Rattle.std.proofs.Common.{◌≡◌, ◌+◌, ◌++◌, ◌∷◌, [], drop, map, length}
use Rattle.clight_syntax.specs.TypedTrees.{EarlierArgument}
use Rattle.clight_syntax.specs.Code.TypedViews.{arguments_of, earlier_argument_of, expr_of, program_of}
use Rattle.clight_meaning.specs.Meaning.{argument_list, argument_values}
use Rattle.clight_meaning.specs.Code.Views.{state_held}
use Rattle.clight_meaning.proofs.Lists.{after}
use Rattle.clight_meaning.proofs.state.State.argument_values.Given as goal

abbrev pub invariant-loop-argument : goal.invariant-loop-argument
invariant-loop-argument l =
    argument_values (program_of l.program) (argument_list (arguments_of l.arguments)) l.first (state_held l.self)
    ≡ after l.values.items (argument_values (program_of l.program)
    (map (λ (a : EarlierArgument). a.value) (map earlier_argument_of (drop l.argument-index l.argument-items)) ++ expr_of l.last ∷ []) (l.first + length l.values.items) (state_held l.self))
