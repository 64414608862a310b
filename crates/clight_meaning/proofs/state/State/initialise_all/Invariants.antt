use Rattle.std.proofs.Common.{◌≡◌, ◌+◌, drop, map}
use Rattle.clight_syntax.specs.Code.TypedViews.{local_of, program_of}
use Rattle.clight_meaning.specs.Meaning.{initialised}
use Rattle.clight_meaning.specs.Code.Views.{state_held}
use Rattle.clight_meaning.proofs.state.State.initialise_all.Given as goal

abbrev pub invariant-loop-i : goal.invariant-loop-i
invariant-loop-i l =
    initialised (program_of l.program) (map local_of l.locals) l.first (state_held l.fn.self)
    ≡ initialised (program_of l.program) (map local_of (drop l.i l.locals)) (l.first + l.i) (state_held l.self)
