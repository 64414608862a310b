use Rattle.std.proofs.Common.{◌≡◌, ◌++◌, ◌-◌}
use Rattle.clight_source.specs.Code.Views.{initialiser_of}
use Rattle.clight_values.specs.Globals.{numbers_of}
use Rattle.cminor_gen.specs.Translation.Start.{integers_from}
use Rattle.cminor_gen.proofs.start.add_integers.Given as goal

abbrev pub invariant-loop-i : goal.invariant-loop-i
invariant-loop-i l =
    l.fn.start ++ integers_from l.ty (numbers_of (initialiser_of l.initialiser)) l.count 0 l.address
    ≡ l.start ++ integers_from l.ty (numbers_of (initialiser_of l.initialiser)) (l.count - l.i) l.i l.at
