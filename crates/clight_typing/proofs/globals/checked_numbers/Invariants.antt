use Rattle.std.proofs.Common.{◌≡◌, drop}
use Rattle.clight_typing.specs.TypedPrograms.{checked_numbers as checked_numbers_lem}
use Rattle.clight_typing.proofs.globals.checked_numbers.Given as goal

abbrev pub invariant-loop-x : goal.invariant-loop-x
invariant-loop-x l = checked_numbers_lem l.xs ≡ checked_numbers_lem (drop l.x-index l.xs)
