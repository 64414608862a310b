use Rattle.std.proofs.Common.{◌≡◌, ◌+◌, drop}
use Rattle.clight_names.specs.Spellings.{main_name}
use Rattle.clight_names.proofs.kinds.main_name.Given as goal

abbrev pub invariant-loop-number : goal.invariant-loop-number
invariant-loop-number l = main_name l.names ≡ l.number + main_name (drop l.number l.names)
