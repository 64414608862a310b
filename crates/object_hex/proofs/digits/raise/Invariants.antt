use Rattle.std.proofs.Common.{◌≡◌, ◌++◌, map, take, drop}
use Rattle.std.specs.Char.{to_ascii_uppercase}
use Rattle.object_hex.proofs.digits.raise.Given as goal

abbrev pub invariant-loop-digit : goal.invariant-loop-digit
invariant-loop-digit l =
    l.digit-items ≡ map to_ascii_uppercase (take l.digit-index l.initial.digit-items) ++ drop l.digit-index l.initial.digit-items
