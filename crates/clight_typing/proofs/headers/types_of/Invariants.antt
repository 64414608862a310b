use Rattle.std.proofs.Common.{◌≡◌, map}
use Rattle.c_types.specs.Types.{type_of}
use Rattle.clight_typing.specs.Code.HeldOwn.{own_of}
use Rattle.clight_typing.proofs.headers.types_of.Given as goal

abbrev pub invariant-loop-own : goal.invariant-loop-own
invariant-loop-own l = map type_of l.types.items ≡ map (λ own. own.type) (map own_of l.yielded)
