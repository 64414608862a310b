use Rattle.std.proofs.Common.{take}
use Rattle.clight_names.specs.Code.Knowledge.{AreDefined}
use Rattle.clight_names.proofs.judge.defined_names.Given as goal

abbrev pub invariant-loop-x : goal.invariant-loop-x
invariant-loop-x l = AreDefined l.defined (take l.x-index l.names)
