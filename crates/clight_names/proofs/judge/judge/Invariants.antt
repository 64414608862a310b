use Rattle.std.proofs.Common.{◌≡◌, [], take, drop}
use Rattle.clight_names.specs.Code.Knowledge.{Knows}
use Rattle.clight_names.specs.NameFaults.{first_wrong}
use Rattle.clight_names.proofs.judge.judge.Given as goal

abbrev pub invariant-loop-x : goal.invariant-loop-x
invariant-loop-x l = record {
  knows : Knows l.known (take l.x-index l.all);
  rest : first_wrong l.names l.all [] l.all ≡ first_wrong l.names l.all (take l.x-index l.all) (drop l.x-index l.all);
}
