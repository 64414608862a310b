use Rattle.std.proofs.Common.{◌≡◌, ◌-◌, ◌*◌, ◌≤◌, None}
use Rattle.block_costs.specs.Code.Walks.{walk}
use Rattle.block_costs.proofs.walks.walk.Given as goal

abbrev pub invariant-loop : goal.invariant-loop
invariant-loop l = record {
  few : l.tally.cycles ≤ 4 * l.counter;
  rest : walk l.code l.marks l.taken (65536 - l.counter) l.at l.tally ≡ walk l.code l.marks l.taken 65536 l.fn.from (record { cycles = 0; branch = None });
}
