-- So many sums were pushed.
use Rattle.std.proofs.Common.{◌≡◌, ◌++◌}
use Rattle.byte_sequences.specs.Sequences as spec
use Rattle.byte_sequences.specs.Code.Views.{ops_of, vregs}
use Rattle.byte_sequences.proofs.shifts.push_shift_left.Given as goal

abbrev pub invariant-loop : goal.invariant-loop
invariant-loop l = ops_of l.ops ≡ ops_of l.initial.ops ++ spec.repeated l.counter (spec.sum (vregs l.word) (vregs l.word))
