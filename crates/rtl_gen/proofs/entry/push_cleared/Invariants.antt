-- What is still to be pushed is what is left of it.
use Rattle.std.proofs.Common.{◌≡◌, ◌++◌, ◌+◌, drop}
use Rattle.byte_sequences.specs.Words.{vreg}
use Rattle.byte_sequences.specs.Code.Views.{ops_of}
use Rattle.rtl_gen.specs.Translation as spec
use Rattle.rtl_gen.proofs.entry.push_cleared.Given as goal

abbrev pub invariant-loop-x : goal.invariant-loop-x
invariant-loop-x l = ops_of l.ops ++ spec.cleared vreg (drop l.x l.variables) (l.first + l.x) ≡ ops_of l.initial.ops ++ spec.cleared vreg l.variables l.first
