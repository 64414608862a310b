-- What is still to be pushed is what is left of it.
use Rattle.std.proofs.Common.{◌≡◌, ◌++◌, ◌*◌, ◌≤◌, drop}
use Rattle.byte_sequences.specs.Words.{vreg}
use Rattle.byte_sequences.specs.Code.Views.{ops_of}
use Rattle.rtl_gen.specs.Translation as spec
use Rattle.rtl_gen.proofs.entry.push_taken.Given as goal

abbrev pub invariant-loop-x : goal.invariant-loop-x
invariant-loop-x l = record {
  few : l.first_byte ≤ 2 * l.x;
  pushed : ops_of l.ops ++ spec.taken vreg (drop l.x l.parameters) l.x l.first_byte ≡ ops_of l.initial.ops ++ spec.taken vreg l.parameters 0 0;
}
