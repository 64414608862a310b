use Rattle.std.proofs.Common.{sym, ◌∙◌, arith}
use Rattle.clight_programs.proofs.Exponents.{shift_for_power, no_shift_for}
use Rattle.cminor_gen.proofs.operators.shift_for.Goals as goal

pub returns-then-power-size : goal.returns-then-power-size
returns-then-power-size c = sym (shift_for_power c.loop-k.k c.args.size c.loop-k-test.true (sym c.power.ensures ∙ c.if-power-size.true))

pub returns : goal.returns
returns c = sym (no_shift_for c.args.size (λ k lt. c.loop-k.invariant k (omega arith)))
