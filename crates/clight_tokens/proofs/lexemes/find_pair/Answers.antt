use Rattle.std.proofs.Common.{arith, sym, ◌∙◌}
use Rattle.clight_tokens.specs.Code.Views.{test_of}
use Rattle.clight_tokens.proofs.Places.{pair_next, pair_none}
use Rattle.clight_tokens.proofs.lexemes.find_pair.Goals as goal

pub loop-at-preserved : goal.loop-at-preserved
loop-at-preserved c = record {
  behind = omega arith;
  within = omega arith;
  same = pair_next (test_of c.args.pair) c.args.rest.now c.args.from c.loop-at.at c.loop-at.invariant.behind c.loop-at-test.true (sym c.is_pair.ensures ∙ c.if-is_pair.false) c.loop-at.invariant.same;
}

pub returns-clause-value : goal.returns-clause-value
returns-clause-value c = pair_none (test_of c.args.pair) c.args.rest.now c.args.from c.loop-at.at (omega arith) c.loop-at.invariant.same
