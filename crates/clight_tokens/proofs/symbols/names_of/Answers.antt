use Rattle.std.proofs.Common.{arith}
use Rattle.clight_tokens.proofs.NameLists.{names-step, names-end}
use Rattle.clight_tokens.proofs.symbols.names_of.Goals as goal

pub loop-token-preserved : goal.loop-token-preserved
loop-token-preserved c =
    record {
      names = names-step _ _ c.args.tokens.now c.loop-token.token-index _ _ c.loop-token-test.true c.in_ok-note.ensures.names c.loop-token.invariant.names;
      count = omega (arith, c.in_ok-note.ensures.count);
    }

pub returns-clause-names : goal.returns-clause-names
returns-clause-names c = names-end _ _ c.args.tokens.now c.loop-token.token-index (omega arith) c.loop-token.invariant.names
