use Rattle.clight_tokens.proofs.NameLists.{texts-step}
use Rattle.clight_tokens.proofs.symbols.own_names.Goals as goal

pub loop-spelling-preserved : goal.loop-spelling-preserved
loop-spelling-preserved c = texts-step _ _ c.as_slice-spelling-items.result.now c.loop-spelling.spelling-index _ _ c.loop-spelling-test.true c.in_ok-push.ensures.added c.loop-spelling.invariant
