use Rattle.clight_tokens.specs.Symbols.{terminal_of}
use Rattle.clight_tokens.specs.Code.SymbolViews.{spellings}
use Rattle.clight_tokens.proofs.NameLists.{terminals-step, pushed}
use Rattle.clight_tokens.proofs.symbols.symbols_of.Goals as goal

pub loop-token-preserved : goal.loop-token-preserved
loop-token-preserved c =
    terminals-step (terminal_of (spellings c.args.names.now)) _ _ c.args.tokens.now c.loop-token.token-index _ _ c.loop-token-test.true
    (pushed _ _ _ _ _ c.in_ok-push.ensures.items c.symbol_of.ensures) c.loop-token.invariant
