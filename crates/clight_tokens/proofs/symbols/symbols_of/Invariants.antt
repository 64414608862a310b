use Rattle.std.proofs.Common.{◌≡◌, ◌++◌, drop, map}
use Rattle.clight_tokens.specs.Symbols.{terminal_of}
use Rattle.clight_tokens.specs.Code.TokenViews.{token_of}
use Rattle.clight_tokens.specs.Code.SymbolViews.{spellings}
use Rattle.clight_tokens.proofs.symbols.symbols_of.Given as goal

abbrev pub invariant-loop-token : goal.invariant-loop-token
invariant-loop-token l =
    l.list.items ++ map (terminal_of (spellings l.names)) (map token_of (drop l.token-index l.tokens)) ≡ map (terminal_of (spellings l.names)) (map token_of l.tokens)
