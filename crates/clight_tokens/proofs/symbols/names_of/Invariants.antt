use Rattle.std.proofs.Common.{◌≡◌, ◌≤◌, drop, map}
use Rattle.indexmap.specs.IndexSet.{index_set_len}
use Rattle.clight_tokens.specs.Symbols.{names_of}
use Rattle.clight_tokens.specs.Code.TokenViews.{token_of}
use Rattle.clight_tokens.specs.Code.SymbolViews.{spellings}
use Rattle.clight_tokens.proofs.NameLists.{names_among}
use Rattle.clight_tokens.proofs.symbols.names_of.Given as goal

abbrev pub invariant-loop-token : goal.invariant-loop-token
invariant-loop-token l = record {
  names : names_among (spellings l.names) (map token_of (drop l.token-index l.tokens)) ≡ names_of (map token_of l.tokens);
  count : index_set_len l.names ≤ l.token-index;
}
