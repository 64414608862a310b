use Rattle.clight_tokens.proofs.NameLists.{word-place}
use Rattle.clight_tokens.proofs.symbols.word_symbol.Goals as goal

pub returns-in-Some-get_index_of : goal.returns-in-Some-get_index_of
returns-in-Some-get_index_of c =
    word-place c.args.names.now.keys c.args.text.now _ _ _ c.keyword.ensures c.in_default.is c.get_index_of.ensures.index c.in-Some-get_index_of.is

pub returns-in-None : goal.returns-in-None
returns-in-None c = word-place c.args.names.now.keys c.args.text.now _ _ _ c.keyword.ensures c.in_default.is c.get_index_of.ensures.index c.in-None.is
