use Rattle.clight_tokens.proofs.NameLists.{few}
use Rattle.clight_tokens.proofs.symbols.terminals.Goals as goal

pub symbols_of-requires : goal.symbols_of-requires
symbols_of-requires c =
    few c.args.tokens.now c.as_slice-items.result.now _ c.as_slice-items.ensures.tokens c.as_slice-items.ensures.of_a_text c.as_slice-items.ensures.ascending c.in_ok-names.ensures.count
