use Rattle.clight_tokens.proofs.Spans.{ascending_whole}
use Rattle.clight_tokens.proofs.token_list.TokenList.as_slice.Goals as goal

pub returns-clause-ascending : goal.returns-clause-ascending
returns-clause-ascending c =
    rw (← c.self.view_is) (ascending_whole c.self.invariant.text _ _ c.self.invariant.length_is c.self.invariant.tokens.tokens)
