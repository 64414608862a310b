use Rattle.clight_tokens.proofs.Unique.{one_list}
use Rattle.clight_tokens.proofs.OneAnswer.{not_both, one_reason}
use Rattle.clight_tokens.proofs.scanner.one_answer.Goals as goal

pub returns : goal.returns
returns c = record { tokens = λ s l m h g. one_list h.tokens g.tokens; not_both = not_both; reason = one_reason }
