use Rattle.text_answers.proofs.Lexing as lexing
use Rattle.text_answers.proofs.tokens_are_decided.Goals as goal

pub returns : goal.returns
returns c = lexing.tokens_are_decided
