use Rattle.std.proofs.Common.{rules}
use Rattle.clight_tokens.proofs.Places.{at_word, at_number}
use Rattle.clight_tokens.proofs.lexemes.longest.Goals as goal

pub returns-then-is_letter : goal.returns-then-is_letter
returns-then-is_letter c = at_word c.args.rest.now _ c.requires (search rules) c.word_end.ensures

pub returns-then-is_digit : goal.returns-then-is_digit
returns-then-is_digit c = at_number c.args.rest.now _ c.requires (search rules) c.word_end-then-is_digit.ensures
