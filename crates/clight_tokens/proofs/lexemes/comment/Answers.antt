use Rattle.std.proofs.Common.{rules}
use Rattle.clight_tokens.proofs.Places.{at_line}
use Rattle.clight_tokens.proofs.lexemes.comment.Goals as goal

pub returns-in-47 : goal.returns-in-47
returns-in-47 c = at_line c.args.rest.now _ c.if-rest-lt2.false (search rules) (search rules) c.line_end.ensures
