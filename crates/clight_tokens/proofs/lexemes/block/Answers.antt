use Rattle.std.proofs.Common.{refl}
use Rattle.clight_tokens.proofs.Places.{at_block}
use Rattle.clight_tokens.proofs.lexemes.block.Goals as goal

pub returns-in-Some : goal.returns-in-Some
returns-in-Some c = at_block c.args.rest.now _ c.in-Some.n c.requires.some c.requires.slash c.requires.star c.in-Some.ensures.value refl
