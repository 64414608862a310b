use Rattle.clight_grammar.proofs.Programs as p
use Rattle.clight_reader.proofs.laws.one_program.Goals as goal

pub returns : goal.returns
returns c = p.one_program
