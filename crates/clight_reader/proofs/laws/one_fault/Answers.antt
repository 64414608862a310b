use Rattle.clight_grammar.proofs.OneFault as p
use Rattle.clight_reader.proofs.laws.one_fault.Goals as goal

pub returns-clause-either : goal.returns-clause-either
returns-clause-either c = p.program_or_fault

pub returns-clause-not_both : goal.returns-clause-not_both
returns-clause-not_both c = p.not_both

pub returns-clause-one_place : goal.returns-clause-one_place
returns-clause-one_place c = p.one_fault
