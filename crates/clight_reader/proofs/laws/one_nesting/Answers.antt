use Rattle.clight_nesting.proofs.OneNesting as p
use Rattle.clight_reader.proofs.laws.one_nesting.Goals as goal

pub returns-clause-either : goal.returns-clause-either
returns-clause-either c = p.shallow_or_nested

pub returns-clause-not_both : goal.returns-clause-not_both
returns-clause-not_both c = p.not_shallow

pub returns-clause-one_place : goal.returns-clause-one_place
returns-clause-one_place c = p.one_nesting
