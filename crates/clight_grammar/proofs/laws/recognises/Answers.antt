use Rattle.clight_grammar.specs.Code.Machine.{start}
use Rattle.clight_grammar.proofs.FlatSteps.{step_flat, run_flat, refused_flat, ends_flat, no_end_flat}
use Rattle.clight_grammar.proofs.laws.recognises.Goals as goal

pub returns-clause-steps : goal.returns-clause-steps
returns-clause-steps c = step_flat

pub returns-clause-runs : goal.returns-clause-runs
returns-clause-runs c = λ l. run_flat l start

pub returns-clause-refused : goal.returns-clause-refused
returns-clause-refused c = refused_flat

pub returns-clause-ended : goal.returns-clause-ended
returns-clause-ended c = ends_flat

pub returns-clause-not_ended : goal.returns-clause-not_ended
returns-clause-not_ended c = no_end_flat
