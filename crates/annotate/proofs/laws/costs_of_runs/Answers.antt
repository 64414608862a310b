use Rattle.annotate.proofs.RunCosts as costs
use Rattle.annotate.proofs.laws.costs_of_runs.Goals as goal

pub returns : goal.returns
returns c = costs.costs_of_runs
