use Rattle.object_costs.proofs.CostLists as costs
use Rattle.object_costs.proofs.costs_of_object.Goals as goal

pub returns : goal.returns
returns c = costs.costs_of_object
