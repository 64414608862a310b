use Rattle.object_costs.proofs.RunCosts as costs
use Rattle.object_costs.proofs.objects_take_their_costs.Goals as goal

pub returns : goal.returns
returns c = costs.objects_take_their_costs
