use Rattle.object_costs.proofs.HaveCosts as costs
use Rattle.object_costs.proofs.objects_have_costs.Goals as goal

pub returns : goal.returns
returns c = costs.objects_have_costs
