use Rattle.object_costs.proofs.RunCosts as costs
use Rattle.object_costs.proofs.objects_keep_to_sources.Goals as goal

pub returns : goal.returns
returns g c = costs.objects_keep_to_sources _
