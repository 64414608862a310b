use Rattle.cerco_pipeline.proofs.Costing.{AreCostsOfFirst}
use Rattle.cerco_pipeline.proofs.costs.costs_of.Given as goal

abbrev pub invariant-loop-address : goal.invariant-loop-address
invariant-loop-address l = AreCostsOfFirst l.address-index l.object.code l.object.labels l.marks-inside.flags.items l.labels.items
