use Rattle.rtl.specs.Graphs.{ops_at}
use Rattle.pruned_graphs.proofs.Back.{live_back}
use Rattle.pruned_graphs.proofs.NoneDead.{live_there}
use Rattle.pruned_graphs.proofs.live_was_strongly_live.Goals as goal

pub returns : goal.returns
returns c first g h pruned s p = (
  (λ live. live_back first g h pruned s p (ops_at h p) live (ops_at g p) (pruned.ops p)),
  (λ live. live_there first g h pruned s p (ops_at g p) live (ops_at h p) (pruned.ops p)),
)
