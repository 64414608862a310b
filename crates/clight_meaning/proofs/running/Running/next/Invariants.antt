use Rattle.std.proofs.Common.{◌≡◌}
use Rattle.clight_meaning.specs.Code.Holding.{works_held}
use Rattle.clight_meaning.specs.Code.Turns.{rest_held}
use Rattle.clight_meaning.proofs.Weights.{total_weight}
use Rattle.clight_meaning.proofs.running.Running.next.Given as goal

abbrev pub invariant-unseen : goal.invariant-unseen
invariant-unseen l = rest_held l.fn.self ≡ rest_held l.self

abbrev pub decreases-unseen : goal.decreases-unseen
decreases-unseen l = total_weight (works_held l.self.work.items)
