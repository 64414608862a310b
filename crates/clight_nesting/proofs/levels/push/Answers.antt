use Rattle.std.proofs.Common.{ap, ◌∙◌}
use Rattle.clight_nodes.specs.Code.States.{newest}
use Rattle.clight_nodes.proofs.Newest.{newest-push}
use Rattle.clight_nesting.proofs.levels.push.Goals as goal

pub returns : goal.returns
returns c = ap newest c.in_ok-push.ensures.items ∙ newest-push _ _
