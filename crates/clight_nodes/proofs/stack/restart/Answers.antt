use Rattle.std.proofs.Common.{◌∷◌, ap, ◌∙◌}
use Rattle.clight_nodes.specs.Code.States.{newest}
use Rattle.clight_nodes.proofs.Newest.{newest-nil}
use Rattle.clight_nodes.proofs.stack.restart.Goals as goal

pub returns : goal.returns
returns c = c.in_ok-push.ensures ∙ ap (λ k. c.args.form ∷ k) (ap newest c.clear.ensures.items ∙ newest-nil)
