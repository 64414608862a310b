use Rattle.std.proofs.Common.{ap, ◌∙◌}
use Rattle.clight_build.specs.Code.Views.{views}
use Rattle.clight_build.proofs.Pushes.{views-push}
use Rattle.clight_build.proofs.stacks.put_boxed_expr.Goals as goal

pub returns : goal.returns
returns c = ap (views _) c.in_ok-push.ensures.items ∙ views-push _ _ _
