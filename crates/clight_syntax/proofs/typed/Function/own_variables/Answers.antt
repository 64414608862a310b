use Rattle.std.proofs.Common.{◌∙◌, ap, take}
use Rattle.clight_syntax.proofs.OwnVariables.{own_is}
use Rattle.clight_syntax.proofs.typed.Function.own_variables.Goals as goal

pub returns : goal.returns
returns g c =
    own_is c.args.variables.now c.front_of.result.now c.rest_of-rest.result.now _ _ c.rest_of-rest.ensures (c.front_of.ensures ∙ ap (λ n. take n c.rest_of-rest.result.now) c.own_count.ensures)
