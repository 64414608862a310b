use Rattle.std.proofs.Common.{◌+◌, ◌^◌, sym, ap, ◌∙◌, subst}
use Rattle.liveness.specs.Code.Rows.{ways_of, AllBelow}
use Rattle.liveness.proofs.sets.live_node.Goals as goal

pub live_point-requires : goal.live_point-requires
live_point-requires c =
    let i = c.args.from + c.loop-k.k in
    subst (λ r. AllBelow r (2 ^ 32)) (sym (c.row-vregs.ensures ∙ ap (λ z. ways_of z i) c.deref.ensures.value)) (c.requires.below i)
