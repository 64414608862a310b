use Rattle.std.proofs.Common.{unwrap_or, length, ap, sym, ◌∙◌}
use Rattle.jump_expand.proofs.Anchors.{key_found}
use Rattle.jump_expand.proofs.targets.target_in.Goals as goal

pub returns-in-Some-get : goal.returns-in-Some-get
returns-in-Some-get c =
    let items = c.args.items.now in
    ap (λ o. unwrap_or o (length items)) (c.in-Some-get.ensures.value ∙ c.requires.map c.in-Some.key) ∙ key_found items c.args.item c.in-Some.key (sym c.in-Some.ensures)

pub returns-in-None-get : goal.returns-in-None-get
returns-in-None-get c =
    let items = c.args.items.now in
    ap (λ o. unwrap_or o (length items)) (c.in-None-get.ensures.value ∙ c.requires.map c.in-Some.key) ∙ key_found items c.args.item c.in-Some.key (sym c.in-Some.ensures)
