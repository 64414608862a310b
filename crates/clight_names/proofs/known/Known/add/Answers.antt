use Rattle.std.proofs.Common.{ap, sym, ◌∙◌, not}
use Rattle.clight_names.proofs.Places.{knows_more, knows_still}
use Rattle.clight_names.proofs.known.Known.add.Goals as goal

pub returns-in-None : goal.returns-in-None
returns-in-None c = knows_still c.args.self.now c.args.x (sym c.declared_in.ensures ∙ c.in-None.is)

pub returns-in_ok-add_place-in-Some-2 : goal.returns-in_ok-add_place-in-Some-2
returns-in_ok-add_place-in-Some-2 c =
    knows_more c.args.self.now _ c.args.x c.in-Some.region (sym c.declared_in.ensures ∙ c.in-Some.is) (not c.is_prototype.result) (ap not c.is_prototype.ensures)
    c.in_ok-add_place-in-Some.ensures c.in_ok-add_place-in-Some-2.ensures
