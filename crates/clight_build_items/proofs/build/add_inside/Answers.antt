use Rattle.clight_build_items.proofs.Insides.{to_inside}
use Rattle.clight_build_items.proofs.build.add_inside.Goals as goal

pub returns-in_default : goal.returns-in_default
returns-in_default c = λ items. to_inside _ _ _ _ c.in_default.not-LocalValue (c.add_either.ensures items)
