use Rattle.clight_build_items.proofs.Insides.{to_whole}
use Rattle.clight_build_items.proofs.build.add.Goals as goal

pub returns-in_default : goal.returns-in_default
returns-in_default c = to_whole _ _ _ _ c.in_default.not-Struct c.in_default.not-Global c.in_default.not-Prototype c.in_default.not-Function (c.add_inside.ensures _)
