use Rattle.std.proofs.Common.{◌≡◌, take}
use Rattle.asm51.specs.declared.layouts.Form.{Form}
use Rattle.asm51.specs.Layouts.{all_in}
use Rattle.jump_expand.proofs.expansion.first_forms.Given as goal

abbrev pub invariant-loop-item : goal.invariant-loop-item
invariant-loop-item l = l.forms.items ≡ all_in Form.Short (take l.item-index l.items)
