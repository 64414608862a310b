use Rattle.std.proofs.Common.{sym, subst}
use Rattle.clight_layout.specs.Layout.{IsLayout}
use Rattle.checked_programs.proofs.Limits.{within_limits}
use Rattle.checked_programs.proofs.laws.laid_out_is_within_limits.Goals as goal

pub returns : goal.returns
returns c = λ typed t p layout labelled. within_limits p typed (subst (IsLayout typed) (sym labelled.typed_alone) layout)
