use Rattle.std.proofs.Common.{◌≡◌, vec_len}
use Rattle.clight_nodes.specs.Code.Statements.{finish}
use Rattle.clight_nodes.specs.Code.States.{newest}
use Rattle.clight_recognise.proofs.closing.finish.Given as goal

abbrev pub invariant-loop-form : goal.invariant-loop-form
invariant-loop-form l = finish (newest l.forms.items) (newest l.nodes.items) ≡ finish (newest l.fn.forms.items) (newest l.fn.nodes.items)

abbrev pub decreases-loop-form : goal.decreases-loop-form
decreases-loop-form l = vec_len l.forms
