use Rattle.std.proofs.Common.{length}
use Rattle.cerco_base.specs.Outside.InMemory.{sound_sink_state}
use Rattle.clight_meaning.specs.Budgets.{events_told}
use Rattle.clight_meaning.specs.Code.Turns.{rest}
use Rattle.meaning_text.specs.Text.{meaning_text}
use Rattle.meaning_text.specs.Code.Counting.{costs_held}
use Rattle.meaning_text.proofs.Telling.{Told}
use Rattle.meaning_text.proofs.tell_on.Given as goal

abbrev pub invariant-loop-turn : goal.invariant-loop-turn
invariant-loop-turn g l =
    Told (costs_held l.fn.costs) (meaning_text (costs_held l.fn.costs) (rest l.fn.evaluator l.fn.limit)) l.fn.limit (g.O.Sink.state l.fn.out) (g.O.Sink.state l.out) l.evaluator l.count (sound_sink_state l.pending).bytes

abbrev pub decreases-loop-turn : goal.decreases-loop-turn
decreases-loop-turn g l = length (events_told (rest l.evaluator l.count.left))
