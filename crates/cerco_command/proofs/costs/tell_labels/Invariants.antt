use Rattle.std.proofs.Common.{◌≡◌, drop}
use Rattle.cerco_base.specs.Outside.InMemory.{sound_sink_state}
use Rattle.cerco_command.specs.Costs.{after_text, labels_told}
use Rattle.cerco_command.proofs.costs.tell_labels.Given as goal

abbrev pub invariant-loop-number : goal.invariant-loop-number
invariant-loop-number l =
    after_text (sound_sink_state l.fn.before).bytes (labels_told l.code l.marks 0 l.labels)
    ≡ after_text (sound_sink_state l.text).bytes (labels_told l.code l.marks l.number (drop l.number l.labels))
