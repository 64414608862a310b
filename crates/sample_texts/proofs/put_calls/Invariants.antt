use Rattle.std.proofs.Common.{◌≡◌, ◌++◌}
use Rattle.sample_texts.specs.Texts.{each_below, call_text}
use Rattle.sample_texts.proofs.put_calls.Given as goal

abbrev pub invariant-loop-function : goal.invariant-loop-function
invariant-loop-function l = l.text.items ≡ l.initial.text.items ++ each_below call_text l.function
