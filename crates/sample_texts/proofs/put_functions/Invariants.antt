use Rattle.std.proofs.Common.{◌≡◌, ◌++◌}
use Rattle.sample_texts.specs.Draws.{state_at}
use Rattle.sample_texts.specs.Texts.{functions_text}
use Rattle.sample_texts.proofs.put_functions.Given as goal

abbrev pub invariant-loop-function : goal.invariant-loop-function
invariant-loop-function l =
    (l.text.items ≡ l.initial.text.items ++ functions_text l.seed l.function) × (l.state ≡ state_at l.seed l.function)
