use Rattle.std.proofs.Common.{◌≡◌, ◌+◌, ◌-◌, ◌≤◌, length, drop}
use Rattle.clight_tokens.specs.Lexemes.{is_word_byte}
use Rattle.clight_tokens.specs.Code.Views.{run_length}
use Rattle.clight_tokens.proofs.lexemes.word_end.Given as goal

abbrev pub invariant-loop-end : goal.invariant-loop-end
invariant-loop-end l =
    (l.end + run_length is_word_byte (drop l.end l.rest) ≡ l.from + run_length is_word_byte (drop l.from l.rest)) × (l.end ≤ length l.rest)

abbrev pub decreases-loop-end : goal.decreases-loop-end
decreases-loop-end l = length l.rest - l.end
