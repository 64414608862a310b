use Rattle.std.proofs.Common.{◌≡◌, true, take}
use Rattle.std.specs.List.{list_all}
use Rattle.clight_tokens.specs.Lexemes.{is_source_byte}
use Rattle.clight_tokens.proofs.scanner.wrong_byte.Given as goal

abbrev pub invariant-loop-at : goal.invariant-loop-at
invariant-loop-at l = list_all is_source_byte (take l.at l.text) ≡ true
