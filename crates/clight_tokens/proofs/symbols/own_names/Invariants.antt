use Rattle.std.proofs.Common.{◌≡◌, ◌++◌, drop}
use Rattle.clight_tokens.proofs.NameLists.{texts}
use Rattle.clight_tokens.proofs.symbols.own_names.Given as goal

abbrev pub invariant-loop-spelling : goal.invariant-loop-spelling
invariant-loop-spelling l = l.own ++ texts (drop l.spelling-index l.spelling-items) ≡ texts l.spelling-items
