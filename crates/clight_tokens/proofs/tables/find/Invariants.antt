use Rattle.std.proofs.Common.{◌≡◌, drop, map}
use Rattle.std.specs.Str.{bytes_eq}
use Rattle.std.specs.Map.{lookup}
use Rattle.clight_tokens.specs.Code.SymbolViews.{entry_of}
use Rattle.clight_tokens.proofs.tables.find.Given as goal

abbrev pub invariant-loop-entry : goal.invariant-loop-entry
invariant-loop-entry l = lookup (bytes_eq l.text) (map entry_of (drop l.entry-index l.table)) ≡ lookup (bytes_eq l.text) (map entry_of l.table)
