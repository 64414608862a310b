use Rattle.std.proofs.Common.{rules}
use Rattle.std.specs.Char.{to_ascii_uppercase}
use Rattle.std.proofs.lemmas.List.Edits.{map_over_more}
use Rattle.object_hex.proofs.digits.raise.Goals as goal

pub loop-digit-preserved : goal.loop-digit-preserved
loop-digit-preserved c = search (rules, map_over_more to_ascii_uppercase)
