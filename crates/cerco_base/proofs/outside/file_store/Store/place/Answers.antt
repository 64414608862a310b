use Rattle.std.proofs.Common.{arith}
use Rattle.std.proofs.lemmas.Map.Text.{text_keys}
use Rattle.cerco_base.proofs.outside.file_store.Store.place.Goals as goal

pub returns-clause-done : goal.returns-clause-done
returns-clause-done c = record { here = grind (arith, text_keys); others = λ q h. grind (arith, text_keys) }
