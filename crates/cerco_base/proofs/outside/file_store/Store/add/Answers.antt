use Rattle.std.proofs.Common.{arith}
use Rattle.std.proofs.lemmas.Result.{err_from_is_err_and}
use Rattle.std.proofs.lemmas.Map.Text.{text_keys}
use Rattle.cerco_base.proofs.outside.file_store.Store.add.Goals as goal

pub returns-in_err-extend_from_slice-clause-same :
    goal.returns-in_err-extend_from_slice-clause-same
returns-in_err-extend_from_slice-clause-same c =
    let p = err_from_is_err_and c.from_residual.result c.from_residual.ensures.1 in
    rw (p.1) (λ q. grind (arith, text_keys))

pub returns-in-Some-clause-done : goal.returns-in-Some-clause-done
returns-in-Some-clause-done c = record { here = grind (arith, text_keys); others = λ q h. grind (arith, text_keys) }
