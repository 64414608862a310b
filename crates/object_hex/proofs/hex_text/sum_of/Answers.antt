use Rattle.std.proofs.Common.{◌≡◌, sum, rules, arith}
use Rattle.std.proofs.lemmas.List.{get_or_default}
use Rattle.std.proofs.lemmas.List.Sums.{sum_by-le}
use Rattle.object_hex.proofs.hex_text.sum_of.Goals as goal

pub returns-clause-small : goal.returns-clause-small
returns-clause-small c =
    let bytes = c.args.bytes.now in
    let value : c.sum.result ≡ sum bytes = search rules in
    let most = sum_by-le (λ byte. byte) 255 bytes (λ k d within. rw (get_or_default bytes k d 0 within) (let fits = c.type_inv.bytes k in omega arith)) in
    omega arith
