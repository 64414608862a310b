use Rattle.std.proofs.Common.{◌≡◌, ℕ, ◌++◌, codes, decimal, sym, ap, append_assoc}
use Rattle.cerco_base.specs.HexDigits.{hex_word}
use Rattle.cerco_base.proofs.PuttingPieces.{begun_as, piece_put, last_put, piece_failed}
use Rattle.block_costs.specs.declared.faults.CostFault.TheVariants.{Unequal}
use Rattle.cerco_command.specs.Messages.{line_about, fault_line}
use Rattle.cerco_command.proofs.printing.put_unequal.Goals as goal

-- the words in the pieces that are put
pieces : (at a b : ℕ) → fault_line (Unequal at a b) ≡ codes "unequal " ++ (hex_word at ++ ((codes " " ++ decimal a) ++ line_about (codes " ") (decimal b)))
pieces at a b = ap (λ l. codes "unequal " ++ (hex_word at ++ l)) (sym (append_assoc (codes " ") (decimal a) (line_about (codes " ") (decimal b))))

pub returns-in_err-put_all : goal.returns-in_err-put_all
returns-in_err-put_all g c = piece_failed _ _ _ _ _ _ _ _ (begun_as _ _ _ (pieces c.args.address c.args.plain c.args.taken)) c.in_err-put_all.ensures c.from_residual.ensures.1

pub returns-in_err-put_all-2 : goal.returns-in_err-put_all-2
returns-in_err-put_all-2 g c =
    let word = piece_put _ _ _ _ _ _ _ (begun_as _ _ _ (pieces c.args.address c.args.plain c.args.taken)) c.in_ok-put_all.ensures in
    piece_failed _ _ _ _ _ _ _ _ word (rw c.hex_word.ensures at c.in_err-put_all-2.ensures) c.from_residual-in_err-put_all-2.ensures.1

pub returns-in_err-put_number : goal.returns-in_err-put_number
returns-in_err-put_number g c =
    let word = piece_put _ _ _ _ _ _ _ (begun_as _ _ _ (pieces c.args.address c.args.plain c.args.taken)) c.in_ok-put_all.ensures in
    let address = piece_put _ _ _ _ _ _ _ word (rw c.hex_word.ensures at c.in_ok-put_all-2.ensures) in
    piece_failed _ _ _ _ _ _ _ _ address c.in_err-put_number.ensures c.from_residual-in_err-put_number.ensures.1

pub returns : goal.returns
returns g c =
    let word = piece_put _ _ _ _ _ _ _ (begun_as _ _ _ (pieces c.args.address c.args.plain c.args.taken)) c.in_ok-put_all.ensures in
    let address = piece_put _ _ _ _ _ _ _ word (rw c.hex_word.ensures at c.in_ok-put_all-2.ensures) in
    let plain = piece_put _ _ _ _ _ _ _ address c.in_ok-put_number.ensures in
    last_put _ _ _ _ _ _ plain c.put_count.ensures
