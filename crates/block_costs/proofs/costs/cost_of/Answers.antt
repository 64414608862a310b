use Rattle.std.proofs.Common.{◌≡◌, ℕ, List, Bool, true, Result, Ok, Err, IfOk, sym, ap, ap₂, ◌∙◌}
use Rattle.std.proofs.lemmas.Result.{err_from_is_err_and}
use Rattle.block_costs.specs.declared.faults.CostFault.{CostFault}
use Rattle.block_costs.specs.declared.faults.CostFault.TheVariants.{Unequal}
use Rattle.block_costs.specs.Ways.{cost}
use Rattle.block_costs.specs.Sound.{IsExact}
use Rattle.block_costs.specs.Code.Walks.{walk_way}
use Rattle.block_costs.proofs.Tallies.{judged, judged_equal, judged_unequal, cost_judged}
use Rattle.block_costs.proofs.Sound.{cost_is_exact}
use Rattle.block_costs.proofs.costs.cost_of.Goals as goal

exact_of : (code : List ℕ) (marks : List Bool) (a : ℕ) (r : Result ℕ CostFault) → r ≡ cost code marks a → (labels : List ℕ) → IfOk r (λ cycles. IsExact code labels marks a cycles)
exact_of code marks a (Ok cycles) e labels = cost_is_exact code labels marks a cycles (sym e)
exact_of code marks a (Err fault) e labels = tt

pub returns-in_err-plain : goal.returns-in_err-plain
returns-in_err-plain c =
    let failed = err_from_is_err_and c.from_residual.result c.from_residual.ensures.1 in
    let is = failed.1 ∙ ap Err failed.2
    ∙ ap (λ w. judged w (walk_way c.args.code.now c.args.marks.now true c.args.from)) c.in_err-plain.ensures
    ∙ cost_judged c.args.code.now c.args.marks.now c.args.from in
    record { cost = is; exact = exact_of _ _ _ _ is }

pub returns-in_err-taken : goal.returns-in_err-taken
returns-in_err-taken c =
    let failed = err_from_is_err_and c.from_residual-in_err-taken.result c.from_residual-in_err-taken.ensures.1 in
    let is = failed.1 ∙ ap Err failed.2 ∙ ap₂ judged c.in_ok-plain.ensures c.in_err-taken.ensures ∙ cost_judged c.args.code.now c.args.marks.now c.args.from in
    record { cost = is; exact = exact_of _ _ _ _ is }

pub returns-then-plain-taken : goal.returns-then-plain-taken
returns-then-plain-taken c =
    let is = sym (judged_equal c.in_ok-plain.plain c.in_ok-taken.taken c.if-plain-taken.true)
    ∙ ap₂ judged c.in_ok-plain.ensures c.in_ok-taken.ensures ∙ cost_judged c.args.code.now c.args.marks.now c.args.from in
    record { cost = is; exact = exact_of _ _ _ _ is }

pub returns : goal.returns
returns c =
    let is = ap (λ at. Err (Unequal at c.in_ok-plain.plain.cycles c.in_ok-taken.taken.cycles)) c.unwrap_or.ensures
    ∙ sym (judged_unequal c.in_ok-plain.plain c.in_ok-taken.taken c.if-plain-taken.false)
    ∙ ap₂ judged c.in_ok-plain.ensures c.in_ok-taken.ensures ∙ cost_judged c.args.code.now c.args.marks.now c.args.from in
    record { cost = is; exact = exact_of _ _ _ _ is }
