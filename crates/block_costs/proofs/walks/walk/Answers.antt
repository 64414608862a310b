use Rattle.std.proofs.Common.{◌+◌, ◌-◌, ◌≤◌, Ok, Err, sym, ap, subst, ◌∙◌, arith}
use Rattle.std.proofs.lemmas.Result.{err_from_is_err_and}
use Rattle.block_costs.specs.declared.walks.Turn.TheVariants.{Ends, Goes}
use Rattle.block_costs.specs.Code.Walks.{walk}
use Rattle.block_costs.proofs.Tallies.{IsSmall, small_turn, walk_step, walk_end}
use Rattle.block_costs.proofs.walks.walk.Goals as goal

pub returns-in_err-whole : goal.returns-in_err-whole
returns-in_err-whole c =
    let failed = err_from_is_err_and c.from_residual.result c.from_residual.ensures.1 in
    let step = walk_step c.args.code.now c.args.marks.now c.args.taken (65536 - c.loop.counter) c.loop.at c.loop.tally (Err c.in_err-whole.field-0.0) (omega (arith, c.loop-test.true)) c.in_err-whole.ensures in
    failed.1 ∙ ap Err failed.2 ∙ sym step ∙ c.loop.invariant.rest

pub returns-in-Ends : goal.returns-in-Ends
returns-in-Ends c =
    let step = walk_step c.args.code.now c.args.marks.now c.args.taken (65536 - c.loop.counter) c.loop.at c.loop.tally (Ok (Ends c.in-Ends.whole)) (omega (arith, c.loop-test.true)) (ap Ok (sym c.in-Ends.is) ∙ c.in_ok-whole.ensures) in
    sym step ∙ c.loop.invariant.rest

pub loop-preserved : goal.loop-preserved
loop-preserved c =
    let made = ap Ok (sym c.in-Goes.is) ∙ c.in_ok-whole.ensures in
    let small : c.in-Goes.longer.cycles ≤ c.loop.tally.cycles + 4 = subst (IsSmall (c.loop.tally.cycles + 4)) (sym made) (small_turn c.args.code.now c.args.marks.now c.args.taken c.loop.at c.loop.tally) in
    let step = walk_step c.args.code.now c.args.marks.now c.args.taken (65536 - c.loop.counter) c.loop.at c.loop.tally (Ok (Goes c.in-Goes.next c.in-Goes.longer)) (omega (arith, c.loop-test.true)) made in
    record {
      few = omega (arith, c.loop.invariant.few, small);
      rest = ap (λ n. walk c.args.code.now c.args.marks.now c.args.taken n c.in-Goes.next c.in-Goes.longer) (omega (arith, c.loop-test.true)) ∙ sym step ∙ c.loop.invariant.rest;
    }

pub returns : goal.returns
returns c =
    let end = walk_end c.args.code.now c.args.marks.now c.args.taken (65536 - c.loop.counter) c.loop.at c.loop.tally (omega (arith, c.loop-test.false)) in
    sym end ∙ c.loop.invariant.rest
