use Rattle.std.proofs.Common.{rules, ◌≡◌, ℕ, ◌-◌, ◌<◌, List, length, drop, subst, arith, take_all}
use Rattle.std.proofs.lemmas.Result.{err_from_is_err_and}
use Rattle.std.proofs.lemmas.List.{length-drop, nil_from_length}
use Rattle.cerco_base.proofs.Putting.{SoFar, begun, taken, all_put, cut_short}
use Rattle.cerco_base.proofs.outside.whole_files.put_all.Goals as goal

pub loop-rest-init : goal.loop-rest-init
loop-rest-init g c = begun _ _

pub returns-in_err-taken : goal.returns-in_err-taken
returns-in_err-taken g c =
    let p = err_from_is_err_and c.from_residual.result c.from_residual.ensures.1 in
    let some : 0 < length c.loop-rest.rest.now = search rules in
    rw (p.1, p.2) (cut_short _ _ _ _ _ _ some c.loop-rest.invariant c.in_err-taken.ensures)

pub loop-rest-preserved : goal.loop-rest-preserved
loop-rest-preserved g c =
    rw (take_all (length c.loop-rest.rest.now - c.in_ok-taken.taken) (drop c.in_ok-taken.taken c.loop-rest.rest.now) (omega (arith, length-drop c.in_ok-taken.taken c.loop-rest.rest.now)))
    (taken _ _ _ _ _ _ c.loop-rest.invariant c.in_ok-taken.ensures)

pub returns : goal.returns
returns g c =
    let none : length c.loop-rest.rest.now ≡ 0 = grind arith in
    all_put _ _ _ _ (subst (λ (r : List ℕ). SoFar (g.O.Sink.state c.args.out.now) (g.O.Sink.state c.loop-rest.out) c.args.bytes.now r) (nil_from_length _ none) c.loop-rest.invariant)
