use Rattle.std.proofs.Common.{◌≡◌, ◌<◌, ◌++◌, ◌∷◌, [], cond, true, length, nat_lt, sym, ap, ◌∙◌, arith}
use Rattle.std.proofs.lemmas.Bool.Decides.{nat_tests}
use Rattle.clight_layout.proofs.Measures.{seam_added}
use Rattle.clight_layout.proofs.graph.add_existing.Goals as goal

pub returns-in_ok-add_call-clause-added : goal.returns-in_ok-add_call-clause-added
returns-in_ok-add_call-clause-added c = λ before own after e is.
    let below : c.args.callee < length c.args.graph.now = omega (arith, c.functions.ensures.count, c.if-callee-functions.true) in
    let test : nat_lt c.args.callee (length c.args.graph.now) ≡ true = grind (arith, nat_tests) in
    seam_added c.args.graph.now c.add_call.new.self before own after c.args.caller c.args.callee e is c.in_ok-add_call.ensures.added
    ∙ ap (λ b. before ++ (own ++ cond b (c.args.callee ∷ []) []) ∷ after) (sym test)
