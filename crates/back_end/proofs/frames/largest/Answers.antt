use Rattle.std.proofs.Common.{ℕ, ◌+◌, ◌<◌, ◌≤◌, List, length, take, take_all, get_or, ◌∙◌, subst, arith}
use Rattle.std.specs.Prelude.{All}
use Rattle.std.proofs.lemmas.List.Elements.{All-more}
use Rattle.call_graph.proofs.SumSteps.{max_is}
use Rattle.back_end.proofs.frames.largest.Goals as goal

-- all are at most a number that is raised to one more
raised : (sizes : List ℕ) (i b b' : ℕ) → i < length sizes → All (λ (s : ℕ). s ≤ b) (take i sizes) → b ≤ b' → get_or sizes i 0 ≤ b' → All (λ (s : ℕ). s ≤ b') (take (i + 1) sizes)
raised sizes i b b' lt below more new =
    let still : All (λ (s : ℕ). s ≤ b') (take i sizes) = λ k d within. (let low = below k d within in omega (arith, low, more)) in
    All-more (λ (s : ℕ). s ≤ b') sizes i 0 lt still new

pub loop-size-preserved : goal.loop-size-preserved
loop-size-preserved c =
    let larger = c.max-largest.ensures ∙ max_is c.loop-size.largest (get_or c.args.sizes.now c.loop-size.size-index 0) in
    raised c.args.sizes.now c.loop-size.size-index c.loop-size.largest c.max-largest.result c.loop-size-test.true c.loop-size.invariant (omega (arith, larger)) (omega (arith, larger))

pub returns : goal.returns
returns c = subst (All (λ (s : ℕ). s ≤ c.loop-size.largest)) (take_all c.loop-size.size-index c.args.sizes.now c.loop-size-test.false) c.loop-size.invariant
