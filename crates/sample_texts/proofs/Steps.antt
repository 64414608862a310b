-- The turns of the loops that write a text.
use Rattle.std.proofs.Common.{◌≡◌, ◌≤◌, ℕ, suc, ◌+◌, List, ◌++◌, decimal, codes, ap, subst, ◌∙◌, append_assoc, arith}
use Rattle.sample_texts.specs.declared.draws.Numbers.{Numbers}
use Rattle.sample_texts.specs.Draws.{numbers_from, after_four, state_at, numbers_at}
use Rattle.sample_texts.specs.Texts.{each_below, function_text, functions_text, call_text}

next_part : (part : ℕ → List ℕ) (old now new : List ℕ) (n : ℕ) → now ≡ old ++ each_below part n → new ≡ now ++ part n → new ≡ old ++ each_below part (n + 1)
next_part part old now new n so_far step =
    let more : suc n ≡ n + 1 = omega arith in
    step ∙ (ap (λ t. t ++ part n) so_far ∙ (append_assoc old (each_below part n) (part n) ∙ ap (λ k. old ++ each_below part k) more))

pub function_added : (old now new : List ℕ) (seed n state : ℕ) (x : Numbers) → now ≡ old ++ functions_text seed n → state ≡ state_at seed n → x ≡ numbers_from state → new ≡ now ++ function_text x n → new ≡ old ++ functions_text seed (n + 1)
function_added old now new seed n state x so_far at is step =
    let numbers : x ≡ numbers_at seed n = is ∙ ap numbers_from at in
    next_part (λ f. function_text (numbers_at seed f) f) old now new n so_far (step ∙ ap (λ y. now ++ function_text y n) numbers)

pub state_after : (seed n state after : ℕ) → state ≡ state_at seed n → after ≡ after_four state → after ≡ state_at seed (n + 1)
state_after seed n state after at is =
    let more : suc n ≡ n + 1 = omega arith in
    is ∙ (ap after_four at ∙ ap (state_at seed) more)

pub call_added : (old now middle new : List ℕ) (n : ℕ) → now ≡ old ++ each_below call_text n → middle ≡ now ++ (codes "x=f" ++ decimal n) → new ≡ middle ++ codes "(x);P1=x;" → new ≡ old ++ each_below call_text (n + 1)
call_added old now middle new n so_far first second =
    next_part call_text old now new n so_far
    (second ∙ (ap (λ t. t ++ codes "(x);P1=x;") first ∙ append_assoc now (codes "x=f" ++ decimal n) (codes "(x);P1=x;")))

pub all_added : (P : ℕ → Type 0) (n size : ℕ) → n ≤ size → size ≤ n → P n → P size
all_added P n size h g p = let e : n ≡ size = omega arith in subst P e p
