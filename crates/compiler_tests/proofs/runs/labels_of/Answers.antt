use Rattle.std.proofs.Common.{ℕ, List, get_or, nat_eq, ◌∙◌, arith}
use Rattle.std.specs.List.{IsDistinct}
use Rattle.std.proofs.lemmas.Bool.{ne_eqb}
use Rattle.std.proofs.lemmas.List.{get_or_default}
use Rattle.std.proofs.lemmas.Map.Keys.{IsDistinct-from_apart}
use Rattle.object_hex.specs.MapMeaning.{AreDistinct}
use Rattle.compiler_tests.proofs.runs.labels_of.Goals as goal

-- addresses that differ pairwise, in the words of `Machine::load`
distinct : (addresses : List ℕ) → AreDistinct addresses → IsDistinct nat_eq addresses
distinct addresses apart =
    IsDistinct-from_apart nat_eq addresses
    (λ i j d before within.
    ne_eqb (get_or addresses i d) (get_or addresses j d)
    (λ e. apart i j before within (get_or_default addresses i 0 d (omega arith) ∙ (e ∙ get_or_default addresses j d 0 within))))

pub returns-in-Ok : goal.returns-in-Ok
returns-in-Ok c = record { distinct = distinct c.in-Ok.labels c.in-Ok.ensures.answer.right.apart }
