use Rattle.std.proofs.Common.{◌≡◌, ℕ, ◌||◌, drop, nat_eq}
use Rattle.clight_typing.specs.Statements.{is_among}
use Rattle.indexmap.specs.IndexSet.{contains}
use Rattle.clight_typing.proofs.taken.set_of.Given as goal

abbrev pub invariant-loop-x : goal.invariant-loop-x
invariant-loop-x l = (n : ℕ) → contains nat_eq l.set n || is_among (drop l.x-index l.xs) n ≡ is_among l.xs n
