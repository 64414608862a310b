use Rattle.std.proofs.Common.{ℕ, ◌≤◌, take}
use Rattle.std.specs.Prelude.{All}
use Rattle.back_end.proofs.frames.largest.Given as goal

abbrev pub invariant-loop-size : goal.invariant-loop-size
invariant-loop-size l = All (λ (s : ℕ). s ≤ l.largest) (take l.size-index l.sizes)
