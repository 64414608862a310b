-- The marks of the operations of a node, by their numbers.
use Rattle.std.specs.Prelude.{ℕ, ◌+◌, List, Bool}
use Rattle.liveness.specs.declared.points.Points.{Points}
use Rattle.liveness.specs.Code.Reach.{is_marked}
use Rattle.liveness.specs.Code.Points.{front}

-- the marks from one on
abbrev pub marked_from : List Bool → ℕ → ℕ → Bool
marked_from marks from k = is_marked marks (from + k)

-- the marks of each node, from its first point on
abbrev pub marked_at : Points → List Bool → ℕ → ℕ → Bool
marked_at points marks p = marked_from marks (front points p)
