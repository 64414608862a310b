-- The points of a graph, numbered node by node: before each operation, and before the exit.
use Rattle.std.specs.Prelude.{◌≡◌, ℕ, zero, suc, ◌+◌, ◌<◌, ◌≤◌, List, [], ◌∷◌, ◌++◌, length, drop, slice_index_or}
use Rattle.rtl.specs.Operations.{ByteOp}
use Rattle.rtl.specs.Programs.{Graph}
use Rattle.rtl.specs.Graphs.{ops_at}
use Rattle.liveness.specs.declared.points.Point.{Point}
use Rattle.liveness.specs.declared.points.Points.{Points}

abbrev pub point_at : Points → ℕ → Point
point_at points i = slice_index_or points.places.items i (record { node = 0; op = 0 })

-- how many points there are
abbrev pub count : Points → ℕ
count points = length points.places.items

-- the number of the first point of a node
abbrev pub front : Points → ℕ → ℕ
front points p = slice_index_or points.fronts.items p 0

-- the first n points of a node
abbrev pub node_points : ℕ → ℕ → List Point
node_points p zero = []
node_points p (suc k) = node_points p k ++ record { node = p; op = k } ∷ []

-- these are the points of the first m nodes
pub record ArePoints (g : Graph ℕ) (m : ℕ) (points : Points) : Type 0 where
  pub long : length points.fronts.items ≡ m
  pub each : (p k : ℕ) → p < m → k ≤ length (ops_at g p) → (front points p + k < count points) × (point_at points (front points p + k) ≡ record { node = p; op = k })
  pub only : (i : ℕ) → i < count points → ((point_at points i).node < m) × ((point_at points i).op ≤ length (ops_at g (point_at points i).node)) × (front points (point_at points i).node + (point_at points i).op ≡ i)

-- the operations that are left at a point
abbrev pub left : Graph ℕ → Point → List (ByteOp ℕ)
left g point = drop point.op (ops_at g point.node)
