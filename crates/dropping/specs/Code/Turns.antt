-- What the marks of points tell of operations, and what they are in the end.
use Rattle.std.specs.Prelude.{◌≡◌, ℕ, ◌+◌, ◌-◌, ◌<◌, ◌↔◌, List, [], ◌∷◌, length, Bool, true, IsTrue}
use Rattle.rtl.specs.Operations.{ByteOp}
use Rattle.rtl.specs.Programs.{Graph}
use Rattle.rtl.specs.Effects.{Storage, writes}
use Rattle.rtl.specs.Graphs.{ops_at}
use Rattle.rtl.specs.Liveness.{IsAmong, IsPoint}
use Rattle.rtl.specs.StrongLiveness.{IsNeeded}
use Rattle.liveness.specs.declared.points.Points.{Points}
use Rattle.liveness.specs.Code.Reach.{is_marked}
use Rattle.liveness.specs.Code.Points.{point_at, count, front, left}
use Rattle.pruned_graphs.specs.Searches.{Marks, LiveBy}

-- the mark of the point at which these operations are left in a node
abbrev pub marks_of : Graph ℕ → Points → List Bool → Marks
marks_of g points marks p ops = is_marked marks (front points p + (length (ops_at g p) - length ops))

abbrev pub ExitsAreMarked : Graph ℕ → Points → List Bool → Type 0
ExitsAreMarked g points marks = (i : ℕ) → i < count points → left g (point_at points i) ≡ [] → is_marked marks i ≡ true

-- each operation is marked that writes s where it is live by the marks
abbrev pub WritersAreMarked : Graph ℕ → Storage → Marks → Type 0
WritersAreMarked g s marked = (p : ℕ) (op : ByteOp ℕ) (ops : List (ByteOp ℕ)) → IsPoint g p (op ∷ ops) → IsAmong s (writes op) → LiveBy 0 g marked s p ops → IsTrue (marked p (op ∷ ops))

abbrev pub AllWritersAreMarked : Graph ℕ → Marks → Type 0
AllWritersAreMarked g marked = (s : Storage) → WritersAreMarked g s marked

-- the marks of operations tell which are needed
abbrev pub AreNeeded : Graph ℕ → Points → List Bool → Type 0
AreNeeded g points marks = (p : ℕ) (op : ByteOp ℕ) (ops : List (ByteOp ℕ)) → IsPoint g p (op ∷ ops) → IsTrue (marks_of g points marks p (op ∷ ops)) ↔ IsNeeded 0 g p op ops
