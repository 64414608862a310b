-- Marks of the points of a graph, and how they grow.
use Rattle.std.specs.Prelude.{◌≡◌, ℕ, suc, ◌+◌, ◌<◌, ◌≤◌, ◌⊎◌, List, [], ◌∷◌, length, map, Bool, true, false, if◌then◌else◌}
use Rattle.rtl.specs.Operations.{ByteOp, Store, ReadPort, WritePort}
use Rattle.rtl.specs.Programs.{Graph}
use Rattle.liveness.specs.declared.points.Point.{Point}
use Rattle.liveness.specs.declared.points.Points.{Points}
use Rattle.liveness.specs.Code.Reach.{is_marked, unmarked}
use Rattle.liveness.specs.Code.Points.{point_at, left}
use Rattle.dropping.specs.declared.marks.Needed.{Needed}

-- ---- the first marks

-- an operation that does more than write
abbrev pub is_deed : ByteOp ℕ → Bool
is_deed (Store l h ss) = true
is_deed (ReadPort d) = true
is_deed (WritePort s) = true
is_deed _ = false

-- where these operations are left there is an exit, or such an operation
abbrev pub begins : List (ByteOp ℕ) → Bool
begins [] = true
begins (op ∷ ops) = is_deed op

abbrev pub first_marks : Graph ℕ → Points → List Bool
first_marks g points = map (λ (point : Point). begins (left g point)) points.places.items

-- ---- more marks

abbrev pub bit : Bool → ℕ
bit b = if b then 1 else 0

-- Marks stay, and where one is new, that is told.
pub record HasGrown (old new : Needed) : Type 0 where
  pub long : length new.marks.items ≡ length old.marks.items
  pub kept : (j : ℕ) → is_marked old.marks.items j ≡ true → is_marked new.marks.items j ≡ true
  pub same : new.changed ≡ false → (old.changed ≡ false) × (new.marks.items ≡ old.marks.items)
  pub less : unmarked new.marks.items + bit new.changed ≤ unmarked old.marks.items + bit old.changed

-- the point j is a wall, and an operation that comes right before a point of which P holds
abbrev pub ComesBefore : Points → List Bool → (ℕ → Type 0) → ℕ → Type 0
ComesBefore points walls P j = P (suc j) × (0 < (point_at points (suc j)).op) × (is_marked walls j ≡ true)

-- such points are marked, and beside them those that were so
pub record AreMarkedBefore (points : Points) (walls : List Bool) (P : ℕ → Type 0) (old new : List Bool) : Type 0 where
  pub kept : (j : ℕ) → is_marked old j ≡ true → is_marked new j ≡ true
  pub added : (j : ℕ) → ComesBefore points walls P j → is_marked new j ≡ true
  pub only : (j : ℕ) → is_marked new j ≡ true → (is_marked old j ≡ true) ⊎ ComesBefore points walls P j
