-- The points of a graph at which something is used, written or goes on, one by one.
use Rattle.std.specs.Prelude.{◌≡◌, ℕ, zero, suc, ◌+◌, ◌<◌, ◌≤◌, ◌^◌, List, [], ◌∷◌, ◌++◌, length, map, slice_index_or, Bool, true, nat_lt, if◌then◌else◌, ◌↔◌}
use Rattle.rtl.specs.Operations.{ByteOp}
use Rattle.rtl.specs.declared.graphs.Exit.{Exit}
use Rattle.rtl.specs.declared.graphs.Exit.TheVariants.{Next, Test, Call, Label, Return}
use Rattle.rtl.specs.declared.live_sets.LivePoint.{LivePoint}
use Rattle.rtl.specs.Locations.{vreg_number}
use Rattle.rtl.specs.LiveSets.{nothing_live}
use Rattle.rtl.specs.Programs.{Graph}
use Rattle.rtl.specs.Effects.{Storage, Loc, Carry, reads, writes}
use Rattle.rtl.specs.Graphs.{exit_at}
use Rattle.rtl.specs.WellFormed.{gathered}
use Rattle.rtl.specs.Liveness.{IsAmong, GoesTo, WrittenBefore, Uses, Overwrites, Live, AreRising}
use Rattle.liveness.specs.declared.points.Points.{Points}
use Rattle.liveness.specs.declared.flow.Flow.{Flow}
use Rattle.liveness.specs.declared.ways.Ways.{Ways}
use Rattle.liveness.specs.Code.Reach.{is_marked}
use Rattle.liveness.specs.Code.Rows.{ways_of, AreTurned}
use Rattle.liveness.specs.Code.Views.{occurrences_of}
use Rattle.liveness.specs.Code.Points.{point_at, count, front, left, ArePoints}

-- ---- nodes

-- what these operations write
abbrev pub all_writes : List (ByteOp ℕ) → List Storage
all_writes ops = gathered writes ops

-- a node, where there are more than q
abbrev pub within : ℕ → ℕ → List ℕ
within q n = if nat_lt q n then q ∷ [] else []

-- the nodes after an exit, of n that there are
abbrev pub after : Exit ℕ → ℕ → List ℕ
after (Next q) n = within q n
after (Test v true_arm false_arm) n = within true_arm n ++ within false_arm n
after (Call f q) n = within q n
after (Label l q) n = within q n
after Return n = []

-- the same, but none after a call
abbrev pub calmly_after : Exit ℕ → ℕ → List ℕ
calmly_after (Call f q) n = []
calmly_after e n = after e n

-- the first n virtual registers
abbrev pub places_below : ℕ → List Storage
places_below zero = []
places_below (suc n) = places_below n ++ Loc n ∷ []

-- what an exit writes
abbrev pub overwritten : Exit ℕ → List Storage
overwritten (Call f q) = places_below 12 ++ Carry ∷ []
overwritten e = []

-- what an exit uses, where these argument places were written
abbrev pub used : Exit ℕ → List ℕ → List Storage
used (Test v true_arm false_arm) written = Loc v ∷ []
used (Call f q) written = map Loc written
used Return written = map Loc written
used e written = []

-- these are the storages of which P holds
abbrev pub AreExactly : List Storage → (Storage → Type 0) → Type 0
AreExactly xs P = (s : Storage) → IsAmong s xs ↔ P s

-- the argument place a was written where the exit of the node p is reached
abbrev pub IsWritten : Graph ℕ → ℕ → ℕ → ℕ → Type 0
IsWritten g n a p = (p < n) × WrittenBefore g (Loc a) p []

-- ---- points

-- s is used where these operations are left
abbrev pub UsesAt : Graph ℕ → Storage → ℕ → List (ByteOp ℕ) → Type 0
UsesAt g s p [] = Uses 0 (exit_at g p) g p s
UsesAt g s p (op ∷ ops) = IsAmong s (reads op)

-- s is written there
abbrev pub StopsAt : Graph ℕ → Storage → ℕ → List (ByteOp ℕ) → Type 0
StopsAt g s p [] = Overwrites 0 (exit_at g p) s
StopsAt g s p (op ∷ ops) = IsAmong s (writes op)

-- the point j comes after the point i, at which these operations are left
abbrev pub LeadsAt : Graph ℕ → Points → ℕ → ℕ → ℕ → List (ByteOp ℕ) → Type 0
LeadsAt g points i j p [] = (q : ℕ) × (q < length points.fronts.items) × GoesTo (exit_at g p) q × (front points q ≡ j)
LeadsAt g points i j p (op ∷ ops) = suc i ≡ j

abbrev pub IsUsed : Graph ℕ → Points → ℕ → Storage → Type 0
IsUsed g points i s = UsesAt g s (point_at points i).node (left g (point_at points i))

abbrev pub IsStopped : Graph ℕ → Points → ℕ → Storage → Type 0
IsStopped g points i s = StopsAt g s (point_at points i).node (left g (point_at points i))

abbrev pub LeadsOn : Graph ℕ → Points → ℕ → ℕ → Type 0
LeadsOn g points i j = LeadsAt g points i j (point_at points i).node (left g (point_at points i))

abbrev pub IsLive : Graph ℕ → Points → ℕ → Storage → Type 0
IsLive g points i s = Live 0 g s (point_at points i).node (left g (point_at points i))

-- the tables of a graph: its points, the ways to each of them, and at which of them something is used or written
pub record IsFlow (g : Graph ℕ) (flow : Flow) : Type 0 where
  pub points : ArePoints g (length g.nodes) flow.points
  pub back : AreTurned (LeadsOn g flow.points) (count flow.points) (ways_of flow.back.items)
  pub long : length flow.back.items ≡ count flow.points
  pub uses : AreTurned (IsUsed g flow.points) (count flow.points) (occurrences_of flow.uses)
  pub few : length flow.uses.vregs.items ≤ 2 ^ 32
  pub stops : AreTurned (IsStopped g flow.points) (count flow.points) (occurrences_of flow.stops)

abbrev pub HasGraph : Flow → Type 0
HasGraph flow = (g : Graph ℕ) × IsFlow g flow

-- ---- live sets

-- the rows and marks of all points
pub record AreRowsOf (g : Graph ℕ) (flow : Flow) (rows : List Ways) (carry : List Bool) : Type 0 where
  pub vregs : AreTurned (λ v i. (i < count flow.points) × IsLive g flow.points i (Loc v)) (length flow.uses.vregs.items) (ways_of rows)
  pub rising : (i : ℕ) → AreRising (ways_of rows i)
  pub carry_live : (i : ℕ) → is_marked carry i ≡ true ↔ ((i < count flow.points) × IsLive g flow.points i Carry)

-- the set of a point is the row, and the carry is live there where it is marked
pub record IsRow (rows : List Ways) (carry : List Bool) (i : ℕ) (point : LivePoint) : Type 0 where
  pub vregs : map vreg_number point.vregs ≡ ways_of rows i
  pub carry_is : point.carry ≡ is_marked carry i

-- the same of n points from one on
pub record AreRows (rows : List Ways) (carry : List Bool) (from n : ℕ) (points : List LivePoint) : Type 0 where
  pub long : length points ≡ n
  pub each : (k : ℕ) → k < n → IsRow rows carry (from + k) (slice_index_or points k nothing_live)
