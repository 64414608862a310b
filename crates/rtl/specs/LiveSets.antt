-- How the live sets of a graph are written down: for each node, what is live before each of its operations and before its exit
-- (Appel, Modern Compiler Implementation, chapter 10).
use Rattle.std.specs.Prelude.{ℕ, ◌<◌, List, [], length, Bool, false, slice_index_or}
use Rattle.rtl.specs.declared.locations.Vreg.{Vreg}
use Rattle.rtl.specs.declared.live_sets.LivePoint.{LivePoint}
use Rattle.rtl.specs.declared.live_sets.LiveSets.{LiveSets}

-- the points of a node
abbrev pub points_of : LiveSets → ℕ → List LivePoint
points_of sets p = slice_index_or sets.nodes p []

-- nothing is live
abbrev pub nothing_live : LivePoint
nothing_live = record { vregs = []; carry = false }

abbrev pub point_of : LiveSets → ℕ → ℕ → LivePoint
point_of sets p k = slice_index_or (points_of sets p) k nothing_live

-- there is such a node, and it has such a point
abbrev pub HasPoint : LiveSets → ℕ → ℕ → Type 0
HasPoint sets p k = (p < length sets.nodes) × (k < length (points_of sets p))

abbrev pub vregs_before : LiveSets → ℕ → ℕ → List Vreg
vregs_before sets p k = (point_of sets p k).vregs

abbrev pub carry_before : LiveSets → ℕ → ℕ → Bool
carry_before sets p k = (point_of sets p k).carry
