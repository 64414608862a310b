-- The limits within which a laid-out program stays: its data have addresses of external RAM, its call paths are short, and what its
-- functions need of registers and cells has a largest sum along a call path (the limits are the compiler's own; call graphs are those of
-- Ryder, 1979).
use Rattle.std.specs.Prelude.{◌≡◌, ℕ, ◌≤◌, List, length, map, Some, slice_get}
use Rattle.call_graph.specs.CallPaths.{CallsIn, IsCallPath, IsLargestSum}
use Rattle.clight_syntax.specs.Bounds.{register_need}
use Rattle.clight_syntax.specs.TypedTrees.{Function, TypedProgram}

-- these functions, of which the first may be any one and each other one is called by the one before it, are a path of the program's calls
abbrev pub IsPathOf : {L : Type 0} → TypedProgram L → List ℕ → Type 0
IsPathOf p path = IsCallPath (length p.functions) (CallsIn p.calls) path

-- where each function needs so many bytes, a call path needs this many at most
abbrev pub IsLargestNeed : {L : Type 0} → TypedProgram L → List ℕ → ℕ → Type 0
IsLargestNeed p needs n = IsLargestSum (length p.functions) (CallsIn p.calls) needs n

-- the bytes of registers and cells that the source allows for
abbrev pub IsRoom : {L : Type 0} → TypedProgram L → ℕ → Type 0
IsRoom p room = IsLargestNeed p (map (register_need p) p.functions) room

-- function by function, no more is needed than the source allows for
pub record AreWithinNeeds {L : Type 0} (p : TypedProgram L) (needs : List ℕ) : Type 0 where
  pub count : length needs ≡ length p.functions
  pub each : (i : ℕ) (f : Function L) (need : ℕ) → slice_get p.functions i ≡ Some f → slice_get needs i ≡ Some need → need ≤ register_need p f

pub record IsWithinLimits {L : Type 0} (p : TypedProgram L) : Type 0 where
  -- address 0 is null, and data are from 1 on
  pub bytes : p.data_bytes ≤ 65534
  pub paths : (path : List ℕ) → IsPathOf p path → length path ≤ 64
  -- there is one room
  pub room : (room : ℕ) × IsRoom p room
  pub one_room : (a b : ℕ) → IsRoom p a → IsRoom p b → a ≡ b
  -- what is needed has a largest sum, which is within the room
  pub needs : (needs : List ℕ) → AreWithinNeeds p needs → (n : ℕ) × IsLargestNeed p needs n × ((room : ℕ) → IsRoom p room → n ≤ room)
