-- The layout of a program in external RAM, of which address 0 is null. The globals lie from 1 on. The frame of a function begins
-- behind them and behind the largest sum of frames over a call path that leads to it, so it overlaps no frame that is still in use.
use Rattle.std.specs.Prelude.{◌≡◌, ℕ, ◌+◌, ◌<◌, ◌≤◌, List, length, map, replicate, slice_index}
use Rattle.cerco_base.specs.CallOrder.{Called}
use Rattle.call_graph.specs.CallPaths.{Calls, IsOnCycle, IsLargestSum, IsLargestSumBefore, IsOrderOf}
use Rattle.clight_syntax.specs.TypedTrees.{TypedProgram}
use Rattle.clight_layout.specs.declared.sizes.Area.TheVariants.{Globals}
use Rattle.clight_layout.specs.Calls.{callees}
use Rattle.clight_layout.specs.Frames.{bytes_of, frame_bytes, placed, with_frames}

-- how many functions a call path may have
abbrev pub greatest_depth : ℕ
greatest_depth = 64

-- how many bytes the globals and the frames of a call path may have
abbrev pub greatest_data : ℕ
greatest_data = 65534

abbrev pub HasNoCycle : List (List ℕ) → Type 0
HasNoCycle callees = (f : ℕ) → IsOnCycle (length callees) (Calls callees) f → ⊥

-- the longest call path has so many functions
abbrev pub IsDepth : List (List ℕ) → ℕ → Type 0
IsDepth callees n = IsLargestSum (length callees) (Calls callees) (replicate (length callees) 1) n

abbrev pub global_bytes : {L : Type 0} → TypedProgram L → ℕ
global_bytes p = bytes_of Globals p.structs p.variables

abbrev pub frame_sizes : {L : Type 0} → TypedProgram L → List ℕ
frame_sizes p = map (frame_bytes p.structs p.variables) p.functions

-- the globals and the largest frames of a call path have so many bytes
pub record IsTotal {L : Type 0} (p : TypedProgram L) (total : ℕ) : Type 0 where
  pub largest : ℕ
  pub is_largest : IsLargestSum (length (callees p.functions)) (Calls (callees p.functions)) (frame_sizes p) largest
  pub is : total ≡ global_bytes p + largest

-- the frame of function f begins at this address
pub record IsStart {L : Type 0} (p : TypedProgram L) (f at : ℕ) : Type 0 where
  pub before : ℕ
  pub is_largest : IsLargestSumBefore (length (callees p.functions)) (Calls (callees p.functions)) (frame_sizes p) f before
  pub is : at ≡ 1 + global_bytes p + before

-- a program with its frames from these addresses on, with so many bytes in all, and with its calls in this order
abbrev pub laid_out : {L : Type 0} → TypedProgram L → List ℕ → ℕ → List Called → TypedProgram L
laid_out p starts total calls = record p {
  variables = with_frames p.structs p.functions starts (placed Globals p.structs 1 p.variables);
  frames = starts;
  data_bytes = total;
  calls = calls;
}

-- q is p with its layout and the order of its calls
pub record IsLayout {L : Type 0} (p q : TypedProgram L) : Type 0 where
  pub order : IsOrderOf (callees p.functions) q.calls
  pub no_cycle : HasNoCycle (callees p.functions)
  pub depth : (n : ℕ) × IsDepth (callees p.functions) n × (n ≤ greatest_depth)
  pub count : length q.frames ≡ length p.functions
  pub starts : (f : ℕ) → f < length p.functions → IsStart p f (slice_index q.frames f)
  pub total : IsTotal p q.data_bytes
  pub fits : q.data_bytes ≤ greatest_data
  pub program : q ≡ laid_out p q.frames q.data_bytes q.calls
