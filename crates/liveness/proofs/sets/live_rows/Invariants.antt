use Rattle.std.proofs.Common.{◌≡◌, ℕ, ◌<◌, length}
use Rattle.rtl.specs.Programs.{Graph}
use Rattle.rtl.specs.Effects.{Loc}
use Rattle.rtl.specs.Liveness.{AreRising}
use Rattle.liveness.specs.Code.Rows.{ways_of, AreTurned}
use Rattle.liveness.specs.Code.Reach.{AreClear}
use Rattle.liveness.specs.Code.Points.{count}
use Rattle.liveness.specs.Code.Flow.{IsFlow, IsLive}
use Rattle.liveness.proofs.sets.live_rows.Given as goal

abbrev pub invariant-loop-v : goal.invariant-loop-v
invariant-loop-v l = record {
  long : length l.rows.items ≡ count l.flow.points;
  reached : AreClear l.marks.reached.items (count l.flow.points);
  walls : AreClear l.marks.walls.items (count l.flow.points);
  turned : (g : Graph ℕ) → IsFlow g l.flow → AreTurned (λ v i. (i < count l.flow.points) × IsLive g l.flow.points i (Loc v)) l.v (ways_of l.rows.items);
  rising : (i : ℕ) → AreRising (ways_of l.rows.items i);
}
