use Rattle.std.proofs.Common.{◌≡◌, ℕ, ◌≤◌, false, length}
use Rattle.rtl.specs.Programs.{Graph}
use Rattle.liveness.specs.Code.Reach.{AreClear}
use Rattle.liveness.specs.Code.Points.{count}
use Rattle.liveness.specs.Code.Flow.{IsFlow}
use Rattle.pruned_graphs.specs.Searches.{AreSound}
use Rattle.dropping.specs.Code.Marks.{HasGrown}
use Rattle.dropping.specs.Code.Turns.{marks_of, ExitsAreMarked}
use Rattle.dropping.proofs.Rounds.{FromOn}
use Rattle.dropping.proofs.turns.round.Given as goal

abbrev pub invariant-loop-v : goal.invariant-loop-v
invariant-loop-v l = record {
  few : l.v ≤ length l.flow.uses.vregs.items;
  reached : AreClear l.scratch.reached.items (count l.flow.points);
  walls : AreClear l.scratch.walls.items (count l.flow.points);
  grown : HasGrown l.fn.needed l.needed;
  sound : (g : Graph ℕ) → IsFlow g l.flow → ExitsAreMarked g l.flow.points l.fn.needed.marks.items → AreSound 0 g (marks_of g l.flow.points l.fn.needed.marks.items) → AreSound 0 g (marks_of g l.flow.points l.needed.marks.items);
  whole : l.needed.changed ≡ false → (g : Graph ℕ) (is : IsFlow g l.flow) → ExitsAreMarked g l.flow.points l.fn.needed.marks.items → FromOn g l.flow is l.v l.needed.marks.items;
}

abbrev pub decreases-loop-v : goal.decreases-loop-v
decreases-loop-v l = l.v
