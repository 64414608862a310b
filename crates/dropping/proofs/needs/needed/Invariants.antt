use Rattle.std.proofs.Common.{◌≡◌, ℕ, ◌+◌, true, false, length}
use Rattle.liveness.specs.Code.Reach.{is_marked, unmarked, AreClear}
use Rattle.liveness.specs.Code.Views.{numbered_graph}
use Rattle.liveness.specs.Code.Points.{count}
use Rattle.pruned_graphs.specs.Searches.{AreSound}
use Rattle.dropping.specs.Code.Marks.{bit, first_marks}
use Rattle.dropping.specs.Code.Turns.{marks_of, AllWritersAreMarked}
use Rattle.dropping.proofs.needs.needed.Given as goal

abbrev pub invariant-loop-needed : goal.invariant-loop-needed
invariant-loop-needed l = record {
  reached : AreClear l.scratch.reached.items (count l.flow.points);
  walls : AreClear l.scratch.walls.items (count l.flow.points);
  long : length l.needed.marks.items ≡ count l.flow.points;
  begun : (j : ℕ) → is_marked (first_marks (numbered_graph l.graph) l.flow.points) j ≡ true → is_marked l.needed.marks.items j ≡ true;
  sound : AreSound 0 (numbered_graph l.graph) (marks_of (numbered_graph l.graph) l.flow.points l.needed.marks.items);
  whole : l.needed.changed ≡ false → AllWritersAreMarked (numbered_graph l.graph) (marks_of (numbered_graph l.graph) l.flow.points l.needed.marks.items);
}

abbrev pub decreases-loop-needed : goal.decreases-loop-needed
decreases-loop-needed l = unmarked l.needed.marks.items + bit l.needed.changed
