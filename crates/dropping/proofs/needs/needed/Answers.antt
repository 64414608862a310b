use Rattle.std.proofs.Common.{◌≡◌, length, sym, ap, ◌∙◌, subst, arith}
use Rattle.std.proofs.lemmas.Grind.{common_steps}
use Rattle.liveness.specs.Code.Reach.{is_marked, AreClear}
use Rattle.liveness.specs.Code.Views.{numbered_graph}
use Rattle.liveness.specs.Code.Points.{count}
use Rattle.liveness.proofs.Reaching.{true_false, clear_new}
use Rattle.pruned_graphs.specs.Searches.{AreSound}
use Rattle.dropping.specs.Code.Turns.{marks_of, ExitsAreMarked}
use Rattle.dropping.proofs.Finding.{first_long, first_sound, exits_first, are_needed}
use Rattle.dropping.proofs.needs.needed.Goals as goal

pub loop-needed-init : goal.loop-needed-init
loop-needed-init c =
    let g = numbered_graph c.args.graph.now in
    let points = c.args.flow.now.points in
    let first = c.in_ok-first_marks.ensures in
    let e : c.len-count.result ≡ count points = grind (arith, common_steps) in
    record {
      reached = subst (AreClear c.in_ok-vec.field-0.items) e (clear_new c.in_ok-vec.field-0.items c.len-count.result (c.in_ok-vec.ensures.items_if_clones_equal (λ y h. h)));
      walls = subst (AreClear c.in_ok-vec-2.field-0.items) e (clear_new c.in_ok-vec-2.field-0.items c.len-count.result (c.in_ok-vec-2.ensures.items_if_clones_equal (λ y h. h)));
      long = ap length first ∙ first_long g points c.requires.points;
      begun = λ j h. ap (λ m. is_marked m j) first ∙ h;
      sound = subst (λ m. AreSound 0 g (marks_of g points m)) (sym first) (first_sound g points c.requires.points);
      whole = λ h. absurd (true_false (sym h));
    }

pub loop-needed-preserved : goal.loop-needed-preserved
loop-needed-preserved c =
    let g = numbered_graph c.args.graph.now in
    let points = c.args.flow.now.points in
    let done = c.in_ok-round.ensures in
    let inv = c.loop-needed.invariant in
    let exits : ExitsAreMarked g points c.loop-needed.needed.marks.items = λ i lt h. inv.begun i (exits_first g points c.requires.points i lt h) in
    record {
      reached = done.reached;
      walls = done.walls;
      long = done.grown.long ∙ inv.long;
      begun = λ j h. done.grown.kept j (inv.begun j h);
      sound = done.sound g c.requires exits inv.sound;
      whole = λ none. done.whole none g c.requires exits;
    }

pub returns : goal.returns
returns c =
    let inv = c.loop-needed.invariant in
    are_needed (numbered_graph c.args.graph.now) c.args.flow.now.points c.requires.points c.loop-needed.needed.marks.items inv.begun inv.sound (inv.whole c.loop-needed-test.false)
