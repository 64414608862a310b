use Rattle.std.proofs.Common.{◌≡◌, ◌<◌, length, Some, None, sym, ap, ◌∙◌, arith}
use Rattle.std.proofs.lemmas.Grind.{common_steps}
use Rattle.std.proofs.lemmas.List.{length-map}
use Rattle.lin_gen.specs.Code.Placing.{is_marked}
use Rattle.lin_gen.specs.Ordering.{follower_of}
use Rattle.rtl.specs.Code.Views.{graph_of, node_of}
use Rattle.rtl.specs.Graphs.{exit_at}
use Rattle.lin_gen.proofs.Following.{follower_within}
use Rattle.lin_gen.proofs.PlacingSteps.{none_marked, seen_none, seen_more, seen_same, all_seen}
use Rattle.lin_gen.proofs.placing.followers.Goals as goal
use Rattle.lin_gen.proofs.placing.followers.Goals.{in-Some, in_default}

pub index_mut-requires : goal.index_mut-requires
index_mut-requires c =
    let needs : follower_of (exit_at (graph_of c.args.graph.now) c.loop-p.p) ≡ Some c.in-Some.q = cc in
    let lt = follower_within (graph_of c.args.graph.now) c.requires.named c.loop-p.p c.in-Some.q needs in
    let long = c.loop-p.invariant.long in
    let lt' : c.in-Some.q < length c.loop-p.marks.items = omega arith in
    grind (arith, common_steps)

pub loop-p-init : goal.loop-p-init
loop-p-init c =
    let none = c.in_ok-marks.ensures.items_if_clones_equal (λ y e. e) in
    let all = ap length c.as_slice-count.ensures in
    let long : length c.in_ok-marks.marks.items ≡ length c.args.graph.now.nodes = grind (arith, common_steps) in
    seen_none (graph_of c.args.graph.now) c.in_ok-marks.marks.items (long ∙ sym (length-map c.args.graph.now.nodes node_of))
    (λ i. ap (λ z. is_marked z i) none ∙ none_marked _ i)

pub loop-p-preserved : goal.loop-p-preserved
loop-p-preserved c =
    elim c.match-follower.branch [
      | in-Some w ↦
          let needs : follower_of (exit_at (graph_of c.args.graph.now) c.loop-p.p) ≡ Some w.in-Some.q = cc in
          let lt = follower_within (graph_of c.args.graph.now) c.requires.named c.loop-p.p w.in-Some.q needs in
          seen_more (graph_of c.args.graph.now) c.loop-p.marks.items c.match-follower.marks.items c.loop-p.p w.in-Some.q c.loop-p.invariant needs lt (ap (λ v. v.items) w.marks-is)
      | in_default w ↦
          let none : follower_of (exit_at (graph_of c.args.graph.now) c.loop-p.p) ≡ None = cc in
          seen_same (graph_of c.args.graph.now) c.loop-p.marks.items c.match-follower.marks.items c.loop-p.p c.loop-p.invariant none (ap (λ v. v.items) w.marks-is)
    ]

pub returns : goal.returns
returns c =
    let k = length-map c.args.graph.now.nodes node_of in
    let all = ap length c.as_slice-count.ensures in
    all_seen (graph_of c.args.graph.now) c.loop-p.marks.items c.loop-p.p (omega arith) c.loop-p.invariant
