use Rattle.std.proofs.Common.{◌≡◌, ℕ, ◌<◌, ◌↔◌, [], length, sym, ap, ◌∙◌, subst, arith}
use Rattle.cerco_traces.specs.LabelledGraphs.{In}
use Rattle.rtl.specs.Effects.{Loc}
use Rattle.std.proofs.lemmas.Grind.{common_steps}
use Rattle.liveness.specs.Code.Rows.{ways_of, AllBelow, AddedTo, AreTurned}
use Rattle.liveness.specs.Code.Reach.{Reached, AreClear}
use Rattle.liveness.specs.Code.Views.{numbered_graph, occurrences_of}
use Rattle.liveness.specs.Code.Flow.{IsWritten}
use Rattle.liveness.proofs.Nodes.{nodes_long}
use Rattle.liveness.proofs.Turned.{turned_next, added_as}
use Rattle.liveness.proofs.WrittenNodes.{written_exact, calm_below}
use Rattle.liveness.proofs.written.written.Goals as goal

pub reach-requires-clause-seeds : goal.reach-requires-clause-seeds
reach-requires-clause-seeds c =
    let long : length c.deref.result.now ≡ length c.args.graph.now.nodes = ap length c.deref.ensures.value ∙ c.in_ok-ways.ensures.long in
    λ x h. subst (λ n. x < n) (sym long) (c.in_ok-writers.ensures.only (Loc c.loop-a.a) x (subst (In x) c.of.ensures h)).0

pub reach-requires-clause-ways : goal.reach-requires-clause-ways
reach-requires-clause-ways c =
    let g = c.args.graph.now in
    let ways = c.in_ok-ways.ways.items in
    let made = c.in_ok-ways.ensures in
    subst (λ z. (i : ℕ) → AllBelow (ways_of z i) (length z)) (sym c.deref.ensures.value)
    (λ i. subst (AllBelow (ways_of ways i)) (sym made.long) (calm_below (numbered_graph g) (length g.nodes) ways made.long made.each i))

pub reach-requires-clause-clear : goal.reach-requires-clause-clear
reach-requires-clause-clear c = subst (AreClear c.loop-a.marks.items) (sym (ap length c.deref.ensures.value ∙ c.in_ok-ways.ensures.long)) c.loop-a.invariant.clear

pub add_to_each-requires : goal.add_to_each-requires
add_to_each-requires c =
    let long : length c.deref.result.now ≡ length c.loop-a.rows.items = ap length c.deref.ensures.value ∙ c.in_ok-ways.ensures.long ∙ sym c.loop-a.invariant.long in
    subst (AllBelow c.deref-in-loop-a.result.now) long (subst (λ r. AllBelow r (length c.deref.result.now)) (sym c.deref-in-loop-a.ensures.value) c.in_ok-reached.ensures.below)

pub loop-a-preserved : goal.loop-a-preserved
loop-a-preserved c =
    let graph = c.args.graph.now in
    let g = numbered_graph graph in
    let n = length graph.nodes in
    let a = c.loop-a.a in
    let occurs = occurrences_of c.in_ok-writers.writers in
    let ways = c.in_ok-ways.ways.items in
    let rows = ways_of c.loop-a.rows.items in
    let new = ways_of c.add_to_each.new.ways.items in
    let list = c.in_ok-reached.reached.items in
    let seeded : (i : ℕ) → In i list ↔ Reached (occurs (Loc a)) (ways_of c.deref.result.now) [] i = subst (λ r. (i : ℕ) → In i list ↔ Reached r (ways_of c.deref.result.now) [] i) c.of.ensures c.in_ok-reached.ensures.exact in
    let exact : (i : ℕ) → In i list ↔ Reached (occurs (Loc a)) (ways_of ways) [] i = subst (λ z. (i : ℕ) → In i list ↔ Reached (occurs (Loc a)) (ways_of z) [] i) c.deref.ensures.value seeded in
    let are = written_exact g n a occurs (ways_of ways) list (nodes_long graph) c.in_ok-writers.ensures c.in_ok-ways.ensures.each exact in
    let added : AddedTo rows (λ x. In x list) a new = subst (λ r. AddedTo rows (λ x. In x r) a new) c.deref-in-loop-a.ensures.value c.in_ok-add_to_each.ensures.added in
    record {
      long = c.in_ok-add_to_each.ensures.long ∙ c.loop-a.invariant.long;
      clear = subst (AreClear c.reach.new.marks.items) (ap length c.deref.ensures.value ∙ c.in_ok-ways.ensures.long) c.in_ok-reached.ensures.clear;
      turned = turned_next (IsWritten g n) a rows new c.loop-a.invariant.turned (added_as rows new (λ x. In x list) (IsWritten g n a) a (λ x. (are x).0) (λ x. (are x).1) added);
    }

pub returns : goal.returns
returns c =
    let g = c.args.graph.now in
    let all : c.loop-a.a ≡ 12 = grind (arith, common_steps) in
    subst (λ n. AreTurned (IsWritten (numbered_graph g) (length g.nodes)) n (ways_of c.loop-a.rows.items)) all c.loop-a.invariant.turned
