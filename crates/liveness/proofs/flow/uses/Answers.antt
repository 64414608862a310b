use Rattle.std.proofs.Common.{◌≡◌, ◌<◌, sym, subst, arith}
use Rattle.std.proofs.lemmas.Grind.{common_steps}
use Rattle.liveness.specs.Code.Rows.{AreTurned}
use Rattle.liveness.specs.Code.Views.{storages_of, numbered_graph, occurrences_of}
use Rattle.liveness.specs.Code.Points.{point_at, count, left}
use Rattle.liveness.specs.Code.Flow.{AreExactly, UsesAt, IsUsed}
use Rattle.liveness.proofs.Lists.{read_is}
use Rattle.liveness.proofs.Occurring.{occurrences_next}
use Rattle.liveness.proofs.flow.uses.Goals as goal

pub loop-i-preserved : goal.loop-i-preserved
loop-i-preserved c =
    let g = numbered_graph c.args.graph.now in
    let points = c.args.points.now in
    let i = c.loop-i.i in
    let pt = c.index.result.now in
    let below : i < count points = grind (arith, common_steps) in
    let is : point_at points i ≡ pt = read_is points.places.items i pt (record { node = 0; op = 0 }) below c.index.ensures in
    let list = c.deref-in-loop-i.result.now in
    let here : AreExactly (storages_of list) (λ s. UsesAt g s pt.node (left g pt)) = subst (λ xs. AreExactly (storages_of xs) (λ s. UsesAt g s pt.node (left g pt))) (sym c.deref-in-loop-i.ensures.value) c.in_ok-list.ensures in
    let exact : AreExactly (storages_of list) (IsUsed g points i) = subst (λ z. AreExactly (storages_of list) (λ s. UsesAt g s z.node (left g z))) (sym is) here in
    record {
      few = c.in_ok-add_all.ensures.few;
      turned = occurrences_next (IsUsed g points) i (occurrences_of c.loop-i.uses) (occurrences_of c.add_all.new.self) (storages_of list) exact c.loop-i.invariant.turned c.in_ok-add_all.ensures.added;
    }

pub returns-clause-turned : goal.returns-clause-turned
returns-clause-turned c =
    let all : c.loop-i.i ≡ count c.args.points.now = grind (arith, common_steps) in
    subst (λ n. AreTurned (IsUsed (numbered_graph c.args.graph.now) c.args.points.now) n (occurrences_of c.loop-i.uses)) all c.loop-i.invariant.turned
