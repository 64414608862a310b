use Rattle.std.proofs.Common.{◌≡◌, ◌<◌, ◌++◌, length, Some, slice_get, refl, sym, ap, ◌∙◌, subst, arith}
use Rattle.std.proofs.lemmas.Grind.{common_steps}
use Rattle.std.proofs.lemmas.Option.{slice_get_read}
use Rattle.rtl.specs.declared.locations.Vreg.{Vreg}
use Rattle.rtl.specs.declared.graphs.Node.{Node as WrittenNode}
use Rattle.rtl.specs.Graphs.{ops_at}
use Rattle.rtl.specs.Liveness.{IsAmong}
use Rattle.liveness.specs.Code.Rows.{AreTurned}
use Rattle.liveness.specs.Code.Views.{storages_of, numbered_ops, numbered_graph, occurrences_of}
use Rattle.liveness.specs.Code.Flow.{all_writes, AreExactly}
use Rattle.liveness.proofs.Nodes.{ops_is}
use Rattle.liveness.proofs.Occurring.{occurrences_next}
use Rattle.liveness.proofs.written.writers.Goals as goal

pub loop-p-preserved : goal.loop-p-preserved
loop-p-preserved c =
    let g = c.args.graph.now in
    let nodes = c.as_slice.result.now in
    let same = c.as_slice.ensures in
    let p = c.loop-p.p in
    let node = c.index-as_slice-p.result in
    let below : p < length nodes = grind (arith, common_steps) in
    let found : slice_get g.nodes p ≡ Some node = ap (λ z. slice_get z p) (sym same) ∙ slice_get_read nodes (length nodes) p node refl below c.index-as_slice-p.is in
    let ops = c.as_slice-in-loop-p.result.now in
    let list = storages_of c.deref.result.now in
    let is : list ≡ all_writes (ops_at (numbered_graph g) p) =
    ap storages_of c.deref.ensures.value ∙ c.in_ok-add_all_writes.ensures
    ∙ ap (λ z. storages_of z ++ all_writes (numbered_ops ops)) c.new-writes.ensures.items
    ∙ ap (λ z. all_writes (numbered_ops z)) (c.as_slice-in-loop-p.ensures ∙ ap (λ (z : WrittenNode Vreg). z.ops) (sym c.index-as_slice-p.is))
    ∙ ap all_writes (sym (ops_is g p node found)) in
    let exact : AreExactly list (λ s. IsAmong s (all_writes (ops_at (numbered_graph g) p))) =
    subst (λ z. AreExactly z (λ s. IsAmong s (all_writes (ops_at (numbered_graph g) p)))) (sym is) (λ s. ((λ i. i), λ i. i)) in
    record {
      few = c.in_ok-add_all.ensures.few;
      turned = occurrences_next (λ p s. IsAmong s (all_writes (ops_at (numbered_graph g) p))) p (occurrences_of c.loop-p.list) (occurrences_of c.add_all.new.self) list exact c.loop-p.invariant.turned c.in_ok-add_all.ensures.added;
    }

pub returns : goal.returns
returns c =
    let g = c.args.graph.now in
    let all : c.loop-p.p ≡ length g.nodes = grind (arith, common_steps) in
    subst (λ n. AreTurned (λ p s. IsAmong s (all_writes (ops_at (numbered_graph g) p))) n (occurrences_of c.loop-p.list)) all c.loop-p.invariant.turned
