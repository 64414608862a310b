use Rattle.std.proofs.Common.{sym, subst}
use Rattle.std.proofs.lemmas.Result.{IfOk-weaker}
use Rattle.rtl.specs.declared.locations.Vreg.{Vreg}
use Rattle.rtl.specs.declared.graphs.Graph.{Graph as WrittenGraph}
use Rattle.rtl.specs.Locations.{vreg_number}
use Rattle.rtl.specs.Graphs.{renamed_graph}
use Rattle.rtl.specs.Code.Views.{graph_of}
use Rattle.liveness.specs.Code.Views.{numbered_graph}
use Rattle.pruned_graphs.proofs.NoneDead.{none_is_dead}
use Rattle.pruned_graphs.proofs.Program.{preserved, respects, graph_kept}
use Rattle.dropping.specs.Code.Turns.{AreNeeded}
use Rattle.dropping.proofs.Chosen.{selected_is}
use Rattle.dropping.proofs.programs.drop_dead.Goals as goal

pub returns-in_err-flow-clause-preserves : goal.returns-in_err-flow-clause-preserves
returns-in_err-flow-clause-preserves c = preserved

pub returns-in_err-flow-clause-conventional : goal.returns-in_err-flow-clause-conventional
returns-in_err-flow-clause-conventional c = respects

pub returns-in_err-marks-clause-preserves : goal.returns-in_err-marks-clause-preserves
returns-in_err-marks-clause-preserves c = preserved

pub returns-in_err-marks-clause-conventional : goal.returns-in_err-marks-clause-conventional
returns-in_err-marks-clause-conventional c = respects

pub returns-clause-preserves : goal.returns-clause-preserves
returns-clause-preserves c = preserved

pub returns-clause-conventional : goal.returns-clause-conventional
returns-clause-conventional c = respects

pub returns-clause-is : goal.returns-clause-is
returns-clause-is c =
    let graph = c.args.graph.now in
    let points = c.in_ok-flow.flow.points in
    let needed = subst (AreNeeded (numbered_graph graph) points) (sym c.deref.ensures.value) c.in_ok-marks.ensures in
    IfOk-weaker c.select_graph.result _ _ (λ (h : WrittenGraph Vreg) e. selected_is graph points c.deref.result.now (graph_of h) needed e) c.select_graph.ensures

pub returns-clause-same : goal.returns-clause-same
returns-clause-same c = IfOk-weaker c.select_graph.result _ _ (λ (h : WrittenGraph Vreg) pruned. graph_kept (graph_of c.args.graph.now) (graph_of h) pruned) (returns-clause-is c)

pub returns-clause-none_dead : goal.returns-clause-none_dead
returns-clause-none_dead c =
    IfOk-weaker c.select_graph.result _ _ (λ (h : WrittenGraph Vreg) pruned. none_is_dead 0 (renamed_graph vreg_number (graph_of c.args.graph.now)) (renamed_graph vreg_number (graph_of h)) pruned) (returns-clause-is c)
