use Rattle.std.proofs.Common.{ap, ◌∙◌}
use Rattle.std.proofs.lemmas.Result.{IfOk-weaker}
use Rattle.rtl.specs.declared.locations.Vreg.{Vreg}
use Rattle.rtl.specs.Graphs.{renamed_graph}
use Rattle.rtl.specs.Code.Views.{graph_of}
use Rattle.byte_renaming.proofs.Programs.{same_function}
use Rattle.ltl_alloc.specs.Translation.{placed}
use Rattle.ltl_alloc.specs.Code.PlaceTables.{place_in_table}
use Rattle.ltl_alloc.proofs.Program.{preserved, kept, places_exist}
use Rattle.ltl_alloc.proofs.renaming.rename.Goals as goal

pub returns : goal.returns
returns c = record {
  is =
      IfOk-weaker c.rename_graph.result _ _
      (λ renamed is. is ∙ ap (λ f. renamed_graph f (graph_of c.args.graph.now)) (same_function (λ (v : Vreg). place_in_table c.in_ok-places.places.places.items v.0) (placed c.args.a.now c.args.base) (λ v. c.in_ok-places.ensures v.0)))
      c.rename_graph.ensures;
  preserves = preserved;
  formed = places_exist;
  same = kept;
}

pub returns-in_err-places-clause-preserves : goal.returns-in_err-places-clause-preserves
returns-in_err-places-clause-preserves c = preserved

pub returns-in_err-places-clause-formed : goal.returns-in_err-places-clause-formed
returns-in_err-places-clause-formed c = places_exist

pub returns-in_err-places-clause-same : goal.returns-in_err-places-clause-same
returns-in_err-places-clause-same c = kept
