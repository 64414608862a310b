-- Whole programs of linear code, each function of which is an ordering of its graph, and what is promised of them (CerCo, deliverable
-- 4.2: LTL and LIN have the same traces).
use Rattle.std.specs.Prelude.{◌≡◌, ◌≤◌, List, [], ◌∷◌}
use Rattle.std.specs.List.{AllByRecursion}
use Rattle.cerco_traces.specs.Preservation.{Preserves}
use Rattle.rtl.specs.declared.locations.Place.{Place}
use Rattle.rtl.specs.Programs.{Graph, Bytes}
use Rattle.rtl.specs.Items.{LinItem, LinProgram}
use Rattle.rtl.specs.Meaning.{ltl}
use Rattle.rtl.specs.Linear.{lin}
use Rattle.rtl.specs.Lengths.{ltl_length, lin_length}
use Rattle.rtl.specs.Graphs.{IsSoundlyLabelled}
use Rattle.rtl.specs.WellFormed.{NamesNodes, NamesPlaces, IsGraph, IsLtl, IsLinProgram}
use Rattle.lin_gen.specs.Ordering.{IsOrdering}

-- what is asked of a graph, and of each of these graphs
abbrev pub IsReady : Graph Place → Type 0
IsReady g = IsSoundlyLabelled g × (IsGraph g × NamesPlaces g)

abbrev pub AreReady : List (Graph Place) → Type 0
AreReady gs = AllByRecursion IsReady gs

-- each function is an ordering of its graph, whose nodes name nodes
abbrev pub AreOrderings : List (Graph Place) → List (List LinItem) → Type 0
AreOrderings [] [] = Unit {0}
AreOrderings [] (items ∷ lins) = ⊥
AreOrderings (g ∷ gs) [] = ⊥
AreOrderings (g ∷ gs) (items ∷ lins) = NamesNodes g × IsOrdering g items × AreOrderings gs lins

-- The program is linear code of the program of graphs: its functions are orderings, `main` and the start are the same.
pub record IsLinearised (graphs : Bytes Place) (program : LinProgram) : Type 0 where
  pub lins : AreOrderings graphs.graphs program.lins
  pub main : program.main ≡ graphs.main
  pub start : program.start ≡ graphs.start

-- Linear code preserves the traces of its graphs.
abbrev pub LinearisedPreserves : Type 0
LinearisedPreserves = (graphs : Bytes Place) (program : LinProgram) → IsLinearised graphs program → Preserves (ltl graphs) (lin program)

-- Linear code of a well formed program of graphs is well formed.
abbrev pub LinearisedIsFormed : Type 0
LinearisedIsFormed = (graphs : Bytes Place) (program : LinProgram) → IsLtl graphs → IsLinearised graphs program → IsLinProgram program

-- Linear code is no longer than its graphs.
abbrev pub LinearisedIsShort : Type 0
LinearisedIsShort = (graphs : Bytes Place) (program : LinProgram) → IsLinearised graphs program → lin_length program ≤ ltl_length graphs
