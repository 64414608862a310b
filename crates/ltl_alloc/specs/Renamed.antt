-- What renaming promises of whole programs: each is one closed statement. A program of ERTL is renamed function by function, by an
-- allocation for each and by the first cells of frames along call paths.
use Rattle.std.specs.Prelude.{◌≡◌, ℕ, ◌≤◌, List, length, map}
use Rattle.cerco_traces.specs.Preservation.{Preserves}
use Rattle.rtl.specs.declared.locations.Vreg.{Vreg}
use Rattle.rtl.specs.declared.locations.Place.{Place}
use Rattle.rtl.specs.Programs.{Bytes}
use Rattle.rtl.specs.Locations.{vreg_number}
use Rattle.rtl.specs.Graphs.{graph_at, numbered, AreSoundlyLabelled}
use Rattle.rtl.specs.Meaning.{ertl, ltl}
use Rattle.rtl.specs.WellFormed.{labels_in, IsErtl, IsLtl}
use Rattle.rtl.specs.CallingConvention.{RespectsConvention}
use Rattle.rtl.specs.Lengths.{vreg_length, ltl_length}
use Rattle.ltl_alloc.specs.declared.allocation.Allocation.{Allocation}
use Rattle.ltl_alloc.specs.declared.frames.Bases.{Bases}
use Rattle.ltl_alloc.specs.Allocations.{IsExact}
use Rattle.ltl_alloc.specs.Allocated.{Serves, PlacesAll, EachHas, sizes_of}
use Rattle.ltl_alloc.specs.Frames.{AreBases}
use Rattle.ltl_alloc.specs.Translation.{ltl_of}

-- For a program that respects the calling convention, proper colourings, and frames along call paths, the program over places
-- preserves the traces.
abbrev pub RenamingPreserves : Type 0
RenamingPreserves =
    (program : Bytes Vreg) (allocations : List Allocation) (bases : Bases) → IsErtl program → RespectsConvention 0 (graph_at (numbered vreg_number program))
    → EachHas Serves program.graphs allocations → AreBases program.calls (sizes_of allocations) bases → Preserves (ertl program) (ltl (ltl_of program allocations bases.firsts))

-- It is well formed, where the allocations are exact and place all that is named, and the need is at most 112.
abbrev pub RenamingForms : Type 0
RenamingForms =
    (program : Bytes Vreg) (allocations : List Allocation) (bases : Bases) → IsErtl program → EachHas PlacesAll program.graphs allocations → EachHas (λ graph a. IsExact a) program.graphs allocations
    → AreBases program.calls (sizes_of allocations) bases → bases.need ≤ 112 → IsLtl (ltl_of program allocations bases.firsts)

-- The functions keep their numbers and their labels; `main`, the order of calls and the bytes of the start stay.
pub record KeepsOutline (before : Bytes Vreg) (after : Bytes Place) : Type 0 where
  pub functions : length after.graphs ≡ length before.graphs
  pub labels : map labels_in after.graphs ≡ map labels_in before.graphs
  pub calls : after.calls ≡ before.calls
  pub main : after.main ≡ before.main
  pub start : after.start ≡ before.start

-- Of as many allocations and first cells as functions: the outline stays, the functions stay soundly labelled, and none gets longer.
abbrev pub RenamingKeeps : Type 0
RenamingKeeps =
    (program : Bytes Vreg) (allocations : List Allocation) (firsts : List ℕ) → length allocations ≡ length program.graphs → length firsts ≡ length program.graphs
    → KeepsOutline program (ltl_of program allocations firsts)
    × (AreSoundlyLabelled program.graphs → AreSoundlyLabelled (ltl_of program allocations firsts).graphs)
    × (ltl_length (ltl_of program allocations firsts) ≤ vreg_length program)
