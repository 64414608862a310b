-- The back end as a chain of values, from Cminor to the object, each made from those before it (CerCo, deliverables 3.3, 4.2 and 4.3). It
-- says which values may be made, and what is promised of each.
use Rattle.std.specs.Prelude.{◌≡◌, ℕ, ◌≤◌, List, map, length, slice_index}
use Rattle.cerco_traces.specs.Preservation.{Preserves}
use Rattle.cerco_middle.specs.Cminor.Trees.{Cminor, labels_of as labels_of_source}
use Rattle.cerco_middle.specs.Cminor.Meaning.{cminor}
use Rattle.cerco_middle.specs.Cminor.Sums.{long_length}
use Rattle.rtl.specs.declared.locations.Vreg.{Vreg}
use Rattle.rtl.specs.Programs.{Graph, Bytes}
use Rattle.rtl.specs.Items.{LinProgram}
use Rattle.rtl.specs.Locations.{vreg_number}
use Rattle.rtl.specs.Graphs.{graph_at, numbered, AreSoundlyLabelled}
use Rattle.rtl.specs.Meaning.{ertl}
use Rattle.rtl.specs.Linear.{lin}
use Rattle.rtl.specs.WellFormed.{gathered, locations_in, labels_in, item_labels, NamesItsVregs, IsErtl, IsLinProgram}
use Rattle.rtl.specs.CallingConvention.{RespectsConvention}
use Rattle.rtl.specs.Lengths.{stands_in, register_need, vreg_length, lin_length}
use Rattle.rtl.specs.Code.Views.{program_of, lin_program_of}
use Rattle.ltl_alloc.specs.declared.allocation.Allocation.{Allocation}
use Rattle.ltl_alloc.specs.declared.frames.Bases.{Bases}
use Rattle.ltl_alloc.specs.Allocations.{spot_of, IsExact}
use Rattle.ltl_alloc.specs.Allocated.{Serves, PlacesAll, EachHas, sizes_of}
use Rattle.ltl_alloc.specs.Frames.{AreBases}
use Rattle.ltl_alloc.specs.OneCell.{one_cell}
use Rattle.ltl_alloc.specs.Translation.{ltl_of}
use Rattle.lin_gen.specs.Linearised.{IsLinearised}
use Rattle.asm51.specs.declared.items.AsmItem.{AsmItem}
use Rattle.asm51.specs.declared.layouts.JumpLayout.{JumpLayout}
use Rattle.asm51.specs.Selected.{AreSelected}
use Rattle.asm51.specs.Ends.{HasEnds}
use Rattle.asm51.specs.Layouts.{long_length as asm_length}
use Rattle.asm51.specs.JumpLayouts.{IsLayoutOf}
use Rattle.asm51.specs.Emission.{code_of, labels_of}
use Rattle.asm51.specs.Meaning.{assembly}
use Rattle.asm51_select.specs.Translation.{selected}
use Rattle.asm51_select.specs.Graphs.{IsOfLabelledGraphs, KeepsLabels}
use Rattle.back_end.specs.Needs.{needs}
use Rattle.back_end.specs.declared.assembled.Assembled.{Assembled}

-- ---- ERTL

-- the program respects the calling convention
abbrev pub IsConventional : Bytes Vreg → Type 0
IsConventional program = RespectsConvention 0 (graph_at (numbered vreg_number program))

-- A program over virtual registers that does what the source does, with its functions, their order and as many labels, and needs no more.
pub record IsErtlOf (source : Cminor) (program : Bytes Vreg) : Type 0 where
  pub preserves : Preserves (cminor source) (ertl program)
  pub formed : IsErtl program
  pub labelled : AreSoundlyLabelled program.graphs
  pub conventional : IsConventional program
  pub functions : length program.graphs ≡ length source.functions
  pub calls : program.calls ≡ source.calls
  pub labels : length (gathered labels_in program.graphs) ≡ length (labels_of_source source.functions)
  pub length : vreg_length program ≤ long_length source
  pub need : (f : ℕ) → register_need (graph_at program.graphs f) ≤ slice_index (needs source) f

-- ---- places

-- The plainest allocation of a function: each of its virtual registers from 24 on has a cell of its own.
pub record IsPlainest (graph : Graph Vreg) (a : Allocation) : Type 0 where
  pub spots : (v : ℕ) → spot_of a v ≡ one_cell (λ w. stands_in w (map vreg_number (locations_in graph))) v
  pub serves : Serves graph a
  pub places : PlacesAll graph a
  pub exact : IsExact a
  pub need : NamesItsVregs 0 graph → a.cells ≤ register_need graph

-- Each function has the plainest allocation, its frame begins after those of the functions on each call path to it, and the cells suffice.
pub record ArePlaced (program : Bytes Vreg) (allocations : List Allocation) (frames : Bases) : Type 0 where
  pub plainest : EachHas IsPlainest program.graphs allocations
  pub bases : AreBases program.calls (sizes_of allocations) frames
  pub enough : frames.need ≤ 112

-- ---- linear code

-- Linear code of the program over these places.
pub record IsLinearCodeOf (program : Bytes Vreg) (allocations : List Allocation) (bases : Bases) (code : LinProgram) : Type 0 where
  pub is : IsLinearised (ltl_of program allocations bases.firsts) code
  pub preserves : Preserves (ertl program) (lin code)
  pub formed : IsLinProgram code
  pub labelled : IsOfLabelledGraphs code
  pub labels : length (gathered (λ items. gathered item_labels items) code.lins) ≡ length (gathered labels_in program.graphs)
  pub length : lin_length code ≤ vreg_length program

-- ---- the object

-- The selection of linear code.
pub record IsAssemblyOf (code : LinProgram) (items : List AsmItem) : Type 0 where
  pub is : items ≡ selected code
  pub preserves : Preserves (lin code) (assembly items)
  pub selected : AreSelected items
  pub ends : HasEnds items
  pub labels : KeepsLabels code items
  pub length : asm_length items ≤ lin_length code

-- Its code and the addresses of its labels, in the relaxed layout.
pub record IsObjectOf (items : List AsmItem) (chosen : JumpLayout) (bytes addresses : List ℕ) : Type 0 where
  pub layout : IsLayoutOf items chosen
  pub code : bytes ≡ code_of items chosen.forms
  pub labels : addresses ≡ labels_of items chosen.forms

-- ---- the chain

pub record IsChain (source : Cminor) (a : Assembled) : Type 0 where
  pub ertl : IsErtlOf source (program_of a.ertl)
  pub places : ArePlaced (program_of a.ertl) a.allocations a.bases
  pub lin : IsLinearCodeOf (program_of a.ertl) a.allocations a.bases (lin_program_of a.lin)
  pub asm : IsAssemblyOf (lin_program_of a.lin) a.asm
  pub object : IsObjectOf a.asm a.layout a.object.code a.object.labels
