-- The chain, from what each step promises of its answer, and what a step asks for.
use Rattle.std.proofs.Common.{◌≡◌, ◌≤◌, List, length, map, sym, ◌∙◌, subst}
use Rattle.cerco_base.specs.CallOrder.{Called}
use Rattle.cerco_traces.specs.Preservation.{Preserves}
use Rattle.cerco_middle.specs.Programs.{HoldsFunctions}
use Rattle.cerco_middle.specs.Cminor.Trees.{Cminor}
use Rattle.rtl.specs.declared.locations.Vreg.{Vreg}
use Rattle.rtl.specs.declared.graphs.Graph.{Graph as WrittenGraph}
use Rattle.rtl.specs.Programs.{Bytes}
use Rattle.rtl.specs.Items.{LinProgram}
use Rattle.rtl.specs.Linear.{lin}
use Rattle.rtl.specs.Lengths.{lin_length}
use Rattle.rtl.specs.Code.Views.{graph_of}
use Rattle.ltl_alloc.specs.declared.allocation.Allocation.{Allocation}
use Rattle.ltl_alloc.specs.declared.frames.Bases.{Bases}
use Rattle.ltl_alloc.specs.Allocated.{EachHas, sizes_of}
use Rattle.ltl_alloc.specs.Frames.{AreBases}
use Rattle.asm51.specs.declared.items.AsmItem.{AsmItem}
use Rattle.asm51.specs.Meaning.{assembly}
use Rattle.asm51.specs.Layouts.{long_length}
use Rattle.asm51.specs.Selected.{AreSelected}
use Rattle.asm51.specs.Ends.{HasEnds}
use Rattle.asm51_select.specs.Translation.{selected}
use Rattle.asm51_select.specs.Graphs.{IsOfLabelledGraphs, KeepsLabels}
use Rattle.back_end.specs.Chain.{IsErtlOf, IsPlainest, ArePlaced, IsAssemblyOf}
use Rattle.back_end.proofs.Needs.{functions_kept}

-- each graph of the slice has a plainest allocation, so each of the program has
pub each_of_slices :
    (graphs slice : List (WrittenGraph Vreg)) (allocations others : List Allocation) → slice ≡ graphs → others ≡ allocations
    → EachHas IsPlainest (map graph_of slice) allocations → EachHas IsPlainest (map graph_of graphs) others
each_of_slices graphs slice allocations others is are each =
    subst (λ xs. EachHas IsPlainest (map graph_of graphs) xs) (sym are) (subst (λ gs. EachHas IsPlainest (map graph_of gs) allocations) is each)

-- the order of calls of the program has exactly the functions that have an allocation
pub holds_functions :
    (source : Cminor) (program : Bytes Vreg) (allocations : List Allocation) → HoldsFunctions source.calls (length source.functions) → IsErtlOf source program → EachHas IsPlainest program.graphs allocations
    → HoldsFunctions program.calls (length allocations)
holds_functions source program allocations holds is each =
    subst (λ calls. HoldsFunctions calls (length allocations)) (sym is.calls) (subst (HoldsFunctions source.calls) (sym (functions_kept source program allocations is each)) holds)

pub bases_of_slices : (calls : List Called) (allocations first second : List Allocation) (bases : Bases) → first ≡ allocations → second ≡ allocations → AreBases calls (sizes_of first) bases → AreBases calls (sizes_of second) bases
bases_of_slices calls allocations first second bases is is' are = subst (λ xs. AreBases calls (sizes_of xs) bases) (is ∙ sym is') are

pub placed_of_slices :
    (program : Bytes Vreg) (allocations others : List Allocation) (bases : Bases) → others ≡ allocations
    → EachHas IsPlainest program.graphs allocations → AreBases program.calls (sizes_of others) bases → bases.need ≤ 112 → ArePlaced program allocations bases
placed_of_slices program allocations others bases are each is enough =
    record { plainest = each; bases = subst (λ xs. AreBases program.calls (sizes_of xs) bases) are is; enough = enough }

-- what selection promises of its answer
pub record IsSelected (code : LinProgram) (items : List AsmItem) : Type 0 where
  pub is : items ≡ selected code
  pub preserves : Preserves (lin code) (assembly items)
  pub object : IsOfLabelledGraphs code → AreSelected items
  pub ends : IsOfLabelledGraphs code → HasEnds items
  pub labels : KeepsLabels code items
  pub length : long_length items ≤ lin_length code

pub assembly_of : (code : LinProgram) (items : List AsmItem) → IsOfLabelledGraphs code → IsSelected code items → IsAssemblyOf code items
assembly_of code items labelled s =
    record { is = s.is; preserves = s.preserves; selected = s.object labelled; ends = s.ends labelled; labels = s.labels; length = s.length }
