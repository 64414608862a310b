-- Why the back end refuses a program (own): the cells of internal RAM don't suffice, or code memory doesn't. Each cause names the values
-- that the passes before had made.
use Rattle.std.specs.Prelude.{ℕ, ◌<◌, ◌≤◌, List, length}
use Rattle.cerco_base.specs.CallOrder.{Called}
use Rattle.cerco_base.specs.declared.reasons.Reason.{Reason}
use Rattle.cerco_base.specs.declared.reasons.Reason.TheVariants.{CellsFull, CodeFull}
use Rattle.call_graph.specs.CallPaths.{CallsIn, IsLargestSum}
use Rattle.cerco_middle.specs.Cminor.Trees.{Cminor}
use Rattle.cerco_middle.specs.Cminor.Sums.{long_length}
use Rattle.rtl.specs.declared.locations.Vreg.{Vreg}
use Rattle.rtl.specs.Programs.{Bytes}
use Rattle.rtl.specs.Items.{LinProgram}
use Rattle.ltl_alloc.specs.declared.allocation.Allocation.{Allocation}
use Rattle.ltl_alloc.specs.declared.frames.Bases.{Bases}
use Rattle.ltl_alloc.specs.Allocated.{EachHas, sizes_of}
use Rattle.asm51.specs.JumpLayouts.{IsTooLong}
use Rattle.asm51_select.specs.Translation.{selected}
use Rattle.back_end.specs.Needs.{IsLargestNeed, IsWithinNeed}
use Rattle.back_end.specs.Chain.{IsErtlOf, IsPlainest, ArePlaced, IsLinearCodeOf}

-- the largest sum of these sizes along a call path, which is above 112
pub record IsLargestAbove (calls : List Called) (sizes : List ℕ) (need : ℕ) : Type 0 where
  pub largest : IsLargestSum (length sizes) (CallsIn calls) sizes need
  pub above : 112 < need

-- The reason is that so many cells are needed.
abbrev pub IsLack : List Called → List ℕ → Reason → Type 0
IsLack calls sizes (CellsFull need) = IsLargestAbove calls sizes need
IsLack calls sizes reason = ⊥

-- An ERTL program of the source needs so many cells in the plainest allocations of its functions.
pub record LacksCells (source : Cminor) (need : ℕ) : Type 0 where
  pub program : Bytes Vreg
  pub allocations : List Allocation
  pub ertl : IsErtlOf source program
  pub plainest : EachHas IsPlainest program.graphs allocations
  pub largest : IsLargestAbove program.calls (sizes_of allocations) need
  pub within : IsWithinNeed source need

-- The relaxed layout of a selection from the source has so many bytes.
pub record LacksCode (source : Cminor) (len : ℕ) : Type 0 where
  pub program : Bytes Vreg
  pub allocations : List Allocation
  pub bases : Bases
  pub code : LinProgram
  pub ertl : IsErtlOf source program
  pub places : ArePlaced program allocations bases
  pub lin : IsLinearCodeOf program allocations bases code
  pub long : IsTooLong (selected code) len
  pub within : len ≤ long_length source

-- The program is refused for this reason.
abbrev pub IsRefused : Cminor → Reason → Type 0
IsRefused source (CellsFull need) = LacksCells source need
IsRefused source (CodeFull len) = LacksCode source len
IsRefused source reason = ⊥

-- By its own sums, the program has room for its cells and for its code.
pub record Suffices (source : Cminor) : Type 0 where
  pub most : ℕ
  pub need : IsLargestNeed source most
  pub cells : most ≤ 112
  pub code : long_length source ≤ 65536
