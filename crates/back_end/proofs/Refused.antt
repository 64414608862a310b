-- Each refusal has its cause, and none comes where the sums of the source suffice.
use Rattle.std.proofs.Common.{◌≡◌, ℕ, ◌≤◌, ◌<◌, List, length, sym, ap, ◌∙◌, subst, arith, inl, inr}
use Rattle.std.specs.Prelude.{◌⊎◌, Result, Err, IfErr}
use Rattle.std.proofs.lemmas.Result.{IfErr-at_err}
use Rattle.cerco_base.specs.CallOrder.{Called}
use Rattle.cerco_base.specs.declared.reasons.Fault.{Fault}
use Rattle.cerco_base.specs.declared.reasons.Fault.TheVariants.{Refused, OutOfMemory}
use Rattle.cerco_base.specs.declared.reasons.Reason.{Reason}
use Rattle.cerco_base.specs.declared.reasons.Reason.TheVariants.{CellsFull, CodeFull}
use Rattle.call_graph.specs.CallPaths.{CallsIn, IsLargestSum}
use Rattle.cerco_middle.specs.Cminor.Trees.{Cminor}
use Rattle.cerco_middle.specs.Cminor.Sums.{long_length}
use Rattle.rtl.specs.declared.locations.Vreg.{Vreg}
use Rattle.rtl.specs.Programs.{Bytes}
use Rattle.rtl.specs.Items.{LinProgram}
use Rattle.ltl_alloc.specs.declared.allocation.Allocation.{Allocation}
use Rattle.ltl_alloc.specs.declared.frames.Bases.{Bases}
use Rattle.ltl_alloc.specs.Allocated.{EachHas, sizes_of}
use Rattle.asm51.specs.declared.items.AsmItem.{AsmItem}
use Rattle.asm51.specs.JumpLayouts.{IsTooLong}
use Rattle.back_end.specs.Chain.{IsErtlOf, IsPlainest, ArePlaced, IsLinearCodeOf, IsAssemblyOf}
use Rattle.back_end.specs.Refusals.{IsLack, IsRefused, Suffices}
use Rattle.back_end.proofs.Needs.{within_need}
use Rattle.back_end.proofs.Composed.{layout_is_short}

-- a fault that is handed on is still the same refusal
pub refused_before :
    {T U : Type 0} (before : Result T Fault) (result : Result U Fault) (fault : Fault) (reason : Reason) → before ≡ Err fault → result ≡ Err fault → result ≡ Err (Refused reason) → before ≡ Err (Refused reason)
refused_before {U = U} before result fault reason is is' refused = is ∙ ap (λ f. Err f) (fault_once fault (Refused reason) (sym is' ∙ refused))
  where
    fault_once : (a b : Fault) → ◌≡◌ {A = Result U Fault} (Err a) (Err b) → a ≡ b
    fault_once a b e = cc

reason_once : (a b : Reason) → Refused a ≡ Refused b → a ≡ b
reason_once a b e = cc

-- the placing of frames is out of memory, or tells how many cells are needed
abbrev pub TellsLack : List Called → List ℕ → Fault → Type 0
TellsLack calls sizes fault = (fault ≡ OutOfMemory) ⊎ ((need : ℕ) × (fault ≡ Refused (CellsFull need)) × IsLargestSum (length sizes) (CallsIn calls) sizes need × (112 < need))

lack_of_reason : (calls : List Called) (sizes : List ℕ) (reason : Reason) → TellsLack calls sizes (Refused reason) → IsLack calls sizes reason
lack_of_reason calls sizes reason (inl out) = absurd (let same : Refused reason ≡ OutOfMemory = out in cc)
lack_of_reason calls sizes reason (inr (need, is, largest, above)) = subst (IsLack calls sizes) (sym (reason_once reason (CellsFull need) is)) (record { largest = largest; above = above })

pub lack_of_result : {T : Type 0} (calls : List Called) (sizes : List ℕ) (result : Result T Fault) → IfErr result (TellsLack calls sizes) → (reason : Reason) → result ≡ Err (Refused reason) → IsLack calls sizes reason
lack_of_result calls sizes result told reason is = lack_of_reason calls sizes reason (IfErr-at_err (TellsLack calls sizes) is told)

-- what the frames lack, the source lacks
pub frames_refused : (source : Cminor) (program : Bytes Vreg) (allocations : List Allocation) → IsErtlOf source program → EachHas IsPlainest program.graphs allocations → (reason : Reason) → IsLack program.calls (sizes_of allocations) reason → IsRefused source reason
frames_refused source program allocations is each (CellsFull need) lack =
    record { program = program; allocations = allocations; ertl = is; plainest = each; largest = lack; within = within_need source program allocations is each need lack.largest }
frames_refused source program allocations is each reason lack = absurd lack

pub layout_refused :
    (source : Cminor) (program : Bytes Vreg) (allocations : List Allocation) (bases : Bases) (code : LinProgram) (items : List AsmItem)
    → IsErtlOf source program → ArePlaced program allocations bases → IsLinearCodeOf program allocations bases code → IsAssemblyOf code items
    → (reason : Reason) → (len : ℕ) × (reason ≡ CodeFull len) × IsTooLong items len → IsRefused source reason
layout_refused source program allocations bases code items e placed l a reason (len, is, long) =
    subst (IsRefused source) (sym is) (record {
      program = program;
      allocations = allocations;
      bases = bases;
      code = code;
      ertl = e;
      places = placed;
      lin = l;
      long = subst (λ z. IsTooLong z len) a.is long;
      within = subst (λ n. n ≤ long_length source) long.length (layout_is_short source program allocations bases code items e l a long.forms);
    })

pub suffices_refused : (source : Cminor) → Suffices source → (reason : Reason) → IsRefused source reason → ⊥
suffices_refused source fits (CellsFull need) cause =
    let within = cause.within fits.most fits.need in
    let above = cause.largest.above in
    let few = fits.cells in
    absurd (omega (arith, within, above, few))
suffices_refused source fits (CodeFull len) cause =
    let within = cause.within in
    let above = cause.long.above in
    let short = fits.code in
    absurd (omega (arith, within, above, short))
suffices_refused source fits reason cause = absurd cause
