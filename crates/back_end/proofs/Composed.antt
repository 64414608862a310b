-- What the links of the chain come to: traces from end to end, the length of the code and the number of its labels, and the cells.
use Rattle.std.proofs.Common.{◌≡◌, ℕ, suc, ◌+◌, ◌<◌, ◌≤◌, ◌^◌, List, [], ◌∷◌, length, take, drop, Option, refl, sym, ap, ap₂, ◌∙◌, subst, arith, length-append}
use Rattle.cerco_traces.specs.Preservation.{Preserves, Source, PreservesSource}
use Rattle.cerco_traces.proofs.Simulation.{preserves_trans, preserves_source_trans}
use Rattle.cerco_middle.specs.Cminor.Trees.{Cminor, labels_of as labels_of_source}
use Rattle.cerco_middle.specs.Cminor.Meaning.{cminor}
use Rattle.cerco_middle.specs.Cminor.Sums.{long_length}
use Rattle.rtl.specs.declared.locations.Vreg.{Vreg}
use Rattle.rtl.specs.Programs.{Bytes}
use Rattle.rtl.specs.Items.{LinProgram}
use Rattle.sim51.specs.Placed.{code_of_instrs}
use Rattle.sim51.proofs.Placed.{length-code_of_instrs}
use Rattle.sim51.specs.Runs.{object}
use Rattle.asm51.specs.declared.items.AsmItem.{AsmItem}
use Rattle.asm51.specs.declared.layouts.Form.{Form}
use Rattle.asm51.specs.declared.layouts.JumpLayout.{JumpLayout}
use Rattle.asm51.specs.Items.{mark_count}
use Rattle.asm51.specs.Instructions.{instructions}
use Rattle.asm51.specs.Layouts.{first_form, total, sizes, code_length}
use Rattle.asm51.specs.Emission.{code_from, code_of, label_address, labels_of, target_address}
use Rattle.asm51.specs.Layouts.{address}
use Rattle.asm51.specs.Meaning.{assembly}
use Rattle.asm51.proofs.Sizes.{size_anywhere, long_is_longest}
use Rattle.ltl_alloc.specs.declared.allocation.Allocation.{Allocation}
use Rattle.ltl_alloc.specs.declared.frames.Bases.{Bases}
use Rattle.std.proofs.lemmas.List.FromFn.{length-map-range_with_len}
use Rattle.objects51.proofs.Preserved.{object_preserves}
use Rattle.back_end.specs.Needs.{IsWithinNeed}
use Rattle.back_end.specs.declared.assembled.Assembled.{Assembled}
use Rattle.back_end.specs.Chain.{IsErtlOf, IsLinearCodeOf, IsAssemblyOf, IsObjectOf, IsChain}
use Rattle.back_end.proofs.Needs.{within_need}

-- the object of an assembly program preserves its traces
object_does : (items : List AsmItem) (layout : JumpLayout) (code labels : List ℕ) (program : LinProgram) → IsAssemblyOf program items → IsObjectOf items layout code labels → Preserves (assembly items) (object code labels)
object_does items layout code labels program asm is =
    subst (λ z. Preserves (assembly items) (object z labels)) (sym is.code)
    (subst (λ z. Preserves (assembly items) (object (code_of items layout.forms) z)) (sym is.labels) (object_preserves items layout asm.selected is.layout))

-- the assembly program preserves the traces of the source
pub assembly_preserves : (source : Cminor) (a : Assembled) → IsChain source a → Preserves (cminor source) (assembly a.asm)
assembly_preserves source a chain = preserves_trans chain.ertl.preserves (preserves_trans chain.lin.preserves chain.asm.preserves)

-- and so does the object
pub chain_preserves : (source : Cminor) (a : Assembled) → IsChain source a → Preserves (cminor source) (object a.object.code a.object.labels)
chain_preserves source a chain = preserves_trans (assembly_preserves source a chain) (object_does a.asm a.layout a.object.code a.object.labels _ chain.asm chain.object)

-- what a program of Cminor preserves, its assembly program does, and its object
pub assembly_keeps_to : {Fault : Type 0} (told : Source Fault) (source : Cminor) (a : Assembled) (d : ℕ) → d < 2 ^ 16 → IsChain source a → PreservesSource told (cminor source) d → PreservesSource told (assembly a.asm) d
assembly_keeps_to told source a d small chain keeps = preserves_source_trans keeps (assembly_preserves source a chain d small)

pub object_keeps_to :
    {Fault : Type 0} (told : Source Fault) (source : Cminor) (a : Assembled) (d : ℕ) → d < 2 ^ 16 → IsChain source a → PreservesSource told (cminor source) d → PreservesSource told (object a.object.code a.object.labels) d
object_keeps_to told source a d small chain keeps = preserves_source_trans keeps (chain_preserves source a chain d small)

-- ---- lengths

size_of_code : (at : ℕ → ℕ) (target : AsmItem → ℕ) (k : ℕ) (items : List AsmItem) (forms : List (Option Form)) → length (code_from at target k items forms) ≡ total (take (length items) (sizes items forms))
size_of_code at target k [] forms = refl
size_of_code at target k (item ∷ items) forms =
    let is = instructions (at k) (target item) item (first_form forms) in
    length-append (code_of_instrs is) (code_from at target (suc k) items (drop 1 forms))
    ∙ ap₂ (λ m n. m + n) (length-code_of_instrs is ∙ size_anywhere (at k) (target item) item (first_form forms)) (size_of_code at target (suc k) items (drop 1 forms))

pub length_of_code : (items : List AsmItem) (forms : List (Option Form)) → length (code_of items forms) ≡ code_length items forms
unfolding code_of
length_of_code items forms = size_of_code (address items forms) (target_address items forms) 0 items forms

-- no layout of the selection is longer than the source may become
pub layout_is_short :
    (source : Cminor) (program : Bytes Vreg) (allocations : List Allocation) (bases : Bases) (code : LinProgram) (items : List AsmItem) → IsErtlOf source program → IsLinearCodeOf program allocations bases code → IsAssemblyOf code items
    → (forms : List (Option Form)) → code_length items forms ≤ long_length source
layout_is_short source program allocations bases code items e l a forms = omega (arith, long_is_longest items forms, a.length, l.length, e.length)

pub chain_is_short : (source : Cminor) (a : Assembled) → IsChain source a → length a.object.code ≤ long_length source
chain_is_short source a chain =
    let code = ap length chain.object.code ∙ length_of_code a.asm a.layout.forms in
    omega (arith, code, layout_is_short source _ _ _ _ a.asm chain.ertl chain.lin chain.asm a.layout.forms)

-- ---- labels

count_of_labels : (items : List AsmItem) (forms : List (Option Form)) → length (labels_of items forms) ≡ mark_count items
unfolding labels_of
count_of_labels items forms = length-map-range_with_len (label_address items forms) 0 (mark_count items)

-- the object has as many labels as the source
pub chain_labels : (source : Cminor) (a : Assembled) → IsChain source a → length a.object.labels ≡ length (labels_of_source source.functions)
chain_labels source a chain = ap length chain.object.labels ∙ count_of_labels a.asm a.layout.forms ∙ chain.asm.labels ∙ chain.lin.labels ∙ chain.ertl.labels

-- ---- cells

pub chain_need : (source : Cminor) (a : Assembled) → IsChain source a → IsWithinNeed source a.bases.need
chain_need source a chain = within_need source _ a.allocations chain.ertl chain.places.plainest a.bases.need chain.places.bases.need
