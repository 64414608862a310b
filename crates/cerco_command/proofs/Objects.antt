-- The object of an assembly program, as its texts want it: how long its code is, and that its labels stand at different addresses.
use Rattle.std.proofs.Common.{◌≡◌, ℕ, suc, ◌+◌, ◌%◌, ◌<◌, List, [], ◌∷◌, Option, Some, None, true, eqb, refl, sym, ap, ap₂, ◌∙◌, arith, All, get_or, length, take_all, drop, slice_index, length-append}
use Rattle.std.specs.List.{range_with_len, IsDistinct, list_any}
use Rattle.std.proofs.lemmas.Bool.{eqb-true, ne_eqb}
use Rattle.std.proofs.lemmas.List.{get_or_default}
use Rattle.std.proofs.lemmas.List.Elements.{All-map}
use Rattle.std.proofs.lemmas.List.Folds.{Any-from_list_any}
use Rattle.std.proofs.lemmas.Map.Keys.{IsDistinct-from_apart}
use Rattle.std.proofs.lemmas.Map.Steps.{length-le_from_distinct_below}
use Rattle.std.proofs.lemmas.Option.{get_or_from_slice_get}
use Rattle.cerco_base.specs.declared.events.Label.{Label}
use Rattle.sim51.specs.Placed.{code_of_instrs}
use Rattle.sim51.specs.Step.{label_at}
use Rattle.sim51.proofs.Placed.{length-code_of_instrs}
use Rattle.asm51.specs.declared.items.AsmItem.{AsmItem}
use Rattle.asm51.specs.declared.layouts.Form.{Form}
use Rattle.asm51.specs.declared.layouts.JumpLayout.{JumpLayout}
use Rattle.asm51.specs.Instructions.{instructions}
use Rattle.asm51.specs.Items.{mark_count}
use Rattle.asm51.specs.Layouts.{first_form, total, sizes, address, code_length}
use Rattle.asm51.specs.Emission.{label_address, code_from, code_of, labels_of}
use Rattle.asm51.specs.Emission as emission
use Rattle.asm51.specs.JumpLayouts.{IsLayoutOf}
use Rattle.asm51.specs.Selected.{AreSelected}
use Rattle.asm51.proofs.Sizes.{size_anywhere}
use Rattle.objects51.proofs.Objects.{IsObject, is_object}
use Rattle.objects51.proofs.Labels.{mark_at, label_here}
use Rattle.object_hex.specs.MapMeaning.{AreDistinct}
use Rattle.cerco_command.specs.Code.Stages.{MayStand}

-- ---- the code

length-code_from : (at : ℕ → ℕ) (target : AsmItem → ℕ) (k : ℕ) (items : List AsmItem) (forms : List (Option Form)) → length (code_from at target k items forms) ≡ total (sizes items forms)
length-code_from at target k [] forms = refl
length-code_from at target k (item ∷ items) forms =
    let is = instructions (at k) (target item) item (first_form forms) in
    length-append (code_of_instrs is) (code_from at target (suc k) items (drop 1 forms))
    ∙ ap₂ (λ m n. m + n) (length-code_of_instrs is ∙ size_anywhere (at k) (target item) item (first_form forms)) (length-code_from at target (suc k) items (drop 1 forms))

length-sizes : (items : List AsmItem) (forms : List (Option Form)) → length (sizes items forms) ≡ length items
length-sizes [] forms = refl
length-sizes (item ∷ items) forms = ap suc (length-sizes items (drop 1 forms))

-- it has as many bytes as its layout says
pub length-code_of : (items : List AsmItem) (forms : List (Option Form)) → length (code_of items forms) ≡ code_length items forms
unfolding code_of
length-code_of items forms =
    length-code_from (address items forms) (emission.target_address items forms) 0 items forms
    ∙ ap total (sym (take_all (length items) (sizes items forms) (omega (arith, length-sizes items forms))))

-- ---- the labels

within : (items : List AsmItem) (forms : List (Option Form)) → All (λ a. a < 65536) (labels_of items forms)
unfolding labels_of
within items forms = All-map (λ a. a < 65536) (label_address items forms) (range_with_len 0 (mark_count items)) (λ k d lt. omega arith)

abbrev number_of : Option Label → ℕ
number_of None = 0
number_of (Some label) = label.0

module _ (items : List AsmItem) (forms : List (Option Form)) (code labels : List ℕ) (at : ℕ → ℕ) (sel : AreSelected items) (obj : IsObject items forms code labels at) where
  -- at the address of a label stands this label
  stands : (l : ℕ) → l < length labels → label_at labels (slice_index labels l) ≡ Some (record { 0 = l })
  stands l lt =
      let m = obj.of_label l lt in
      let p = mark_at items forms code labels at sel obj m.0 (record { 0 = l }) m.1 in
      let same : at m.0 % 65536 ≡ at m.0 = omega (arith, p.same, p.fits) in
      let there : slice_index labels l ≡ at m.0 = get_or_from_slice_get labels l (at m.0 % 65536) 0 (obj.at_mark m.0 (record { 0 = l }) m.1) ∙ same in
      ap (label_at labels) there ∙ label_here items forms code labels at sel obj m.0 (record { 0 = l }) m.1

  apart : AreDistinct labels
  apart earlier later before lt same =
      let one : Some (record { 0 = earlier }) ≡ Some (record { 0 = later }) =
      sym (stands earlier (omega (arith, before, lt))) ∙ ap (label_at labels) same ∙ stands later lt in
      omega (arith, ap number_of one, before)

  distinct : IsDistinct eqb labels
  distinct = IsDistinct-from_apart eqb labels (λ i j d before lt. ne_eqb (get_or labels i d) (get_or labels j d) (λ same. apart i j before lt (get_or_default labels i 0 d (omega (arith, before, lt)) ∙ same ∙ get_or_default labels j d 0 lt)))

-- an address that is found among others is within the same bound
found_within : (labels : List ℕ) → All (λ a. a < 65536) labels → (q : ℕ) → list_any (eqb q) labels ≡ true → q < 65536
found_within labels all q found =
    let any = Any-from_list_any (eqb q) labels found in
    let same : q ≡ any.1 = eqb-true q any.1 any.4 in
    omega (arith, same, any.3, all any.0 any.1 any.2)

-- a text can have the addresses of its labels
pub may_stand : (items : List AsmItem) (layout : JumpLayout) → AreSelected items → IsLayoutOf items layout → MayStand (labels_of items layout.forms)
may_stand items layout sel is =
    let forms = layout.forms in
    let obj = is_object items forms sel is.relaxed is.fits in
    let labels = labels_of items forms in
    record {
      few = length-le_from_distinct_below labels 65536 (distinct items forms (code_of items forms) labels (address items forms) sel obj) (found_within labels (within items forms));
      within = within items forms;
      apart = apart items forms (code_of items forms) labels (address items forms) sel obj;
    }
