-- One item more of the code and of the labels.
use Rattle.std.proofs.Common.{◌≡◌, ℕ, suc, ◌+◌, ◌<◌, ◌≤◌, List, [], ◌++◌, Option, Some, None, Bool, true, false, cond, refl, sym, ap, ap₂, ◌∙◌, arith, inl, inr, nat_eq, eqb-true, length, map, drop, replicate, set, slice_index, unwrap_or, append_assoc}
use Rattle.std.specs.List.{position_from, range_with_len}
use Rattle.std.proofs.lemmas.List.{drop_more, drop-drop, drop_all, get_or-drop, get_or-replicate, get_or-set_same, get_or-set_other, ext_get_or}
use Rattle.std.proofs.lemmas.Bool.{cases_eq}
use Rattle.std.proofs.lemmas.List.FromFn.{length-map-range_with_len, get_or-map-range_with_len}
use Rattle.mcs51_isa.specs.declared.instr.Instr.TheVariants.{Nop}
use Rattle.sim51.specs.Placed.{code_of_instrs}
use Rattle.cerco_base.specs.declared.events.Label.{Label}
use Rattle.asm51.specs.declared.items.AsmItem.{AsmItem}
use Rattle.asm51.specs.declared.items.AsmItem.TheVariants.{Plain, Mark, Enter, Here, Jump, Test, Call}
use Rattle.asm51.specs.declared.layouts.Form.{Form}
use Rattle.asm51.specs.Items.{is_mark_of, mark_count}
use Rattle.asm51.specs.Instructions.{instructions}
use Rattle.asm51.specs.Layouts.{first_form, address}
use Rattle.asm51.specs.Relaxation.{IsRelaxed}
use Rattle.asm51.specs.Emission.{code_from, code_of, target_address, word_address, label_address, labels_of}
use Rattle.asm51.proofs.Addresses.{item_at, form_at, first_form_at}
use Rattle.asm51.specs.JumpLayouts.{addresses_of}
use Rattle.asm51.proofs.Readings.{address_read}
use Rattle.asm51.proofs.Rounds.{rounds_length}
use Rattle.jump_expand.specs.Code.Emission.{rest_of_code, label_from}
use Rattle.jump_expand.proofs.Anchors.{position_more}

pub forms_length : (items : List AsmItem) (forms : List (Option Form)) → IsRelaxed items forms → length forms ≡ length items
forms_length items forms r = ap length r.made ∙ rounds_length items r.count

code_more : (items : List AsmItem) (forms : List (Option Form)) (k : ℕ) → k < length items
    → rest_of_code items forms k
    ≡ code_of_instrs (instructions (address items forms k) (target_address items forms (item_at items k)) (item_at items k) (form_at forms k)) ++ rest_of_code items forms (k + 1)
code_more items forms k h =
    let A = address items forms in
    let T = target_address items forms in
    let item = item_at items k in
    let z : k + 0 ≡ k = omega arith in
    let f : first_form (drop k forms) ≡ form_at forms k = first_form_at (drop k forms) ∙ get_or-drop k forms 0 None ∙ ap (form_at forms) z in
    let d : drop 1 (drop k forms) ≡ drop (k + 1) forms = drop-drop 1 k forms in
    let s : suc k ≡ k + 1 = omega arith in
    ap (λ l. code_from A T k l (drop k forms)) (drop_more items k (Plain Nop) h)
    ∙ ap (λ g. code_of_instrs (instructions (A k) (T item) item g) ++ code_from A T (suc k) (drop (k + 1) items) (drop 1 (drop k forms))) f
    ∙ ap₂ (λ m l. code_of_instrs (instructions (A k) (T item) item (form_at forms k)) ++ code_from A T m (drop (k + 1) items) l) s d

pub code_step : (items : List AsmItem) (forms : List (Option Form)) (k : ℕ) (code new : List ℕ) (at target : ℕ) (form : Option Form) → k < length items → at ≡ address items forms k
    → target ≡ target_address items forms (item_at items k) → form ≡ form_at forms k → new ≡ code ++ code_of_instrs (instructions at target (item_at items k) form)
    → code ++ rest_of_code items forms k ≡ code_of items forms → new ++ rest_of_code items forms (k + 1) ≡ code_of items forms
code_step items forms k code new at target form lt a t f e h =
    let item = item_at items k in
    let rest = rest_of_code items forms (k + 1) in
    let here = code_of_instrs (instructions (address items forms k) (target_address items forms item) item (form_at forms k)) in
    let b : code_of_instrs (instructions at target item form) ≡ here =
    ap₂ (λ p q. code_of_instrs (instructions p q item form)) a t ∙ ap (λ g. code_of_instrs (instructions (address items forms k) (target_address items forms item) item g)) f in
    let n : new ≡ code ++ here = e ∙ ap (λ l. code ++ l) b in
    ap (λ l. l ++ rest) n ∙ append_assoc code here rest ∙ ap (λ l. code ++ l) (sym (code_more items forms k lt)) ∙ h

pub code_start : (items : List AsmItem) (forms : List (Option Form)) → [] ++ rest_of_code items forms 0 ≡ code_of items forms
unfolding code_of
code_start items forms = refl

-- the labels
mark_not : (item : AsmItem) (n : ℕ) → ((l : Label) → item ≡ Mark l → ⊥) → is_mark_of n item ≡ false
mark_not (Mark l) n h = absurd (h l refl)
mark_not (Plain i) n h = refl
mark_not (Enter f) n h = refl
mark_not (Here f m) n h = refl
mark_not (Jump f m) n h = refl
mark_not (Test f m) n h = refl
mark_not (Call f) n h = refl

label_more : (items : List AsmItem) (forms : List (Option Form)) (k n : ℕ) → k < length items
    → label_from items forms k n ≡ word_address items forms (unwrap_or (cond (is_mark_of n (item_at items k)) (Some k) (position_from (is_mark_of n) (k + 1) (drop (k + 1) items))) (length items))
label_more items forms k n h = ap (λ o. word_address items forms (unwrap_or o (length items))) (position_more (is_mark_of n) items k h)

pub label_other : (items : List AsmItem) (forms : List (Option Form)) (k n : ℕ) → k < length items → is_mark_of n (item_at items k) ≡ false → label_from items forms k n ≡ label_from items forms (k + 1) n
label_other items forms k n h e =
    label_more items forms k n h ∙ ap (λ b. word_address items forms (unwrap_or (cond b (Some k) (position_from (is_mark_of n) (k + 1) (drop (k + 1) items))) (length items))) e

pub label_here : (items : List AsmItem) (forms : List (Option Form)) (k n : ℕ) → k < length items → is_mark_of n (item_at items k) ≡ true → label_from items forms k n ≡ word_address items forms k
label_here items forms k n h e =
    label_more items forms k n h ∙ ap (λ b. word_address items forms (unwrap_or (cond b (Some k) (position_from (is_mark_of n) (k + 1) (drop (k + 1) items))) (length items))) e

pub label_skips : (items : List AsmItem) (forms : List (Option Form)) (k n : ℕ) → k < length items → ((l : Label) → item_at items k ≡ Mark l → ⊥) → label_from items forms k n ≡ label_from items forms (k + 1) n
label_skips items forms k n h unmarked = label_other items forms k n h (mark_not (item_at items k) n unmarked)

pub labels_are : (items : List AsmItem) (forms : List (Option Form)) (labels : List ℕ) → length labels ≡ mark_count items
    → ((n : ℕ) → n < mark_count items → slice_index labels n ≡ label_from items forms 0 n) → labels ≡ labels_of items forms
unfolding labels_of
labels_are items forms labels len at =
    let count = length-map-range_with_len (label_address items forms) 0 (mark_count items) in
    ext_get_or 0 labels (map (label_address items forms) (range_with_len 0 (mark_count items))) (len ∙ sym count)
    (λ n h.
    let lt : n < mark_count items = omega (arith, h, len) in
    let z : 0 + n ≡ n = omega arith in
    at n lt ∙ sym (get_or-map-range_with_len (label_address items forms) 0 (mark_count items) n n 0 lt z))

-- no label is marked after the last item
label_end : (items : List AsmItem) (forms : List (Option Form)) (n : ℕ) → label_from items forms (length items) n ≡ word_address items forms (length items)
label_end items forms n = ap (λ l. word_address items forms (unwrap_or (position_from (is_mark_of n) (length items) l) (length items))) (drop_all (length items) items (omega arith))

pub labels_begin : (items : List AsmItem) (forms : List (Option Form)) (labels : List ℕ) (at count : ℕ) → labels ≡ replicate count at → at ≡ word_address items forms (length items) → (n : ℕ) → n < count → slice_index labels n ≡ label_from items forms (length items) n
labels_begin items forms labels at count are e n h = ap (λ l. slice_index l n) are ∙ get_or-replicate count n at 0 h ∙ e ∙ sym (label_end items forms n)

eq_false : (a b : ℕ) → (a ≡ b → ⊥) → nat_eq a b ≡ false
eq_false a b ne = by (nat_eq a b) refl
  where
    by : (c : Bool) → nat_eq a b ≡ c → nat_eq a b ≡ false
    by true e = absurd (ne (eqb-true a b e))
    by false e = e

eq_true : (a b : ℕ) → a ≡ b → nat_eq a b ≡ true
eq_true a b e = grind arith

-- a mark's label gets its address
pub label_put : (items : List AsmItem) (forms : List (Option Form)) (k : ℕ) (label : Label) (labels : List ℕ) (at : ℕ) → k < length items → item_at items k ≡ Mark label → at ≡ word_address items forms k
    → label.0 < length labels → (n : ℕ) → slice_index labels n ≡ label_from items forms (k + 1) n → slice_index (set labels label.0 at) n ≡ label_from items forms k n
label_put items forms k label labels at lt is a few n h =
    elim (cases_eq n label.0) [
      | inl e ↦ ap (λ m. slice_index (set labels label.0 at) m) e ∙ get_or-set_same labels label.0 at 0 few ∙ a ∙ sym (label_here items forms k n lt (ap (is_mark_of n) is ∙ eq_true label.0 n (sym e)))
      | inr ne ↦ get_or-set_other labels label.0 n at 0 ne ∙ h ∙ sym (label_other items forms k n lt (ap (is_mark_of n) is ∙ eq_false label.0 n (λ e. ne (sym e))))
    ]

-- the addresses of a layout, read
pub rows_length : (items : List AsmItem) (forms : List (Option Form)) (rows : List ℕ) → rows ≡ addresses_of items forms → length rows ≡ length items + 1
rows_length items forms rows e = ap length e ∙ length-map-range_with_len (address items forms) 0 (length items + 1)

pub row_is : (items : List AsmItem) (forms : List (Option Form)) (rows : List ℕ) (k : ℕ) → rows ≡ addresses_of items forms → k ≤ length items → slice_index rows k ≡ address items forms k
row_is items forms rows k e h = ap (λ l. slice_index l k) e ∙ address_read items forms k h
