-- What the proof asks of an object, by the address of each item as any function; the object of a layout has it.
use Rattle.std.proofs.Common.{◌≡◌, ℕ, ◌+◌, ◌%◌, ◌<◌, ◌≤◌, List, Option, Some, true, arith, refl, length, slice_get}
use Rattle.cerco_base.specs.declared.events.Label.{Label}
use Rattle.asm51.specs.declared.items.AsmItem.{AsmItem}
use Rattle.asm51.specs.declared.items.AsmItem.TheVariants.{Mark}
use Rattle.asm51.specs.declared.layouts.Form.{Form}
use Rattle.asm51.specs.Items.{target_of}
use Rattle.asm51.specs.Layouts.{address, code_length}
use Rattle.asm51.specs.Relaxation.{reaches, IsRelaxed}
use Rattle.asm51.specs.Emission.{code_of, labels_of}
use Rattle.asm51.specs.Selected.{AreSelected}
use Rattle.asm51.proofs.Addresses.{form_at, address_end}
use Rattle.asm51.proofs.Found.{labels_are_marked}
use Rattle.objects51.proofs.Laid.{IsLaid, item_laid, rises, form_reaches}

pub record IsObject (items : List AsmItem) (forms : List (Option Form)) (code labels : List ℕ) (at : ℕ → ℕ) : Type 0 where
  pub rises : (i j : ℕ) → i ≤ j → at i ≤ at j
  pub zero : at 0 ≡ 0
  pub fits : (k : ℕ) → at k ≤ 65536
  pub laid : (k : ℕ) (item : AsmItem) → slice_get items k ≡ Some item → IsLaid code at k (at (target_of items item) % 65536) item (form_at forms k)
  pub reach : (k : ℕ) (item : AsmItem) (form : Form) → slice_get items k ≡ Some item → form_at forms k ≡ Some form → reaches (at k + 2) (at (target_of items item)) item form ≡ true
  pub at_mark : (k : ℕ) (l : Label) → slice_get items k ≡ Some (Mark l) → slice_get labels l.0 ≡ Some (at k % 65536)
  pub of_label : (l : ℕ) → l < length labels → (k : ℕ) × (slice_get items k ≡ Some (Mark (record { 0 = l })))

pub is_object : (items : List AsmItem) (forms : List (Option Form)) → AreSelected items → IsRelaxed items forms → code_length items forms ≤ 65536 → IsObject items forms (code_of items forms) (labels_of items forms) (address items forms)
is_object items forms sel relaxed fits =
    let labels = labels_are_marked items forms sel.well_formed in
    record {
      rises = rises items forms;
      zero = refl;
      fits = λ k. omega (arith, address_end items forms k, fits);
      laid = item_laid items forms fits;
      reach = λ k item form e f. form_reaches items forms k item form relaxed e f;
      at_mark = λ k l e. labels.marks k l.0 e;
      of_label = labels.labels;
    }
