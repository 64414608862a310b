-- Where a step leads: never back to the first item, nor to the NOP of a mark.
use Rattle.std.proofs.Common.{◌≡◌, ℕ, zero, suc, ◌+◌, ◌≤◌, List, Some, Bool, true, false, cond, refl, sym, ap, ◌∙◌, subst, arith, slice_get}
use Rattle.cerco_base.specs.declared.events.Label.{Label}
use Rattle.mcs51_isa.specs.declared.instr.Instr.TheVariants.{Nop, MovDirectImmediate}
use Rattle.asm51.specs.declared.items.AsmItem.{AsmItem}
use Rattle.asm51.specs.declared.items.AsmItem.TheVariants.{Plain, Mark}
use Rattle.asm51.specs.Items.{is_mark}
use Rattle.asm51.specs.Selected.{AreSelected}
use Rattle.objects51.specs.Stands.{IsPlace}
use Rattle.objects51.proofs.Selections.{nop_at}

abbrev is_plain : AsmItem → Bool
is_plain (Plain i) = true
is_plain item = false

differ : {X : Type 0} → (test : X → Bool) (a b : X) → test a ≡ true → test b ≡ false → Some a ≡ Some b → ⊥
differ test a b holds fails e =
    let same : a ≡ b = cc in
    let clash : true ≡ false = sym holds ∙ ap test same ∙ fails in
    cc

module _ (items : List AsmItem) (sel : AreSelected items) where
  -- after an item that is no mark
  pub place_after : (k : ℕ) (item : AsmItem) → slice_get items k ≡ Some item → is_mark item ≡ false → IsPlace items (suc k)
  place_after k item e other =
      record {
        later = omega arith;
        free = λ j l next mark.
            let s : j ≡ k = omega (arith, next) in
            differ is_mark (Mark l) item refl other (sym mark ∙ ap (slice_get items) s ∙ e);
      }

  -- at an item that is no instruction
  pub place_at : (k : ℕ) (item : AsmItem) → slice_get items k ≡ Some item → is_plain item ≡ false → IsPlace items k
  place_at k item e other =
      record {
        later = not_first k e;
        free = λ j l next mark. differ is_plain (Plain Nop) item refl other (sym (nop_at items j l sel.well_formed mark) ∙ ap (slice_get items) next ∙ e);
      }
    where
      not_first : (k : ℕ) → slice_get items k ≡ Some item → 1 ≤ k
      not_first zero e = absurd (differ is_plain (Plain (MovDirectImmediate 0x81 0x7F)) item refl other (sym sel.stack ∙ e))
      not_first (suc k) e = omega arith

  -- after the NOP of a mark
  pub place_after_mark : (k : ℕ) (l : Label) → slice_get items k ≡ Some (Mark l) → IsPlace items (k + 2)
  place_after_mark k l e =
      let two : suc (suc k) ≡ k + 2 = omega arith in
      subst (IsPlace items) two (place_after (suc k) (Plain Nop) (nop_at items k l sel.well_formed e) refl)

  pub place_by_flag : (b : Bool) (i j : ℕ) → IsPlace items i → IsPlace items j → IsPlace items (cond b i j)
  place_by_flag true i j p q = p
  place_by_flag false i j p q = q
