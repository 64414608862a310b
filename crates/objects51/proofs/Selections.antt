-- What a selection says of the item at a number.
use Rattle.std.proofs.Common.{◌≡◌, ℕ, zero, suc, ◌+◌, ◌<◌, ◌≤◌, List, [], ◌∷◌, true, Some, refl, sym, ap, ◌∙◌, subst, arith, slice_get, take, drop}
use Rattle.cerco_base.specs.declared.events.Label.{Label}
use Rattle.mcs51_isa.specs.declared.instr.Instr.{Instr}
use Rattle.mcs51_isa.specs.declared.instr.Instr.TheVariants.{Nop, Sjmp, Ret}
use Rattle.mcs51_isa.specs.declared.instr.ReturnKind.{ReturnKind}
use Rattle.sim51.specs.Straight.{IsStraight}
use Rattle.sim51.specs.StackApart.{SparesStack}
use Rattle.asm51.specs.declared.items.AsmItem.{AsmItem}
use Rattle.asm51.specs.declared.items.AsmItem.TheVariants.{Plain, Mark, Enter, Here, Jump, Test, Call}
use Rattle.asm51.specs.Items.{target_of}
use Rattle.asm51.specs.WellFormed.{BeginsWithNop, MarksHaveNops, IsWellFormed}
use Rattle.asm51.specs.Selected.{IsSelectable, ItemIsSelectable, has_code, TurnsBack, AreSelected}
use Rattle.asm51.proofs.Counting.{of_each, of_each_numbered, first_found}
use Rattle.objects51.proofs.Lists.{slice_get-drop, slice_get-front}

-- The instructions of a selection: straight-line code that spares the stack, returns, and the jump to itself.
pub data Selected : Instr → Type 0 where
  is_straight : (i : Instr) → IsStraight i → SparesStack i → Selected i
  is_return : (kind : ReturnKind) → Selected (Ret kind)
  is_end : (offset : ℕ) → offset ≡ 0xFE → Selected (Sjmp offset)

selected : (i : Instr) → IsSelectable i → Selected i
selected Nop h = is_straight Nop h.0 h.1
selected (Ret kind) h = is_return kind
selected (Sjmp offset) h = is_end offset h
selected i h = is_straight i h.0 h.1

pub selected_at : (items : List AsmItem) (k : ℕ) (i : Instr) → AreSelected items → 1 ≤ k → slice_get items k ≡ Some (Plain i) → Selected i
selected_at items zero i sel later e = absurd (omega arith)
selected_at items (suc k) i sel later e =
    let s : 1 + k ≡ suc k = omega arith in
    selected i (of_each ItemIsSelectable (drop 1 items) k (Plain i) sel.instructions (slice_get-drop 1 items k ∙ ap (slice_get items) s ∙ e))

begins_with_nop : (items : List AsmItem) → BeginsWithNop items → slice_get items 0 ≡ Some (Plain Nop)
begins_with_nop (Plain Nop ∷ items) h = refl
begins_with_nop [] h = absurd h
begins_with_nop (Plain _ ∷ items) h = absurd h
begins_with_nop (_ ∷ items) h = absurd h

nop_follows : (items : List AsmItem) (k : ℕ) (l : Label) → MarksHaveNops items → slice_get items k ≡ Some (Mark l) → slice_get items (suc k) ≡ Some (Plain Nop)
nop_follows [] k l h e = absurd cc
nop_follows (Mark m ∷ items) zero l h e = begins_with_nop items h.0
nop_follows (Mark m ∷ items) (suc k) l h e = nop_follows items k l h.1 e
nop_follows (Plain i ∷ items) zero l h e = absurd cc
nop_follows (Plain i ∷ items) (suc k) l h e = nop_follows items k l h e
nop_follows (Enter f ∷ items) zero l h e = absurd cc
nop_follows (Enter f ∷ items) (suc k) l h e = nop_follows items k l h e
nop_follows (Here f n ∷ items) zero l h e = absurd cc
nop_follows (Here f n ∷ items) (suc k) l h e = nop_follows items k l h e
nop_follows (Jump f n ∷ items) zero l h e = absurd cc
nop_follows (Jump f n ∷ items) (suc k) l h e = nop_follows items k l h e
nop_follows (Test f n ∷ items) zero l h e = absurd cc
nop_follows (Test f n ∷ items) (suc k) l h e = nop_follows items k l h e
nop_follows (Call f ∷ items) zero l h e = absurd cc
nop_follows (Call f ∷ items) (suc k) l h e = nop_follows items k l h e

-- the NOP of a mark
pub nop_at : (items : List AsmItem) (k : ℕ) (l : Label) → IsWellFormed items → slice_get items k ≡ Some (Mark l) → slice_get items (suc k) ≡ Some (Plain Nop)
nop_at items k l w e = nop_follows items k l w.nops e

-- An item with code stands between these numbers.
pub record HasCode (items : List AsmItem) (from below : ℕ) : Type 0 where
  pub at : ℕ
  pub item : AsmItem
  pub after : from ≤ at
  pub before : at < below
  pub is : slice_get items at ≡ Some item
  pub code : has_code item ≡ true

pub code_between : (items : List AsmItem) (k f n : ℕ) → AreSelected items → slice_get items k ≡ Some (Jump f n) → target_of items (Jump f n) ≤ k → HasCode items (target_of items (Jump f n)) k
code_between items k f n sel e back =
    let t = target_of items (Jump f n) in
    let z : 0 + k ≡ k = omega arith in
    let turns : TurnsBack items k (Jump f n) = subst (λ m. TurnsBack items m (Jump f n)) z (of_each_numbered (TurnsBack items) 0 items k (Jump f n) sel.turns e) in
    let first = first_found has_code 0 (drop t (take k items)) (turns back) in
    let there = slice_get-front k items (t + first.at) first.element (sym (slice_get-drop t (take k items) first.at) ∙ first.is) in
    record { at = t + first.at; item = first.element; after = omega arith; before = there.0; is = there.1; code = first.passes }
