-- What a round does to the form of one item.
use Rattle.std.proofs.Common.{◌≡◌, ℕ, ◌+◌, ◌<◌, ◌≤◌, List, Option, Some, None, Bool, true, false, if◌then◌else◌, refl, sym, ◌∙◌, subst, arith, lit≤, length}
use Rattle.asm51.specs.declared.items.AsmItem.{AsmItem}
use Rattle.asm51.specs.declared.items.AsmItem.TheVariants.{Plain, Mark, Enter, Here, Jump, Test, Call}
use Rattle.asm51.specs.declared.layouts.Form.{Form}
use Rattle.asm51.specs.Items.{is_jump, target_of}
use Rattle.asm51.specs.Instructions.{item_size}
use Rattle.asm51.specs.Layouts.{address}
use Rattle.asm51.specs.Relaxation.{is_near, same_page, grown, round}
use Rattle.asm51.proofs.Addresses.{item_at, form_at}
use Rattle.asm51.proofs.Readings.{round_read}
use Rattle.jump_expand.specs.Code.Rounds.{rank}

-- a jump's three forms in order, of which the first two may not reach
jump_size : (a b : Bool) (f n : ℕ) → item_size (Jump f n) (Some Form.Short) ≤ item_size (Jump f n) (Some (if a then Form.Short else if b then Form.Page else Form.Long))
jump_size true b f n = lit≤ tt
jump_size false true f n = lit≤ tt
jump_size false false f n = lit≤ tt

page_size : (b : Bool) (f n : ℕ) → item_size (Jump f n) (Some Form.Page) ≤ item_size (Jump f n) (Some (if b then Form.Page else Form.Long))
page_size true f n = lit≤ tt
page_size false f n = lit≤ tt

test_size : (a : Bool) (f n : ℕ) → item_size (Test f n) (Some Form.Short) ≤ item_size (Test f n) (Some (if a then Form.Short else Form.Long))
test_size true f n = lit≤ tt
test_size false f n = lit≤ tt

-- no item gets shorter
pub grown_size : (next target : ℕ) (item : AsmItem) (form : Option Form) → item_size item form ≤ item_size item (grown next target item form)
grown_size next target item None = omega arith
grown_size next target item (Some Form.Long) = omega arith
grown_size next target (Jump f n) (Some Form.Short) = jump_size (is_near next target) (same_page next target) f n
grown_size next target (Jump f n) (Some Form.Page) = page_size (same_page next target) f n
grown_size next target (Test f n) (Some Form.Short) = test_size (is_near next target) f n
grown_size next target (Test f n) (Some Form.Page) = lit≤ tt
grown_size next target (Plain i) (Some Form.Short) = omega arith
grown_size next target (Plain i) (Some Form.Page) = omega arith
grown_size next target (Mark l) (Some Form.Short) = lit≤ tt
grown_size next target (Mark l) (Some Form.Page) = lit≤ tt
grown_size next target (Enter f) (Some Form.Short) = lit≤ tt
grown_size next target (Enter f) (Some Form.Page) = lit≤ tt
grown_size next target (Here f n) (Some Form.Short) = lit≤ tt
grown_size next target (Here f n) (Some Form.Page) = lit≤ tt
grown_size next target (Call f) (Some Form.Short) = lit≤ tt
grown_size next target (Call f) (Some Form.Page) = lit≤ tt

-- what is no jump keeps its form
keeps : (next target : ℕ) (item : AsmItem) (form : Option Form) → is_jump item ≡ false → grown next target item form ≡ form
keeps next target item None e = refl
keeps next target item (Some Form.Long) e = refl
keeps next target (Jump f n) (Some Form.Short) e = cc
keeps next target (Jump f n) (Some Form.Page) e = cc
keeps next target (Test f n) (Some Form.Short) e = cc
keeps next target (Test f n) (Some Form.Page) e = cc
keeps next target (Plain i) (Some Form.Short) e = refl
keeps next target (Plain i) (Some Form.Page) e = refl
keeps next target (Mark l) (Some Form.Short) e = refl
keeps next target (Mark l) (Some Form.Page) e = refl
keeps next target (Enter f) (Some Form.Short) e = refl
keeps next target (Enter f) (Some Form.Page) e = refl
keeps next target (Here f n) (Some Form.Short) e = refl
keeps next target (Here f n) (Some Form.Page) e = refl
keeps next target (Call f) (Some Form.Short) e = refl
keeps next target (Call f) (Some Form.Page) e = refl

pub round_size : (items : List AsmItem) (forms : List (Option Form)) (k : ℕ) → length forms ≡ length items → k < length items
    → item_size (item_at items k) (form_at forms k) ≤ item_size (item_at items k) (form_at (round items forms) k)
round_size items forms k same lt =
    let item = item_at items k in
    let next = address items forms k + 2 in
    let target = address items forms (target_of items item) in
    subst (λ form. item_size item (form_at forms k) ≤ item_size item form) (sym (round_read items forms k same lt)) (grown_size next target item (form_at forms k))

pub round_keeps : (items : List AsmItem) (forms : List (Option Form)) (k : ℕ) → length forms ≡ length items → k < length items → is_jump (item_at items k) ≡ false → form_at (round items forms) k ≡ form_at forms k
round_keeps items forms k same lt e =
    let item = item_at items k in
    round_read items forms k same lt ∙ keeps (address items forms k + 2) (address items forms (target_of items item)) item (form_at forms k) e

-- forms with one number are one
pub rank_same : (a b : Option Form) → rank a ≡ rank b → a ≡ b
rank_same None None e = refl
rank_same (Some Form.Short) (Some Form.Short) e = refl
rank_same (Some Form.Page) (Some Form.Page) e = refl
rank_same (Some Form.Long) (Some Form.Long) e = refl
rank_same None (Some Form.Short) e = absurd (omega arith)
rank_same None (Some Form.Page) e = absurd (omega arith)
rank_same None (Some Form.Long) e = absurd (omega arith)
rank_same (Some Form.Short) None e = absurd (omega arith)
rank_same (Some Form.Short) (Some Form.Page) e = absurd (omega arith)
rank_same (Some Form.Short) (Some Form.Long) e = absurd (omega arith)
rank_same (Some Form.Page) None e = absurd (omega arith)
rank_same (Some Form.Page) (Some Form.Short) e = absurd (omega arith)
rank_same (Some Form.Page) (Some Form.Long) e = absurd (omega arith)
rank_same (Some Form.Long) None e = absurd (omega arith)
rank_same (Some Form.Long) (Some Form.Short) e = absurd (omega arith)
rank_same (Some Form.Long) (Some Form.Page) e = absurd (omega arith)
