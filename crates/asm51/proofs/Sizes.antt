-- Sizes of items and of layouts.
use Rattle.std.proofs.Common.{◌≡◌, ℕ, ◌≤◌, [], ◌∷◌, Option, Some, None, if◌then◌else◌, refl, arith, lit≤, drop}
use Rattle.sim51.specs.Placed.{bytes_of}
use Rattle.asm51.specs.declared.items.AsmItem.{AsmItem}
use Rattle.asm51.specs.declared.items.AsmItem.TheVariants.{Plain, Mark, Enter, Here, Jump, Test, Call}
use Rattle.asm51.specs.declared.layouts.Form.{Form}
use Rattle.asm51.specs.Items.{is_jump}
use Rattle.asm51.specs.Instructions.{instructions, item_size}
use Rattle.asm51.specs.Layouts.{first_form}
use Rattle.asm51.specs.Laws.{LongIsLongest}

-- wherever an item stands and leads to, it has this many bytes
pub size_anywhere : (at target : ℕ) (item : AsmItem) (form : Option Form) → bytes_of (instructions at target item form) ≡ item_size item form
size_anywhere at target (Plain i) form = refl
size_anywhere at target (Mark l) form = refl
size_anywhere at target (Enter f) form = refl
size_anywhere at target (Here f n) form = refl
size_anywhere at target (Jump f n) None = refl
size_anywhere at target (Jump f n) (Some Form.Short) = refl
size_anywhere at target (Jump f n) (Some Form.Page) = refl
size_anywhere at target (Jump f n) (Some Form.Long) = refl
size_anywhere at target (Test f n) None = refl
size_anywhere at target (Test f n) (Some Form.Short) = refl
size_anywhere at target (Test f n) (Some Form.Page) = refl
size_anywhere at target (Test f n) (Some Form.Long) = refl
size_anywhere at target (Call f) form = refl

pub size_le_long : (item : AsmItem) (form : Option Form) → item_size item form ≤ item_size item (if is_jump item then Some Form.Long else None)
size_le_long (Plain i) form = omega arith
size_le_long (Mark l) form = lit≤ tt
size_le_long (Enter f) form = lit≤ tt
size_le_long (Here f n) form = lit≤ tt
size_le_long (Jump f n) None = lit≤ tt
size_le_long (Jump f n) (Some Form.Short) = lit≤ tt
size_le_long (Jump f n) (Some Form.Page) = lit≤ tt
size_le_long (Jump f n) (Some Form.Long) = lit≤ tt
size_le_long (Test f n) None = lit≤ tt
size_le_long (Test f n) (Some Form.Short) = lit≤ tt
size_le_long (Test f n) (Some Form.Page) = lit≤ tt
size_le_long (Test f n) (Some Form.Long) = lit≤ tt
size_le_long (Call f) form = lit≤ tt

pub long_is_longest : LongIsLongest
long_is_longest [] forms = lit≤ tt
long_is_longest (item ∷ items) forms = omega (arith, size_le_long item (first_form forms), long_is_longest items (drop 1 forms))
