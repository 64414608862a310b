-- What a layout of the code stands for (own): the relaxed layout of the items, with its addresses, and the item that each item leads to.
use Rattle.std.specs.Prelude.{◌≡◌, ℕ, ◌+◌, ◌<◌, ◌≤◌, List, map, length, Option}
use Rattle.std.specs.List.{range_with_len}
use Rattle.asm51.specs.declared.items.AsmItem.{AsmItem}
use Rattle.asm51.specs.declared.layouts.Form.{Form}
use Rattle.asm51.specs.declared.layouts.JumpLayout.{JumpLayout}
use Rattle.asm51.specs.Items.{target_of}
use Rattle.asm51.specs.Layouts.{address, code_length}
use Rattle.asm51.specs.Relaxation.{IsRelaxed}

-- the addresses of the items, and last that of their end
abbrev pub addresses_of : List AsmItem → List (Option Form) → List ℕ
addresses_of items forms = map (address items forms) (range_with_len 0 (length items + 1))

abbrev pub targets_of : List AsmItem → List ℕ
targets_of items = map (target_of items) items

-- It is the relaxed layout of these items, and fits into code memory.
pub record IsLayoutOf (items : List AsmItem) (layout : JumpLayout) : Type 0 where
  pub relaxed : IsRelaxed items layout.forms
  pub addresses : layout.addresses ≡ addresses_of items layout.forms
  pub targets : layout.targets ≡ targets_of items
  pub fits : code_length items layout.forms ≤ 65536

-- The relaxed layout of these items has so many bytes, more than code memory.
pub record IsTooLong (items : List AsmItem) (bytes : ℕ) : Type 0 where
  pub forms : List (Option Form)
  pub relaxed : IsRelaxed items forms
  pub length : code_length items forms ≡ bytes
  pub above : 65536 < bytes
