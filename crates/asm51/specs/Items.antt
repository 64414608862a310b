-- The items of an assembly program, and where those lead that name a place. The language is this project's own, after the assembly
-- language of CerCo (deliverable 4.1), in which jumps and calls name labels, and cost labels stand between instructions.
use Rattle.std.specs.Prelude.{ℕ, List, unwrap_or, Bool, true, false, ◌&&◌, nat_eq, length, count_by}
use Rattle.std.specs.List.{position_from}
use Rattle.asm51.specs.declared.items.AsmItem.{AsmItem}
use Rattle.asm51.specs.declared.items.AsmItem.TheVariants.{Mark, Enter, Here, Jump, Test, Call}

-- the item is the place of this node of this function
abbrev pub is_here : ℕ → ℕ → AsmItem → Bool
is_here function node (Here f n) = nat_eq f function && nat_eq n node
is_here function node item = false

-- the item is the entry of this function
abbrev pub is_enter : ℕ → AsmItem → Bool
is_enter function (Enter f) = nat_eq f function
is_enter function item = false

-- the item is a mark; it is the mark of this label
abbrev pub is_mark : AsmItem → Bool
is_mark (Mark l) = true
is_mark item = false

abbrev pub is_mark_of : ℕ → AsmItem → Bool
is_mark_of label (Mark l) = nat_eq l.0 label
is_mark_of label item = false

-- the item has a form: it is a jump or a test
abbrev pub is_jump : AsmItem → Bool
is_jump (Jump f n) = true
is_jump (Test f n) = true
is_jump item = false

-- the number of the first item that passes a test, and the number of the items where none does
abbrev pub place : (AsmItem → Bool) → List AsmItem → ℕ
place test items = unwrap_or (position_from test 0 items) (length items)

-- the number of the item that a jump, a test or a call leads to
abbrev pub target_of : List AsmItem → AsmItem → ℕ
target_of items (Jump f n) = place (is_here f n) items
target_of items (Test f n) = place (is_here f n) items
target_of items (Call f) = place (is_enter f) items
target_of items item = length items

-- how many labels are marked, and how many jumps and tests there are
abbrev pub mark_count : List AsmItem → ℕ
mark_count items = count_by is_mark items

abbrev pub jump_count : List AsmItem → ℕ
jump_count items = count_by is_jump items
