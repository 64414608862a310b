-- Layouts of an assembly program in code memory. A layout is given by the form of each item; the items stand one after the other from
-- address 0 on (own).
use Rattle.std.specs.Prelude.{ℕ, ◌+◌, List, [], ◌∷◌, map, length, take, drop, Option, Some, None, if◌then◌else◌}
use Rattle.asm51.specs.declared.items.AsmItem.{AsmItem}
use Rattle.asm51.specs.declared.layouts.Form.{Form}
use Rattle.asm51.specs.Items.{is_jump}
use Rattle.asm51.specs.Instructions.{item_size}

-- the form of the first item
abbrev pub first_form : List (Option Form) → Option Form
first_form [] = None
first_form (form ∷ forms) = form

-- the number of bytes of each item
abbrev pub sizes : List AsmItem → List (Option Form) → List ℕ
sizes [] forms = []
sizes (item ∷ items) forms = item_size item (first_form forms) ∷ sizes items (drop 1 forms)

abbrev pub total : List ℕ → ℕ
total [] = 0
total (n ∷ ns) = n + total ns

-- the address of item k, and of the end where k is the number of the items
abbrev pub address : List AsmItem → List (Option Form) → ℕ → ℕ
address items forms k = total (take k (sizes items forms))

-- the number of bytes of all items
abbrev pub code_length : List AsmItem → List (Option Form) → ℕ
code_length items forms = address items forms (length items)

-- the layout in which each jump and each test has this form
abbrev pub all_in : Form → List AsmItem → List (Option Form)
all_in form items = map (λ item. if is_jump item then Some form else None) items

-- the length with long jumps
abbrev pub long_length : List AsmItem → ℕ
long_length items = code_length items (all_in Form.Long items)
