-- The object of an assembly program in a layout: its code, and the addresses of its labels (Intel, MCS-51 family: the encodings; the
-- order of the items is kept).
use Rattle.std.specs.Prelude.{ℕ, suc, ◌%◌, List, [], ◌∷◌, ◌++◌, map, drop, Option}
use Rattle.std.specs.List.{range_with_len}
use Rattle.sim51.specs.Placed.{code_of_instrs}
use Rattle.asm51.specs.declared.items.AsmItem.{AsmItem}
use Rattle.asm51.specs.declared.layouts.Form.{Form}
use Rattle.asm51.specs.Items.{is_mark_of, mark_count, place, target_of}
use Rattle.asm51.specs.Instructions.{instructions}
use Rattle.asm51.specs.Layouts.{first_form, address}

-- the address of an item as a word: past the end of code memory addresses begin at 0 again
abbrev pub word_address : List AsmItem → List (Option Form) → ℕ → ℕ
word_address items forms k = address items forms k % 65536

-- the address that an item leads to
abbrev pub target_address : List AsmItem → List (Option Form) → AsmItem → ℕ
target_address items forms item = word_address items forms (target_of items item)

-- the code of the items from item k on, by the address of each item and the address that it leads to
abbrev pub code_from : (ℕ → ℕ) → (AsmItem → ℕ) → ℕ → List AsmItem → List (Option Form) → List ℕ
code_from at target k [] forms = []
code_from at target k (item ∷ items) forms =
    code_of_instrs (instructions (at k) (target item) item (first_form forms)) ++ code_from at target (suc k) items (drop 1 forms)

unfoldable pub code_of : List AsmItem → List (Option Form) → List ℕ
code_of items forms = code_from (address items forms) (target_address items forms) 0 items forms

-- the address of a label: that of its mark
abbrev pub label_address : List AsmItem → List (Option Form) → ℕ → ℕ
label_address items forms label = word_address items forms (place (is_mark_of label) items)

-- the addresses of the labels, as many as there are marks
unfoldable pub labels_of : List AsmItem → List (Option Form) → List ℕ
labels_of items forms = map (label_address items forms) (range_with_len 0 (mark_count items))
