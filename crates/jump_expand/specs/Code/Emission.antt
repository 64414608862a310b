-- What is left of the code and of the labels at an item (own).
use Rattle.std.specs.Prelude.{ℕ, List, Option, unwrap_or, length, drop}
use Rattle.std.specs.List.{position_from}
use Rattle.asm51.specs.declared.items.AsmItem.{AsmItem}
use Rattle.asm51.specs.declared.layouts.Form.{Form}
use Rattle.asm51.specs.Items.{is_mark_of}
use Rattle.asm51.specs.Layouts.{address}
use Rattle.asm51.specs.Emission.{code_from, target_address, word_address}

-- the code from item k on
abbrev pub rest_of_code : List AsmItem → List (Option Form) → ℕ → List ℕ
rest_of_code items forms k = code_from (address items forms) (target_address items forms) k (drop k items) (drop k forms)

-- the address of a label, as the items from k on have it
abbrev pub label_from : List AsmItem → List (Option Form) → ℕ → ℕ → ℕ
label_from items forms k label = word_address items forms (unwrap_or (position_from (is_mark_of label) k (drop k items)) (length items))
