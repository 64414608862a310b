-- The addresses of items: each stands after the one before it, and when one takes another form those after it move.
use Rattle.std.proofs.Common.{◌≡◌, ℕ, zero, suc, ◌+◌, ◌*◌, ◌<◌, ◌≤◌, List, [], ◌∷◌, Option, Some, None, refl, ap, ◌∙◌, arith, lit≤, length, drop, set, slice_index_or}
use Rattle.mcs51_isa.specs.declared.instr.Instr.TheVariants.{Nop}
use Rattle.mcs51_isa.proofs.Bounds.{size_bounds}
use Rattle.asm51.specs.declared.items.AsmItem.{AsmItem}
use Rattle.asm51.specs.declared.items.AsmItem.TheVariants.{Plain, Mark, Enter, Here, Jump, Test, Call}
use Rattle.asm51.specs.declared.layouts.Form.{Form}
use Rattle.asm51.specs.Instructions.{item_size}
use Rattle.asm51.specs.Layouts.{first_form, address}

-- an item and a form by number, as the code reads them
abbrev pub item_at : List AsmItem → ℕ → AsmItem
item_at items k = slice_index_or items k (Plain Nop)

abbrev pub form_at : List (Option Form) → ℕ → Option Form
form_at forms k = slice_index_or forms k None

pub first_form_at : (forms : List (Option Form)) → first_form forms ≡ form_at forms 0
first_form_at [] = refl
first_form_at (form ∷ forms) = refl

pub next_form_at : (forms : List (Option Form)) (k : ℕ) → form_at (drop 1 forms) k ≡ form_at forms (suc k)
next_form_at [] k = refl
next_form_at (form ∷ forms) k = refl

pub size_le : (item : AsmItem) (form : Option Form) → item_size item form ≤ 7
size_le (Plain i) form = omega (arith, size_bounds i)
size_le (Mark l) form = lit≤ tt
size_le (Enter f) form = lit≤ tt
size_le (Here f n) form = lit≤ tt
size_le (Jump f n) None = lit≤ tt
size_le (Jump f n) (Some Form.Short) = lit≤ tt
size_le (Jump f n) (Some Form.Page) = lit≤ tt
size_le (Jump f n) (Some Form.Long) = lit≤ tt
size_le (Test f n) None = lit≤ tt
size_le (Test f n) (Some Form.Short) = lit≤ tt
size_le (Test f n) (Some Form.Page) = lit≤ tt
size_le (Test f n) (Some Form.Long) = lit≤ tt
size_le (Call f) form = lit≤ tt

pub address_le : (items : List AsmItem) (forms : List (Option Form)) (k : ℕ) → address items forms k ≤ 7 * length items
address_le items forms zero = omega arith
address_le [] forms (suc k) = omega arith
address_le (item ∷ items) forms (suc k) = omega (arith, size_le item (first_form forms), address_le items (drop 1 forms) k)

-- no item stands after the end
pub address_end : (items : List AsmItem) (forms : List (Option Form)) (k : ℕ) → address items forms k ≤ address items forms (length items)
address_end items forms zero = omega arith
address_end [] forms (suc k) = omega arith
address_end (item ∷ items) forms (suc k) = omega (arith, address_end items (drop 1 forms) k)

address_suc : (items : List AsmItem) (forms : List (Option Form)) (k : ℕ) → k < length items → address items forms (suc k) ≡ address items forms k + item_size (item_at items k) (form_at forms k)
address_suc [] forms k h = absurd (omega arith)
address_suc (item ∷ items) forms zero h = omega (arith, ap (item_size item) (first_form_at forms))
address_suc (item ∷ items) forms (suc k) h = omega (arith, address_suc items (drop 1 forms) k (omega arith), ap (item_size (item_at items k)) (next_form_at forms k))

-- the next item stands after an item's bytes
pub address_next : (items : List AsmItem) (forms : List (Option Form)) (k : ℕ) → k < length items → address items forms (k + 1) ≡ address items forms k + item_size (item_at items k) (form_at forms k)
address_next items forms k h =
    let s : k + 1 ≡ suc k = omega arith in
    ap (address items forms) s ∙ address_suc items forms k h

-- item k takes another form: items up to it stay
pub set_before : (items : List AsmItem) (forms : List (Option Form)) (k : ℕ) (form : Option Form) (i : ℕ) → i ≤ k → address items (set forms k form) i ≡ address items forms i
set_before items forms k form zero h = refl
set_before [] forms k form (suc i) h = refl
set_before (item ∷ items) [] k form (suc i) h = refl
set_before (item ∷ items) (old ∷ forms) zero form (suc i) h = absurd (omega arith)
set_before (item ∷ items) (old ∷ forms) (suc k) form (suc i) h = ap (λ n. item_size item old + n) (set_before items forms k form i (omega arith))

-- and those after it move by the difference of its sizes
pub set_after : (items : List AsmItem) (forms : List (Option Form)) (k : ℕ) (form : Option Form) (i : ℕ) → k < length forms → k < length items → k < i
    → address items (set forms k form) i + item_size (item_at items k) (form_at forms k) ≡ address items forms i + item_size (item_at items k) form
set_after items forms k form zero few h lt = absurd (omega arith)
set_after [] forms k form (suc i) few h lt = absurd (omega arith)
set_after (item ∷ items) [] k form (suc i) few h lt = absurd (omega arith)
set_after (item ∷ items) (old ∷ forms) zero form (suc i) few h lt = omega arith
set_after (item ∷ items) (old ∷ forms) (suc k) form (suc i) few h lt = omega (arith, set_after items forms k form i (omega arith) (omega arith) (omega arith))
