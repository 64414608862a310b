-- What a table of addresses bounds, and the addresses of a layout as a table.
use Rattle.std.proofs.Common.{◌≡◌, ℕ, ◌+◌, ◌-◌, ◌*◌, ◌/◌, ◌<◌, ◌≤◌, List, Option, length, slice_index, set, arith, ap, sym, ◌∙◌, inl, inr}
use Rattle.std.proofs.lemmas.Bool.{cases_lt}
use Rattle.asm51.specs.declared.items.AsmItem.{AsmItem}
use Rattle.asm51.specs.declared.layouts.Form.{Form}
use Rattle.asm51.specs.Instructions.{item_size}
use Rattle.asm51.specs.Layouts.{address}
use Rattle.asm51.proofs.Addresses.{item_at, form_at, address_le, address_next, set_before, set_after}
use Rattle.jump_expand.specs.declared.addresses.Addresses.{Addresses}
use Rattle.jump_expand.specs.Code.Blocks.{address_in, IsTable, AreAddresses}

pub within_below : (a : Addresses) (count bound : ℕ) → IsTable a count bound → (k : ℕ) → k < count → slice_index a.within.items k ≤ bound
within_below a count bound t k h = omega (arith, t.below k h)

pub starts_below : (a : Addresses) (count bound : ℕ) → IsTable a count bound → (b : ℕ) → b < length a.starts.items → slice_index a.starts.items b ≤ bound
starts_below a count bound t b h =
    let in_table : 256 * b < count = omega (arith, t.starts, h) in
    let e : 256 * b / 256 ≡ b = omega arith in
    let s : slice_index a.starts.items (256 * b / 256) ≡ slice_index a.starts.items b = ap (slice_index a.starts.items) e in
    omega (arith, t.below (256 * b) in_table, s)

pub table_of : (a : Addresses) (items : List AsmItem) (forms : List (Option Form)) → AreAddresses a items forms → IsTable a (length items + 1) (7 * length items)
table_of a items forms h =
    record {
      within = h.within;
      starts = omega (arith, h.starts);
      below = λ k lt. omega (arith, h.at k (omega arith), address_le items forms k);
    }

-- a table of which the first addresses are there
pub part_table : (a : Addresses) (items : List AsmItem) (forms : List (Option Form)) (n : ℕ) → length a.within.items ≡ n + 1 → length a.starts.items ≡ n / 256 + 1
    → ((k : ℕ) → k ≤ n → address_in a k ≡ address items forms k) → IsTable a (n + 1) (7 * length items)
part_table a items forms n w s at =
    record {
      within = w;
      starts = omega (arith, s);
      below = λ k lt. omega (arith, at k (omega arith), address_le items forms k);
    }

-- one address more
pub row_more : (a b : Addresses) (items : List AsmItem) (forms : List (Option Form)) (n size : ℕ) → n < length items → length a.within.items ≡ n + 1
    → ((k : ℕ) → k ≤ n → address_in a k ≡ address items forms k) → size ≡ item_size (item_at items n) (form_at forms n)
    → ((k : ℕ) → k < length a.within.items → address_in b k ≡ address_in a k)
    → address_in b (length a.within.items) ≡ address_in a (length a.within.items - 1) + size
    → (k : ℕ) → k ≤ n + 1 → address_in b k ≡ address items forms k
row_more a b items forms n size lt w at s same last k hk =
    elim (cases_lt k (n + 1)) [
      | inl less ↦ same k (omega arith) ∙ at k (omega arith)
      | inr nless ↦
          let e : k ≡ length a.within.items = omega arith in
          let f : length a.within.items - 1 ≡ n = omega arith in
          let g : n + 1 ≡ k = omega arith in
          let v : address_in a (length a.within.items - 1) ≡ address items forms n = ap (address_in a) f ∙ at n (omega arith) in
          let u : address items forms n + size ≡ address items forms (n + 1) = omega (arith, s, address_next items forms n lt) in
          ap (address_in b) e ∙ last ∙ ap (λ m. m + size) v ∙ u ∙ ap (address items forms) g
    ]

-- an item takes a form that isn't shorter, and what comes after it moves
pub addresses_after : (a b : Addresses) (items : List AsmItem) (forms : List (Option Form)) (k : ℕ) (form : Option Form) (by : ℕ) → AreAddresses a items forms
    → length forms ≡ length items → k < length items → item_size (item_at items k) (form_at forms k) ≤ item_size (item_at items k) form
    → by ≡ item_size (item_at items k) form - item_size (item_at items k) (form_at forms k)
    → length b.within.items ≡ length a.within.items → length b.starts.items ≡ length a.starts.items
    → ((i : ℕ) → i ≤ k → address_in b i ≡ address_in a i) → ((i : ℕ) → k < i → i < length a.within.items → address_in b i ≡ address_in a i + by)
    → AreAddresses b items (set forms k form)
addresses_after a b items forms k form by h len lt le e w s before after =
    record {
      within = w ∙ h.within;
      starts = s ∙ h.starts;
      at = λ i hi.
          elim (cases_lt k i) [
            | inl gt ↦ omega (arith, after i gt (omega (arith, h.within)), h.at i hi, set_after items forms k form i (omega arith) lt gt, e, le)
            | inr ngt ↦ before i (omega arith) ∙ h.at i hi ∙ sym (set_before items forms k form i (omega arith))
          ];
    }
