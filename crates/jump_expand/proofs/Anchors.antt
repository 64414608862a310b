-- The places of items by their keys.
use Rattle.std.proofs.Common.{◌≡◌, ℕ, ◌+◌, ◌<◌, List, [], ◌∷◌, ◌++◌, Bool, true, false, cond, ◌&&◌, nat_eq, refl, sym, ap, ap₂, ◌∙◌, arith, inl, inr, length, drop, slice_index, Some, None, unwrap_or}
use Rattle.std.specs.List.{position_from}
use Rattle.std.proofs.lemmas.List.{get_or_append_left, get_or_push, drop_more, length_push}
use Rattle.std.proofs.lemmas.Bool.{cases_lt}
use Rattle.mcs51_isa.specs.declared.instr.Instr.TheVariants.{Nop}
use Rattle.asm51.specs.declared.items.AsmItem.{AsmItem}
use Rattle.asm51.specs.declared.items.AsmItem.TheVariants.{Plain, Mark, Enter, Here, Jump, Test, Call}
use Rattle.asm51.specs.Items.{target_of, is_jump, is_here, is_enter, place}
use Rattle.asm51.proofs.Addresses.{item_at}
use Rattle.jump_expand.specs.Code.Anchors.{wanted_of, is_anchor}

and_true : (b : Bool) → (b && true) ≡ b
and_true true = refl
and_true false = refl

here_key : (f n : ℕ) (item : AsmItem) → is_anchor (0, f, n) item ≡ is_here f n item
here_key f n (Here g m) = refl
here_key f n (Enter g) = refl
here_key f n (Plain i) = refl
here_key f n (Mark l) = refl
here_key f n (Jump g m) = refl
here_key f n (Test g m) = refl
here_key f n (Call g) = refl

enter_key : (f : ℕ) (item : AsmItem) → is_anchor (1, f, 0) item ≡ is_enter f item
enter_key f (Here g m) = refl
enter_key f (Enter g) = and_true (nat_eq g f)
enter_key f (Plain i) = refl
enter_key f (Mark l) = refl
enter_key f (Jump g m) = refl
enter_key f (Test g m) = refl
enter_key f (Call g) = refl

position_same : (p q : AsmItem → Bool) → ((item : AsmItem) → p item ≡ q item) → (k : ℕ) (items : List AsmItem) → position_from p k items ≡ position_from q k items
position_same p q h k [] = refl
position_same p q h k (item ∷ items) = ap₂ (λ b o. cond b (Some k) o) (h item) (position_same p q h (k + 1) items)

place_same : (p q : AsmItem → Bool) → ((item : AsmItem) → p item ≡ q item) → (items : List AsmItem) → place p items ≡ place q items
place_same p q h items = ap (λ o. unwrap_or o (length items)) (position_same p q h 0 items)

-- the place of the key that an item names is where it leads
pub key_found : (items : List AsmItem) (item : AsmItem) (key : ℕ × ℕ × ℕ) → wanted_of item ≡ Some key → place (is_anchor key) items ≡ target_of items item
key_found items (Jump f n) key e =
    let k : key ≡ (0, f, n) = cc in
    ap (λ q. place (is_anchor q) items) k ∙ place_same (is_anchor (0, f, n)) (is_here f n) (here_key f n) items
key_found items (Test f n) key e =
    let k : key ≡ (0, f, n) = cc in
    ap (λ q. place (is_anchor q) items) k ∙ place_same (is_anchor (0, f, n)) (is_here f n) (here_key f n) items
key_found items (Call f) key e =
    let k : key ≡ (1, f, 0) = cc in
    ap (λ q. place (is_anchor q) items) k ∙ place_same (is_anchor (1, f, 0)) (is_enter f) (enter_key f) items
key_found items (Plain i) key e = cc
key_found items (Mark l) key e = cc
key_found items (Enter f) key e = cc
key_found items (Here f n) key e = cc

pub no_key : (items : List AsmItem) (item : AsmItem) → wanted_of item ≡ None → length items ≡ target_of items item
no_key items (Jump f n) e = cc
no_key items (Test f n) e = cc
no_key items (Call f) e = cc
no_key items (Plain i) e = refl
no_key items (Mark l) e = refl
no_key items (Enter f) e = refl
no_key items (Here f n) e = refl

-- one item more at the front of those that are looked through
pub position_more : (p : AsmItem → Bool) (items : List AsmItem) (k : ℕ) → k < length items
    → position_from p k (drop k items) ≡ cond (p (item_at items k)) (Some k) (position_from p (k + 1) (drop (k + 1) items))
position_more p items k h = ap (position_from p k) (drop_more items k (Plain Nop) h)

pub items_more : (ns : List ℕ) (k n : ℕ) → ((j : ℕ) → j < length ns → slice_index ns j < n) → k < n → (j : ℕ) → j < length (ns ++ k ∷ []) → slice_index (ns ++ k ∷ []) j < n
items_more ns k n h lt j hj =
    elim (cases_lt j (length ns)) [
      | inl less ↦ omega (arith, h j less, get_or_append_left ns (k ∷ []) 0 j less)
      | inr nless ↦
          let e : length ns ≡ j = omega (arith, length_push ns k) in
          omega (arith, get_or_push ns k 0 j e)
    ]

pub all_more : (items : List AsmItem) (ns : List ℕ) (k : ℕ) → ((i : ℕ) → i < k → is_jump (item_at items i) ≡ true → (j : ℕ) × (j < length ns) × (slice_index ns j ≡ i))
    → (i : ℕ) → i < k + 1 → is_jump (item_at items i) ≡ true → (j : ℕ) × (j < length (ns ++ k ∷ [])) × (slice_index (ns ++ k ∷ []) j ≡ i)
all_more items ns k h i hi e =
    elim (cases_lt i k) [
      | inl less ↦
          let j = h i less e in
          (j.0, omega (arith, j.1, length_push ns k), get_or_append_left ns (k ∷ []) 0 j.0 j.1 ∙ j.2)
      | inr nless ↦
          let same : k ≡ i = omega arith in
          (length ns, omega (arith, length_push ns k), get_or_push ns k 0 (length ns) refl ∙ same)
    ]

pub all_kept : (items : List AsmItem) (ns : List ℕ) (k : ℕ) → is_jump (item_at items k) ≡ false
    → ((i : ℕ) → i < k → is_jump (item_at items i) ≡ true → (j : ℕ) × (j < length ns) × (slice_index ns j ≡ i))
    → (i : ℕ) → i < k + 1 → is_jump (item_at items i) ≡ true → (j : ℕ) × (j < length ns) × (slice_index ns j ≡ i)
all_kept items ns k none h i hi e =
    elim (cases_lt i k) [
      | inl less ↦ h i less e
      | inr nless ↦
          let same : i ≡ k = omega arith in
          let f : true ≡ false = sym e ∙ ap (λ m. is_jump (item_at items m)) same ∙ none in cc
    ]
