-- What the lists of a layout have at the number of an item, as the code reads and makes them.
use Rattle.std.proofs.Common.{◌≡◌, ℕ, zero, suc, ◌+◌, ◌<◌, ◌≤◌, List, [], ◌∷◌, ◌++◌, Option, Some, None, Bool, true, false, cond, refl, sym, ap, ◌∙◌, arith, length, map, slice_index, unwrap_or}
use Rattle.std.specs.List.{position_from, range_with_len}
use Rattle.std.proofs.lemmas.List.FromFn.{get_or-map-range_with_len}
use Rattle.std.proofs.lemmas.Option.{slice_get-get_or, get_or_from_slice_get}
use Rattle.mcs51_isa.specs.declared.instr.Instr.TheVariants.{Nop}
use Rattle.asm51.specs.declared.items.AsmItem.{AsmItem}
use Rattle.asm51.specs.declared.items.AsmItem.TheVariants.{Plain, Mark, Enter, Here, Jump, Test, Call}
use Rattle.asm51.specs.declared.layouts.Form.{Form}
use Rattle.asm51.specs.Items.{is_here, is_enter, place, target_of}
use Rattle.asm51.specs.Layouts.{address}
use Rattle.asm51.specs.Relaxation.{grown, round}
use Rattle.asm51.specs.JumpLayouts.{addresses_of, targets_of}
use Rattle.asm51.proofs.Addresses.{item_at, form_at}
use Rattle.asm51.proofs.Rounds.{round_at}

range_push : (a n : ℕ) → range_with_len a (suc n) ≡ range_with_len a n ++ (a + n) ∷ []
range_push a zero =
    let z : a ≡ a + 0 = omega arith in
    ap (λ m. m ∷ []) z
range_push a (suc n) =
    let s : a + 1 + n ≡ a + suc n = omega arith in
    ap (λ ms. a ∷ ms) (range_push (a + 1) n ∙ ap (λ m. range_with_len (a + 1) n ++ m ∷ []) s)

map_push : {X Y : Type 0} (f : X → Y) (xs : List X) (y : X) → map f (xs ++ y ∷ []) ≡ map f xs ++ f y ∷ []
map_push f [] y = refl
map_push f (x ∷ xs) y = ap (λ ys. f x ∷ ys) (map_push f xs y)

-- one more element of a list by number
pub range_more : {X : Type 0} (f : ℕ → X) (n : ℕ) → map f (range_with_len 0 (n + 1)) ≡ map f (range_with_len 0 n) ++ f n ∷ []
range_more f n =
    let s : n + 1 ≡ suc n = omega arith in
    let z : 0 + n ≡ n = omega arith in
    ap (λ m. map f (range_with_len 0 m)) s ∙ ap (map f) (range_push 0 n) ∙ map_push f (range_with_len 0 n) (0 + n) ∙ ap (λ m. map f (range_with_len 0 n) ++ f m ∷ []) z

pub address_read : (items : List AsmItem) (forms : List (Option Form)) (k : ℕ) → k ≤ length items → slice_index (addresses_of items forms) k ≡ address items forms k
address_read items forms k h = get_or-map-range_with_len (address items forms) 0 (length items + 1) k k 0 (omega arith) (omega arith)

map_read : (f : AsmItem → ℕ) (items : List AsmItem) (k : ℕ) → k < length items → slice_index (map f items) k ≡ f (item_at items k)
map_read f [] k h = absurd (omega arith)
map_read f (item ∷ items) zero h = refl
map_read f (item ∷ items) (suc k) h = map_read f items k (omega arith)

pub target_read : (items : List AsmItem) (k : ℕ) → k < length items → slice_index (targets_of items) k ≡ target_of items (item_at items k)
target_read items k h = map_read (target_of items) items k h

first_le : (test : AsmItem → Bool) (i : ℕ) (items : List AsmItem) → unwrap_or (position_from test i items) (i + length items) ≤ i + length items
first_le test i [] = omega arith
first_le test i (item ∷ items) = by (test item) refl (first_le test (i + 1) items)
  where
    by : (b : Bool) → test item ≡ b → unwrap_or (position_from test (i + 1) items) (i + 1 + length items) ≤ i + 1 + length items → unwrap_or (position_from test i (item ∷ items)) (i + suc (length items)) ≤ i + suc (length items)
    by true e rest =
        let s : unwrap_or (position_from test i (item ∷ items)) (i + suc (length items)) ≡ i = ap (λ b. unwrap_or (cond b (Some i) (position_from test (i + 1) items)) (i + suc (length items))) e in
        omega (arith, s)
    by false e rest =
        let n : i + 1 + length items ≡ i + suc (length items) = omega arith in
        let s : unwrap_or (position_from test i (item ∷ items)) (i + suc (length items)) ≡ unwrap_or (position_from test (i + 1) items) (i + 1 + length items) =
        ap (λ b. unwrap_or (cond b (Some i) (position_from test (i + 1) items)) (i + suc (length items))) e ∙ ap (λ m. unwrap_or (position_from test (i + 1) items) m) (sym n) in
        omega (arith, s, n, rest)

place_le : (test : AsmItem → Bool) (items : List AsmItem) → place test items ≤ length items
place_le test items =
    let z : 0 + length items ≡ length items = omega arith in
    let s : place test items ≡ unwrap_or (position_from test 0 items) (0 + length items) = ap (λ m. unwrap_or (position_from test 0 items) m) (sym z) in
    omega (arith, s, first_le test 0 items)

pub target_le : (items : List AsmItem) (item : AsmItem) → target_of items item ≤ length items
target_le items (Jump f n) = place_le (is_here f n) items
target_le items (Test f n) = place_le (is_here f n) items
target_le items (Call f) = place_le (is_enter f) items
target_le items (Plain i) = omega arith
target_le items (Mark l) = omega arith
target_le items (Enter f) = omega arith
target_le items (Here f n) = omega arith

pub round_read : (items : List AsmItem) (forms : List (Option Form)) (k : ℕ) → length forms ≡ length items → k < length items
    → form_at (round items forms) k ≡ grown (address items forms k + 2) (address items forms (target_of items (item_at items k))) (item_at items k) (form_at forms k)
round_read items forms k same h =
    get_or_from_slice_get (round items forms) k _ None
    (round_at items forms k (item_at items k) (form_at forms k) (slice_get-get_or items k (Plain Nop) h) (slice_get-get_or forms k None (omega (arith, same, h))))
