-- Where labels stand: at the NOPs of marks, and nowhere else; and that no jump leads to itself.
use Rattle.std.proofs.Common.{◌≡◌, ◌≢◌, ℕ, suc, ◌+◌, ◌%◌, ◌<◌, ◌≤◌, List, [], ◌∷◌, Option, Some, None, true, ◌⊎◌, inl, inr, refl, sym, ap, ◌∙◌, subst, arith, nat_eq, get_or, length, slice_get}
use Rattle.std.specs.List.{IsDistinct}
use Rattle.std.proofs.lemmas.Bool.{cases_lt, ne_eqb}
use Rattle.std.proofs.lemmas.Option.{slice_get_within, get_or_from_slice_get}
use Rattle.std.proofs.lemmas.Map.Keys.{IsDistinct-from_apart}
use Rattle.cerco_base.specs.declared.events.Label.{Label}
use Rattle.mcs51_isa.specs.declared.instr.Instr.{Instr}
use Rattle.mcs51_isa.specs.declared.instr.Instr.TheVariants.{Nop, MovDirectImmediate}
use Rattle.mcs51_isa.proofs.Bounds.{size_bounds}
use Rattle.sim51.specs.Step.{instr_at, label_at, size}
use Rattle.sim51.specs.Placed.{bytes_of}
use Rattle.sim51.specs.Straight.{HaveNoLabel}
use Rattle.sim51.proofs.Labels.{label_at-Some, label_at-None}
use Rattle.asm51.specs.declared.items.AsmItem.{AsmItem}
use Rattle.asm51.specs.declared.items.AsmItem.TheVariants.{Plain, Mark, Enter, Here, Jump, Test, Call}
use Rattle.asm51.specs.declared.layouts.Form.{Form}
use Rattle.asm51.specs.Items.{target_of}
use Rattle.asm51.specs.Instructions.{instructions}
use Rattle.asm51.specs.Selected.{has_code, AreSelected}
use Rattle.asm51.proofs.Addresses.{form_at}
use Rattle.objects51.proofs.Selections.{nop_at, code_between}
use Rattle.objects51.proofs.Objects.{IsObject}

-- no mark stands directly before item k
abbrev pub IsFree : List AsmItem → ℕ → Type 0
IsFree items k = (j : ℕ) (l : Label) → suc j ≡ k → slice_get items j ≡ Some (Mark l) → ⊥

-- where no label stands between two addresses, none stands at instructions between them
none_by : (labels : List ℕ) (low high : ℕ) → ((a : ℕ) → low ≤ a → a < high → label_at labels a ≡ None) → (is : List Instr) (a : ℕ) → low ≤ a → a + bytes_of is ≤ high → HaveNoLabel labels a is
none_by labels low high none [] a from fits = tt
none_by labels low high none (i ∷ is) a from fits =
    let some = (size_bounds i).0 in
    (none a from (omega (arith, fits, some)), none_by labels low high none is (a + size i) (omega (arith, from)) (omega (arith, fits)))

-- an item with code has a byte at least
code_size : (item : AsmItem) (form : Option Form) (at target : ℕ) → has_code item ≡ true → 1 ≤ bytes_of (instructions at target item form)
code_size (Plain i) form at target e = let some = (size_bounds i).0 in omega (arith, some)
code_size (Jump f n) None at target e = omega arith
code_size (Jump f n) (Some Form.Short) at target e = omega arith
code_size (Jump f n) (Some Form.Page) at target e = omega arith
code_size (Jump f n) (Some Form.Long) at target e = omega arith
code_size (Test f n) None at target e = omega arith
code_size (Test f n) (Some Form.Short) at target e = omega arith
code_size (Test f n) (Some Form.Page) at target e = omega arith
code_size (Test f n) (Some Form.Long) at target e = omega arith
code_size (Call f) form at target e = omega arith
code_size (Mark l) form at target e = absurd cc
code_size (Enter f) form at target e = absurd cc
code_size (Here f n) form at target e = absurd cc

-- the label of a mark by its number
abbrev label_number : Option AsmItem → ℕ
label_number (Some (Mark l)) = l.0
label_number item = 0

module _ (items : List AsmItem) (forms : List (Option Form)) (code labels : List ℕ) (at : ℕ → ℕ) (sel : AreSelected items) (obj : IsObject items forms code labels at) where
  -- a mark takes no bytes, and the NOP after it one
  pub record IsMarkAt (k : ℕ) : Type 0 where
    pub same : at (suc k) ≡ at k
    pub next : at (suc (suc k)) ≡ at (suc k) + 1
    pub nop : instr_at code (at (suc k)) ≡ Some Nop
    pub fits : at (suc k) + 1 ≤ 65536

  pub mark_at : (k : ℕ) (l : Label) → slice_get items k ≡ Some (Mark l) → IsMarkAt k
  mark_at k l e =
      let p = obj.laid k (Mark l) e in
      let n = obj.laid (suc k) (Plain Nop) (nop_at items k l sel.well_formed e) in
      record { same = omega (arith, p.next); next = omega (arith, n.next); nop = n.stands.0; fits = n.stands.1 }

  -- so that its address is within code memory
  mark_address : (k : ℕ) (l : Label) → slice_get items k ≡ Some (Mark l) → at k % 65536 ≡ at k
  mark_address k l e = let m = mark_at k l e in omega (arith, m.same, m.fits)

  label_address : (k : ℕ) (l : Label) (d : ℕ) → slice_get items k ≡ Some (Mark l) → get_or labels l.0 d ≡ at k
  label_address k l d e = get_or_from_slice_get labels l.0 (at k % 65536) d (obj.at_mark k l e) ∙ mark_address k l e

  -- no mark stands inside an item that isn't its NOP
  not_inside : (k a m : ℕ) (l : Label) → IsFree items k → at k ≤ a → a < at (suc k) → slice_get items m ≡ Some (Mark l) → at m ≡ a → ⊥
  not_inside k a m l free low high e q = by_order (cases_lt m k)
    where
      t : IsMarkAt m
      t = mark_at m l e

      before : m < k → (suc m < k) ⊎ (k ≤ suc m) → ⊥
      before lt (inl far) = let r = obj.rises (suc (suc m)) k far in omega (arith, r, t.next, t.same, q, low)
      before lt (inr near) = free m l (omega (arith, lt, near)) e

      after : k ≤ m → (k < m) ⊎ (m ≤ k) → ⊥
      after le (inl far) = let r = obj.rises (suc k) m far in omega (arith, r, q, high)
      after le (inr near) =
          let s : m ≡ k = omega (arith, le, near) in
          let h : at (suc m) ≡ at (suc k) = ap (λ n. at (suc n)) s in
          omega (arith, h, t.same, q, high)

      by_order : (m < k) ⊎ (k ≤ m) → ⊥
      by_order (inl lt) = before lt (cases_lt (suc m) k)
      by_order (inr le) = after le (cases_lt k m)

  unlabelled : (k a : ℕ) → IsFree items k → at k ≤ a → a < at (suc k) → label_at labels a ≡ None
  unlabelled k a free low high =
      label_at-None labels a
      (λ l lt e.
      let m = obj.of_label l lt in
      not_inside k a m.0 (record { 0 = l }) free low high m.1 (sym (label_address m.0 (record { 0 = l }) 0 m.1) ∙ e))

  -- no label stands at the instructions of an item that isn't the NOP of a mark
  pub none_at : (k : ℕ) (item : AsmItem) → IsFree items k → slice_get items k ≡ Some item → HaveNoLabel labels (at k) (instructions (at k) (at (target_of items item) % 65536) item (form_at forms k))
  none_at k item free e =
      let p = obj.laid k item e in
      none_by labels (at k) (at (suc k)) (λ a low high. unlabelled k a free low high) (instructions (at k) (at (target_of items item) % 65536) item (form_at forms k)) (at k) (omega arith) (omega (arith, p.next))

  -- marks at one address are one
  one_mark : (k j : ℕ) (l m : Label) → slice_get items k ≡ Some (Mark l) → slice_get items j ≡ Some (Mark m) → at k ≡ at j → k < j → ⊥
  one_mark k j l m e f q lt = by_order (cases_lt (suc k) j)
    where
      t : IsMarkAt k
      t = mark_at k l e

      by_order : (suc k < j) ⊎ (j ≤ suc k) → ⊥
      by_order (inl far) = let r = obj.rises (suc (suc k)) j far in omega (arith, r, t.next, t.same, q)
      by_order (inr near) =
          let s : suc k ≡ j = omega (arith, lt, near) in
          let n : slice_get items j ≡ Some (Plain Nop) = subst (λ z. slice_get items z ≡ Some (Plain Nop)) s (nop_at items k l sel.well_formed e) in
          let c : Some (Plain Nop) ≡ Some (Mark m) = sym n ∙ f in
          absurd cc

  labels_apart : (i j d : ℕ) → i < j → j < length labels → get_or labels i d ≢ get_or labels j d
  labels_apart i j d lt within q =
      let a = obj.of_label i (omega (arith, lt, within)) in
      let b = obj.of_label j within in
      let same : at a.0 ≡ at b.0 = sym (label_address a.0 (record { 0 = i }) d a.1) ∙ q ∙ label_address b.0 (record { 0 = j }) d b.1 in
      by_order a.0 b.0 a.1 b.1 same (cases_lt a.0 b.0) (cases_lt b.0 a.0)
    where
      by_order : (k m : ℕ) → slice_get items k ≡ Some (Mark (record { 0 = i })) → slice_get items m ≡ Some (Mark (record { 0 = j })) → at k ≡ at m → (k < m) ⊎ (m ≤ k) → (m < k) ⊎ (k ≤ m) → ⊥
      by_order k m e f same (inl less) o = one_mark k m (record { 0 = i }) (record { 0 = j }) e f same less
      by_order k m e f same (inr le) (inl less) = one_mark m k (record { 0 = j }) (record { 0 = i }) f e (sym same) less
      by_order k m e f same (inr le) (inr ge) =
          let s : k ≡ m = omega (arith, le, ge) in
          let c : Some (Mark (record { 0 = i })) ≡ Some (Mark (record { 0 = j })) = sym e ∙ ap (slice_get items) s ∙ f in
          omega (arith, ap label_number c, lt)

  distinct : IsDistinct nat_eq labels
  distinct = IsDistinct-from_apart nat_eq labels (λ i j d lt within. ne_eqb (get_or labels i d) (get_or labels j d) (labels_apart i j d lt within))

  -- at a mark stands its label
  pub label_here : (k : ℕ) (l : Label) → slice_get items k ≡ Some (Mark l) → label_at labels (at k) ≡ Some l
  label_here k l e = label_at-Some labels l.0 (at k) distinct (slice_get_within labels l.0 (at k % 65536) (obj.at_mark k l e)) (label_address k l 0 e)

  -- no item begins inside an item
  pub outside : (k j a : ℕ) → at k < a → a < at (suc k) → at j ≡ a → ⊥
  outside k j a low high e = by_order (cases_lt k j)
    where
      by_order : (k < j) ⊎ (j ≤ k) → ⊥
      by_order (inl lt) = let r = obj.rises (suc k) j lt in omega (arith, r, e, high)
      by_order (inr le) = let r = obj.rises j k le in omega (arith, r, e, low)

  -- the first item takes three bytes
  pub after_first : (k : ℕ) → 1 ≤ k → 3 ≤ at k
  after_first k later =
      let p = obj.laid 0 (Plain (MovDirectImmediate 0x81 0x7F)) sel.stack in
      let r = obj.rises 1 k later in
      omega (arith, p.next, r)

  -- no jump leads to itself
  pub not_itself : (k f n : ℕ) → 1 ≤ k → slice_get items k ≡ Some (Jump f n) → at (target_of items (Jump f n)) % 65536 ≡ at k → ⊥
  not_itself k f n later e q = by_order (cases_lt k (target_of items (Jump f n)))
    where
      t : ℕ
      t = target_of items (Jump f n)

      wide : at k < at (suc k)
      wide = let p = obj.laid k (Jump f n) e in let some = code_size (Jump f n) (form_at forms k) (at k) (at (target_of items (Jump f n)) % 65536) refl in omega (arith, p.next, some)

      same : at (target_of items (Jump f n)) ≡ at k
      same = let first = after_first k later in omega (arith, q, obj.fits (target_of items (Jump f n)), first)

      by_order : (k < target_of items (Jump f n)) ⊎ (target_of items (Jump f n) ≤ k) → ⊥
      by_order (inl lt) = let r = obj.rises (suc k) (target_of items (Jump f n)) lt in omega (arith, r, wide, same)
      by_order (inr le) =
          let w = code_between items k f n sel e le in
          let p = obj.laid w.at w.item w.is in
          let some = code_size w.item (form_at forms w.at) (at w.at) (at (target_of items w.item) % 65536) w.code in
          let r = obj.rises (target_of items (Jump f n)) w.at w.after in
          let s = obj.rises (suc w.at) k w.before in
          omega (arith, r, s, same, p.next, some)
