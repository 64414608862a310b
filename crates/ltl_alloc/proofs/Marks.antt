-- Marks, and the cells of what is marked.
use Rattle.std.proofs.Common.{◌≡◌, ℕ, zero, suc, ◌+◌, ◌-◌, ◌<◌, ◌≤◌, ◌⊎◌, inl, inr, List, [], ◌∷◌, ◌++◌, length, set, get_or, Bool, true, false, nat_eq, nat_le, ◌||◌, if◌then◌else◌, refl, sym, ap, ◌∙◌, subst, arith, eq-eqb, eqb-true}
use Rattle.std.proofs.lemmas.List.{get_or-set_same, get_or-set_other}
use Rattle.rtl.specs.Lengths.{stands_in}
use Rattle.ltl_alloc.specs.OneCell.{cell_of_one, cells_below}

-- ---- marks

or_none : (b : Bool) → b || false ≡ b
or_none true = refl
or_none false = refl

or_some : (b : Bool) → b || true ≡ true
or_some true = refl
or_some false = refl

stands_pushed : (w x : ℕ) (names : List ℕ) → stands_in w (names ++ x ∷ []) ≡ stands_in w names || nat_eq x w
stands_pushed w x [] = or_none (nat_eq x w)
stands_pushed w x (n ∷ ns) = ap (λ b. nat_eq n w || b) (stands_pushed w x ns) ∙ assoc (nat_eq n w)
  where
    assoc : (b : Bool) → b || (stands_in w ns || nat_eq x w) ≡ (b || stands_in w ns) || nat_eq x w
    assoc true = refl
    assoc false = refl

not_equal : (x w : ℕ) → nat_eq x w ≡ false → w ≡ x → ⊥
not_equal x w e same = differ (eq-eqb x w (sym same)) e
  where
    differ : nat_eq x w ≡ true → nat_eq x w ≡ false → ⊥
    differ f g = cc

-- one more name is marked
pub marks_more : (marks : List Bool) (names : List ℕ) (x : ℕ) → x < length marks → ((w : ℕ) → get_or marks w false ≡ stands_in w names) → (w : ℕ) → get_or (set marks x true) w false ≡ stands_in w (names ++ x ∷ [])
marks_more marks names x within marked w = by_test (nat_eq x w) refl
  where
    by_test : (b : Bool) → nat_eq x w ≡ b → get_or (set marks x true) w false ≡ stands_in w (names ++ x ∷ [])
    by_test true e =
        ap (λ v. get_or (set marks x true) v false) (sym (eqb-true x w e)) ∙ get_or-set_same marks x true false within
        ∙ sym (or_some (stands_in w names)) ∙ ap (λ b. stands_in w names || b) (sym e) ∙ sym (stands_pushed w x names)
    by_test false e =
        get_or-set_other marks x w true false (not_equal x w e) ∙ marked w
        ∙ sym (or_none (stands_in w names)) ∙ ap (λ b. stands_in w names || b) (sym e) ∙ sym (stands_pushed w x names)

-- ---- cells

low_or_high : (v : ℕ) → (v < 12) ⊎ (12 ≤ v)
low_or_high v = grind arith

pub no_cell_below : (b : Bool) (v : ℕ) → v < 12 → cell_of_one b v ≡ 0
no_cell_below b v low = by_test b
  where
    not_le : nat_le 12 v ≡ false
    not_le = grind arith

    by_test : (b : Bool) → cell_of_one b v ≡ 0
    by_test true = rw not_le
    by_test false = refl

pub cell_from : (v : ℕ) → 12 ≤ v → cell_of_one true v ≡ 1
cell_from v high = rw le
  where
    le : nat_le 12 v ≡ true
    le = grind arith

no_cell : (v : ℕ) → cell_of_one false v ≡ 0
no_cell v = refl

at_most_one : (b : Bool) (v : ℕ) → cell_of_one b v ≤ 1
at_most_one true v = by_test (nat_le 12 v)
  where
    by_test : (b : Bool) → (if b then 1 else 0) ≤ 1
    by_test true = omega arith
    by_test false = omega arith
at_most_one false v = omega arith

module _ (named : ℕ → Bool) where
  pub cells_few : (v : ℕ) → cells_below named v ≤ v - 12
  cells_few zero = omega arith
  cells_few (suc v) = by_kind (low_or_high v) (cells_few v)
    where
      by_kind : (v < 12) ⊎ (12 ≤ v) → cells_below named v ≤ v - 12 → cells_below named v + cell_of_one (named v) v ≤ suc v - 12
      by_kind (inl low) few = let e = no_cell_below (named v) v low in omega (arith, few, e, low)
      by_kind (inr high) few = let e = at_most_one (named v) v in omega (arith, few, e, high)

  pub cells_rise : (v k : ℕ) → cells_below named v ≤ cells_below named (k + v)
  cells_rise v zero = let e : 0 + v ≡ v = omega arith in rw e (omega arith)
  cells_rise v (suc k) =
      let e : suc k + v ≡ suc (k + v) = omega arith in
      let before = cells_rise v k in
      rw e (omega (arith, before))

  -- a virtual register with a cell counts from the next one on
  pub cells_above : (v w : ℕ) → v < w → 12 ≤ v → named v ≡ true → cells_below named v < cells_below named w
  cells_above v w lt high is =
      let one : cell_of_one (named v) v ≡ 1 = ap (λ b. cell_of_one b v) is ∙ cell_from v high in
      let rise = cells_rise (suc v) (w - suc v) in
      let e : (w - suc v) + suc v ≡ w = omega (arith, lt) in
      let less : cells_below named (suc v) ≤ cells_below named w = subst (λ n. cells_below named (suc v) ≤ cells_below named n) e rise in
      omega (arith, one, less)

  -- the last cell
  pub last_cell : (k n : ℕ) → cells_below named k ≡ suc n → (v : ℕ) × (named v ≡ true) × (12 ≤ v) × (cells_below named v ≡ n)
  last_cell zero n e = absurd (omega (arith, e))
  last_cell (suc k) n e = by_kind (low_or_high k) (named k) refl (last_cell k n) e
    where
      by_kind : (k < 12) ⊎ (12 ≤ k) → (b : Bool) → named k ≡ b → (cells_below named k ≡ suc n → (v : ℕ) × (named v ≡ true) × (12 ≤ v) × (cells_below named v ≡ n)) → cells_below named k + cell_of_one (named k) k ≡ suc n → (v : ℕ) × (named v ≡ true) × (12 ≤ v) × (cells_below named v ≡ n)
      by_kind (inl low) b is before e = let none = no_cell_below (named k) k low in before (omega (arith, e, none))
      by_kind (inr high) true is before e =
          let one : cell_of_one (named k) k ≡ 1 = ap (λ b. cell_of_one b k) is ∙ cell_from k high in
          (k, is, high, omega (arith, e, one))
      by_kind (inr high) false is before e =
          let none : cell_of_one (named k) k ≡ 0 = ap (λ b. cell_of_one b k) is in
          before (omega (arith, e, none))
