-- Sums with a carry and differences with a borrow over lists of bytes are those of whole numbers.
use Rattle.std.proofs.Common.{◌≡◌, ℕ, suc, ◌+◌, ◌*◌, ◌-◌, ◌%◌, ◌<◌, ◌≤◌, List, [], ◌∷◌, length, Bool, true, false, nat_lt, refl, sym, ap, ◌∙◌, subst, arith}
use Rattle.std.proofs.lemmas.Bool.{lt-ltb}
use Rattle.std.proofs.Math.Nat.{mod-eq_of_lt, add-mod_right}
use Rattle.cerco_base.specs.Bytes.{bit_value, sum_byte, carries, difference_byte, borrows, bytes_value, count_of_values, carry_value, sum_bytes, carry_out, difference_bytes, borrow_out, AreBytes, SumsAreRight, DifferencesAreRight}

pub bit_value_le : (c : Bool) → bit_value c ≤ 1
bit_value_le true = omega arith
bit_value_le false = omega arith

pub carry_value_suc : (n : ℕ) (c : Bool) → carry_value (suc n) c ≡ 256 * carry_value n c
carry_value_suc n true = refl
carry_value_suc n false = refl

pub sum_law : (a b : ℕ) (c : Bool) → a < 256 → b < 256 → sum_byte a b c + 256 * bit_value (carries 256 a b c) ≡ a + b + bit_value c
unfolding sum_byte carries
sum_law a b c ha hb = grind (arith, bit_value_le)

pub difference_law : (a b : ℕ) (c : Bool) → a < 256 → b < 256 → difference_byte a b c + b + bit_value c ≡ a + 256 * bit_value (borrows 256 a b c)
unfolding difference_byte borrows
difference_law a b c ha hb = grind (arith, bit_value_le)

pub sum_byte_lt : (a b : ℕ) (c : Bool) → sum_byte a b c < 256
unfolding sum_byte
sum_byte_lt a b c = grind arith

pub difference_byte_lt : (a b : ℕ) (c : Bool) → difference_byte a b c < 256
unfolding difference_byte
difference_byte_lt a b c = grind arith

pub sums_law : SumsAreRight
sums_law [] [] true h = refl
sums_law [] [] false h = refl
sums_law (a ∷ as') (b ∷ bs) c h =
    let one = sum_law a b c h.0 h.1 in
    let rest = sums_law as' bs (carries 256 a b c) h.2 in
    let up = carry_value_suc (length as') (carry_out as' bs (carries 256 a b c)) in
    omega (arith, one, rest, up)
sums_law [] (b ∷ bs) c h = absurd h
sums_law (a ∷ as') [] c h = absurd h

pub differences_law : DifferencesAreRight
differences_law [] [] true h = refl
differences_law [] [] false h = refl
differences_law (a ∷ as') (b ∷ bs) c h =
    let one = difference_law a b c h.0 h.1 in
    let rest = differences_law as' bs (borrows 256 a b c) h.2 in
    let up = carry_value_suc (length as') (borrow_out as' bs (borrows 256 a b c)) in
    omega (arith, one, rest, up)
differences_law [] (b ∷ bs) c h = absurd h
differences_law (a ∷ as') [] c h = absurd h

-- each of these numbers fits its bytes
pub sum_bytes_lt : (as' bs : List ℕ) (c : Bool) → AreBytes as' bs → bytes_value (sum_bytes as' bs c) < count_of_values (length as')
sum_bytes_lt [] [] c h = omega arith
sum_bytes_lt (a ∷ as') (b ∷ bs) c h =
    let one = sum_byte_lt a b c in
    let rest = sum_bytes_lt as' bs (carries 256 a b c) h.2 in
    omega (arith, one, rest)
sum_bytes_lt [] (b ∷ bs) c h = absurd h
sum_bytes_lt (a ∷ as') [] c h = absurd h

pub difference_bytes_lt : (as' bs : List ℕ) (c : Bool) → AreBytes as' bs → bytes_value (difference_bytes as' bs c) < count_of_values (length as')
difference_bytes_lt [] [] c h = omega arith
difference_bytes_lt (a ∷ as') (b ∷ bs) c h =
    let one = difference_byte_lt a b c in
    let rest = difference_bytes_lt as' bs (borrows 256 a b c) h.2 in
    omega (arith, one, rest)
difference_bytes_lt [] (b ∷ bs) c h = absurd h
difference_bytes_lt (a ∷ as') [] c h = absurd h

pub bytes_value_lt : (as' bs : List ℕ) → AreBytes as' bs → (bytes_value as' < count_of_values (length as')) × (bytes_value bs < count_of_values (length as'))
bytes_value_lt [] [] h = (omega arith, omega arith)
bytes_value_lt (a ∷ as') (b ∷ bs) h =
    let rest = bytes_value_lt as' bs h.2 in
    let low = h.0 in
    let low' = h.1 in
    let up = rest.0 in
    let up' = rest.1 in
    (omega (arith, low, up), omega (arith, low', up'))
bytes_value_lt [] (b ∷ bs) h = absurd h
bytes_value_lt (a ∷ as') [] h = absurd h

-- what is left of a sum after a carry out of n bytes
pub sum_left : (n r s : ℕ) (o : Bool) → r < count_of_values n → r + carry_value n o ≡ s → r ≡ s % count_of_values n
sum_left n r s true h e = sym (ap (λ p. p % count_of_values n) (sym e) ∙ add-mod_right r (count_of_values n) ∙ mod-eq_of_lt h)
sum_left n r s false h e = let f : r ≡ s = omega (arith, e) in f ∙ sym (mod-eq_of_lt (subst (λ p. p < count_of_values n) f h))

-- A difference d of x and y over n bytes, with its borrow: what is left of it, when it borrows, and when it is 0.
module _ (n d x y : ℕ) (hd : d < count_of_values n) (hx : x < count_of_values n) (hy : y < count_of_values n) where
  pub difference_left : (o : Bool) → d + y ≡ x + carry_value n o → d ≡ (x + count_of_values n - y) % count_of_values n
  difference_left true e = let f : x + count_of_values n - y ≡ d = omega (arith, e) in sym (ap (λ p. p % count_of_values n) f ∙ mod-eq_of_lt hd)
  difference_left false e =
      let g : d + y ≡ x + 0 = e in
      let f : x + count_of_values n - y ≡ d + count_of_values n = omega (arith, g, hy) in
      sym (ap (λ p. p % count_of_values n) f ∙ (add-mod_right d (count_of_values n) ∙ mod-eq_of_lt hd))

  pub borrow_is : (o : Bool) → d + y ≡ x + carry_value n o → o ≡ nat_lt x y
  borrow_is true e = let f : x < y = omega (arith, e, hd) in sym (lt-ltb x y f)
  borrow_is false e = let g : d + y ≡ x + 0 = e in let f : y ≤ x = omega (arith, g) in grind (arith, f)

  pub no_difference : (o : Bool) → d + y ≡ x + carry_value n o → (d ≡ 0 → x ≡ y) × (x ≡ y → d ≡ 0)
  no_difference true e = let f : d + y ≡ x + count_of_values n = e in (λ z. omega (arith, f, z, hx, hy), λ z. omega (arith, f, z, hd))
  no_difference false e = let f : d + y ≡ x + 0 = e in (λ z. omega (arith, f, z), λ z. omega (arith, f, z))
