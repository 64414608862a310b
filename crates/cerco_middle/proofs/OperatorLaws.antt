-- Laws of the values of Cminor and RTLabs: what is kept of a value stays, and a shift by several bits is shifts by one bit.
use Rattle.std.proofs.Common.{◌≡◌, ℕ, suc, ◌-◌, ◌*◌, ◌/◌, ◌%◌, ◌^◌, ◌<◌, Bool, true, false, refl, sym, ap, ◌∙◌, le-leb, leb-true, leb-false, if◌then◌else◌, arith}
use Rattle.std.specs.Prelude.{nat_le}
use Rattle.std.proofs.lemmas.Nat.{mul-mod_first}
use Rattle.std.proofs.Math.Nat.{pow-suc, div-div-eq-div-mul, mod-eq_of_lt}
use Rattle.cerco_base.specs.Bytes.{count_of_values}
use Rattle.cerco_middle.specs.declared.operators.Held.{Held}
use Rattle.cerco_middle.specs.declared.operators.Held.TheVariants.{U8, I8, W16}
use Rattle.cerco_middle.specs.Operators.{word_bytes, half_of_values, is_negative, kept, shifted_left, shifted_right}

-- ---- what is kept

pub kept_twice : (h : Held) (x : ℕ) → kept h (kept h x) ≡ kept h x
unfolding kept
kept_twice U8 x = omega arith
kept_twice I8 x = grind arith
kept_twice W16 x = omega arith

-- it has two bytes
pub kept_is_word : (h : Held) (x : ℕ) → kept h x < count_of_values word_bytes
unfolding kept
kept_is_word U8 x = omega arith
kept_is_word I8 x = grind arith
kept_is_word W16 x = omega arith

-- two bytes keep all of a value
pub word_keeps : (x : ℕ) → x < count_of_values word_bytes → kept W16 x ≡ x
unfolding kept
word_keeps x word = omega arith

-- ---- shifts

pub left_more : (n k x : ℕ) → shifted_left n (suc k) x ≡ shifted_left n k (shifted_left n 1 x)
unfolding shifted_left
left_more n k x =
    ap (λ p. (x * p) % count_of_values n) (pow-suc 2 k)
    ∙ ap (λ y. y % count_of_values n) (turned (2 ^ k))
    ∙ sym (mul-mod_first (x * 2 ^ 1) (2 ^ k) (count_of_values n))
  where
    turned : (p : ℕ) → x * (p * 2) ≡ x * 2 * p
    turned p = grind arith

halved_more : (k x : ℕ) → x / 2 ^ suc k ≡ x / 2 / 2 ^ k
halved_more k x = ap (λ p. x / p) (pow-suc 2 k ∙ turned (2 ^ k)) ∙ sym (div-div-eq-div-mul x 2 (2 ^ k))
  where
    turned : (p : ℕ) → p * 2 ≡ 2 * p
    turned p = omega arith

pub right_more : (n k x : ℕ) → shifted_right n (suc k) false x ≡ shifted_right n k false (shifted_right n 1 false x)
unfolding shifted_right
right_more n k x = halved_more k x

-- the sign stays in an arithmetic shift by one
pub sign_stays : (n x : ℕ) (negative : Bool) → x < count_of_values (suc n) → is_negative (suc n) x ≡ negative → is_negative (suc n) (shifted_right (suc n) 1 true x) ≡ negative
unfolding shifted_right
sign_stays n x true below sign =
    let far = leb-true (half_of_values (suc n)) x sign in
    ap (λ b. nat_le (half_of_values (suc n)) (if b then count_of_values (suc n) - 1 - (count_of_values (suc n) - 1 - x) / 2 ^ 1 else x / 2 ^ 1)) sign
    ∙ le-leb (half_of_values (suc n)) (count_of_values (suc n) - 1 - (count_of_values (suc n) - 1 - x) / 2 ^ 1) (omega (arith, far, below))
sign_stays n x false below sign =
    let near = leb-false (half_of_values (suc n)) x sign in
    ap (λ b. nat_le (half_of_values (suc n)) (if b then count_of_values (suc n) - 1 - (count_of_values (suc n) - 1 - x) / 2 ^ 1 else x / 2 ^ 1)) sign
    ∙ grind (arith, near)

-- an arithmetic shift, where the sign is known
shift_by_sign : (n k x : ℕ) (negative : Bool) → is_negative n x ≡ negative
    → shifted_right n k true x ≡ (if negative then count_of_values n - 1 - (count_of_values n - 1 - x) / 2 ^ k else x / 2 ^ k)
unfolding shifted_right
shift_by_sign n k x negative sign = ap (λ b. if b then count_of_values n - 1 - (count_of_values n - 1 - x) / 2 ^ k else x / 2 ^ k) sign

pub signed_right_more : (n k x : ℕ) → x < count_of_values (suc n) → shifted_right (suc n) (suc k) true x ≡ shifted_right (suc n) k true (shifted_right (suc n) 1 true x)
signed_right_more n k x below = by (is_negative (suc n) x) refl
  where
    by : (negative : Bool) → is_negative (suc n) x ≡ negative → shifted_right (suc n) (suc k) true x ≡ shifted_right (suc n) k true (shifted_right (suc n) 1 true x)
    by true sign =
        let once = shifted_right (suc n) 1 true x in
        let once_is : once ≡ count_of_values (suc n) - 1 - (count_of_values (suc n) - 1 - x) / 2 = shift_by_sign (suc n) 1 x true sign in
        let rest : (count_of_values (suc n) - 1 - x) / 2 ≡ count_of_values (suc n) - 1 - once = omega (arith, once_is, below) in
        shift_by_sign (suc n) (suc k) x true sign
        ∙ ap (λ y. count_of_values (suc n) - 1 - y) (halved_more k (count_of_values (suc n) - 1 - x))
        ∙ ap (λ y. count_of_values (suc n) - 1 - y / 2 ^ k) rest
        ∙ sym (shift_by_sign (suc n) k once true (sign_stays n x true below sign))
    by false sign =
        let once = shifted_right (suc n) 1 true x in
        let once_is : once ≡ x / 2 = shift_by_sign (suc n) 1 x false sign in
        shift_by_sign (suc n) (suc k) x false sign
        ∙ halved_more k x
        ∙ ap (λ y. y / 2 ^ k) (sym once_is)
        ∙ sym (shift_by_sign (suc n) k once false (sign_stays n x false below sign))

-- a shift by no bit changes nothing
pub left_none : (n x : ℕ) → x < count_of_values n → shifted_left n 0 x ≡ x
unfolding shifted_left
left_none n x below = ap (λ y. y % count_of_values n) (one_times x) ∙ mod-eq_of_lt below
  where
    one_times : (y : ℕ) → y * 1 ≡ y
    one_times y = omega arith

pub right_none : (n x : ℕ) (arithmetic : Bool) → x < count_of_values n → shifted_right n 0 arithmetic x ≡ x
unfolding shifted_right
right_none n x false below = omega arith
right_none n x true below = grind (arith, below)
