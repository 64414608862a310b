-- Operators on integers: the same on their words.
use Rattle.std.proofs.Common.{◌≡◌, ℕ, zero, suc, ◌+◌, ◌-◌, ◌*◌, ◌/◌, ◌%◌, ◌^◌, ◌<◌, ◌≤◌, Option, Some, None, Result, Ok, Err, Bool, true, false, not, refl, sym, ap, ap₂, ◌∙◌, subst, arith}
use Rattle.std.specs.Prelude.{nat_eq, nat_lt, nat_le, bit_and, bit_or, bit_xor, if◌then◌else◌}
use Rattle.std.specs.Int.Bits.{and_lt, or_lt, xor_lt}
use Rattle.cerco_base.specs.Bytes.{bit_value, count_of_values}
use Rattle.cerco_base.specs.declared.events.FaultKind.{FaultKind}
use Rattle.cerco_base.specs.declared.events.FaultKind.TheVariants.{Outside, Zero}
use Rattle.clight_source.specs.declared.tree.BinaryOperator.{BinaryOperator}
use Rattle.clight_source.specs.declared.tree.BinaryOperator.TheVariants as o
use Rattle.c_types.specs.declared.integers.IntegerType.{IntegerType}
use Rattle.c_types.specs.declared.integers.Size.{Size}
use Rattle.c_types.specs.declared.integers.Size.TheVariants.{One, Two, Four}
use Rattle.c_types.specs.Types.{CType, Integer}
use Rattle.c_types.specs.Conversions.{count, promoted_integer, common_integer}
use Rattle.cerco_middle.specs.declared.operators.CmOp.{CmOp}
use Rattle.cerco_middle.specs.declared.operators.CmOp.TheVariants as m
use Rattle.cerco_middle.specs.Operators.{word_bytes, kept, read_from, negated as word_negated, complement as word_complement, shifted_left as word_left, shifted_right as word_right, operator_value, quotient as word_quotient, remainder as word_remainder}
use Rattle.clight_values.specs.declared.value.Value.{Value}
use Rattle.clight_values.specs.declared.value.Value.TheVariants as v
use Rattle.clight_values.specs.Memory.{Answer}
use Rattle.clight_values.specs.Values.{is_negative, magnitude, converted, sum, difference, product, quotient_in, quotient, remainder_in, remainder, complement, shifted_left, shifted_right, is_less, truth, calculated, combined, differ, from_magnitude}
use Rattle.clight_values.specs.Operators.{negated, complemented}
use Rattle.flat_memory.specs.HeldTypes.{held_of}
use Rattle.flat_memory.proofs.Shapes.{Counts}

abbrev pub type : Size → Bool → IntegerType
type s g = record { size = s; signed = g }

-- an answer is an integer of a type with this word, or a fault
abbrev pub CountsTo : Size → Bool → Answer → ℕ → Type 0
CountsTo s g (Err k) n = Unit {0}
CountsTo s g (Ok w) n = Counts s g w n

-- ---- conversions

extended_by : (x half far wide modulus : ℕ) (t : Bool) → nat_le half x ≡ t → (k : ℕ) → k ≡ (if nat_le half x then x + far else x) → (P : ℕ → ℕ → Type 0)
    → (t ≡ true → P (x + wide) (x + far)) → (t ≡ false → P x x) → P (if nat_le half x then x + wide else x) k
extended_by x half far wide modulus true e k is P on_true on_false =
    subst (λ t. P (if t then x + wide else x) k) (sym e) (subst (P (x + wide)) (sym (is ∙ ap (λ t. if t then x + far else x) e)) (on_true refl))
extended_by x half far wide modulus false e k is P on_true on_false =
    subst (λ t. P (if t then x + wide else x) k) (sym e) (subst (P x) (sym (is ∙ ap (λ t. if t then x + far else x) e)) (on_false refl))

no_change : (t : Bool) (x : ℕ) → x ≡ (if t then x + 0 else x)
no_change true x = omega arith
no_change false x = refl

-- as a word: the number itself
pub as_word : (s : Size) (g h : Bool) (x k : ℕ) → Counts s g (v.Integer x) k → converted (type s g) (type Two h) x ≡ k
as_word One false h x k c = let c0 = c.0 in let c1 = c.1 in omega arith
as_word One true h x k c =
    let c0 = c.0 in
    extended_by x 128 65280 4294967040 65536 (nat_le 128 x) refl k c.1 (λ a b. a % 65536 ≡ b) (λ e. omega arith) (λ e. omega arith)
as_word Two false h x k c = let c0 = c.0 in let c1 = c.1 in omega arith
as_word Two true h x k c =
    let c0 = c.0 in
    extended_by x 32768 0 4294901760 65536 (nat_le 32768 x) refl k (c.1 ∙ no_change (nat_le 32768 x) x) (λ a b. a % 65536 ≡ b) (λ e. omega arith) (λ e. omega arith)
as_word Four g h x k c = absurd c

-- as a byte: the low one
pub as_byte : (s : Size) (g h : Bool) (x k : ℕ) → Counts s g (v.Integer x) k → converted (type s g) (type One h) x ≡ k % 256
as_byte One false h x k c = let c0 = c.0 in let c1 = c.1 in omega arith
as_byte One true h x k c =
    let c0 = c.0 in
    extended_by x 128 65280 4294967040 256 (nat_le 128 x) refl k c.1 (λ a b. a % 256 ≡ b % 256) (λ e. omega arith) (λ e. omega arith)
as_byte Two false h x k c = let c0 = c.0 in let c1 = c.1 in omega arith
as_byte Two true h x k c =
    let c0 = c.0 in
    extended_by x 32768 0 4294901760 256 (nat_le 32768 x) refl k (c.1 ∙ no_change (nat_le 32768 x) x) (λ a b. a % 256 ≡ b % 256) (λ e. omega arith) (λ e. omega arith)
as_byte Four g h x k c = absurd c

pub word_is_word : (s : Size) (g : Bool) (w : Value) (k : ℕ) → Counts s g w k → k < 65536
word_is_word One false (v.Integer x) k c = let c0 = c.0 in let c1 = c.1 in omega arith
word_is_word One true (v.Integer x) k c = let c0 = c.0 in subst (λ z. z < 65536) (sym c.1) (by (nat_le 128 x))
  where
    by : (t : Bool) → (if t then x + 65280 else x) < 65536
    by true = let c0 = c.0 in omega arith
    by false = let c0 = c.0 in omega arith
word_is_word One g v.Null k c = absurd c
word_is_word One g (v.Pointer at) k c = absurd c
word_is_word Two g (v.Integer x) k c = let c0 = c.0 in let c1 = c.1 in omega arith
word_is_word Two g v.Null k c = absurd c
word_is_word Two g (v.Pointer at) k c = absurd c
word_is_word Four g w k c = absurd c

byte_counts : (h : Bool) (b : ℕ) → b < 256 → (k : ℕ) → k % 256 ≡ b → Counts One h (v.Integer b) (kept (held_of (Integer One h)) k)
unfolding kept
byte_counts true b lt k e = (lt, ap (λ z. read_from (held_of (Integer One true)) z) e)
byte_counts false b lt k e = (lt, e)

pub converted_counts : (s : Size) (g : Bool) (t : Size) (h : Bool) → (t ≡ Four → ⊥) → (x k : ℕ) → Counts s g (v.Integer x) k → Counts t h (v.Integer (converted (type s g) (type t h) x)) (kept (held_of (Integer t h)) k)
unfolding kept
converted_counts s g One h short x k c =
    let e = as_byte s g h x k c in
    byte_counts h (converted (type s g) (type One h) x) (let lt : k % 256 < 256 = omega arith in subst (λ z. z < 256) (sym e) lt) k (sym e)
converted_counts s g Two h short x k c =
    let e = as_word s g h x k c in
    let lt = word_is_word s g (v.Integer x) k c in
    (subst (λ z. z < 65536) (sym e) lt, omega (arith, e, lt))
converted_counts s g Four h short x k c = absurd (short refl)

-- ---- operators on one integer

pub negated_ok : (s : Size) (g : Bool) (w : Value) (k : ℕ) → Counts s g w k → CountsTo Two (promoted_integer (type s g)).signed (negated (Some (type s g)) w) (word_negated 2 k)
unfolding word_negated
negated_ok One g (v.Integer x) k c =
    let e = as_word One g true x k c in
    subst (λ z. Counts Two true (v.Integer (difference (type Two true) 0 z)) ((65536 - k) % 65536)) (sym e) (omega arith, omega arith)
negated_ok Two g (v.Integer x) k c =
    let e = as_word Two g g x k c in
    subst (λ z. Counts Two g (v.Integer (difference (type Two g) 0 z)) ((65536 - k) % 65536)) (sym e) (omega arith, omega arith)
negated_ok One g v.Null k c = absurd c
negated_ok One g (v.Pointer at) k c = absurd c
negated_ok Two g v.Null k c = absurd c
negated_ok Two g (v.Pointer at) k c = absurd c
negated_ok Four g w k c = absurd c

pub complemented_ok : (s : Size) (g : Bool) (w : Value) (k : ℕ) → Counts s g w k → CountsTo Two (promoted_integer (type s g)).signed (complemented (Some (type s g)) w) (word_complement 2 k)
unfolding word_complement
complemented_ok One g (v.Integer x) k c =
    let e = as_word One g true x k c in
    subst (λ z. Counts Two true (v.Integer (complement (type Two true) z)) (65536 - 1 - k)) (sym e) (omega arith, refl)
complemented_ok Two g (v.Integer x) k c =
    let e = as_word Two g g x k c in
    subst (λ z. Counts Two g (v.Integer (complement (type Two g) z)) (65536 - 1 - k)) (sym e) (omega arith, refl)
complemented_ok One g v.Null k c = absurd c
complemented_ok One g (v.Pointer at) k c = absurd c
complemented_ok Two g v.Null k c = absurd c
complemented_ok Two g (v.Pointer at) k c = absurd c
complemented_ok Four g w k c = absurd c

-- ---- shifts

left_ok : (g : Bool) (k y : ℕ) → Counts Two g (v.Integer (shifted_left (type Two g) k y)) (word_left 2 y k)
unfolding word_left
left_ok g k y = (omega arith, refl)

pub shift_left_ok : (s : Size) (g : Bool) (x k y : ℕ) (J : IntegerType) → Counts s g (v.Integer x) k → CountsTo Two (promoted_integer (type s g)).signed (combined o.ShiftLeft (type s g) J x y) (word_left 2 y k)
shift_left_ok One g x k y J c = subst (λ z. Counts Two true (v.Integer (shifted_left (type Two true) z y)) (word_left 2 y k)) (sym (as_word One g true x k c)) (left_ok true k y)
shift_left_ok Two g x k y J c = subst (λ z. Counts Two g (v.Integer (shifted_left (type Two g) z y)) (word_left 2 y k)) (sym (as_word Two g g x k c)) (left_ok g k y)
shift_left_ok Four g x k y J c = absurd c

quotient_below : (k p : ℕ) → k < 65536 → k / p < 65536
quotient_below k p lt = grind arith

not_high : (k : ℕ) → k < 256 → nat_le 32768 k ≡ false
not_high k lt = grind arith

right_signed : (k y : ℕ) → k < 65536 → Counts Two true (v.Integer (shifted_right (type Two true) k y)) (word_right 2 y true k)
unfolding word_right
right_signed k y lt = by (nat_le 32768 k)
  where
    by : (t : Bool) → Counts Two true (v.Integer (if t then 65536 - 1 - (65536 - 1 - k) / 2 ^ y else k / 2 ^ y)) (if t then 65536 - 1 - (65536 - 1 - k) / 2 ^ y else k / 2 ^ y)
    by true = (omega arith, refl)
    by false = (quotient_below k (2 ^ y) lt, refl)

right_plain : (g : Bool) (k y : ℕ) → k < 65536 → is_negative (type Two g) k ≡ false → Counts Two g (v.Integer (shifted_right (type Two g) k y)) (word_right 2 y false k)
unfolding word_right
right_plain g k y lt e =
    subst (λ t. Counts Two g (v.Integer (if t then complement (type Two g) (complement (type Two g) k / 2 ^ y) else k / 2 ^ y)) (k / 2 ^ y)) (sym e) (quotient_below k (2 ^ y) lt, refl)

pub shift_right_ok : (s : Size) (g : Bool) (x k y : ℕ) (J : IntegerType) → Counts s g (v.Integer x) k → CountsTo Two (promoted_integer (type s g)).signed (combined o.ShiftRight (type s g) J x y) (word_right 2 y g k)
shift_right_ok One true x k y J c =
    subst (λ z. Counts Two true (v.Integer (shifted_right (type Two true) z y)) (word_right 2 y true k)) (sym (as_word One true true x k c)) (right_signed k y (word_is_word One true (v.Integer x) k c))
shift_right_ok One false x k y J c =
    let c0 = c.0 in
    let c1 = c.1 in
    subst (λ z. Counts Two true (v.Integer (shifted_right (type Two true) z y)) (word_right 2 y false k)) (sym (as_word One false true x k c)) (right_plain true k y (word_is_word One false (v.Integer x) k c) (not_high k (omega arith)))
shift_right_ok Two true x k y J c =
    subst (λ z. Counts Two true (v.Integer (shifted_right (type Two true) z y)) (word_right 2 y true k)) (sym (as_word Two true true x k c)) (right_signed k y (word_is_word Two true (v.Integer x) k c))
shift_right_ok Two false x k y J c =
    subst (λ z. Counts Two false (v.Integer (shifted_right (type Two false) z y)) (word_right 2 y false k)) (sym (as_word Two false false x k c)) (right_plain false k y (word_is_word Two false (v.Integer x) k c) refl)
shift_right_ok Four g x k y J c = absurd c

-- ---- operators on two integers, as words of a common type

pub truth_counts : (b : Bool) → Counts Two true (truth b) (bit_value b)
truth_counts true = (omega arith, refl)
truth_counts false = (omega arith, refl)

abbrev pub less_op : Bool → CmOp
less_op true = m.LtS
less_op false = m.LtU

abbrev pub most_op : Bool → CmOp
most_op true = m.LeS
most_op false = m.LeU

less_is : (g : Bool) (k l : ℕ) → operator_value 2 (less_op g) k l ≡ bit_value (is_less (type Two g) k l)
unfolding operator_value
less_is true k l = refl
less_is false k l = refl

most_is : (g : Bool) (k l : ℕ) → operator_value 2 (most_op g) k l ≡ bit_value (not (is_less (type Two g) l k))
unfolding operator_value
most_is true k l = refl
most_is false k l = refl

test_ok : (b : Bool) (n : ℕ) → n ≡ bit_value b → Counts Two true (truth b) n
test_ok b n e = subst (Counts Two true (truth b)) (sym e) (truth_counts b)

product_is : (k l : ℕ) → k < 256 → l < 256 → (k * l) % 65536 ≡ (k % 256) * (l % 256)
product_is k l a b =
    let le : k * l ≤ 255 * l = grind arith in
    let e : k % 256 ≡ k = omega arith in
    let f : l % 256 ≡ l = omega arith in
    let lt : k * l < 65536 = omega arith in
    (let s : (k * l) % 65536 ≡ k * l = omega arith in s) ∙ sym (ap₂ (λ x y. x * y) e f)

product_low : (k l : ℕ) → k < 256 → l < 256 → (k * l) % 65536 < 65536
product_low k l a b = omega arith

small_magnitude : (k : ℕ) → k < 256 → magnitude (type Two true) k ≡ k
small_magnitude k lt = ap (λ t. if t then 65536 - k else k) (not_high k lt)

quotient_by : (k l : ℕ) → k < 256 → CountsTo Two true (quotient_in (type Two true) false k l) (word_quotient k l)
quotient_by k zero lt = tt
quotient_by k (suc l) lt = let q : k / suc l ≤ k = grind arith in (omega arith, omega arith)

remainder_by : (k l : ℕ) → k < 256 → CountsTo Two true (remainder_in (type Two true) false k l) (word_remainder k l)
remainder_by k zero lt = tt
remainder_by k (suc l) lt = let q : k % suc l ≤ k = grind arith in (omega arith, omega arith)

pub divided_ok : (k l : ℕ) → k < 256 → l < 256 → CountsTo Two true (quotient (type Two true) k l) (operator_value 2 m.Div k l)
unfolding operator_value
divided_ok k l a b =
    let e : k % 256 ≡ k = omega arith in
    let f : l % 256 ≡ l = omega arith in
    subst (λ t. CountsTo Two true (quotient_in (type Two true) (differ t (nat_le 32768 l)) (magnitude (type Two true) k) (magnitude (type Two true) l)) (word_quotient (k % 256) (l % 256))) (sym (not_high k a))
    (subst (λ t. CountsTo Two true (quotient_in (type Two true) t (magnitude (type Two true) k) (magnitude (type Two true) l)) (word_quotient (k % 256) (l % 256))) (sym (not_high l b))
    (subst (λ z. CountsTo Two true (quotient_in (type Two true) false z (magnitude (type Two true) l)) (word_quotient (k % 256) (l % 256))) (sym (small_magnitude k a))
    (subst (λ z. CountsTo Two true (quotient_in (type Two true) false k z) (word_quotient (k % 256) (l % 256))) (sym (small_magnitude l b))
    (subst (λ z. CountsTo Two true (quotient_in (type Two true) false k l) (word_quotient z (l % 256))) (sym e)
    (subst (λ z. CountsTo Two true (quotient_in (type Two true) false k l) (word_quotient k z)) (sym f) (quotient_by k l a))))))

pub remains_ok : (k l : ℕ) → k < 256 → l < 256 → CountsTo Two true (remainder (type Two true) k l) (operator_value 2 m.Rem k l)
unfolding operator_value
remains_ok k l a b =
    let e : k % 256 ≡ k = omega arith in
    let f : l % 256 ≡ l = omega arith in
    subst (λ t. CountsTo Two true (remainder_in (type Two true) t (magnitude (type Two true) k) (magnitude (type Two true) l)) (word_remainder (k % 256) (l % 256))) (sym (not_high k a))
    (subst (λ z. CountsTo Two true (remainder_in (type Two true) false z (magnitude (type Two true) l)) (word_remainder (k % 256) (l % 256))) (sym (small_magnitude k a))
    (subst (λ z. CountsTo Two true (remainder_in (type Two true) false k z) (word_remainder (k % 256) (l % 256))) (sym (small_magnitude l b))
    (subst (λ z. CountsTo Two true (remainder_in (type Two true) false k l) (word_remainder z (l % 256))) (sym e)
    (subst (λ z. CountsTo Two true (remainder_in (type Two true) false k l) (word_remainder k z)) (sym f) (remainder_by k l a)))))

-- a property of the common type of two integers, which has two bytes
common_ok : (s : Size) (g : Bool) (t : Size) (h : Bool) (x u k l : ℕ) → Counts s g (v.Integer x) k → Counts t h (v.Integer u) l → (P : IntegerType → Type 0) → ((c : Bool) → P (type Two c)) → P (common_integer (type s g) (type t h))
common_ok One g One h x u k l a b P f = f (common_integer (type One g) (type One h)).signed
common_ok One g Two h x u k l a b P f = f (common_integer (type One g) (type Two h)).signed
common_ok Two g One h x u k l a b P f = f (common_integer (type Two g) (type One h)).signed
common_ok Two g Two h x u k l a b P f = f (common_integer (type Two g) (type Two h)).signed
common_ok Four g t h x u k l a b P f = absurd a
common_ok One g Four h x u k l a b P f = absurd b
common_ok Two g Four h x u k l a b P f = absurd b

-- two integers as words of the common type
in_common : (s : Size) (g : Bool) (t : Size) (h : Bool) (x u k l : ℕ) → Counts s g (v.Integer x) k → Counts t h (v.Integer u) l → (P : IntegerType → ℕ → ℕ → Type 0) → ((c : Bool) → P (type Two c) k l)
    → P (common_integer (type s g) (type t h)) (converted (type s g) (common_integer (type s g) (type t h)) x) (converted (type t h) (common_integer (type s g) (type t h)) u)
in_common s g t h x u k l a b P f =
    common_ok s g t h x u k l a b (λ C. P C (converted (type s g) C x) (converted (type t h) C u)) (λ c.
    subst (λ p. P (type Two c) p (converted (type t h) (type Two c) u)) (sym (as_word s g c x k a))
    (subst (λ q. P (type Two c) k q) (sym (as_word t h c u l b)) (f c)))

-- what is asked of two operands besides: a product, a quotient or a remainder is of unsigned bytes
abbrev pub AreFit : BinaryOperator → IntegerType → IntegerType → Type 0
AreFit o.Multiply I J = (I ≡ type One false) × (J ≡ type One false)
AreFit o.Divide I J = (I ≡ type One false) × (J ≡ type One false)
AreFit o.Remainder I J = (I ≡ type One false) × (J ≡ type One false)
AreFit operator I J = Unit {0}

-- a shift is by so many bits
abbrev pub ShiftIs : BinaryOperator → ℕ → ℕ → Type 0
ShiftIs o.ShiftLeft u y = u ≡ y
ShiftIs o.ShiftRight u y = u ≡ y
ShiftIs operator u y = Unit {0}

-- whether the result is signed
abbrev pub result_signed : BinaryOperator → IntegerType → IntegerType → Bool
result_signed o.Add I J = (common_integer I J).signed
result_signed o.Subtract I J = (common_integer I J).signed
result_signed o.BitAnd I J = (common_integer I J).signed
result_signed o.BitOr I J = (common_integer I J).signed
result_signed o.BitXor I J = (common_integer I J).signed
result_signed o.ShiftLeft I J = (promoted_integer I).signed
result_signed o.ShiftRight I J = (promoted_integer I).signed
result_signed operator I J = true

-- the word of the result; a shift is by so many bits
abbrev pub integer_word : BinaryOperator → IntegerType → IntegerType → ℕ → ℕ → ℕ → ℕ
integer_word o.Add I J y k l = operator_value 2 m.Add k l
integer_word o.Subtract I J y k l = operator_value 2 m.Sub k l
integer_word o.Multiply I J y k l = operator_value 2 m.Mul k l
integer_word o.Divide I J y k l = operator_value 2 m.Div k l
integer_word o.Remainder I J y k l = operator_value 2 m.Rem k l
integer_word o.BitAnd I J y k l = operator_value 2 m.And k l
integer_word o.BitOr I J y k l = operator_value 2 m.Or k l
integer_word o.BitXor I J y k l = operator_value 2 m.Xor k l
integer_word o.ShiftLeft I J y k l = word_left 2 y k
integer_word o.ShiftRight I J y k l = word_right 2 y I.signed k
integer_word o.Equal I J y k l = operator_value 2 m.Eq k l
integer_word o.NotEqual I J y k l = operator_value 2 m.Ne k l
integer_word o.Less I J y k l = operator_value 2 (less_op (common_integer I J).signed) k l
integer_word o.Greater I J y k l = operator_value 2 (less_op (common_integer I J).signed) l k
integer_word o.LessOrEqual I J y k l = operator_value 2 (most_op (common_integer I J).signed) k l
integer_word o.GreaterOrEqual I J y k l = operator_value 2 (most_op (common_integer I J).signed) l k
integer_word o.LogicalAnd I J y k l = k
integer_word o.LogicalOr I J y k l = k

module _ (s : Size) (g : Bool) (t : Size) (h : Bool) (x u k l : ℕ) (a : Counts s g (v.Integer x) k) (b : Counts t h (v.Integer u) l) where
  k_low : k < 65536
  k_low = word_is_word s g (v.Integer x) k a

  l_low : l < 65536
  l_low = word_is_word t h (v.Integer u) l b

  add_ok : (c : Bool) → Counts Two c (v.Integer (sum (type Two c) k l)) (operator_value 2 m.Add k l)
  unfolding operator_value
  add_ok c = (omega arith, refl)

  subtract_ok : (c : Bool) → Counts Two c (v.Integer (difference (type Two c) k l)) (operator_value 2 m.Sub k l)
  unfolding operator_value
  subtract_ok c = (omega arith, refl)

  and_ok : (c : Bool) → Counts Two c (v.Integer (bit_and k l)) (operator_value 2 m.And k l)
  unfolding operator_value
  and_ok c = (and_lt 16 k l k_low l_low, refl)

  or_ok : (c : Bool) → Counts Two c (v.Integer (bit_or k l)) (operator_value 2 m.Or k l)
  unfolding operator_value
  or_ok c = (or_lt 16 k l k_low l_low, refl)

  xor_ok : (c : Bool) → Counts Two c (v.Integer (bit_xor k l)) (operator_value 2 m.Xor k l)
  unfolding operator_value
  xor_ok c = (xor_lt 16 k l k_low l_low, refl)

  equal_is : operator_value 2 m.Eq k l ≡ bit_value (nat_eq k l)
  unfolding operator_value
  equal_is = refl

  differ_is : operator_value 2 m.Ne k l ≡ bit_value (not (nat_eq k l))
  unfolding operator_value
  differ_is = refl

-- of unsigned bytes
small : (I : IntegerType) (s : Size) (g : Bool) (x k : ℕ) → type s g ≡ type One false → Counts s g (v.Integer x) k → k < 256
small I s g x k e c = in_byte (subst (λ (J : IntegerType). Counts J.size J.signed (v.Integer x) k) e c)
  where
    in_byte : Counts One false (v.Integer x) k → k < 256
    in_byte c = let c0 = c.0 in let c1 = c.1 in omega arith

-- the common type of two unsigned bytes
int_common : (s : Size) (g : Bool) (t : Size) (h : Bool) → type s g ≡ type One false → type t h ≡ type One false → common_integer (type s g) (type t h) ≡ type Two true
int_common s g t h e f = ap₂ (λ I J. common_integer I J) e f

multiplied : (k l : ℕ) → k < 256 → l < 256 → Counts Two true (v.Integer (product (type Two true) k l)) (operator_value 2 m.Mul k l)
unfolding operator_value
multiplied k l a b = (product_low k l a b, sym (product_is k l a b))

pub integers_ok : (operator : BinaryOperator) (s : Size) (g : Bool) (t : Size) (h : Bool) (x u k l y : ℕ) → Counts s g (v.Integer x) k → Counts t h (v.Integer u) l → AreFit operator (type s g) (type t h) → ShiftIs operator u y
    → CountsTo Two (result_signed operator (type s g) (type t h)) (combined operator (type s g) (type t h) x u) (integer_word operator (type s g) (type t h) y k l)
integers_ok o.Add s g t h x u k l y a b fit is =
    in_common s g t h x u k l a b (λ C p q. CountsTo Two C.signed (calculated o.Add C p q) (operator_value 2 m.Add k l)) (λ c. add_ok s g t h x u k l a b c)
integers_ok o.Subtract s g t h x u k l y a b fit is =
    in_common s g t h x u k l a b (λ C p q. CountsTo Two C.signed (calculated o.Subtract C p q) (operator_value 2 m.Sub k l)) (λ c. subtract_ok s g t h x u k l a b c)
integers_ok o.BitAnd s g t h x u k l y a b fit is =
    in_common s g t h x u k l a b (λ C p q. CountsTo Two C.signed (calculated o.BitAnd C p q) (operator_value 2 m.And k l)) (λ c. and_ok s g t h x u k l a b c)
integers_ok o.BitOr s g t h x u k l y a b fit is =
    in_common s g t h x u k l a b (λ C p q. CountsTo Two C.signed (calculated o.BitOr C p q) (operator_value 2 m.Or k l)) (λ c. or_ok s g t h x u k l a b c)
integers_ok o.BitXor s g t h x u k l y a b fit is =
    in_common s g t h x u k l a b (λ C p q. CountsTo Two C.signed (calculated o.BitXor C p q) (operator_value 2 m.Xor k l)) (λ c. xor_ok s g t h x u k l a b c)
integers_ok o.Equal s g t h x u k l y a b fit is =
    in_common s g t h x u k l a b (λ C p q. CountsTo Two true (calculated o.Equal C p q) (operator_value 2 m.Eq k l)) (λ c. test_ok (nat_eq k l) _ (equal_is s g t h x u k l a b))
integers_ok o.NotEqual s g t h x u k l y a b fit is =
    in_common s g t h x u k l a b (λ C p q. CountsTo Two true (calculated o.NotEqual C p q) (operator_value 2 m.Ne k l)) (λ c. test_ok (not (nat_eq k l)) _ (differ_is s g t h x u k l a b))
integers_ok o.Less s g t h x u k l y a b fit is =
    in_common s g t h x u k l a b (λ C p q. CountsTo Two true (calculated o.Less C p q) (operator_value 2 (less_op C.signed) k l)) (λ c. test_ok (is_less (type Two c) k l) _ (less_is c k l))
integers_ok o.Greater s g t h x u k l y a b fit is =
    in_common s g t h x u k l a b (λ C p q. CountsTo Two true (calculated o.Greater C p q) (operator_value 2 (less_op C.signed) l k)) (λ c. test_ok (is_less (type Two c) l k) _ (less_is c l k))
integers_ok o.LessOrEqual s g t h x u k l y a b fit is =
    in_common s g t h x u k l a b (λ C p q. CountsTo Two true (calculated o.LessOrEqual C p q) (operator_value 2 (most_op C.signed) k l)) (λ c. test_ok (not (is_less (type Two c) l k)) _ (most_is c k l))
integers_ok o.GreaterOrEqual s g t h x u k l y a b fit is =
    in_common s g t h x u k l a b (λ C p q. CountsTo Two true (calculated o.GreaterOrEqual C p q) (operator_value 2 (most_op C.signed) l k)) (λ c. test_ok (not (is_less (type Two c) k l)) _ (most_is c l k))
integers_ok o.Multiply s g t h x u k l y a b fit is =
    subst (λ (C : IntegerType). CountsTo Two true (calculated o.Multiply C (converted (type s g) C x) (converted (type t h) C u)) (operator_value 2 m.Mul k l)) (sym (int_common s g t h fit.0 fit.1))
    (subst (λ p. CountsTo Two true (calculated o.Multiply (type Two true) p (converted (type t h) (type Two true) u)) (operator_value 2 m.Mul k l)) (sym (as_word s g true x k a))
    (subst (λ q. CountsTo Two true (calculated o.Multiply (type Two true) k q) (operator_value 2 m.Mul k l)) (sym (as_word t h true u l b))
    (multiplied k l (small (type s g) s g x k fit.0 a) (small (type t h) t h u l fit.1 b))))
integers_ok o.Divide s g t h x u k l y a b fit is =
    subst (λ (C : IntegerType). CountsTo Two true (calculated o.Divide C (converted (type s g) C x) (converted (type t h) C u)) (operator_value 2 m.Div k l)) (sym (int_common s g t h fit.0 fit.1))
    (subst (λ p. CountsTo Two true (calculated o.Divide (type Two true) p (converted (type t h) (type Two true) u)) (operator_value 2 m.Div k l)) (sym (as_word s g true x k a))
    (subst (λ q. CountsTo Two true (calculated o.Divide (type Two true) k q) (operator_value 2 m.Div k l)) (sym (as_word t h true u l b))
    (divided_ok k l (small (type s g) s g x k fit.0 a) (small (type t h) t h u l fit.1 b))))
integers_ok o.Remainder s g t h x u k l y a b fit is =
    subst (λ (C : IntegerType). CountsTo Two true (calculated o.Remainder C (converted (type s g) C x) (converted (type t h) C u)) (operator_value 2 m.Rem k l)) (sym (int_common s g t h fit.0 fit.1))
    (subst (λ p. CountsTo Two true (calculated o.Remainder (type Two true) p (converted (type t h) (type Two true) u)) (operator_value 2 m.Rem k l)) (sym (as_word s g true x k a))
    (subst (λ q. CountsTo Two true (calculated o.Remainder (type Two true) k q) (operator_value 2 m.Rem k l)) (sym (as_word t h true u l b))
    (remains_ok k l (small (type s g) s g x k fit.0 a) (small (type t h) t h u l fit.1 b))))
integers_ok o.ShiftLeft s g t h x u k l y a b fit is =
    subst (λ z. CountsTo Two (promoted_integer (type s g)).signed (combined o.ShiftLeft (type s g) (type t h) x z) (word_left 2 y k)) (sym is) (shift_left_ok s g x k y (type t h) a)
integers_ok o.ShiftRight s g t h x u k l y a b fit is =
    subst (λ z. CountsTo Two (promoted_integer (type s g)).signed (combined o.ShiftRight (type s g) (type t h) x z) (word_right 2 y g k)) (sym is) (shift_right_ok s g x k y (type t h) a)
integers_ok o.LogicalAnd s g t h x u k l y a b fit is = tt
integers_ok o.LogicalOr s g t h x u k l y a b fit is = tt
