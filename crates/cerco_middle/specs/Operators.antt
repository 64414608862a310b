-- The values of Cminor and RTLabs (CerCo, deliverable 3.3) and the operators on them (ISO/IEC 9899:1999, 6.3.1.3 and 6.5.3 to
-- 6.5.12). A value is the number that its bytes stand for, in two's complement where it is a signed one. How many bytes it has is a
-- parameter, n. All is defined for every number: a quotient by 0 is the dividend and its remainder the divisor, which is what the
-- DIV of Intel's MCS-51 family leaves in its registers (own).
use Rattle.std.specs.Prelude.{ℕ, zero, suc, ◌+◌, ◌-◌, ◌*◌, ◌/◌, ◌%◌, ◌^◌, List, [], ◌∷◌, Bool, true, false, not, nat_eq, nat_lt, nat_le, bit_and, bit_or, bit_xor, if◌then◌else◌}
use Rattle.cerco_base.specs.Bytes.{bit_value, count_of_values}
use Rattle.cerco_traces.specs.Worlds.{World, loaded, stored, addresses_from}
use Rattle.cerco_middle.specs.declared.operators.Held.{Held}
use Rattle.cerco_middle.specs.declared.operators.Held.TheVariants.{U8, I8, W16}
use Rattle.cerco_middle.specs.declared.operators.CmOp.{CmOp}
use Rattle.cerco_middle.specs.declared.operators.CmOp.TheVariants.{Add, Sub, Mul, Div, Rem, And, Or, Xor, Eq, Ne, LtS, LtU, LeS, LeU}

-- how many bytes a value of these languages has
abbrev pub word_bytes : ℕ
word_bytes = 2

-- a number as a value: those of the compiler's trees and graphs have no more bytes
abbrev pub as_word : ℕ → ℕ
as_word number = number % count_of_values word_bytes

-- how many numbers of n bytes aren't negative as signed ones
abbrev pub half_of_values : ℕ → ℕ
half_of_values n = count_of_values n / 2

abbrev pub is_negative : ℕ → ℕ → Bool
is_negative n x = nat_le (half_of_values n) x

-- 6.3.1.3: a signed or unsigned number of m bytes as one of n bytes, which are no fewer
abbrev pub extended : Bool → ℕ → ℕ → ℕ → ℕ
extended true m n x = if is_negative m x then x + (count_of_values n - count_of_values m) else x
extended false m n x = x

-- ---- how scalars are held

-- in how many bytes
abbrev pub held_bytes : Held → ℕ
held_bytes U8 = 1
held_bytes I8 = 1
held_bytes W16 = 2

abbrev pub all_held_bytes : List Held → ℕ
all_held_bytes [] = 0
all_held_bytes (h ∷ hs) = held_bytes h + all_held_bytes hs

-- whether it is extended by its sign where it is read
abbrev pub is_signed : Held → Bool
is_signed U8 = false
is_signed I8 = true
is_signed W16 = false

abbrev pub read_from : Held → ℕ → ℕ
read_from h x = extended (is_signed h) (held_bytes h) word_bytes x

-- the part of a value that is held so, as it is read
unfoldable pub kept : Held → ℕ → ℕ
kept h x = read_from h (x % count_of_values (held_bytes h))

-- what is held so at an address of external RAM
unfoldable pub held_at : Held → World → ℕ → ℕ
held_at h w a = read_from h (loaded (held_bytes h) w a)

-- the world in which a value is held so at an address
abbrev pub held_in : Held → World → ℕ → ℕ → World
held_in h w a x = stored (held_bytes h) w a x

-- the addresses of what is held so
abbrev pub held_addresses : Held → ℕ → List ℕ
held_addresses h a = addresses_from (held_bytes h) a

-- ---- tests

-- the first where a value isn't 0, else the other one
abbrev pub branch : {A : Type 0} → ℕ → A → A → A
branch zero on_true on_false = on_false
branch (suc n) on_true on_false = on_true

-- ---- operators on one value

-- 6.5.3.3
unfoldable pub negated : ℕ → ℕ → ℕ
negated n x = (count_of_values n - x) % count_of_values n

unfoldable pub complement : ℕ → ℕ → ℕ
complement n x = count_of_values n - 1 - x

-- 6.5.7
unfoldable pub shifted_left : ℕ → ℕ → ℕ → ℕ
shifted_left n k x = (x * 2 ^ k) % count_of_values n

-- an arithmetic shift of a negative number rounds down, as that of its complement does
unfoldable pub shifted_right : ℕ → ℕ → Bool → ℕ → ℕ
shifted_right n k false x = x / 2 ^ k
shifted_right n k true x = if is_negative n x then count_of_values n - 1 - (count_of_values n - 1 - x) / 2 ^ k else x / 2 ^ k

-- ---- operators on two values

abbrev pub low_byte : ℕ → ℕ
low_byte x = x % 256

-- 6.5.5, and what the machine does by 0
abbrev pub quotient : ℕ → ℕ → ℕ
quotient x zero = x
quotient x (suc y) = x / suc y

abbrev pub remainder : ℕ → ℕ → ℕ
remainder x zero = zero
remainder x (suc y) = x % suc y

-- 6.5.8: signed numbers have the order of the unsigned ones that are half of all numbers further on
abbrev pub is_less_signed : ℕ → ℕ → ℕ → Bool
is_less_signed n x y = nat_lt ((x + half_of_values n) % count_of_values n) ((y + half_of_values n) % count_of_values n)

-- 6.5.5, 6.5.6 and 6.5.8 to 6.5.12: a comparison gives 1 or 0
unfoldable pub operator_value : ℕ → CmOp → ℕ → ℕ → ℕ
operator_value n Add x y = (x + y) % count_of_values n
operator_value n Sub x y = (x + (count_of_values n - y)) % count_of_values n
operator_value n Mul x y = low_byte x * low_byte y
operator_value n Div x y = quotient (low_byte x) (low_byte y)
operator_value n Rem x y = remainder (low_byte x) (low_byte y)
operator_value n And x y = bit_and x y
operator_value n Or x y = bit_or x y
operator_value n Xor x y = bit_xor x y
operator_value n Eq x y = bit_value (nat_eq x y)
operator_value n Ne x y = bit_value (not (nat_eq x y))
operator_value n LtS x y = bit_value (is_less_signed n x y)
operator_value n LtU x y = bit_value (nat_lt x y)
operator_value n LeS x y = bit_value (not (is_less_signed n y x))
operator_value n LeU x y = bit_value (not (nat_lt y x))
