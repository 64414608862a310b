-- Sums and differences of bytes with a carry, as the arithmetic unit of an 8-bit processor makes them (Intel, MCS-51 family:
-- ADD, ADDC, SUBB), and of whole numbers as lists of bytes, the low byte first.
use Rattle.std.specs.Prelude.{◌≡◌, ℕ, zero, suc, ◌+◌, ◌*◌, ◌-◌, ◌%◌, ◌<◌, List, [], ◌∷◌, length, Bool, true, false, nat_le, nat_lt}

-- a bit as a number
abbrev pub bit_value : Bool → ℕ
bit_value true = 1
bit_value false = 0

-- the sum of two bytes and a carry, modulo 256
unfoldable pub sum_byte : ℕ → ℕ → Bool → ℕ
sum_byte a b carry = (a + b + bit_value carry) % 256

-- the carry out of the bit below a power of two, in a sum of two bytes and a carry: out of bit 7 at 256
unfoldable pub carries : ℕ → ℕ → ℕ → Bool → Bool
carries power a b carry = nat_le power (a % power + b % power + bit_value carry)

-- the difference of two bytes less a borrow, modulo 256
unfoldable pub difference_byte : ℕ → ℕ → Bool → ℕ
difference_byte a b borrow = (a + 256 - (b + bit_value borrow)) % 256

-- the borrow from the bit below a power of two, in a difference of two bytes less a borrow: from bit 7 at 256
unfoldable pub borrows : ℕ → ℕ → ℕ → Bool → Bool
borrows power a b borrow = nat_lt (a % power) (b % power + bit_value borrow)

-- the number that a list of bytes stands for, the low byte first
abbrev pub bytes_value : List ℕ → ℕ
bytes_value [] = 0
bytes_value (b ∷ bs) = b + 256 * bytes_value bs

-- how many numbers n bytes can hold, and what a carry out of n bytes stands for
abbrev pub count_of_values : ℕ → ℕ
count_of_values zero = 1
count_of_values (suc n) = 256 * count_of_values n

abbrev pub carry_value : ℕ → Bool → ℕ
carry_value n true = count_of_values n
carry_value n false = 0

-- byte by byte, each with the carry of the one before: the sum, and the carry out of its last byte
abbrev pub sum_bytes : List ℕ → List ℕ → Bool → List ℕ
sum_bytes [] bs carry = []
sum_bytes (a ∷ as') [] carry = []
sum_bytes (a ∷ as') (b ∷ bs) carry = sum_byte a b carry ∷ sum_bytes as' bs (carries 256 a b carry)

abbrev pub carry_out : List ℕ → List ℕ → Bool → Bool
carry_out [] bs carry = carry
carry_out (a ∷ as') [] carry = carry
carry_out (a ∷ as') (b ∷ bs) carry = carry_out as' bs (carries 256 a b carry)

-- the same for the difference, and its borrow
abbrev pub difference_bytes : List ℕ → List ℕ → Bool → List ℕ
difference_bytes [] bs borrow = []
difference_bytes (a ∷ as') [] borrow = []
difference_bytes (a ∷ as') (b ∷ bs) borrow = difference_byte a b borrow ∷ difference_bytes as' bs (borrows 256 a b borrow)

abbrev pub borrow_out : List ℕ → List ℕ → Bool → Bool
borrow_out [] bs borrow = borrow
borrow_out (a ∷ as') [] borrow = borrow
borrow_out (a ∷ as') (b ∷ bs) borrow = borrow_out as' bs (borrows 256 a b borrow)

-- two lists of bytes, of one length
abbrev pub AreBytes : List ℕ → List ℕ → Type 0
AreBytes [] [] = Unit {0}
AreBytes (a ∷ as') (b ∷ bs) = (a < 256) × (b < 256) × AreBytes as' bs
AreBytes _ _ = ⊥

-- The sum byte by byte, with its carry, is the sum of the numbers.
abbrev pub SumsAreRight : Type 0
SumsAreRight =
    (as' bs : List ℕ) (carry : Bool) → AreBytes as' bs
    → bytes_value (sum_bytes as' bs carry) + carry_value (length as') (carry_out as' bs carry) ≡ bytes_value as' + bytes_value bs + bit_value carry

-- The difference byte by byte, less what was borrowed, is the difference of the numbers.
abbrev pub DifferencesAreRight : Type 0
DifferencesAreRight =
    (as' bs : List ℕ) (borrow : Bool) → AreBytes as' bs
    → bytes_value (difference_bytes as' bs borrow) + bytes_value bs + bit_value borrow ≡ bytes_value as' + carry_value (length as') (borrow_out as' bs borrow)
