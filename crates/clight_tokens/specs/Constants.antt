-- Integer constants (ISO/IEC 9899:1999, 6.4.4.1), in the compiler's profile of C: a decimal constant without leading zero, `0` and
-- octal digits, or `0x` or `0X` and hexadecimal digits, each with at most one `u` or `U` behind it, and a value of at most 65,535.
use Rattle.std.specs.Prelude.{ℕ, ◌+◌, ◌-◌, ◌*◌, Bool, ◌&&◌, ◌||◌, ◌==◌, nat_le, nat_lt, if◌then◌else◌, List, ◌∷◌, take, drop, length, map, fold, slice_index, Option, Some, None}
use Rattle.std.specs.List.{list_all}
use Rattle.clight_source.specs.declared.symbol.Radix.{Radix}
use Rattle.clight_source.specs.declared.symbol.Radix.TheVariants.{Decimal, Octal, Hexadecimal}
use Rattle.clight_source.specs.declared.symbol.Literal.{Literal}

abbrev pub base : Radix → ℕ
base Decimal = 10
base Octal = 8
base Hexadecimal = 16

-- the value of a byte as a digit: `0` to `9`, `A` to `F` or `a` to `f`; 16 where it is none
abbrev pub digit_value : ℕ → ℕ
digit_value b =
    if nat_le 48 b && nat_le b 57 then b - 48 else
    (if nat_le 65 b && nat_le b 70 then b - 55 else (if nat_le 97 b && nat_le b 102 then b - 87 else 16))

-- the number that the digits stand for, the highest first
abbrev pub number_in : ℕ → List ℕ → ℕ
number_in b digits = fold (λ n digit. n * b + digit) 0 digits

-- `u` or `U` stands at the end
abbrev pub is_unsigned : List ℕ → Bool
is_unsigned s = slice_index s (length s - 1) == 117 || slice_index s (length s - 1) == 85

abbrev pub without_suffix : List ℕ → List ℕ
without_suffix s = if is_unsigned s then take (length s - 1) s else s

-- how a constant without its suffix is written: by its first bytes
abbrev pub radix_of : List ℕ → Radix
radix_of (a ∷ b ∷ s) = if a == 48 then (if b == 120 || b == 88 then Hexadecimal else Octal) else Decimal
radix_of _ = Decimal

-- the bytes of its digits
abbrev pub digits_of : Radix → List ℕ → List ℕ
digits_of Hexadecimal s = drop 2 s
digits_of _ s = s

-- there is a digit, each byte is a digit of the radix, and the value is at most 65,535
abbrev pub is_constant : Radix → List ℕ → Bool
is_constant radix digits =
    nat_lt 0 (length digits) && (list_all (λ d. nat_lt d (base radix)) digits && nat_le (number_in (base radix) digits) 65535)

-- the constant with these digits, where it is one
abbrev pub constant_with : Radix → List ℕ → Bool → Option Literal
constant_with radix digits unsigned =
    if is_constant radix digits then Some (record { value = number_in (base radix) digits; radix = radix; unsigned = unsigned }) else None

-- the constant that a text is, if it is one
unfoldable pub constant_of : List ℕ → Option Literal
constant_of s =
    let body = without_suffix s in
    constant_with (radix_of body) (map digit_value (digits_of (radix_of body) body)) (is_unsigned s)
