-- Constants among expressions, and elements whose size is a power of 2 (ISO/IEC 9899:1999, 6.4.4.1 and 6.5.6).
use Rattle.std.specs.Prelude.{ℕ, ◌^◌, Option, Some, None, nat_eq, if◌then◌else◌}
use Rattle.clight_syntax.specs.Bounds.{exponent_from}
use Rattle.clight_syntax.specs.TypedTrees.{Expr, Number, Parenthesis}

-- the number that an expression is, in parentheses or not
abbrev pub as_number : Expr → Option ℕ
as_number (Number T number span) = Some number.value
as_number (Parenthesis T left e right) = as_number e
as_number e = None

-- the exponent of 2 that gives a size, where one below 16 does
unfoldable pub shift_for : ℕ → Option ℕ
shift_for size = if nat_eq (2 ^ exponent_from 16 0 size) size then Some (exponent_from 16 0 size) else None
