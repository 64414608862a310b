-- How the numbers of an annotated text are looked for.
use Rattle.std.specs.Prelude.{◌≡◌, ℕ, ◌+◌, ◌^◌, List, length, min, Some, slice_get}
use Rattle.annotate.specs.declared.reading.Sought.{Sought}
use Rattle.annotate.specs.declared.reading.Sought.TheVariants.{Found, Later}

-- a number, or 2 ^ 32 where that is less
abbrev pub capped : ℕ → ℕ
capped n = min (2 ^ 32) n

-- Of the number before which `skipped` others come in the list: it is found, or so many others come before it after the list.
abbrev pub IsSoughtIn : List ℕ → ℕ → Sought → Type 0
IsSoughtIn numbers skipped (Found cost) = (n : ℕ) × (slice_get numbers skipped ≡ Some n) × (cost ≡ capped n)
IsSoughtIn numbers skipped (Later left) = skipped ≡ length numbers + left
