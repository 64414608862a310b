-- The first values of globals (ISO/IEC 9899:1999, 6.7.8).
use Rattle.std.specs.Prelude.{ℕ, suc, List, [], ◌∷◌, ◌++◌, map, Option, Some, None, slice_get}
use Rattle.clight_source.specs.declared.tree.SignedNumber.{SignedNumber}
use Rattle.clight_source.specs.declared.symbol.Literal.{Literal}
use Rattle.clight_source.specs.declared.span.Span.{Span}
use Rattle.clight_source.specs.declared.tree.EarlierNumber.{EarlierNumber}
use Rattle.clight_source.specs.Trees.{Initialiser, NoInitialiser, Single, Listed}
use Rattle.c_types.specs.Types.{CType, Integer}
use Rattle.clight_values.specs.declared.value.Value as w
use Rattle.clight_values.specs.declared.value.Value.TheVariants as v
use Rattle.clight_syntax.specs.LiteralTypes.{literal_integer}
use Rattle.clight_values.specs.Values.{converted, difference}
use Rattle.clight_values.specs.Memory.{Cell, Kinds, initial, left}

abbrev pub signed_bits_of : Literal → Option Span → ℕ
signed_bits_of l None = l.value
signed_bits_of l (Some minus) = difference (literal_integer l) 0 l.value

-- the bits of a number, perhaps with a `-` before it
abbrev pub signed_bits : SignedNumber → ℕ
signed_bits n = signed_bits_of n.number n.minus

-- the first value of a scalar of this type by a number
abbrev pub given : CType → SignedNumber → w.Value
given (Integer size signed) n = v.Integer (converted (literal_integer n.number) (record { size = size; signed = signed }) (signed_bits n))
given T n = initial T

abbrev pub first_value : CType → Option SignedNumber → w.Value
first_value T None = initial T
first_value T (Some n) = given T n

-- the cells of a global: its numbers, from this one on, are the first values of its scalars in order, and the others are 0 or null
abbrev pub filled : Kinds → List SignedNumber → ℕ → List Cell
filled [] ns i = []
filled (None ∷ kinds) ns i = record { kind = None; value = None } ∷ filled kinds ns i
filled (Some T ∷ kinds) ns i = record { kind = Some T; value = Some (first_value T (slice_get ns i)) } ∷ filled kinds ns (suc i)

abbrev pub numbers_of : Initialiser → List SignedNumber
numbers_of NoInitialiser = []
numbers_of (Single equals n) = n ∷ []
numbers_of (Listed equals left earlier last right) = map (λ (n : EarlierNumber). n.number) earlier ++ last ∷ []
