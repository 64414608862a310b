-- How scalars of C's types are held in external RAM and in the variables of Cminor (ISO/IEC 9899:1999, 6.2.5 and 6.2.6; the sizes are those
-- of the compiler's profile of C).
use Rattle.std.specs.Prelude.{true, false}
use Rattle.c_types.specs.declared.integers.Size.TheVariants.{One}
use Rattle.c_types.specs.Types.{CType, Integer}
use Rattle.cerco_middle.specs.declared.operators.Held.{Held}
use Rattle.cerco_middle.specs.declared.operators.Held.TheVariants.{U8, I8, W16}

abbrev pub held_of : CType → Held
held_of (Integer One false) = U8
held_of (Integer One true) = I8
held_of type = W16
