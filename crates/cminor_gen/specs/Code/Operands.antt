-- What the pass holds of an operand, as the translation speaks of it.
use Rattle.cminor_gen.specs.declared.operators.Operand.{Operand}
use Rattle.cminor_gen.specs.Translation.Operators as t

abbrev pub operand_held : Operand → t.Operand
operand_held x = record { integer = x.integer; number = x.number }
