-- The operands of an instruction, as the compiler's code holds them, as a list.
use Rattle.std.specs.Prelude.{List, [], ◌∷◌}
use Rattle.mcs51_isa.specs.declared.assembly.Operand.{Operand}
use Rattle.mcs51_isa.specs.declared.assembly.OperandList.{OperandList}
use Rattle.mcs51_isa.specs.declared.assembly.OperandList.TheVariants.{Nothing, One, Two, Three}

-- in the order of the assembler
abbrev pub operand_list : OperandList → List Operand
operand_list Nothing = []
operand_list (One x) = x ∷ []
operand_list (Two x y) = x ∷ y ∷ []
operand_list (Three x y z) = x ∷ y ∷ z ∷ []
