-- How the words, operands and operations of the code stand for those of the definitions.
use Rattle.std.specs.Prelude.{List, [], ◌∷◌, map}
use Rattle.rtl.specs.declared.locations.Vreg.{Vreg}
use Rattle.rtl.specs.declared.operations.Src.{Src}
use Rattle.rtl.specs.declared.operations.ByteOp.{ByteOp as WrittenOp}
use Rattle.rtl.specs.Operations.{ByteOp}
use Rattle.rtl.specs.Code.Views.{op_of}
use Rattle.byte_sequences.specs.declared.words.Word.{Word}
use Rattle.byte_sequences.specs.declared.arithmetic.Operand.{Operand}

-- the virtual registers of a word, the one of the low byte first
abbrev pub vregs : Word → List Vreg
vregs word = word.low ∷ word.high ∷ []

abbrev pub sources : Operand → List (Src Vreg)
sources x = x.low ∷ x.high ∷ []

abbrev pub ops_of : List (WrittenOp Vreg) → List (ByteOp Vreg)
ops_of ops = map op_of ops
