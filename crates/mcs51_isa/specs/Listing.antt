-- The disassembly (Intel, MCS-51 instruction set; the layout of a line is this project's own): a line
-- has the address in four hexadecimal digits, a blank, the bytes of the instruction, a blank, the
-- mnemonic, and, where there are operands, a blank and the operands joined by commas. A jump's or
-- call's target is its whole address. It ends with a line feed (10).
use Rattle.std.specs.Prelude.{ℕ, ◌+◌, ◌%◌, List, [], ◌∷◌, ◌++◌, map, length, codes}
use Rattle.std.specs.List.{flat_map, join_with_byte}
use Rattle.cerco_base.specs.HexDigits.{hex_digit, hex_byte, hex_word}
use Rattle.mcs51_isa.specs.declared.instr.Instr.{Instr}
use Rattle.mcs51_isa.specs.declared.assembly.Operand.{Operand}
use Rattle.mcs51_isa.specs.declared.assembly.Operand.TheVariants.{Acc, Carry, Ab, DataPointer, AtDptr, AtAccDptr, AtAccPc, Direct, Bit, NotBit, Immediate, ImmediateWord, Indirect, Register, Relative, Paged, Absolute}
use Rattle.mcs51_isa.specs.Operands.{reg_number, ind_number, page_target, relative_target}
use Rattle.mcs51_isa.specs.Table.{entry_of, encode_of}

-- the text of an operand, where `next` is the address of the next instruction
abbrev pub operand_text : ℕ → Operand → List ℕ
operand_text next Acc = codes "A"
operand_text next Ab = codes "AB"
operand_text next Carry = codes "C"
operand_text next DataPointer = codes "DPTR"
operand_text next AtDptr = codes "@DPTR"
operand_text next AtAccDptr = codes "@A+DPTR"
operand_text next AtAccPc = codes "@A+PC"
operand_text next (Direct d) = hex_byte d ++ codes "H"
operand_text next (Bit b) = hex_byte b ++ codes "H"
operand_text next (NotBit b) = codes "/" ++ hex_byte b ++ codes "H"
operand_text next (Immediate k) = codes "#" ++ hex_byte k ++ codes "H"
operand_text next (ImmediateWord w) = codes "#" ++ hex_word w ++ codes "H"
operand_text next (Indirect i) = codes "@R" ++ hex_digit (ind_number i) ∷ []
operand_text next (Register n) = codes "R" ++ hex_digit (reg_number n) ∷ []
operand_text next (Relative r) = hex_word (relative_target next r) ++ codes "H"
operand_text next (Paged a) = hex_word (page_target next a) ++ codes "H"
operand_text next (Absolute w) = hex_word w ++ codes "H"

-- a blank and the operands joined by commas (44), or nothing
abbrev pub operands_text : ℕ → List Operand → List ℕ
operands_text next [] = []
operands_text next (x ∷ xs) = codes " " ++ join_with_byte 44 (map (operand_text next) (x ∷ xs))

-- the line of the instruction at an address
abbrev pub line_of : ℕ → Instr → List ℕ
line_of at i =
    let next = (at + length (encode_of i)) % 65536 in
    hex_word at ++ codes " " ++ flat_map hex_byte (encode_of i) ++ codes " " ++
    (entry_of i).mnemonic ++ operands_text next (entry_of i).operands ++ 10 ∷ []
