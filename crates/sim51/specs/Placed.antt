-- Instructions that stand in a code.
use Rattle.std.specs.Prelude.{◌≡◌, ℕ, ◌+◌, ◌≤◌, List, [], ◌∷◌, ◌++◌, Some}
use Rattle.mcs51_isa.specs.declared.instr.Instr.{Instr}
use Rattle.mcs51_isa.specs.Table.{encode_of}
use Rattle.sim51.specs.Step.{instr_at, size}

-- the bytes of instructions, one after the other, and their number
abbrev pub code_of_instrs : List Instr → List ℕ
code_of_instrs [] = []
code_of_instrs (i ∷ is) = encode_of i ++ code_of_instrs is

abbrev pub bytes_of : List Instr → ℕ
bytes_of [] = 0
bytes_of (i ∷ is) = size i + bytes_of is

-- these instructions stand in the code, one after the other, from this address on
abbrev pub Stands : List ℕ → ℕ → List Instr → Type 0
Stands code a [] = Unit {0}
Stands code a (i ∷ is) = (instr_at code a ≡ Some i) × (a + size i ≤ 65536) × Stands code (a + size i) is
