-- How many bytes and cycles instructions have.
use Rattle.std.proofs.Common.{◌≤◌, length, lit≤}
use Rattle.mcs51_isa.specs.declared.instr.Instr.{Instr}
use Rattle.mcs51_isa.specs.declared.instr.Instr.TheVariants.{Nop}
use Rattle.mcs51_isa.specs.Table.{encode_of, cycles_of}

-- an instruction has from one byte to three
pub size_bounds : (i : Instr) → (1 ≤ length (encode_of i)) × (length (encode_of i) ≤ 3)
size_bounds Nop = (lit≤ tt, lit≤ tt)
size_bounds _ = (lit≤ tt, lit≤ tt)

-- an instruction takes from one cycle to four
pub cycle_bounds : (i : Instr) → (1 ≤ cycles_of i) × (cycles_of i ≤ 4)
cycle_bounds Nop = (lit≤ tt, lit≤ tt)
cycle_bounds _ = (lit≤ tt, lit≤ tt)
