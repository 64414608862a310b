-- The laws of direct addresses at a byte of internal RAM, at B and at a jump by the accumulator.
use Rattle.std.proofs.Common.{◌≡◌, ℕ, ◌<◌, List, not, nat_eq, refl, ap, slice_index, slice_set}
use Rattle.mcs51_isa.specs.declared.instr.Instr.TheVariants.{ArithDirect, BranchFlag, MovDirect, MovDirectDirect}
use Rattle.mcs51_isa.specs.declared.instr.FlagTest.TheVariants.{Jnz}
use Rattle.mcs51_isa.specs.declared.instr.Move.TheVariants.{IntoAcc, FromAcc}
use Rattle.mcs51_isa.specs.declared.instr.SumOp.TheVariants.{Subb}
use Rattle.sim51.specs.declared.location.Location.TheVariants.{Ram, B}
use Rattle.sim51.specs.State.{Core}
use Rattle.sim51.specs.Effect.{effect, goes_to, subtracted}
use Rattle.sim51.proofs.Cells.{mov_acc_direct, mov_direct_acc, arith_direct, mov_direct_direct}
use Rattle.sim51.proofs.Laws.{location_of-ram}
use Rattle.sim51.proofs.Leads.{flag_passes}

module _ (code : List ℕ) (next : ℕ) (c : Core) (cell : ℕ) (below : cell < 128) where
  cell_is_loaded : effect code (MovDirect IntoAcc cell) next c ≡ goes_to next (record c { acc = slice_index c.iram cell })
  cell_is_loaded = mov_acc_direct code next c cell (Ram cell) (location_of-ram cell below) tt

  cell_is_stored : effect code (MovDirect FromAcc cell) next c ≡ goes_to next (record c { iram = slice_set c.iram cell c.acc })
  cell_is_stored = mov_direct_acc code next c cell (Ram cell) (location_of-ram cell below) tt

  cell_is_subtracted : effect code (ArithDirect Subb cell) next c ≡ goes_to next (subtracted c (slice_index c.iram cell))
  cell_is_subtracted = arith_direct code next c cell (Ram cell) (location_of-ram cell below) tt Subb

  cell_to_b : effect code (MovDirectDirect cell 0xF0) next c ≡ goes_to next (record c { b = slice_index c.iram cell })
  cell_to_b = mov_direct_direct code next c cell (Ram cell) (location_of-ram cell below) tt 0xF0 B refl tt

  b_to_cell : effect code (MovDirectDirect 0xF0 cell) next c ≡ goes_to next (record c { iram = slice_set c.iram cell c.b })
  b_to_cell = mov_direct_direct code next c 0xF0 B refl tt cell (Ram cell) (location_of-ram cell below) tt

  zero_passes : c.acc ≡ 0 → effect code (BranchFlag Jnz 2) next c ≡ goes_to next c
  zero_passes zero = flag_passes code Jnz 2 next c (ap (λ a. not (nat_eq a 0)) zero)
