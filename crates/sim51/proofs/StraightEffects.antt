-- What doesn't depend on the place of an instruction: only MOVC reads the code, and straight-line code goes on.
use Rattle.std.proofs.Common.{◌≡◌, ◌≢◌, ℕ, List, [], false, refl, ap}
use Rattle.std.proofs.lemmas.Bool.{ne_eqb}
use Rattle.mcs51_isa.specs.declared.instr.Instr.{Instr}
use Rattle.mcs51_isa.specs.declared.instr.Instr.TheVariants.{Nop, Ajmp, Acall, Long, Ret, BranchBit, BranchFlag, Sjmp, JmpIndirect, Movc, CjneImmediate, CjneDirect, CjneIndirect, CjneRegister, Stack, DjnzDirect, DjnzRegister, MovxDptr, MovxIndirect, MovDirect, MovIndirect, MovRegister}
use Rattle.mcs51_isa.specs.declared.instr.LongJump.TheVariants.{Ljmp, Lcall}
use Rattle.mcs51_isa.specs.declared.instr.StackOp.TheVariants.{Push, Pop}
use Rattle.mcs51_isa.specs.declared.instr.Move.TheVariants.{IntoAcc, FromAcc}
use Rattle.mcs51_isa.specs.declared.instr.TableBase.{TableBase}
use Rattle.mcs51_isa.specs.Operands.{page_target, relative_target}
use Rattle.mcs51_isa.specs.Flow.{On, flow_of}
use Rattle.sim51.specs.State.{Core}
use Rattle.sim51.specs.Effect.{effect}
use Rattle.sim51.specs.Step.{halts, next_address}
use Rattle.sim51.specs.Straight.{IsStraight}

module _ (code : List ℕ) where
  -- only MOVC reads the code
  pub effect_code : (i : Instr) (next : ℕ) (c : Core) → ((base : TableBase) → i ≢ Movc base) → effect code i next c ≡ effect [] i next c
  effect_code Nop next c other = refl
  effect_code (Movc base) next c other = absurd (other base refl)
  effect_code (Long Ljmp target) next c other = refl
  effect_code (Long Lcall target) next c other = refl
  effect_code (Stack Push direct) next c other = refl
  effect_code (Stack Pop direct) next c other = refl
  effect_code (MovxDptr IntoAcc) next c other = refl
  effect_code (MovxDptr FromAcc) next c other = refl
  effect_code (MovxIndirect IntoAcc ind) next c other = refl
  effect_code (MovxIndirect FromAcc ind) next c other = refl
  effect_code (MovDirect IntoAcc direct) next c other = refl
  effect_code (MovDirect FromAcc direct) next c other = refl
  effect_code (MovIndirect IntoAcc ind) next c other = refl
  effect_code (MovIndirect FromAcc ind) next c other = refl
  effect_code (MovRegister IntoAcc reg) next c other = refl
  effect_code (MovRegister FromAcc reg) next c other = refl
  effect_code _ next c other = refl

  -- in straight-line code the address of the next instruction is where the machine goes on, and has no other part
  pub effect_next : (i : Instr) (next : ℕ) (c : Core) → IsStraight i → effect code i next c ≡ record (effect [] i 0 c) { pc = next }
  effect_next Nop next c straight = refl
  effect_next (Ajmp target) next c straight = absurd straight
  effect_next (Acall target) next c straight = absurd straight
  effect_next (Long op target) next c straight = absurd straight
  effect_next (Ret op) next c straight = absurd straight
  effect_next (BranchBit op bit offset) next c straight = absurd straight
  effect_next (BranchFlag op offset) next c straight = absurd straight
  effect_next (Sjmp offset) next c straight = absurd straight
  effect_next JmpIndirect next c straight = absurd straight
  effect_next (Movc base) next c straight = absurd straight
  effect_next (CjneImmediate byte offset) next c straight = absurd straight
  effect_next (CjneDirect direct offset) next c straight = absurd straight
  effect_next (CjneIndirect ind byte offset) next c straight = absurd straight
  effect_next (CjneRegister reg byte offset) next c straight = absurd straight
  effect_next (DjnzDirect direct offset) next c straight = absurd straight
  effect_next (DjnzRegister reg offset) next c straight = absurd straight
  effect_next (Stack Push direct) next c straight = refl
  effect_next (Stack Pop direct) next c straight = refl
  effect_next (MovxDptr IntoAcc) next c straight = refl
  effect_next (MovxDptr FromAcc) next c straight = refl
  effect_next (MovxIndirect IntoAcc ind) next c straight = refl
  effect_next (MovxIndirect FromAcc ind) next c straight = refl
  effect_next (MovDirect IntoAcc direct) next c straight = refl
  effect_next (MovDirect FromAcc direct) next c straight = refl
  effect_next (MovIndirect IntoAcc ind) next c straight = refl
  effect_next (MovIndirect FromAcc ind) next c straight = refl
  effect_next (MovRegister IntoAcc reg) next c straight = refl
  effect_next (MovRegister FromAcc reg) next c straight = refl
  effect_next _ next c straight = refl

-- a jump elsewhere doesn't halt
pub halts-other : (i : Instr) (a : ℕ) → flow_of i (next_address a i) ≢ On a → halts i a ≡ false
halts-other Nop a other = refl
halts-other (Ajmp target) a other = ne_eqb (page_target (next_address a (Ajmp target)) target) a (λ e. other (ap On e))
halts-other (Sjmp offset) a other = ne_eqb (relative_target (next_address a (Sjmp offset)) offset) a (λ e. other (ap On e))
halts-other (Long Ljmp target) a other = ne_eqb target a (λ e. other (ap On e))
halts-other (Long Lcall target) a other = refl
halts-other _ a other = refl

-- nor does straight-line code
pub straight_goes : (i : Instr) (a : ℕ) → IsStraight i → halts i a ≡ false
straight_goes Nop a straight = refl
straight_goes (Ajmp target) a straight = absurd straight
straight_goes (Long op target) a straight = absurd straight
straight_goes (Sjmp offset) a straight = absurd straight
straight_goes _ a straight = refl
