-- Where a step leads, and how many cycles it takes.
use Rattle.std.proofs.Common.{◌≡◌, ℕ, ◌+◌, ◌<◌, ◌≤◌, List, Option, Some, None, Bool, true, false, cond, refl, sym, ap, subst, ◌∙◌, arith, inl, inr}
use Rattle.mcs51_isa.specs.declared.instr.Instr.{Instr}
use Rattle.mcs51_isa.specs.declared.instr.Instr.TheVariants.{Nop, Long, Ret, BranchBit, BranchFlag, JmpIndirect, CjneImmediate, CjneDirect, CjneIndirect, CjneRegister, Stack, DjnzDirect, DjnzRegister, MovxDptr, MovxIndirect, MovDirect, MovIndirect, MovRegister}
use Rattle.mcs51_isa.specs.declared.instr.LongJump.TheVariants.{Ljmp, Lcall}
use Rattle.mcs51_isa.specs.declared.instr.BitTest.TheVariants.{Jbc, Jb, Jnb}
use Rattle.mcs51_isa.specs.declared.instr.ByOne.TheVariants.{Dec}
use Rattle.mcs51_isa.specs.declared.instr.StackOp.TheVariants.{Push, Pop}
use Rattle.mcs51_isa.specs.declared.instr.Move.TheVariants.{IntoAcc, FromAcc}
use Rattle.mcs51_isa.specs.declared.instr.FlagTest.{FlagTest}
use Rattle.mcs51_isa.specs.Operands.{relative_target}
use Rattle.mcs51_isa.specs.Table.{cycles_of}
use Rattle.mcs51_isa.specs.Flow.{Branch, flow_of, LeadsTo}
use Rattle.mcs51_isa.proofs.Bounds.{cycle_bounds}
use Rattle.sim51.specs.declared.events.Events.{Events}
use Rattle.sim51.specs.State.{Core, State}
use Rattle.sim51.specs.Locations.{bit_of, location_of, byte_of_bit, held, read_value, register, indirect}
use Rattle.sim51.specs.Effect.{effect, goes_to, flag_holds, clears_bit, stepped}
use Rattle.sim51.specs.Step.{Moved, Halts, Reserved, Goes, instr_at, next_address, halts, step}
use Rattle.sim51.proofs.Steps.{step_none, step_goes, step_halts}
use Rattle.std.proofs.Common.{nat_eq}
use Rattle.std.specs.Prelude.{◌%◌}

-- the two ways of a conditional jump
where_true : (b : Bool) (next target : ℕ) → LeadsTo (Branch next target) (cond b target next)
where_true true next target = inr refl
where_true false next target = inl refl

where_false : (b : Bool) (next target : ℕ) → LeadsTo (Branch next target) (cond b next target)
where_false true next target = inl refl
where_false false next target = inr refl

where_cleared : (b : Bool) (bit next target : ℕ) (c : Core) → LeadsTo (Branch next target) (clears_bit b bit target next c).pc
where_cleared true bit next target c = inr refl
where_cleared false bit next target c = inl refl

-- each instruction leads to one of its next addresses
pub leads : (code : List ℕ) (i : Instr) (next : ℕ) (c : Core) → LeadsTo (flow_of i next) (effect code i next c).pc
leads code Nop next c = refl
leads code (Long Ljmp target) next c = refl
leads code (Long Lcall target) next c = refl
leads code (Ret op) next c = tt
leads code JmpIndirect next c = tt
leads code (BranchBit Jbc bit offset) next c =
    where_cleared (bit_of (held c (location_of (byte_of_bit bit))) (bit % 8)) bit next (relative_target next offset) c
leads code (BranchBit Jb bit offset) next c = where_true (bit_of (read_value c (location_of (byte_of_bit bit))) (bit % 8)) next (relative_target next offset)
leads code (BranchBit Jnb bit offset) next c = where_false (bit_of (read_value c (location_of (byte_of_bit bit))) (bit % 8)) next (relative_target next offset)
leads code (BranchFlag op offset) next c = where_true (flag_holds op c) next (relative_target next offset)
leads code (CjneImmediate byte offset) next c = where_false (nat_eq c.acc byte) next (relative_target next offset)
leads code (CjneDirect direct offset) next c = where_false (nat_eq c.acc (read_value c (location_of direct))) next (relative_target next offset)
leads code (CjneIndirect ind byte offset) next c = where_false (nat_eq (indirect c ind) byte) next (relative_target next offset)
leads code (CjneRegister reg byte offset) next c = where_false (nat_eq (register c reg) byte) next (relative_target next offset)
leads code (DjnzDirect direct offset) next c = where_false (nat_eq (stepped Dec (held c (location_of direct))) 0) next (relative_target next offset)
leads code (DjnzRegister reg offset) next c = where_false (nat_eq (stepped Dec (register c reg)) 0) next (relative_target next offset)
leads code (Stack Push direct) next c = refl
leads code (Stack Pop direct) next c = refl
leads code (MovxDptr IntoAcc) next c = refl
leads code (MovxDptr FromAcc) next c = refl
leads code (MovxIndirect IntoAcc ind) next c = refl
leads code (MovxIndirect FromAcc ind) next c = refl
leads code (MovDirect IntoAcc direct) next c = refl
leads code (MovDirect FromAcc direct) next c = refl
leads code (MovIndirect IntoAcc ind) next c = refl
leads code (MovIndirect FromAcc ind) next c = refl
leads code (MovRegister IntoAcc reg) next c = refl
leads code (MovRegister FromAcc reg) next c = refl
leads code _ next c = refl

-- the two ways of a jump by a flag or the accumulator
module _ (code : List ℕ) (op : FlagTest) (offset next : ℕ) (c : Core) where
  pub flag_jumps : flag_holds op c ≡ true → effect code (BranchFlag op offset) next c ≡ goes_to (relative_target next offset) c
  flag_jumps holds = ap (λ b. goes_to (cond b (relative_target next offset) next) c) holds

  pub flag_passes : flag_holds op c ≡ false → effect code (BranchFlag op offset) next c ≡ goes_to next c
  flag_passes fails = ap (λ b. goes_to (cond b (relative_target next offset) next) c) fails

state_in : State → Moved → State
state_in other Halts = other
state_in other Reserved = other
state_in other (Goes e t) = t

module _ (code labels : List ℕ) (s : State) (e : Events) (t : State) where
  -- the state after a step that goes on
  pub step_state : (i : Instr) → instr_at code s.pc ≡ Some i → step code labels s ≡ Goes e t → record { core = (effect code i (next_address s.pc i) s.core).core; pc = (effect code i (next_address s.pc i) s.core).pc; cycles = s.cycles + cycles_of i } ≡ t
  unfolding state_in
  step_state i there goes = by_halt (halts i s.pc) refl
    where
      by_halt : (b : Bool) → halts i s.pc ≡ b → record { core = (effect code i (next_address s.pc i) s.core).core; pc = (effect code i (next_address s.pc i) s.core).pc; cycles = s.cycles + cycles_of i } ≡ t
      by_halt true over = let halted = step_halts code labels s i there over in absurd cc
      by_halt false on = ap (state_in s) (sym (step_goes code labels s i there on) ∙ goes)

  -- it leads to one of the next addresses of its instruction
  pub step_leads : (i : Instr) → instr_at code s.pc ≡ Some i → step code labels s ≡ Goes e t → LeadsTo (flow_of i (next_address s.pc i)) t.pc
  step_leads i there goes =
      subst (λ n. LeadsTo (flow_of i (next_address s.pc i)) n) (ap (λ (u : State). u.pc) (step_state i there goes)) (leads code i (next_address s.pc i) s.core)

  -- where a step goes on, there is an instruction
  pub step_instr : step code labels s ≡ Goes e t → (i : Instr) × (instr_at code s.pc ≡ Some i)
  step_instr goes = by_instr (instr_at code s.pc) refl
    where
      by_instr : (o : Option Instr) → instr_at code s.pc ≡ o → (i : Instr) × (instr_at code s.pc ≡ Some i)
      by_instr None there = let none = step_none code labels s there in absurd cc
      by_instr (Some i) there = (i, there)

  -- a step takes from one cycle to four
  pub step_cycles : step code labels s ≡ Goes e t → (s.cycles < t.cycles) × (t.cycles ≤ s.cycles + 4)
  step_cycles goes =
      let i = step_instr goes in
      let took : s.cycles + cycles_of i.0 ≡ t.cycles = ap (λ (u : State). u.cycles) (step_state i.0 i.1 goes) in
      let bounds = cycle_bounds i.0 in
      (omega arith, omega arith)
