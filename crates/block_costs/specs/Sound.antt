-- What the cost of an address says of the machine: from there it takes exactly so many cycles to the next label, the halt or a return
-- (the exact costs of CerCo, deliverable 2.1).
use Rattle.std.specs.Prelude.{◌≡◌, ℕ, suc, ◌+◌, ◌≤◌, List, Bool, true, false, Option, Some, ◌⊎◌}
use Rattle.mcs51_isa.specs.declared.instr.Instr.{Instr}
use Rattle.mcs51_isa.specs.declared.instr.Instr.TheVariants.{Ret}
use Rattle.sim51.specs.declared.events.Events.{Events}
use Rattle.sim51.specs.State.{State}
use Rattle.sim51.specs.Step.{Goes, instr_at, step}
use Rattle.block_costs.specs.Ways.{has_halt, is_closed}

-- a RET or RETI
abbrev pub IsReturn : Option Instr → Type 0
IsReturn (Some (Ret kind)) = Unit {0}
IsReturn _ = ⊥

-- From a state the machine makes a whole way of so many instructions, to a state: the last instruction is a return or leads to a closed
-- address, and no other one does.
pub data MakesWay (code labels : List ℕ) (marks : List Bool) : ℕ → State → State → Type 0 where
  ends : (s t : State) (e : Events) → step code labels s ≡ Goes e t → IsReturn (instr_at code s.pc) ⊎ (is_closed code marks t.pc ≡ true) → MakesWay code labels marks 1 s t
  onward : (n : ℕ) (s t u : State) (e : Events) → step code labels s ≡ Goes e t → (IsReturn (instr_at code s.pc) → ⊥) → is_closed code marks t.pc ≡ false → MakesWay code labels marks n t u → MakesWay code labels marks (suc n) s u

-- It makes one of at most 65,536 instructions, in exactly these cycles.
pub record TakesCycles (code labels : List ℕ) (marks : List Bool) (s : State) (cycles : ℕ) : Type 0 where
  pub count : ℕ
  pub end : State
  pub way : MakesWay code labels marks count s end
  pub few : count ≤ 65536
  pub took : end.cycles ≡ s.cycles + cycles

-- Whatever the machine holds at the address, it takes exactly these cycles; none where it has halted.
abbrev pub IsExact : List ℕ → List ℕ → List Bool → ℕ → ℕ → Type 0
IsExact code labels marks a cycles =
    (s : State) → s.pc ≡ a → ((has_halt code a ≡ true) × (cycles ≡ 0)) ⊎ ((has_halt code a ≡ false) × TakesCycles code labels marks s cycles)
