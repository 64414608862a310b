-- How the code walks along a way: by the cycles and the conditional jump so far.
use Rattle.std.specs.Prelude.{ℕ, zero, suc, ◌+◌, List, Bool, if◌then◌else◌, Option, Some, None, Result, Ok, Err}
use Rattle.mcs51_isa.specs.declared.instr.Instr.{Instr}
use Rattle.mcs51_isa.specs.Table.{cycles_of}
use Rattle.mcs51_isa.specs.Flow.{Flow, On, Branch, Back, Lost, flow_of}
use Rattle.sim51.specs.Step.{instr_at, next_address}
use Rattle.block_costs.specs.declared.faults.CostFault.{CostFault}
use Rattle.block_costs.specs.declared.faults.CostFault.TheVariants.{NoLabel, Reserved, NoTarget, Second}
use Rattle.block_costs.specs.declared.code.Flow.{Flow as CodeFlow}
use Rattle.block_costs.specs.declared.walks.Tally.{Tally}
use Rattle.block_costs.specs.declared.walks.Turn.{Turn}
use Rattle.block_costs.specs.declared.walks.Turn.TheVariants.{Ends, Goes}
use Rattle.block_costs.specs.Ways.{has_halt, is_closed}

abbrev pub flow_in : CodeFlow → Flow
flow_in (CodeFlow.On to) = On to
flow_in (CodeFlow.Branch next target) = Branch next target
flow_in CodeFlow.Back = Back
flow_in CodeFlow.Lost = Lost

abbrev pub Turned : Type 0
Turned = Result Turn CostFault

abbrev pub Walked : Type 0
Walked = Result Tally CostFault

module _ (code : List ℕ) (marks : List Bool) where
  abbrev pub turn_to : ℕ → Tally → Turn
  turn_to to tally = if is_closed code marks to then Ends tally else Goes to tally

  abbrev pub branch_turn : Bool → ℕ → ℕ → ℕ → ℕ → Option ℕ → Turned
  branch_turn taken a next target cycles None = Ok (turn_to (if taken then target else next) (record { cycles = cycles; branch = Some a }))
  branch_turn taken a next target cycles (Some first) = Err (Second a)

  abbrev pub flow_turn : Bool → ℕ → ℕ → Option ℕ → Flow → Turned
  flow_turn taken a cycles branch (On to) = Ok (turn_to to (record { cycles = cycles; branch = branch }))
  flow_turn taken a cycles branch (Branch next target) = branch_turn taken a next target cycles branch
  flow_turn taken a cycles branch Back = Ok (Ends (record { cycles = cycles; branch = branch }))
  flow_turn taken a cycles branch Lost = Err (NoTarget a)

  abbrev pub instr_turn : Bool → ℕ → Tally → Option Instr → Turned
  instr_turn taken a tally None = Err (Reserved a)
  instr_turn taken a tally (Some i) = flow_turn taken a (tally.cycles + cycles_of i) tally.branch (flow_of i (next_address a i))

  abbrev pub turn_at : Bool → ℕ → Tally → Turned
  turn_at taken a tally = instr_turn taken a tally (instr_at code a)

abbrev pub turned : (ℕ → Tally → Walked) → Turned → Walked
turned onward (Err fault) = Err fault
turned onward (Ok (Ends tally)) = Ok tally
turned onward (Ok (Goes a tally)) = onward a tally

unfoldable pub walk : List ℕ → List Bool → Bool → ℕ → ℕ → Tally → Walked
walk code marks taken zero a tally = Err (NoLabel a)
walk code marks taken (suc left) a tally = turned (walk code marks taken left) (turn_at code marks taken a tally)

abbrev pub walk_way : List ℕ → List Bool → Bool → ℕ → Walked
walk_way code marks taken a =
    if has_halt code a then Ok (record { cycles = 0; branch = None })
    else walk code marks taken 65536 a (record { cycles = 0; branch = None })
