-- Ways through object code, and their costs: the cost of a label is the number of cycles from its address on to the next label, and
-- has to be the same on each way there (the cost of a label in CerCo, deliverables 2.1 and 4.1). Cycles are those of the
-- instruction table (Intel, MCS-51 instruction set).
use Rattle.std.specs.Prelude.{◌≡◌, ℕ, zero, suc, List, [], ◌∷◌, Bool, true, false, ◌||◌, if◌then◌else◌, Option, Some, None, Result, Ok, Err, nat_eq, is_some, slice_index_or, sum_by, find}
use Rattle.std.specs.Option.{unwrap_or}
use Rattle.mcs51_isa.specs.declared.instr.Instr.{Instr}
use Rattle.mcs51_isa.specs.Table.{cycles_of}
use Rattle.mcs51_isa.specs.Flow.{Flow, On, Branch, Back, Lost, flow_of}
use Rattle.sim51.specs.Step.{instr_at, next_address, halts, label_at}
use Rattle.block_costs.specs.declared.faults.CostFault.{CostFault}
use Rattle.block_costs.specs.declared.faults.CostFault.TheVariants.{NoLabel, Unequal, Reserved, NoTarget, Second}

-- a label's address is marked; an address past the list isn't
abbrev pub is_marked : List Bool → ℕ → Bool
is_marked marks a = slice_index_or marks a false

-- these are the marks of labels at these addresses
abbrev pub AreMarks : List ℕ → List Bool → Type 0
AreMarks labels marks = (a : ℕ) → is_marked marks a ≡ is_some (label_at labels a)

abbrev pub halts_by : Option Instr → ℕ → Bool
halts_by None a = false
halts_by (Some i) a = halts i a

-- a jump to itself stands at the address
abbrev pub has_halt : List ℕ → ℕ → Bool
has_halt code a = halts_by (instr_at code a) a

-- ways end before a closed address
abbrev pub is_closed : List ℕ → List Bool → ℕ → Bool
is_closed code marks a = is_marked marks a || has_halt code a

-- A way, by the addresses of its instructions, or its first fault.
abbrev pub Way : Type 0
Way = Result (List ℕ) CostFault

-- an instruction, and then the rest of its way
abbrev pub before : ℕ → Way → Way
before a (Ok rest) = Ok (a ∷ rest)
before a (Err fault) = Err fault

-- How ways go on; after a conditional jump, at its target if it is taken. Another one must not follow. `onward` has the ways from each
-- address on, after a conditional jump or with none so far.
module _ (code : List ℕ) (marks : List Bool) (taken : Bool) where
  abbrev pub goes_on : (ℕ → Way) → ℕ → Way
  goes_on onward a = if is_closed code marks a then Ok [] else onward a

  abbrev pub rest : (Bool → ℕ → Way) → Bool → ℕ → Flow → Way
  rest onward branched a (On to) = goes_on (onward branched) to
  rest onward branched a (Branch next target) = if branched then Err (Second a) else goes_on (onward true) (if taken then target else next)
  rest onward branched a Back = Ok []
  rest onward branched a Lost = Err (NoTarget a)

  abbrev pub from_instr : (Bool → ℕ → Way) → Bool → ℕ → Option Instr → Way
  from_instr onward branched a None = Err (Reserved a)
  from_instr onward branched a (Some i) = before a (rest onward branched a (flow_of i (next_address a i)))

  -- the way from an address on, of at most this many instructions
  unfoldable pub way_from : ℕ → Bool → ℕ → Way
  way_from zero branched a = Err (NoLabel a)
  way_from (suc most) branched a = from_instr (way_from most) branched a (instr_at code a)

-- The plain way from an address, on which no conditional jump is taken, and the one on which it is. They are empty at a jump to itself.
abbrev pub way : List ℕ → List Bool → Bool → ℕ → Way
way code marks taken a = if has_halt code a then Ok [] else way_from code marks taken 65536 false a

abbrev pub cycles_by : Option Instr → ℕ
cycles_by None = 0
cycles_by (Some i) = cycles_of i

-- the cycles of a way's instructions
abbrev pub cycles_of_way : List ℕ → List ℕ → ℕ
cycles_of_way code way = sum_by (λ a. cycles_by (instr_at code a)) way

abbrev pub is_branch : Flow → Bool
is_branch (Branch next target) = true
is_branch _ = false

abbrev pub branches_by : Option Instr → ℕ → Bool
branches_by None a = false
branches_by (Some i) a = is_branch (flow_of i (next_address a i))

-- the conditional jump of a way
abbrev pub branch_of_way : List ℕ → List ℕ → Option ℕ
branch_of_way code way = find (λ a. branches_by (instr_at code a) a) way

-- the common cycles of both ways, or the first fault of the plain one, then of the other
abbrev pub common : List ℕ → Way → Way → Result ℕ CostFault
common code (Err fault) taken = Err fault
common code (Ok plain) (Err fault) = Err fault
common code (Ok plain) (Ok taken) =
    if nat_eq (cycles_of_way code plain) (cycles_of_way code taken) then Ok (cycles_of_way code plain)
    else Err (Unequal (unwrap_or (branch_of_way code plain) 0) (cycles_of_way code plain) (cycles_of_way code taken))

-- the cost of an address
abbrev pub cost : List ℕ → List Bool → ℕ → Result ℕ CostFault
cost code marks a = common code (way code marks false a) (way code marks true a)

-- the cost of the start, before the first label
abbrev pub start_cost : List ℕ → List Bool → Result ℕ CostFault
start_cost code marks = if is_marked marks 0 then Ok 0 else cost code marks 0
