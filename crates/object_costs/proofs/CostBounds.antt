-- A cost is below 2 ^ 32: a way has at most 65,536 instructions, and each takes at most 4 cycles.
use Rattle.std.proofs.Common.{◌≡◌, ℕ, zero, suc, ◌+◌, ◌*◌, ◌^◌, ◌<◌, ◌≤◌, List, [], Bool, true, false, cond, Option, Some, None, Result, Ok, Err, IfOk, subst, arith}
use Rattle.std.specs.Prelude.{nat_eq}
use Rattle.std.proofs.lemmas.List.Sums.{sum_by-cons}
use Rattle.mcs51_isa.specs.declared.instr.Instr.{Instr}
use Rattle.mcs51_isa.specs.Flow.{Flow, On, Branch, Back, Lost, flow_of}
use Rattle.mcs51_isa.proofs.Bounds.{cycle_bounds}
use Rattle.sim51.specs.Step.{instr_at, next_address}
use Rattle.block_costs.specs.declared.faults.CostFault.{CostFault}
use Rattle.block_costs.specs.Ways.{is_marked, has_halt, is_closed, Way, before, goes_on, rest, from_instr, way_from, way, cycles_by, cycles_of_way, common, cost, start_cost}

module _ (code : List ℕ) where
  -- a way takes at most so many cycles
  abbrev TakesAtMost : ℕ → Way → Type 0
  TakesAtMost most w = IfOk w (λ way. cycles_of_way code way ≤ most)

  cycles_by_few : (o : Option Instr) → cycles_by o ≤ 4
  cycles_by_few None = omega arith
  cycles_by_few (Some i) = (cycle_bounds i).1

  before_few : (a most : ℕ) (w : Way) → TakesAtMost most w → TakesAtMost (most + 4) (before a w)
  before_few a most (Err fault) h = tt
  before_few a most (Ok way) h =
      let first = cycles_by_few (instr_at code a) in
      let whole = sum_by-cons (λ a. cycles_by (instr_at code a)) a way in
      omega arith

  module _ (marks : List Bool) (taken : Bool) where
    abbrev AllFew : ℕ → (Bool → ℕ → Way) → Type 0
    AllFew most onward = (branched : Bool) (a : ℕ) → TakesAtMost most (onward branched a)

    goes_on_few : (most : ℕ) (onward : ℕ → Way) → ((a : ℕ) → TakesAtMost most (onward a)) → (a : ℕ) → TakesAtMost most (goes_on code marks taken onward a)
    goes_on_few most onward few a = by_test (is_closed code marks a)
      where
        by_test : (b : Bool) → TakesAtMost most (cond b (Ok []) (onward a))
        by_test true = omega arith
        by_test false = few a

    rest_few : (most : ℕ) (onward : Bool → ℕ → Way) → AllFew most onward → (branched : Bool) (a : ℕ) (f : Flow) → TakesAtMost most (rest code marks taken onward branched a f)
    rest_few most onward few branched a (On to) = goes_on_few most (onward branched) (few branched) to
    rest_few most onward few true a (Branch next target) = tt
    rest_few most onward few false a (Branch next target) = goes_on_few most (onward true) (few true) (cond taken target next)
    rest_few most onward few branched a Back = omega arith
    rest_few most onward few branched a Lost = tt

    instr_few : (most : ℕ) (onward : Bool → ℕ → Way) → AllFew most onward → (branched : Bool) (a : ℕ) (o : Option Instr) → TakesAtMost (most + 4) (from_instr code marks taken onward branched a o)
    instr_few most onward few branched a None = tt
    instr_few most onward few branched a (Some i) = before_few a most _ (rest_few most onward few branched a (flow_of i (next_address a i)))

    from_few : (n : ℕ) → AllFew (4 * n) (way_from code marks taken n)
    unfolding way_from
    from_few zero branched a = tt
    from_few (suc n) branched a =
        let more : 4 * n + 4 ≡ 4 * suc n = omega arith in
        subst (λ most. TakesAtMost most (from_instr code marks taken (way_from code marks taken n) branched a (instr_at code a))) more
        (instr_few (4 * n) (way_from code marks taken n) (λ b to. from_few n b to) branched a (instr_at code a))

    way_few : (a : ℕ) → TakesAtMost (4 * 65536) (way code marks taken a)
    way_few a = by_test (has_halt code a)
      where
        by_test : (b : Bool) → TakesAtMost (4 * 65536) (cond b (Ok []) (way_from code marks taken 65536 false a))
        by_test true = omega arith
        by_test false = from_few 65536 false a

  common_few : (most : ℕ) (plain taken : Way) → TakesAtMost most plain → IfOk (common code plain taken) (λ cycles. cycles ≤ most)
  common_few most (Err fault) taken h = tt
  common_few most (Ok plain) (Err fault) h = tt
  common_few most (Ok plain) (Ok taken) h = by_test (nat_eq (cycles_of_way code plain) (cycles_of_way code taken)) _
    where
      by_test : (b : Bool) (fault : CostFault) → IfOk (cond b (Ok (cycles_of_way code plain)) (Err fault)) (λ cycles. cycles ≤ most)
      by_test true fault = h
      by_test false fault = tt

  module _ (marks : List Bool) where
    abbrev IsSmall : Result ℕ CostFault → Type 0
    IsSmall r = IfOk r (λ cycles. cycles ≤ 4 * 65536)

    pub cost_small : (a : ℕ) → IsSmall (cost code marks a)
    cost_small a = common_few (4 * 65536) (way code marks false a) (way code marks true a) (way_few marks false a)

    pub start_small : IsSmall (start_cost code marks)
    start_small = by_test (is_marked marks 0)
      where
        by_test : (b : Bool) → IsSmall (cond b (Ok 0) (cost code marks 0))
        by_test true = omega arith
        by_test false = cost_small 0

    pub fits : (r : Result ℕ CostFault) (cycles : ℕ) → IsSmall r → r ≡ Ok cycles → cycles < 2 ^ 32
    fits r cycles small is =
        let few : cycles ≤ 4 * 65536 = subst IsSmall is small in
        omega arith
