-- The walk along a way comes to the way's cycles and its conditional jump.
use Rattle.std.proofs.Common.{◌≡◌, ◌≢◌, ℕ, zero, suc, ◌+◌, ◌-◌, ◌<◌, ◌≤◌, List, [], Bool, true, false, cond, Option, Some, None, Result, Ok, Err, refl, sym, ap, ap₂, ◌∙◌, arith, is_some, nat_eq}
use Rattle.std.specs.Option.{unwrap_or}
use Rattle.std.proofs.lemmas.List.Sums.{sum_by-cons}
use Rattle.std.proofs.lemmas.Bool.{eq-eqb, ne_eqb}
use Rattle.mcs51_isa.specs.declared.instr.Instr.{Instr}
use Rattle.mcs51_isa.specs.Table.{cycles_of}
use Rattle.mcs51_isa.specs.Flow.{Flow, On, Branch, Back, Lost, flow_of}
use Rattle.mcs51_isa.proofs.Bounds.{cycle_bounds}
use Rattle.sim51.specs.Step.{instr_at, next_address}
use Rattle.block_costs.specs.declared.faults.CostFault.{CostFault}
use Rattle.block_costs.specs.declared.faults.CostFault.TheVariants.{NoLabel, Unequal}
use Rattle.block_costs.specs.declared.walks.Tally.{Tally}
use Rattle.block_costs.specs.declared.walks.Turn.TheVariants.{Ends, Goes}
use Rattle.block_costs.specs.Ways.{has_halt, is_closed, Way, before, goes_on, rest, from_instr, way_from, way, cycles_by, cycles_of_way, is_branch, branches_by, branch_of_way, common, cost}
use Rattle.block_costs.specs.Code.Walks.{Turned, Walked, turn_to, branch_turn, flow_turn, instr_turn, turn_at, turned, walk, walk_way}

earlier : Option ℕ → Option ℕ → Option ℕ
earlier None found = found
earlier (Some first) found = Some first

earlier_none : (m : Option ℕ) → earlier m None ≡ m
unfolding earlier
earlier_none None = refl
earlier_none (Some a) = refl

earlier_find : (m : Option ℕ) (b : Bool) (a : ℕ) (found : Option ℕ) → earlier m (cond b (Some a) found) ≡ earlier (earlier m (cond b (Some a) None)) found
unfolding earlier
earlier_find None true a found = refl
earlier_find None false a found = refl
earlier_find (Some j) b a found = refl

pub tally : ℕ → Option ℕ → Tally
tally cycles branch = record { cycles = cycles; branch = branch }

module _ (code : List ℕ) where
  -- what a walk comes to that has a tally before the rest of its way
  pub tallied : ℕ → Option ℕ → Way → Walked
  tallied k m (Err fault) = Err fault
  tallied k m (Ok way) = Ok (tally (k + cycles_of_way code way) (earlier m (branch_of_way code way)))

  tallied-none : (k : ℕ) (m : Option ℕ) → tallied k m (Ok []) ≡ Ok (tally k m)
  unfolding tallied tally
  tallied-none k m = ap₂ (λ n o. Ok (record { cycles = n; branch = o })) (omega arith) (earlier_none m)

  tallied-before : (k n : ℕ) (m o : Option ℕ) (a : ℕ) (w : Way) → k + cycles_by (instr_at code a) ≡ n → earlier m (cond (branches_by (instr_at code a) a) (Some a) None) ≡ o → tallied n o w ≡ tallied k m (before a w)
  unfolding tallied tally
  tallied-before k n m o a (Err fault) c b = refl
  tallied-before k n m o a (Ok way) c b =
      let more = sum_by-cons (λ a. cycles_by (instr_at code a)) a way in
      ap₂ (λ n o. Ok (record { cycles = n; branch = o })) (omega (arith, c, more))
      (ap (λ o. earlier o (branch_of_way code way)) (sym b) ∙ sym (earlier_find m (branches_by (instr_at code a) a) a (branch_of_way code way)))

module _ (code : List ℕ) (marks : List Bool) (taken : Bool) where
  abbrev Again : ℕ → Type 0
  Again left = (a k : ℕ) (m : Option ℕ) → walk code marks taken left a (tally k m) ≡ tallied code k m (way_from code marks taken left (is_some m) a)

  went : (left : ℕ) → Again left → (to k : ℕ) (m : Option ℕ) → turned (walk code marks taken left) (Ok (turn_to code marks to (tally k m))) ≡ tallied code k m (goes_on code marks taken (way_from code marks taken left (is_some m)) to)
  went left again to k m = by_test (is_closed code marks to)
    where
      by_test : (b : Bool) → turned (walk code marks taken left) (Ok (cond b (Ends (tally k m)) (Goes to (tally k m)))) ≡ tallied code k m (cond b (Ok []) (way_from code marks taken left (is_some m) to))
      by_test true = sym (tallied-none code k m)
      by_test false = again to k m

  module _ (left : ℕ) (again : Again left) (a k : ℕ) (i : Instr) (here : instr_at code a ≡ Some i) where
    cycles_here : k + cycles_by (instr_at code a) ≡ k + cycles_of i
    cycles_here = ap (λ o. k + cycles_by o) here

    branch_here : (m : Option ℕ) (f : Flow) → flow_of i (next_address a i) ≡ f → earlier m (cond (branches_by (instr_at code a) a) (Some a) None) ≡ earlier m (cond (is_branch f) (Some a) None)
    branch_here m f flow = ap (λ o. earlier m (cond (branches_by o a) (Some a) None)) here ∙ ap (λ f. earlier m (cond (is_branch f) (Some a) None)) flow

    by_flow : (m : Option ℕ) (f : Flow) → flow_of i (next_address a i) ≡ f → turned (walk code marks taken left) (flow_turn code marks taken a (k + cycles_of i) m f) ≡ tallied code k m (before a (rest code marks taken (way_from code marks taken left) (is_some m) a f))
    unfolding tally tallied earlier
    by_flow m (On to) flow =
        went left again to (k + cycles_of i) m
        ∙ tallied-before code k (k + cycles_of i) m m a _ cycles_here (branch_here m (On to) flow ∙ earlier_none m)
    by_flow None (Branch next target) flow =
        went left again (cond taken target next) (k + cycles_of i) (Some a)
        ∙ tallied-before code k (k + cycles_of i) None (Some a) a _ cycles_here (branch_here None (Branch next target) flow)
    by_flow (Some first) (Branch next target) flow = refl
    by_flow m Back flow =
        sym (tallied-none code (k + cycles_of i) m)
        ∙ tallied-before code k (k + cycles_of i) m m a (Ok []) cycles_here (branch_here m Back flow ∙ earlier_none m)
    by_flow m Lost flow = refl

  by_instr : (left : ℕ) → Again left → (a k : ℕ) (m : Option ℕ) (o : Option Instr) → instr_at code a ≡ o → turned (walk code marks taken left) (instr_turn code marks taken a (tally k m) o) ≡ tallied code k m (from_instr code marks taken (way_from code marks taken left) (is_some m) a o)
  unfolding tally tallied
  by_instr left again a k m None here = refl
  by_instr left again a k m (Some i) here = by_flow left again a k i here m (flow_of i (next_address a i)) refl

  pub walk_is : (left : ℕ) → Again left
  unfolding walk way_from tallied
  walk_is zero a k m = refl
  walk_is (suc left) a k m = by_instr left (λ b n o. walk_is left b n o) a k m (instr_at code a) refl

  pub walk_way_is : (a : ℕ) → walk_way code marks taken a ≡ tallied code 0 None (way code marks taken a)
  unfolding tally
  walk_way_is a = by_test (has_halt code a)
    where
      by_test : (b : Bool) → ◌≡◌ {A = Walked} (cond b (Ok (record { cycles = 0; branch = None })) (walk code marks taken 65536 a (record { cycles = 0; branch = None }))) (tallied code 0 None (cond b (Ok []) (way_from code marks taken 65536 false a)))
      by_test true = sym (tallied-none code 0 None)
      by_test false = walk_is 65536 a 0 None

-- the cost by what both walks come to
abbrev pub judged : Walked → Walked → Result ℕ CostFault
judged (Err fault) taken = Err fault
judged (Ok plain) (Err fault) = Err fault
judged (Ok plain) (Ok taken) =
    cond (nat_eq plain.cycles taken.cycles) (Ok plain.cycles) (Err (Unequal (unwrap_or plain.branch 0) plain.cycles taken.cycles))

from_0 : (m o : Option ℕ) (p q : ℕ) → judged (Ok (record { cycles = 0 + p; branch = m })) (Ok (record { cycles = 0 + q; branch = o })) ≡ judged (Ok (record { cycles = p; branch = m })) (Ok (record { cycles = q; branch = o }))
from_0 m o p q =
    let same_p : 0 + p ≡ p = omega arith in
    let same_q : 0 + q ≡ q = omega arith in
    ap₂ (λ x y. judged (Ok (record { cycles = x; branch = m })) (Ok (record { cycles = y; branch = o }))) same_p same_q

judged_common : (code : List ℕ) (plain taken : Way) → judged (tallied code 0 None plain) (tallied code 0 None taken) ≡ common code plain taken
unfolding tallied tally earlier
judged_common code (Err fault) taken = refl
judged_common code (Ok plain) (Err fault) = refl
judged_common code (Ok plain) (Ok taken) =
    from_0 (branch_of_way code plain) (branch_of_way code taken) (cycles_of_way code plain) (cycles_of_way code taken)

pub cost_judged : (code : List ℕ) (marks : List Bool) (a : ℕ) → judged (walk_way code marks false a) (walk_way code marks true a) ≡ cost code marks a
cost_judged code marks a =
    ap₂ judged (walk_way_is code marks false a) (walk_way_is code marks true a)
    ∙ judged_common code (way code marks false a) (way code marks true a)

pub judged_equal : (p q : Tally) → p.cycles ≡ q.cycles → judged (Ok p) (Ok q) ≡ Ok p.cycles
judged_equal p q same = ap (λ b. cond b (Ok p.cycles) (Err (Unequal (unwrap_or p.branch 0) p.cycles q.cycles))) (eq-eqb p.cycles q.cycles same)

pub judged_unequal : (p q : Tally) → p.cycles ≢ q.cycles → judged (Ok p) (Ok q) ≡ Err (Unequal (unwrap_or p.branch 0) p.cycles q.cycles)
judged_unequal p q other = ap (λ b. cond b (Ok p.cycles) (Err (Unequal (unwrap_or p.branch 0) p.cycles q.cycles))) (ne_eqb p.cycles q.cycles other)

-- An instruction adds at most four cycles.
abbrev pub IsSmall : ℕ → Turned → Type 0
IsSmall k (Err fault) = Unit {0}
IsSmall k (Ok (Ends t)) = t.cycles ≤ k
IsSmall k (Ok (Goes a t)) = t.cycles ≤ k

module _ (code : List ℕ) (marks : List Bool) (taken : Bool) where
  small_to : (b : Bool) (k to : ℕ) (t : Tally) → t.cycles ≤ k → IsSmall k (Ok (cond b (Ends t) (Goes to t)))
  small_to true k to t h = h
  small_to false k to t h = h

  small_branch : (k a next target cycles : ℕ) (m : Option ℕ) → cycles ≤ k → IsSmall k (branch_turn code marks taken a next target cycles m)
  small_branch k a next target cycles None h = small_to (is_closed code marks (cond taken target next)) k (cond taken target next) _ h
  small_branch k a next target cycles (Some first) h = tt

  small_flow : (k a cycles : ℕ) (m : Option ℕ) (f : Flow) → cycles ≤ k → IsSmall k (flow_turn code marks taken a cycles m f)
  small_flow k a cycles m (On to) h = small_to (is_closed code marks to) k to _ h
  small_flow k a cycles m (Branch next target) h = small_branch k a next target cycles m h
  small_flow k a cycles m Back h = h
  small_flow k a cycles m Lost h = tt

  small_instr : (a : ℕ) (t : Tally) (o : Option Instr) → IsSmall (t.cycles + 4) (instr_turn code marks taken a t o)
  small_instr a t None = tt
  small_instr a t (Some i) = small_flow (t.cycles + 4) a (t.cycles + cycles_of i) t.branch (flow_of i (next_address a i)) (omega (arith, (cycle_bounds i).1))

  pub small_turn : (a : ℕ) (t : Tally) → IsSmall (t.cycles + 4) (turn_at code marks taken a t)
  small_turn a t = small_instr a t (instr_at code a)

  -- a walk, an instruction at a time
  pub walk_step : (left a : ℕ) (t : Tally) (turn : Turned) → 0 < left → turn ≡ turn_at code marks taken a t → walk code marks taken left a t ≡ turned (walk code marks taken (left - 1)) turn
  unfolding walk
  walk_step zero a t turn some e = absurd (omega arith)
  walk_step (suc left) a t turn some e = rw e (ap (λ n. turned (walk code marks taken n) (turn_at code marks taken a t)) (omega arith))

  pub walk_end : (left a : ℕ) (t : Tally) → left ≡ 0 → walk code marks taken left a t ≡ Err (NoLabel a)
  unfolding walk
  walk_end zero a t none = refl
  walk_end (suc left) a t none = absurd (omega arith)
