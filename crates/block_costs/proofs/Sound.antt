-- A cost is exact: the machine makes one of both ways.
use Rattle.std.proofs.Common.{◌≡◌, ℕ, zero, suc, ◌+◌, ◌≤◌, List, [], ◌∷◌, Bool, true, false, ◌||◌, cond, Option, Some, None, Result, Ok, Err, ◌⊎◌, inl, inr, refl, sym, ap, ◌∙◌, subst, arith, eqb-true, nat_eq}
use Rattle.std.specs.Option.{unwrap_or}
use Rattle.std.proofs.lemmas.List.Sums.{sum_by-cons}
use Rattle.mcs51_isa.specs.declared.instr.Instr.{Instr}
use Rattle.mcs51_isa.specs.declared.instr.Instr.TheVariants.{Ret, JmpIndirect}
use Rattle.mcs51_isa.specs.Table.{cycles_of}
use Rattle.mcs51_isa.specs.Flow.{Flow, On, Branch, Back, Lost, flow_of, LeadsTo}
use Rattle.sim51.specs.declared.events.Events.{Events}
use Rattle.sim51.specs.State.{State}
use Rattle.sim51.specs.Effect.{effect}
use Rattle.sim51.specs.Step.{Goes, instr_at, next_address, label_at, step}
use Rattle.sim51.proofs.Steps.{step_goes}
use Rattle.sim51.proofs.Leads.{leads}
use Rattle.block_costs.specs.declared.faults.CostFault.{CostFault}
use Rattle.block_costs.specs.declared.faults.CostFault.TheVariants.{NoLabel, Unequal, Reserved, NoTarget, Second}
use Rattle.block_costs.specs.Ways.{has_halt, halts_by, is_marked, is_closed, Way, before, goes_on, rest, from_instr, way_from, way, cycles_by, cycles_of_way, branch_of_way, common, cost}
use Rattle.block_costs.specs.Sound.{IsReturn, MakesWay, ends, onward, TakesCycles, IsExact}

-- a return, by where it leads
pub return_goes_back : (i : Instr) (next : ℕ) → IsReturn (Some i) → flow_of i next ≡ Back
return_goes_back (Ret kind) next h = refl
return_goes_back _ next h = absurd h

pub back_is_return : (i : Instr) (next : ℕ) → flow_of i next ≡ Back → IsReturn (Some i)
back_is_return (Ret kind) next e = tt
back_is_return JmpIndirect next e = absurd cc
back_is_return _ next e = absurd cc

no_way : {X : Type 0} → (fault : CostFault) (way : List ℕ) → ◌≡◌ {A = Way} (Err fault) (Ok way) → X
no_way fault way e = absurd cc

same_way : (v w : List ℕ) → ◌≡◌ {A = Way} (Ok v) (Ok w) → v ≡ w
same_way v w e = cc

-- a way that begins with an instruction has a rest
pub record HasRest (a : ℕ) (rest : Way) (way : List ℕ) : Type 0 where
  pub others : List ℕ
  pub found : rest ≡ Ok others
  pub whole : way ≡ a ∷ others

pub rest_of : (a : ℕ) (rest : Way) (way : List ℕ) → before a rest ≡ Ok way → HasRest a rest way
rest_of a (Ok others) way e = record { others = others; found = refl; whole = sym (same_way (a ∷ others) way e) }
rest_of a (Err fault) way e = no_way fault way e

not_halting : (marked halt : Bool) → (marked || halt) ≡ false → halt ≡ false
not_halting true halt e = absurd cc
not_halting false halt e = e

on_or_back : (to : ℕ) → On to ≡ Back → ⊥
on_or_back to e = cc

branch_or_back : (next target : ℕ) → Branch next target ≡ Back → ⊥
branch_or_back next target e = cc

module _ (code labels : List ℕ) (marks : List Bool) where
  -- The machine makes a whole way of at most so many instructions, in these cycles.
  record Makes (most : ℕ) (s : State) (cycles : ℕ) : Type 0 where
    count : ℕ
    end : State
    way : MakesWay code labels marks count s end
    few : count ≤ most
    took : end.cycles ≡ s.cycles + cycles

  next_state : Instr → State → State
  next_state i s =
      record { core = (effect code i (next_address s.pc i) s.core).core; pc = (effect code i (next_address s.pc i) s.core).pc; cycles = s.cycles + cycles_of i }

  shown : Instr → State → Events
  shown i s =
      record { label = label_at labels s.pc; read = (effect code i (next_address s.pc i) s.core).read; write = (effect code i (next_address s.pc i) s.core).write }

  abbrev Again : Bool → Bool → ℕ → Type 0
  Again taken branched most = (s : State) (way : List ℕ) → has_halt code s.pc ≡ false → way_from code marks taken most branched s.pc ≡ Ok way → Makes most s (cycles_of_way code way)

  -- one instruction of a way
  module _ (s : State) (i : Instr) (here : instr_at code s.pc ≡ Some i) (runs : has_halt code s.pc ≡ false) where
    goes : step code labels s ≡ Goes (shown i s) (next_state i s)
    unfolding next_state shown
    goes = step_goes code labels s i here (sym (ap (λ o. halts_by o s.pc) here) ∙ runs)

    leads_on : (f : Flow) → flow_of i (next_address s.pc i) ≡ f → LeadsTo f (next_state i s).pc
    unfolding next_state
    leads_on f flow = subst (λ f. LeadsTo f (effect code i (next_address s.pc i) s.core).pc) flow (leads code i (next_address s.pc i) s.core)

    cycles_on : (next_state i s).cycles ≡ s.cycles + cycles_of i
    unfolding next_state
    cycles_on = refl

    no_return : (f : Flow) → flow_of i (next_address s.pc i) ≡ f → (f ≡ Back → ⊥) → IsReturn (instr_at code s.pc) → ⊥
    no_return f flow other h = other (sym flow ∙ return_goes_back i (next_address s.pc i) (subst IsReturn here h))

    last : (most : ℕ) → IsReturn (instr_at code s.pc) ⊎ (is_closed code marks (next_state i s).pc ≡ true) → Makes (suc most) s (cycles_of i + 0)
    last most end = record { count = 1; end = next_state i s; way = ends s (next_state i s) (shown i s) goes end; few = omega arith; took = cycles_on ∙ omega arith }

    longer : (most cycles : ℕ) → (IsReturn (instr_at code s.pc) → ⊥) → is_closed code marks (next_state i s).pc ≡ false → Makes most (next_state i s) cycles → Makes (suc most) s (cycles_of i + cycles)
    longer most cycles other unclosed m = record {
      count = suc m.count;
      end = m.end;
      way = onward m.count s (next_state i s) m.end (shown i s) goes other unclosed m.way;
      few = omega (arith, m.few);
      took = omega (arith, m.took, cycles_on);
    }

    -- on to an address, where the way ends or doesn't
    on_to : (taken branched : Bool) (most to : ℕ) → Again taken branched most → (IsReturn (instr_at code s.pc) → ⊥) → (next_state i s).pc ≡ to → (others : List ℕ) → goes_on code marks taken (way_from code marks taken most branched) to ≡ Ok others → Makes (suc most) s (cycles_of i + cycles_of_way code others)
    on_to taken branched most to again other at others e = by_test (is_closed code marks to) refl e
      where
        by_test : (b : Bool) → is_closed code marks to ≡ b → ◌≡◌ {A = Way} (cond b (Ok []) (way_from code marks taken most branched to)) (Ok others) → Makes (suc most) s (cycles_of i + cycles_of_way code others)
        by_test true closed q =
            subst (λ way. Makes (suc most) s (cycles_of i + cycles_of_way code way)) (same_way [] others q)
            (last most (inr (ap (is_closed code marks) at ∙ closed)))
        by_test false open_yet q =
            let unclosed : is_closed code marks (next_state i s).pc ≡ false = ap (is_closed code marks) at ∙ open_yet in
            longer most (cycles_of_way code others) other unclosed
            (again (next_state i s) others (not_halting (is_marked marks (next_state i s).pc) (has_halt code (next_state i s).pc) unclosed) (ap (way_from code marks taken most branched) at ∙ q))

    -- the end of a way at a return
    at_return : (most : ℕ) (others : List ℕ) → flow_of i (next_address s.pc i) ≡ Back → ◌≡◌ {A = Way} (Ok []) (Ok others) → Makes (suc most) s (cycles_of i + cycles_of_way code others)
    at_return most others flow e =
        subst (λ way. Makes (suc most) s (cycles_of i + cycles_of_way code way)) (same_way [] others e)
        (last most (inl (subst IsReturn (sym here) (back_is_return i (next_address s.pc i) flow))))

    -- after the conditional jump of a way
    after_flow : (taken : Bool) (most : ℕ) → Again taken true most → (f : Flow) → flow_of i (next_address s.pc i) ≡ f → (others : List ℕ) → rest code marks taken (way_from code marks taken most) true s.pc f ≡ Ok others → Makes (suc most) s (cycles_of i + cycles_of_way code others)
    after_flow taken most again (On to) flow others e =
        on_to taken true most to again (no_return (On to) flow (on_or_back to)) (leads_on (On to) flow) others e
    after_flow taken most again (Branch next target) flow others e = no_way (Second s.pc) others e
    after_flow taken most again Back flow others e = at_return most others flow e
    after_flow taken most again Lost flow others e = no_way (NoTarget s.pc) others e

    whole : (taken branched : Bool) (most : ℕ) (way others : List ℕ) → way ≡ s.pc ∷ others → Makes most s (cycles_of i + cycles_of_way code others) → Makes most s (cycles_of_way code way)
    whole taken branched most way others e m =
        let sum : cycles_of_way code (s.pc ∷ others) ≡ cycles_of i + cycles_of_way code others =
        sum_by-cons (λ a. cycles_by (instr_at code a)) s.pc others ∙ ap (λ o. cycles_by o + cycles_of_way code others) here in
        subst (λ n. Makes most s n) (sym (ap (cycles_of_way code) e ∙ sum)) m

  after_instr : (taken : Bool) (most : ℕ) → Again taken true most → (s : State) (way : List ℕ) → has_halt code s.pc ≡ false → (o : Option Instr) → instr_at code s.pc ≡ o → from_instr code marks taken (way_from code marks taken most) true s.pc o ≡ Ok way → Makes (suc most) s (cycles_of_way code way)
  after_instr taken most again s way runs None here e = no_way (Reserved s.pc) way e
  after_instr taken most again s way runs (Some i) here e =
      let r = rest_of s.pc _ way e in
      whole s i here runs taken true (suc most) way r.others r.whole
      (after_flow s i here runs taken most again (flow_of i (next_address s.pc i)) refl r.others r.found)

  after_branch : (taken : Bool) (most : ℕ) → Again taken true most
  unfolding way_from
  after_branch taken zero s way runs e = no_way (NoLabel s.pc) way e
  after_branch taken (suc most) s way runs e = after_instr taken most (λ t w h f. after_branch taken most t w h f) s way runs (instr_at code s.pc) refl e

  -- before it the machine is on both ways
  abbrev Both : ℕ → Type 0
  Both most =
      (s : State) (plain taken : List ℕ) → has_halt code s.pc ≡ false → way_from code marks false most false s.pc ≡ Ok plain → way_from code marks true most false s.pc ≡ Ok taken
      → Makes most s (cycles_of_way code plain) ⊎ Makes most s (cycles_of_way code taken)

  module _ (most : ℕ) (both : Both most) (s : State) (i : Instr) (here : instr_at code s.pc ≡ Some i) (runs : has_halt code s.pc ≡ false) (plain taken : List ℕ) where
    abbrev OneOf : Type 0
    OneOf = Makes (suc most) s (cycles_of i + cycles_of_way code plain) ⊎ Makes (suc most) s (cycles_of i + cycles_of_way code taken)

    both_on : (to : ℕ) → (IsReturn (instr_at code s.pc) → ⊥) → (next_state i s).pc ≡ to → goes_on code marks false (way_from code marks false most false) to ≡ Ok plain → goes_on code marks true (way_from code marks true most false) to ≡ Ok taken → OneOf
    both_on to other at e f = by_test (is_closed code marks to) refl e f
      where
        by_test : (b : Bool) → is_closed code marks to ≡ b → ◌≡◌ {A = Way} (cond b (Ok []) (way_from code marks false most false to)) (Ok plain) → ◌≡◌ {A = Way} (cond b (Ok []) (way_from code marks true most false to)) (Ok taken) → OneOf
        by_test true closed q r =
            inl (subst (λ way. Makes (suc most) s (cycles_of i + cycles_of_way code way)) (same_way [] plain q)
            (last s i here runs most (inr (ap (is_closed code marks) at ∙ closed))))
        by_test false open_yet q r =
            let unclosed : is_closed code marks (next_state i s).pc ≡ false = ap (is_closed code marks) at ∙ open_yet in
            elim (both (next_state i s) plain taken (not_halting (is_marked marks (next_state i s).pc) (has_halt code (next_state i s).pc) unclosed) (ap (way_from code marks false most false) at ∙ q) (ap (way_from code marks true most false) at ∙ r)) [
              | inl m ↦ inl (longer s i here runs most (cycles_of_way code plain) other unclosed m)
              | inr m ↦ inr (longer s i here runs most (cycles_of_way code taken) other unclosed m)
            ]

    part : (next target : ℕ) → flow_of i (next_address s.pc i) ≡ Branch next target → ((next_state i s).pc ≡ next) ⊎ ((next_state i s).pc ≡ target) → goes_on code marks false (way_from code marks false most true) next ≡ Ok plain → goes_on code marks true (way_from code marks true most true) target ≡ Ok taken → OneOf
    part next target flow (inl at) e f =
        inl (on_to s i here runs false true most next (after_branch false most) (no_return s i here runs (Branch next target) flow (branch_or_back next target)) at plain e)
    part next target flow (inr at) e f =
        inr (on_to s i here runs true true most target (after_branch true most) (no_return s i here runs (Branch next target) flow (branch_or_back next target)) at taken f)

    both_flow : (f : Flow) → flow_of i (next_address s.pc i) ≡ f → rest code marks false (way_from code marks false most) false s.pc f ≡ Ok plain → rest code marks true (way_from code marks true most) false s.pc f ≡ Ok taken → OneOf
    both_flow (On to) flow e f = both_on to (no_return s i here runs (On to) flow (on_or_back to)) (leads_on s i here runs (On to) flow) e f
    both_flow (Branch next target) flow e f = part next target flow (leads_on s i here runs (Branch next target) flow) e f
    both_flow Back flow e f = inl (at_return s i here runs most plain flow e)
    both_flow Lost flow e f = no_way (NoTarget s.pc) plain e

  both_instr : (most : ℕ) → Both most → (s : State) (plain taken : List ℕ) → has_halt code s.pc ≡ false → (o : Option Instr) → instr_at code s.pc ≡ o → from_instr code marks false (way_from code marks false most) false s.pc o ≡ Ok plain → from_instr code marks true (way_from code marks true most) false s.pc o ≡ Ok taken → Makes (suc most) s (cycles_of_way code plain) ⊎ Makes (suc most) s (cycles_of_way code taken)
  both_instr most both s plain taken runs None here e f = no_way (Reserved s.pc) plain e
  both_instr most both s plain taken runs (Some i) here e f =
      let p = rest_of s.pc _ plain e in
      let q = rest_of s.pc _ taken f in
      elim (both_flow most both s i here runs p.others q.others (flow_of i (next_address s.pc i)) refl p.found q.found) [
        | inl m ↦ inl (whole s i here runs false false (suc most) plain p.others p.whole m)
        | inr m ↦ inr (whole s i here runs true false (suc most) taken q.others q.whole m)
      ]

  both_ways : (most : ℕ) → Both most
  unfolding way_from
  both_ways zero s plain taken runs e f = no_way (NoLabel s.pc) plain e
  both_ways (suc most) s plain taken runs e f = both_instr most (λ t v w h p q. both_ways most t v w h p q) s plain taken runs (instr_at code s.pc) refl e f

  -- two ways of equal cycles
  record AreCommon (plain taken : Way) (cycles : ℕ) : Type 0 where
    first : List ℕ
    second : List ℕ
    plain_is : plain ≡ Ok first
    taken_is : taken ≡ Ok second
    first_takes : cycles_of_way code first ≡ cycles
    second_takes : cycles_of_way code second ≡ cycles

  are_common : (plain taken : Way) (cycles : ℕ) → common code plain taken ≡ Ok cycles → AreCommon plain taken cycles
  are_common (Err fault) taken cycles e = absurd cc
  are_common (Ok plain) (Err fault) cycles e = absurd cc
  are_common (Ok plain) (Ok taken) cycles e = by_test (nat_eq (cycles_of_way code plain) (cycles_of_way code taken)) refl e
    where
      by_test : (b : Bool) → nat_eq (cycles_of_way code plain) (cycles_of_way code taken) ≡ b → ◌≡◌ {A = Result ℕ CostFault} (cond b (Ok (cycles_of_way code plain)) (Err (Unequal (unwrap_or (branch_of_way code plain) 0) (cycles_of_way code plain) (cycles_of_way code taken)))) (Ok cycles) → AreCommon (Ok plain) (Ok taken) cycles
      by_test true same q =
          let is : cycles_of_way code plain ≡ cycles = cc in
          record { first = plain; second = taken; plain_is = refl; taken_is = refl; first_takes = is; second_takes = sym (eqb-true _ _ same) ∙ is }
      by_test false other q = absurd cc

  made_all : (s : State) (n cycles : ℕ) → n ≡ cycles → Makes 65536 s n → TakesCycles code labels marks s cycles
  made_all s n cycles e m = record { count = m.count; end = m.end; way = m.way; few = m.few; took = m.took ∙ ap (λ c. s.cycles + c) e }

  -- a cost is exact
  pub cost_is_exact : (a cycles : ℕ) → cost code marks a ≡ Ok cycles → IsExact code labels marks a cycles
  cost_is_exact a cycles e s at = by_test (has_halt code a) refl e
    where
      by_test : (b : Bool) → has_halt code a ≡ b → common code (cond b (Ok []) (way_from code marks false 65536 false a)) (cond b (Ok []) (way_from code marks true 65536 false a)) ≡ Ok cycles → ((has_halt code a ≡ true) × (cycles ≡ 0)) ⊎ ((has_halt code a ≡ false) × TakesCycles code labels marks s cycles)
      by_test true halt q = let none : ◌≡◌ {A = ℕ} 0 cycles = cc in inl (halt, sym none)
      by_test false runs q =
          let both = are_common _ _ cycles q in
          let runs_here : has_halt code s.pc ≡ false = ap (has_halt code) at ∙ runs in
          elim (both_ways 65536 s both.first both.second runs_here (ap (way_from code marks false 65536 false) at ∙ both.plain_is) (ap (way_from code marks true 65536 false) at ∙ both.taken_is)) [
            | inl m ↦ inr (runs, made_all s _ cycles both.first_takes m)
            | inr m ↦ inr (runs, made_all s _ cycles both.second_takes m)
          ]
