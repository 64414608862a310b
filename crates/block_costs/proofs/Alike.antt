-- Both ways end alike: with the same cycles, an instruction at a time.
use Rattle.std.proofs.Common.{◌≡◌, ℕ, zero, suc, ◌+◌, ◌≤◌, List, [], ◌∷◌, Bool, true, false, ◌||◌, cond, Ok, Err, Some, refl, sym, ap, ap₂, ◌∙◌, arith, eq-eqb}
use Rattle.std.specs.Option.{unwrap_or}
use Rattle.std.proofs.lemmas.List.Sums.{sum_by-cons}
use Rattle.mcs51_isa.specs.declared.instr.Instr.{Instr}
use Rattle.mcs51_isa.specs.Table.{cycles_of}
use Rattle.mcs51_isa.specs.Flow.{Flow, On, Branch, Back, flow_of}
use Rattle.sim51.specs.Step.{instr_at, next_address}
use Rattle.block_costs.specs.declared.faults.CostFault.TheVariants.{Unequal}
use Rattle.block_costs.specs.Ways.{is_marked, has_halt, is_closed, Way, before, goes_on, rest, from_instr, way_from, cycles_by, cycles_of_way, branch_of_way, common, cost, start_cost}

module _ (code : List ℕ) (marks : List Bool) where
  -- a way on from an instruction: none where the address is closed
  abbrev pub on_from : Bool → Bool → ℕ → ℕ → Way
  on_from taken branched most a = goes_on code marks taken (way_from code marks taken most branched) a

  -- Both ways on to the address have the same cycles, and at most so many instructions.
  pub record EndsAlike (most a : ℕ) : Type 0 where
    pub plain : List ℕ
    pub taken : List ℕ
    pub plain_is : on_from false false most a ≡ Ok plain
    pub taken_is : on_from true false most a ≡ Ok taken
    pub same : cycles_of_way code plain ≡ cycles_of_way code taken

  -- the same of both ways from there, also where the address is closed
  pub record WaysAlike (most a : ℕ) : Type 0 where
    pub plain : List ℕ
    pub taken : List ℕ
    pub plain_is : way_from code marks false most false a ≡ Ok plain
    pub taken_is : way_from code marks true most false a ≡ Ok taken
    pub same : cycles_of_way code plain ≡ cycles_of_way code taken

  on_closed : (taken branched : Bool) (most a : ℕ) → is_closed code marks a ≡ true → ◌≡◌ {A = Way} (on_from taken branched most a) (Ok [])
  on_closed taken branched most a closed = ap (λ b. cond b (Ok []) (way_from code marks taken most branched a)) closed

  on_open : (taken branched : Bool) (most a : ℕ) → is_closed code marks a ≡ false → ◌≡◌ {A = Way} (on_from taken branched most a) (way_from code marks taken most branched a)
  on_open taken branched most a unclosed = ap (λ b. cond b (Ok []) (way_from code marks taken most branched a)) unclosed

  -- one instruction of a way
  first : (taken branched : Bool) (most a : ℕ) (i : Instr) (f : Flow) → instr_at code a ≡ Some i → flow_of i (next_address a i) ≡ f → way_from code marks taken (suc most) branched a ≡ before a (rest code marks taken (way_from code marks taken most) branched a f)
  unfolding way_from
  first taken branched most a i f here flow =
      ap (from_instr code marks taken (way_from code marks taken most) branched a) here
      ∙ ap (λ f. before a (rest code marks taken (way_from code marks taken most) branched a f)) flow

  cycles_first : (a : ℕ) (i : Instr) (way : List ℕ) → instr_at code a ≡ Some i → cycles_of_way code (a ∷ way) ≡ cycles_of i + cycles_of_way code way
  cycles_first a i way here = sum_by-cons (λ a. cycles_by (instr_at code a)) a way ∙ ap (λ o. cycles_by o + cycles_of_way code way) here

  cycles_one : (a : ℕ) (i : Instr) → instr_at code a ≡ Some i → cycles_of_way code (a ∷ []) ≡ cycles_of i
  cycles_one a i here = let one = cycles_first a i [] here in omega arith

  pub ends_closed : (most a : ℕ) → is_closed code marks a ≡ true → EndsAlike most a
  ends_closed most a closed = record { plain = []; taken = []; plain_is = on_closed false false most a closed; taken_is = on_closed true false most a closed; same = refl }

  pub ends_ways : (most a : ℕ) → WaysAlike most a → EndsAlike most a
  ends_ways most a w = by_test (is_closed code marks a) refl
    where
      by_test : (b : Bool) → is_closed code marks a ≡ b → EndsAlike most a
      by_test true closed = ends_closed most a closed
      by_test false unclosed = record { plain = w.plain; taken = w.taken; plain_is = on_open false false most a unclosed ∙ w.plain_is; taken_is = on_open true false most a unclosed ∙ w.taken_is; same = w.same }

  -- an instruction that goes on at an address
  pub ways_on : (most a to : ℕ) (i : Instr) → instr_at code a ≡ Some i → flow_of i (next_address a i) ≡ On to → EndsAlike most to → WaysAlike (suc most) a
  ways_on most a to i here flow e = record {
    plain = a ∷ e.plain;
    taken = a ∷ e.taken;
    plain_is = first false false most a i (On to) here flow ∙ ap (before a) e.plain_is;
    taken_is = first true false most a i (On to) here flow ∙ ap (before a) e.taken_is;
    same = cycles_first a i e.plain here ∙ ap (λ n. cycles_of i + n) e.same ∙ sym (cycles_first a i e.taken here);
  }

  pub ways_back : (most a : ℕ) (i : Instr) → instr_at code a ≡ Some i → flow_of i (next_address a i) ≡ Back → WaysAlike (suc most) a
  ways_back most a i here flow = record {
    plain = a ∷ [];
    taken = a ∷ [];
    plain_is = first false false most a i Back here flow;
    taken_is = first true false most a i Back here flow;
    same = refl;
  }

  -- a conditional jump between two closed addresses
  pub ways_branch : (most a next target : ℕ) (i : Instr) → instr_at code a ≡ Some i → flow_of i (next_address a i) ≡ Branch next target → is_closed code marks next ≡ true → is_closed code marks target ≡ true → WaysAlike (suc most) a
  ways_branch most a next target i here flow next_closed target_closed = record {
    plain = a ∷ [];
    taken = a ∷ [];
    plain_is = first false false most a i (Branch next target) here flow ∙ ap (before a) (on_closed false true most next next_closed);
    taken_is = first true false most a i (Branch next target) here flow ∙ ap (before a) (on_closed true true most target target_closed);
    same = refl;
  }

  -- after the conditional jump, a jump to a closed address
  last : (taken : Bool) (most b to : ℕ) (i : Instr) → instr_at code b ≡ Some i → flow_of i (next_address b i) ≡ On to → is_closed code marks b ≡ false → is_closed code marks to ≡ true → on_from taken true (suc most) b ≡ Ok (b ∷ [])
  last taken most b to i here flow unclosed closed =
      on_open taken true (suc most) b unclosed ∙ first taken true most b i (On to) here flow ∙ ap (before b) (on_closed taken true most to closed)

  -- a conditional jump before two other jumps, one on each way, of the same cycles
  pub ways_far : (most a b c b_to c_to : ℕ) (i j k : Instr) → instr_at code a ≡ Some i → flow_of i (next_address a i) ≡ Branch b c
      → instr_at code b ≡ Some j → flow_of j (next_address b j) ≡ On b_to → instr_at code c ≡ Some k → flow_of k (next_address c k) ≡ On c_to
      → is_closed code marks b ≡ false → is_closed code marks c ≡ false → is_closed code marks b_to ≡ true → is_closed code marks c_to ≡ true → cycles_of j ≡ cycles_of k → WaysAlike (suc (suc most)) a
  ways_far most a b c b_to c_to i j k here flow b_here b_flow c_here c_flow b_open c_open b_closed c_closed same = record {
    plain = a ∷ b ∷ [];
    taken = a ∷ c ∷ [];
    plain_is = first false false (suc most) a i (Branch b c) here flow ∙ ap (before a) (last false most b b_to j b_here b_flow b_open b_closed);
    taken_is = first true false (suc most) a i (Branch b c) here flow ∙ ap (before a) (last true most c c_to k c_here c_flow c_open c_closed);
    same = cycles_first a i (b ∷ []) here ∙ ap (λ n. cycles_of i + n) (cycles_one b j b_here ∙ same ∙ sym (cycles_one c k c_here)) ∙ sym (cycles_first a i (c ∷ []) here);
  }

  -- the cost of an address whose ways are alike
  pub cost_is : (most a : ℕ) → most ≡ 65536 → has_halt code a ≡ false → (w : WaysAlike most a) → cost code marks a ≡ Ok (cycles_of_way code w.plain)
  cost_is most a full runs w =
      ap₂ (common code)
      (ap (λ b. cond b (Ok []) (way_from code marks false 65536 false a)) runs ∙ ap (λ n. way_from code marks false n false a) (sym full) ∙ w.plain_is)
      (ap (λ b. cond b (Ok []) (way_from code marks true 65536 false a)) runs ∙ ap (λ n. way_from code marks true n false a) (sym full) ∙ w.taken_is)
      ∙ ap (λ b. cond b (Ok (cycles_of_way code w.plain)) (Err (Unequal (unwrap_or (branch_of_way code w.plain) 0) (cycles_of_way code w.plain) (cycles_of_way code w.taken)))) (eq-eqb _ _ w.same)

  -- at least the cycles of the first instruction
  pub cost_on : (most a to : ℕ) (i : Instr) → suc most ≡ 65536 → has_halt code a ≡ false → instr_at code a ≡ Some i → flow_of i (next_address a i) ≡ On to → EndsAlike most to → (cycles : ℕ) × (cost code marks a ≡ Ok cycles) × (cycles_of i ≤ cycles)
  unfolding ways_on
  cost_on most a to i full runs here flow e =
      let w = ways_on most a to i here flow e in
      let sum = cycles_first a i e.plain here in
      (cycles_of i + cycles_of_way code e.plain, cost_is (suc most) a full runs w ∙ ap Ok sum, omega arith)

  pub start_is : (most : ℕ) → most ≡ 65536 → EndsAlike most 0 → (cycles : ℕ) × (start_cost code marks ≡ Ok cycles)
  start_is most full e = by_mark (is_marked marks 0) refl
    where
      by_halt : (b : Bool) → has_halt code 0 ≡ b → is_marked marks 0 ≡ false → (cycles : ℕ) × (cost code marks 0 ≡ Ok cycles)
      by_halt true halt free =
          (0, ap (λ b. common code (cond b (Ok []) (way_from code marks false 65536 false 0)) (cond b (Ok []) (way_from code marks true 65536 false 0))) halt)
      by_halt false runs free =
          let unclosed : is_closed code marks 0 ≡ false = ap₂ (λ m h. m || h) free runs in
          let w : WaysAlike most 0 = record { plain = e.plain; taken = e.taken; plain_is = sym (on_open false false most 0 unclosed) ∙ e.plain_is; taken_is = sym (on_open true false most 0 unclosed) ∙ e.taken_is; same = e.same } in
          (cycles_of_way code e.plain, cost_is most 0 full runs w)

      by_mark : (b : Bool) → is_marked marks 0 ≡ b → (cycles : ℕ) × (cond b (Ok 0) (cost code marks 0) ≡ Ok cycles)
      by_mark true marked = (0, refl)
      by_mark false free = by_halt (has_halt code 0) refl free
