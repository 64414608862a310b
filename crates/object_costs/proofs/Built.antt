-- The ways from the items of an object end, with the same cycles on both.
use Rattle.std.proofs.Common.{◌≡◌, ◌≢◌, ℕ, zero, suc, ◌+◌, ◌-◌, ◌%◌, ◌<◌, ◌≤◌, List, [], ◌∷◌, Option, Some, None, Bool, true, false, ◌||◌, Ok, is_some, refl, sym, ap, ap₂, ◌∙◌, subst, arith, length, slice_get, slice_index, ne_eqb}
use Rattle.std.proofs.lemmas.Option.{slice_get_within, get_or_from_slice_get}
use Rattle.cerco_base.specs.declared.events.Label.{Label}
use Rattle.cerco_traces.proofs.UnseenWeights.{mem, rest, taken_off}
use Rattle.cerco_traces.proofs.Bounded.{extended, no_cycle, AllLead, lead_on, unseen}
use Rattle.mcs51_isa.specs.declared.instr.Instr.{Instr}
use Rattle.mcs51_isa.specs.declared.instr.Instr.TheVariants.{Nop, Sjmp, Ajmp, Long, Ret, BranchFlag}
use Rattle.mcs51_isa.specs.declared.instr.LongJump.TheVariants.{Ljmp, Lcall}
use Rattle.mcs51_isa.specs.declared.instr.FlagTest.TheVariants.{Jnz}
use Rattle.mcs51_isa.specs.Operands.{addr11_of, page_target, relative_target}
use Rattle.mcs51_isa.specs.Offsets.{offset_to}
use Rattle.mcs51_isa.specs.Flow.{On, Branch, flow_of}
use Rattle.mcs51_isa.proofs.Bounds.{size_bounds}
use Rattle.sim51.specs.Step.{instr_at, label_at, size, next_address, halts}
use Rattle.sim51.specs.Straight.{IsStraight}
use Rattle.sim51.proofs.Laws.{halts-sjmp_self}
use Rattle.asm51.specs.declared.items.AsmItem.{AsmItem}
use Rattle.asm51.specs.declared.items.AsmItem.TheVariants.{Plain, Mark, Enter, Here, Jump, Test, Call}
use Rattle.asm51.specs.declared.layouts.Form.{Form}
use Rattle.asm51.specs.Items.{target_of}
use Rattle.asm51.specs.Relaxation.{reaches}
use Rattle.asm51.specs.Selected.{AreSelected}
use Rattle.asm51.specs.Ends.{IsStop, at_mark, at_end, after_place, after_entry, HasEnd, stops, returns, goes_on, passes_place, passes_entry, jumps, parts, calls}
use Rattle.asm51.proofs.Addresses.{form_at}
use Rattle.asm51.proofs.Reaching.{short_leads, page_reaches}
use Rattle.objects51.proofs.Laid.{IsLaid}
use Rattle.objects51.proofs.Objects.{IsObject}
use Rattle.objects51.proofs.Selections.{nop_at}
use Rattle.objects51.proofs.Labels.{mark_at, none_at, label_here, outside}
use Rattle.objects51.proofs.Places.{place_at}
use Rattle.block_costs.specs.Ways.{is_marked, AreMarks, halts_by, has_halt, is_closed, cost, start_cost}
use Rattle.block_costs.proofs.Alike.{EndsAlike, WaysAlike, ends_closed, ends_ways, ways_on, ways_back, ways_branch, ways_far, cost_is, cost_on, start_is}
use Rattle.object_costs.proofs.Paths.{straight_flow, item_graph, GoesTo, straight_goes, jump_goes, call_goes, place_goes, entry_goes, bounded_end}

or_true : (b : Bool) → (b || true) ≡ true
or_true true = refl
or_true false = refl

module _ (items : List AsmItem) (forms : List (Option Form)) (code labels : List ℕ) (at : ℕ → ℕ) (sel : AreSelected items) (obj : IsObject items forms code labels at) (marks : List Bool) (marked : AreMarks labels marks) where
  -- the address of an item
  place : ℕ → ℕ
  place k = at k % 65536

  -- the bytes of an item
  weight : ℕ → ℕ
  weight k = at (suc k) - at k

  closed : ℕ → Bool
  closed k = is_closed code marks (place k)

  -- items without bytes
  same_place : (k : ℕ) → at (suc k) ≡ at k + 0 → place (suc k) ≡ place k
  unfolding place
  same_place k e = ap (λ a. a % 65536) (e ∙ omega arith)

  passed_place : (k f n : ℕ) → slice_get items k ≡ Some (Here f n) → place (suc k) ≡ place k
  passed_place k f n e = same_place k (obj.laid k (Here f n) e).next

  passed_entry : (k f : ℕ) → slice_get items k ≡ Some (Enter f) → place (suc k) ≡ place k
  passed_entry k f e = same_place k (obj.laid k (Enter f) e).next

  -- an instruction
  record PlainAt (k : ℕ) (i : Instr) : Type 0 where
    there : instr_at code (place k) ≡ Some i
    below : place k < 65536
    same : place k ≡ at k
    onto : next_address (place k) i ≡ place (suc k)
    wide : 1 ≤ weight k

  plain_at : (k : ℕ) (i : Instr) → slice_get items k ≡ Some (Plain i) → PlainAt k i
  unfolding place weight
  plain_at k i e =
      let laid = obj.laid k (Plain i) e in
      let some = (size_bounds i).0 in
      let fits : at k + size i ≤ 65536 = laid.stands.1 in
      let next : at (suc k) ≡ at k + size i = omega (arith, laid.next) in
      let same : at k % 65536 ≡ at k = omega (arith, fits, some) in
      record {
        there = ap (instr_at code) same ∙ laid.stands.0;
        below = omega arith;
        same = same;
        onto = ap (λ a. (a + size i) % 65536) same ∙ ap (λ a. a % 65536) (sym next);
        wide = omega (arith, next, some);
      }

  mark_closed : (k : ℕ) (l : Label) → slice_get items k ≡ Some (Mark l) → is_closed code marks (place k) ≡ true
  unfolding place
  mark_closed k l e =
      let m = mark_at items forms code labels at sel obj k l e in
      let same : at k % 65536 ≡ at k = omega (arith, m.same, m.fits) in
      let here : is_marked marks (at k % 65536) ≡ true = ap (is_marked marks) same ∙ marked (at k) ∙ ap is_some (label_here items forms code labels at sel obj k l e) in
      ap (λ b. b || has_halt code (at k % 65536)) here

  end_closed : (k : ℕ) → slice_get items k ≡ Some (Plain (Sjmp 0xFE)) → is_closed code marks (place k) ≡ true
  end_closed k e =
      let p = plain_at k (Sjmp 0xFE) e in
      let halt : has_halt code (place k) ≡ true = ap (λ o. halts_by o (place k)) p.there ∙ halts-sjmp_self (place k) p.below in
      ap (λ h. is_marked marks (place k) || h) halt ∙ or_true (is_marked marks (place k))

  stop_closed : (k : ℕ) → IsStop items k → is_closed code marks (place k) ≡ true
  stop_closed k (at_mark k' l e) = mark_closed k l e
  stop_closed k (at_end k' e) = end_closed k e
  stop_closed k (after_place k' f n e s) = ap (is_closed code marks) (sym (passed_place k f n e)) ∙ stop_closed (suc k) s
  stop_closed k (after_entry k' f e s) = ap (is_closed code marks) (sym (passed_entry k f e)) ∙ stop_closed (suc k) s

  -- an item that goes on at one address
  record JumpAt (k to : ℕ) : Type 0 where
    i : Instr
    there : instr_at code (place k) ≡ Some i
    flow : flow_of i (next_address (place k) i) ≡ On to
    wide : 1 ≤ weight k

  long_jump : (k f n : ℕ) (form : Option Form) → IsLaid code at k (at (target_of items (Jump f n)) % 65536) (Jump f n) form → at (suc k) ≡ at k + 3 → at k + 3 ≤ 65536 → instr_at code (at k) ≡ Some (Long Ljmp (at (target_of items (Jump f n)) % 65536)) → JumpAt k (place (target_of items (Jump f n)))
  unfolding place weight
  long_jump k f n form laid next fits there =
      let same : at k % 65536 ≡ at k = omega (arith, fits) in
      record { i = Long Ljmp (at (target_of items (Jump f n)) % 65536); there = ap (instr_at code) same ∙ there; flow = refl; wide = omega (arith, next) }

  jump_by : (k f n : ℕ) (form : Option Form) → IsLaid code at k (at (target_of items (Jump f n)) % 65536) (Jump f n) form
      → ((g : Form) → form ≡ Some g → reaches (at k + 2) (at (target_of items (Jump f n))) (Jump f n) g ≡ true) → JumpAt k (place (target_of items (Jump f n)))
  unfolding place weight
  jump_by k f n (Some Form.Short) laid reach =
      let t = target_of items (Jump f n) in
      let fits : at k + 2 ≤ 65536 = laid.stands.1 in
      let same : at k % 65536 ≡ at k = omega (arith, fits) in
      let o = offset_to (at k + 2) (at t % 65536) in
      record {
        i = Sjmp o;
        there = ap (instr_at code) same ∙ laid.stands.0;
        flow = ap (λ a. On (relative_target ((a + 2) % 65536) o)) same ∙ ap On (short_leads (at k + 2) (at t) fits (obj.fits t) (reach Form.Short refl));
        wide = omega (arith, laid.next);
      }
  jump_by k f n (Some Form.Page) laid reach =
      let t = target_of items (Jump f n) in
      let fits : at k + 2 ≤ 65536 = laid.stands.1 in
      let same : at k % 65536 ≡ at k = omega (arith, fits) in
      record {
        i = Ajmp (addr11_of (at t % 65536));
        there = ap (instr_at code) same ∙ laid.stands.0;
        flow = ap (λ a. On (page_target ((a + 2) % 65536) (addr11_of (at t % 65536)))) same ∙ ap On (page_reaches (at k + 2) (at t) fits (obj.fits t) (reach Form.Page refl));
        wide = omega (arith, laid.next);
      }
  jump_by k f n (Some Form.Long) laid reach = long_jump k f n (Some Form.Long) laid (omega (arith, laid.next)) laid.stands.1 laid.stands.0
  jump_by k f n None laid reach = long_jump k f n None laid (omega (arith, laid.next)) laid.stands.1 laid.stands.0

  jump_at : (k f n : ℕ) → slice_get items k ≡ Some (Jump f n) → JumpAt k (place (target_of items (Jump f n)))
  jump_at k f n e = jump_by k f n (form_at forms k) (obj.laid k (Jump f n) e) (λ g h. obj.reach k (Jump f n) g e h)

  call_at : (k f : ℕ) → slice_get items k ≡ Some (Call f) → JumpAt k (place (target_of items (Call f)))
  unfolding place weight
  call_at k f e =
      let laid = obj.laid k (Call f) e in
      let fits : at k + 3 ≤ 65536 = laid.stands.1 in
      let same : at k % 65536 ≡ at k = omega (arith, fits) in
      record { i = Long Lcall (at (target_of items (Call f)) % 65536); there = ap (instr_at code) same ∙ laid.stands.0; flow = refl; wide = omega (arith, laid.next) }

  -- a test between two closed places
  record TestAt (k : ℕ) : Type 0 where
    ways : (most : ℕ) → WaysAlike code marks (suc (suc most)) (place k)
    wide : 2 ≤ weight k
    runs : has_halt code (place k) ≡ false

  unmarked_at : (a : ℕ) → label_at labels a ≡ None → is_marked marks a ≡ false
  unmarked_at a none = marked a ∙ ap is_some none

  open_at : (a : ℕ) (i : Instr) → instr_at code a ≡ Some i → label_at labels a ≡ None → halts i a ≡ false → is_closed code marks a ≡ false
  open_at a i there none on = ap₂ (λ m h. m || h) (unmarked_at a none) (ap (λ o. halts_by o a) there ∙ on)

  far_test : (k f n : ℕ) → slice_get items k ≡ Some (Test f n) → IsLaid code at k (at (target_of items (Test f n)) % 65536) (Test f n) (Some Form.Long) → label_at labels (at k + 2) ≡ None → label_at labels (at k + 2 + 2) ≡ None → is_closed code marks (place (target_of items (Test f n))) ≡ true → is_closed code marks (place (suc k)) ≡ true → TestAt k
  unfolding place weight
  far_test k f n e laid free free_too target_closed next_closed =
      let t = target_of items (Test f n) in
      let fits : at k + 2 + 2 + 3 ≤ 65536 = laid.stands.2.2.1 in
      let next : at (suc k) ≡ at k + 7 = omega (arith, laid.next) in
      let same : at k % 65536 ≡ at k = omega (arith, fits) in
      let there : instr_at code (at k % 65536) ≡ Some (BranchFlag Jnz 2) = ap (instr_at code) same ∙ laid.stands.0 in
      let b : (at k % 65536 + 2) % 65536 ≡ at k + 2 = omega (arith, fits) in
      let c : relative_target ((at k % 65536 + 2) % 65536) 2 ≡ at k + 2 + 2 = omega (arith, fits) in
      let over : relative_target ((at k + 2 + 2) % 65536) 3 ≡ at (suc k) % 65536 = omega (arith, fits, next) in
      let b_on : relative_target ((at k + 2 + 2) % 65536) 3 ≢ at k + 2 = λ q. omega (arith, q, fits) in
      let c_on : at t % 65536 ≢ at k + 2 + 2 = λ q. outside items forms code labels at sel obj k t (at k + 4) (omega arith) (omega (arith, next)) (omega (arith, q, next, obj.fits t, obj.fits (suc k))) in
      record {
        ways = λ most. ways_far code marks most (at k % 65536) (at k + 2) (at k + 2 + 2) (at (suc k) % 65536) (at t % 65536) (BranchFlag Jnz 2) (Sjmp 3) (Long Ljmp (at t % 65536))
            there (ap₂ Branch b c) laid.stands.2.0 (ap On over) laid.stands.2.2.0 refl
            (open_at (at k + 2) (Sjmp 3) laid.stands.2.0 free (ne_eqb _ _ b_on)) (open_at (at k + 2 + 2) (Long Ljmp (at t % 65536)) laid.stands.2.2.0 free_too (ne_eqb _ _ c_on))
            next_closed target_closed refl;
        runs = ap (λ o. halts_by o (at k % 65536)) there;
        wide = omega (arith, next);
      }

  near_test : (k f n : ℕ) → IsLaid code at k (at (target_of items (Test f n)) % 65536) (Test f n) (Some Form.Short) → reaches (at k + 2) (at (target_of items (Test f n))) (Test f n) Form.Short ≡ true → is_closed code marks (place (target_of items (Test f n))) ≡ true → is_closed code marks (place (suc k)) ≡ true → TestAt k
  unfolding place weight
  near_test k f n laid reach target_closed next_closed =
      let t = target_of items (Test f n) in
      let fits : at k + 2 ≤ 65536 = laid.stands.1 in
      let same : at k % 65536 ≡ at k = omega (arith, fits) in
      let o = offset_to (at k + 2) (at t % 65536) in
      let there : instr_at code (at k % 65536) ≡ Some (BranchFlag Jnz o) = ap (instr_at code) same ∙ laid.stands.0 in
      let on : (at k % 65536 + 2) % 65536 ≡ at (suc k) % 65536 = omega (arith, same, laid.next) in
      let to : relative_target ((at k % 65536 + 2) % 65536) o ≡ at t % 65536 = ap (λ a. relative_target ((a + 2) % 65536) o) same ∙ short_leads (at k + 2) (at t) fits (obj.fits t) reach in
      record {
        ways = λ most. ways_branch code marks (suc most) (at k % 65536) (at (suc k) % 65536) (at t % 65536) (BranchFlag Jnz o) there (ap₂ Branch on to) next_closed target_closed;
        runs = ap (λ o. halts_by o (at k % 65536)) there;
        wide = omega (arith, laid.next);
      }

  test_by : (k f n : ℕ) (form : Option Form) → slice_get items k ≡ Some (Test f n) → form_at forms k ≡ form → is_closed code marks (place (target_of items (Test f n))) ≡ true → is_closed code marks (place (suc k)) ≡ true → TestAt k
  test_by k f n form e is target_closed next_closed = by_form form (subst (IsLaid code at k (at t % 65536) (Test f n)) is (obj.laid k (Test f n) e)) (subst Free is (none_at items forms code labels at sel obj k (Test f n) (place_at items sel k (Test f n) e refl).free e)) (λ g h. obj.reach k (Test f n) g e (is ∙ h))
    where
      t : ℕ
      t = target_of items (Test f n)

      Free : Option Form → Type 0
      Free o = Rattle.sim51.specs.Straight.HaveNoLabel labels (at k) (Rattle.asm51.specs.Instructions.instructions (at k) (at t % 65536) (Test f n) o)

      by_form : (form : Option Form) → IsLaid code at k (at t % 65536) (Test f n) form → Free form → ((g : Form) → form ≡ Some g → reaches (at k + 2) (at t) (Test f n) g ≡ true) → TestAt k
      by_form (Some Form.Short) laid free reach = near_test k f n laid (reach Form.Short refl) target_closed next_closed
      by_form (Some Form.Page) laid free reach = let clash : false ≡ true = reach Form.Page refl in absurd cc
      by_form (Some Form.Long) laid free reach = far_test k f n e laid free.1.0 free.1.1.0 target_closed next_closed
      by_form None laid free reach = far_test k f n e (record { stands = laid.stands; next = laid.next }) free.1.0 free.1.1.0 target_closed next_closed

  test_at : (k f n : ℕ) → slice_get items k ≡ Some (Test f n) → IsStop items (target_of items (Test f n)) → IsStop items (suc k) → TestAt k
  test_at k f n e s t = test_by k f n (form_at forms k) e refl (stop_closed (target_of items (Test f n)) s) (stop_closed (suc k) t)

  -- what is spent at an item: an instruction at least
  record Spent (slack : ℕ) (seen : List ℕ) (k : ℕ) : Type 0 where
    more : ℕ
    is : slack + rest weight (length items) seen ≡ suc (more + rest weight (length items) (k ∷ seen))

  spent : (slack : ℕ) (seen : List ℕ) (k : ℕ) → k < length items → 1 ≤ weight k → mem k seen ≡ false → Spent slack seen k
  spent slack seen k within wide new =
      let off = taken_off weight k seen (length items) within new in
      record { more = slack + rest weight (length items) seen - 1 - rest weight (length items) (k ∷ seen); is = omega (arith, off, wide) }

  abbrev Seen : List ℕ → ℕ → Type 0
  Seen seen k = AllLead (item_graph items) seen k

  abbrev Alike : ℕ → List ℕ → ℕ → Type 0
  Alike slack seen k = EndsAlike code marks (slack + rest weight (length items) seen) (place k)

  new_item : (seen : List ℕ) (k : ℕ) → HasEnd items k → Seen seen k → mem k seen ≡ false
  new_item seen k h all = unseen (item_graph items) seen k (no_cycle (item_graph items) k (bounded_end items k h)) all

  -- an item that goes on, and then the rest of the ways
  goes_along : (slack : ℕ) (seen : List ℕ) (k q to : ℕ) (i : Instr) → HasEnd items k → Seen seen k → k < length items → GoesTo items k q → place q ≡ to → instr_at code (place k) ≡ Some i → flow_of i (next_address (place k) i) ≡ On to → 1 ≤ weight k
      → ((slack : ℕ) (seen : List ℕ) → Seen seen q → Alike slack seen q) → Alike slack seen k
  goes_along slack seen k q to i h all within goes is there flow wide onward =
      let sp = spent slack seen k within wide (new_item seen k h all) in
      let next = onward sp.more (k ∷ seen) (lead_on (item_graph items) seen k q goes.unmarked goes.leads all) in
      subst (λ most. EndsAlike code marks most (place k)) (sym sp.is)
      (ends_ways code marks _ (place k) (ways_on code marks _ (place k) to i there flow (subst (EndsAlike code marks _) is next)))

  -- an item without bytes
  passes_along : (slack : ℕ) (seen : List ℕ) (k : ℕ) → Seen seen k → GoesTo items k (suc k) → place (suc k) ≡ place k → (Seen seen (suc k) → Alike slack seen (suc k)) → Alike slack seen k
  passes_along slack seen k all goes is onward =
      subst (EndsAlike code marks _) is (onward (λ s in_seen. extended (item_graph items) s k (suc k) (all s in_seen) goes.unmarked goes.leads))

  -- From an item whose ways have ends they end alike, within the instructions of the items that are not seen yet.
  along : (slack : ℕ) (seen : List ℕ) (k : ℕ) → Seen seen k → HasEnd items k → Alike slack seen k
  along slack seen k all (stops k' s) = ends_closed code marks _ (place k) (stop_closed k s)
  along slack seen k all (returns k' kind e) =
      let p = plain_at k (Ret kind) e in
      let sp = spent slack seen k (slice_get_within items k _ e) p.wide (new_item seen k (returns k kind e) all) in
      subst (λ most. EndsAlike code marks most (place k)) (sym sp.is) (ends_ways code marks _ (place k) (ways_back code marks _ (place k) (Ret kind) p.there refl))
  along slack seen k all (goes_on k' i e straight r) =
      let p = plain_at k i e in
      goes_along slack seen k (suc k) (place (suc k)) i (goes_on k i e straight r) all (slice_get_within items k _ e) (straight_goes items k i e straight) refl p.there
      (straight_flow i (next_address (place k) i) straight ∙ ap On p.onto) p.wide (λ slack' seen' all'. along slack' seen' (suc k) all' r)
  along slack seen k all (passes_place k' f n e r) =
      passes_along slack seen k all (place_goes items k f n e) (passed_place k f n e) (λ all'. along slack seen (suc k) all' r)
  along slack seen k all (passes_entry k' f e r) =
      passes_along slack seen k all (entry_goes items k f e) (passed_entry k f e) (λ all'. along slack seen (suc k) all' r)
  along slack seen k all (jumps k' f n e r) =
      let p = jump_at k f n e in
      goes_along slack seen k (target_of items (Jump f n)) (place (target_of items (Jump f n))) p.i (jumps k f n e r) all (slice_get_within items k _ e) (jump_goes items k f n e) refl p.there p.flow p.wide
      (λ slack' seen' all'. along slack' seen' (target_of items (Jump f n)) all' r)
  along slack seen k all (parts k' f n e s t) =
      let p = test_at k f n e s t in
      let off = taken_off weight k seen (length items) (slice_get_within items k _ e) (new_item seen k (parts k f n e s t) all) in
      let is : suc (suc (slack + rest weight (length items) seen - 2)) ≡ slack + rest weight (length items) seen = omega (arith, off, p.wide) in
      subst (λ most. EndsAlike code marks most (place k)) is (ends_ways code marks _ (place k) (p.ways (slack + rest weight (length items) seen - 2)))
  along slack seen k all (calls k' f e s) =
      let p = call_at k f e in
      goes_along slack seen k (target_of items (Call f)) (place (target_of items (Call f))) p.i (calls k f e s) all (slice_get_within items k _ e) (call_goes items k f e) refl p.there p.flow p.wide
      (λ slack' seen' all'. ends_closed code marks _ (place (target_of items (Call f))) (stop_closed (target_of items (Call f)) s))

  -- the bytes of all items
  rest_all : (n : ℕ) → rest weight n [] ≤ at n
  unfolding weight
  rest_all zero = omega arith
  rest_all (suc n) = let rises = obj.rises n (suc n) (omega arith) in omega (arith, rises, rest_all n)

  all_fit : rest weight (length items) [] ≤ 65536
  all_fit = omega (arith, rest_all (length items), obj.fits (length items))

  zero_place : place 0 ≡ 0
  unfolding place
  zero_place = ap (λ a. a % 65536) obj.zero

  pub start_costs : HasEnd items 0 → (cycles : ℕ) × (start_cost code marks ≡ Ok cycles)
  start_costs h =
      let slack = 65536 - rest weight (length items) [] in
      let full : slack + rest weight (length items) [] ≡ 65536 = omega (arith, all_fit) in
      start_is code marks _ full (subst (EndsAlike code marks _) zero_place (along slack [] 0 (λ s none. absurd none) h))

  pub label_costs : (l k : ℕ) → slice_get items k ≡ Some (Mark (record { 0 = l })) → HasEnd items (suc (suc k)) → (cycles : ℕ) × (cost code marks (slice_index labels l) ≡ Ok cycles) × (1 ≤ cycles)
  label_costs l k e h =
      let nop = nop_at items k (record { 0 = l }) sel.well_formed e in
      let p = plain_at (suc k) Nop nop in
      let goes = straight_goes items (suc k) Nop nop tt in
      let off = taken_off weight (suc k) [] (length items) (slice_get_within items (suc k) _ nop) refl in
      let few : rest weight (length items) (suc k ∷ []) ≤ 65535 = omega (arith, all_fit, off, p.wide) in
      let slack = 65535 - rest weight (length items) (suc k ∷ []) in
      let full : suc (slack + rest weight (length items) (suc k ∷ [])) ≡ 65536 = omega (arith, few) in
      let next = along slack (suc k ∷ []) (suc (suc k)) (lead_on (item_graph items) [] (suc k) (suc (suc k)) goes.unmarked goes.leads (λ s none. absurd none)) h in
      let runs : has_halt code (place (suc k)) ≡ false = ap (λ o. halts_by o (place (suc k))) p.there in
      let c = cost_on code marks _ (place (suc k)) (place (suc (suc k))) Nop full runs p.there (ap On p.onto) next in
      let here : slice_index labels l ≡ place (suc k) = index_is l k e ∙ sym p.same in
      (c.0, ap (cost code marks) here ∙ c.1, c.2)
    where
      index_is : (l k : ℕ) → slice_get items k ≡ Some (Mark (record { 0 = l })) → slice_index labels l ≡ at (suc k)
      index_is l k e =
          let m = mark_at items forms code labels at sel obj k (record { 0 = l }) e in
          let a : slice_index labels l ≡ at k % 65536 = get_or_from_slice_get labels l (at k % 65536) 0 (obj.at_mark k (record { 0 = l }) e) in
          omega (arith, a, m.same, m.fits)

  pub test_costs : (k f n : ℕ) → slice_get items k ≡ Some (Test f n) → IsStop items (target_of items (Test f n)) → IsStop items (suc k) → (cycles : ℕ) × (cost code marks (at k % 65536) ≡ Ok cycles)
  unfolding place
  test_costs k f n e s t =
      let p = test_at k f n e s t in
      let full : suc (suc 65534) ≡ 65536 = omega arith in
      (_, cost_is code marks (suc (suc 65534)) (at k % 65536) full p.runs (p.ways 65534))

  pub place_closed : (k : ℕ) → IsStop items k → is_closed code marks (at k % 65536) ≡ true
  unfolding place
  place_closed k s = stop_closed k s
