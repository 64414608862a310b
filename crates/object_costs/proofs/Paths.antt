-- The paths through items: where ways have ends, no path comes back without passing a mark.
use Rattle.std.proofs.Common.{◌≡◌, ℕ, suc, List, Option, Some, None, Bool, true, false, cond, inl, inr, refl, sym, ap, ◌∙◌, subst, slice_get}
use Rattle.cerco_traces.specs.LabelledGraphs.{NodeKind, LabelNode, BranchNode, PlainNode, FlowGraph, LeadsTo, IsLabelNode, IsBounded, bounded}
use Rattle.mcs51_isa.specs.declared.instr.Instr.{Instr}
use Rattle.mcs51_isa.specs.declared.instr.Instr.TheVariants.{Ajmp, Acall, Long, Ret, BranchBit, BranchFlag, Sjmp, JmpIndirect, CjneImmediate, CjneDirect, CjneIndirect, CjneRegister, DjnzDirect, DjnzRegister}
use Rattle.mcs51_isa.specs.Flow.{On, flow_of}
use Rattle.sim51.specs.Straight.{IsStraight}
use Rattle.asm51.specs.declared.items.AsmItem.{AsmItem}
use Rattle.asm51.specs.declared.items.AsmItem.TheVariants.{Plain, Mark, Enter, Here, Jump, Test, Call}
use Rattle.asm51.specs.Items.{target_of}
use Rattle.asm51.specs.Ends.{IsStop, at_mark, at_end, after_place, after_entry, HasEnd, stops, returns, goes_on, passes_place, passes_entry, jumps, parts, calls}

-- straight-line code goes on with the next instruction
pub straight_flow : (i : Instr) (next : ℕ) → IsStraight i → flow_of i next ≡ On next
straight_flow (Ajmp target) next h = absurd h
straight_flow (Acall target) next h = absurd h
straight_flow (Long op target) next h = absurd h
straight_flow (Ret op) next h = absurd h
straight_flow (Sjmp offset) next h = absurd h
straight_flow JmpIndirect next h = absurd h
straight_flow (BranchBit op bit offset) next h = absurd h
straight_flow (BranchFlag op offset) next h = absurd h
straight_flow (CjneImmediate byte offset) next h = absurd h
straight_flow (CjneDirect direct offset) next h = absurd h
straight_flow (CjneIndirect ind byte offset) next h = absurd h
straight_flow (CjneRegister reg byte offset) next h = absurd h
straight_flow (DjnzDirect direct offset) next h = absurd h
straight_flow (DjnzRegister reg offset) next h = absurd h
straight_flow _ next h = refl

abbrev ends_paths : Instr → Bool
ends_paths (Ret kind) = true
ends_paths (Sjmp offset) = true
ends_paths _ = false

straight_passes : (i : Instr) → IsStraight i → ends_paths i ≡ false
straight_passes (Ret kind) h = absurd h
straight_passes (Sjmp offset) h = absurd h
straight_passes _ h = refl

abbrev kind_of_item : List AsmItem → ℕ → AsmItem → NodeKind
kind_of_item items k (Plain i) = PlainNode (cond (ends_paths i) None (Some (suc k)))
kind_of_item items k (Mark l) = LabelNode (Some (suc k))
kind_of_item items k (Enter f) = PlainNode (Some (suc k))
kind_of_item items k (Here f n) = PlainNode (Some (suc k))
kind_of_item items k (Jump f n) = PlainNode (Some (target_of items (Jump f n)))
kind_of_item items k (Test f n) = BranchNode (target_of items (Test f n)) (suc k)
kind_of_item items k (Call f) = PlainNode (Some (target_of items (Call f)))

abbrev kind_by : List AsmItem → ℕ → Option AsmItem → Option NodeKind
kind_by items k None = None
kind_by items k (Some item) = Some (kind_of_item items k item)

-- the items as a graph
pub item_graph : List AsmItem → FlowGraph
item_graph items k = kind_by items k (slice_get items k)

module _ (items : List AsmItem) where
  kind_is : (k : ℕ) (item : AsmItem) → slice_get items k ≡ Some item → item_graph items k ≡ Some (kind_of_item items k item)
  unfolding item_graph
  kind_is k item e = ap (kind_by items k) e

  -- an item that goes on to one other
  pub record GoesTo (k q : ℕ) : Type 0 where
    pub unmarked : IsLabelNode (item_graph items k) → ⊥
    pub leads : LeadsTo (item_graph items k) q
    pub only : (r : ℕ) → LeadsTo (item_graph items k) r → r ≡ q

  goes_to : (k q : ℕ) → item_graph items k ≡ Some (PlainNode (Some q)) → GoesTo k q
  goes_to k q e = record {
    unmarked = λ m. subst IsLabelNode e m;
    leads = subst (λ o. LeadsTo o q) (sym e) (inl refl);
    only = λ r lead. one r (subst (λ o. LeadsTo o r) e lead);
  }
    where
      one : (r : ℕ) → LeadsTo (Some (PlainNode (Some q))) r → r ≡ q
      one r (inl p) = sym p
      one r (inr n) = absurd n

  pub straight_goes : (k : ℕ) (i : Instr) → slice_get items k ≡ Some (Plain i) → IsStraight i → GoesTo k (suc k)
  straight_goes k i e straight = goes_to k (suc k) (kind_is k (Plain i) e ∙ ap (λ b. Some (PlainNode (cond b None (Some (suc k))))) (straight_passes i straight))

  pub jump_goes : (k f n : ℕ) → slice_get items k ≡ Some (Jump f n) → GoesTo k (target_of items (Jump f n))
  jump_goes k f n e = goes_to k _ (kind_is k (Jump f n) e)

  pub call_goes : (k f : ℕ) → slice_get items k ≡ Some (Call f) → GoesTo k (target_of items (Call f))
  call_goes k f e = goes_to k _ (kind_is k (Call f) e)

  pub place_goes : (k f n : ℕ) → slice_get items k ≡ Some (Here f n) → GoesTo k (suc k)
  place_goes k f n e = goes_to k (suc k) (kind_is k (Here f n) e)

  pub entry_goes : (k f : ℕ) → slice_get items k ≡ Some (Enter f) → GoesTo k (suc k)
  entry_goes k f e = goes_to k (suc k) (kind_is k (Enter f) e)

  bounded_on : (k q : ℕ) → GoesTo k q → IsBounded (item_graph items) q → IsBounded (item_graph items) k
  bounded_on k q g b = bounded k (λ r unmarked lead. subst (IsBounded (item_graph items)) (sym (g.only r lead)) b)

  bounded_none : (k : ℕ) → item_graph items k ≡ Some (PlainNode None) → IsBounded (item_graph items) k
  bounded_none k e = bounded k (λ r unmarked lead. absurd (subst (λ o. LeadsTo o r) e lead))

  bounded_stop : (k : ℕ) → IsStop items k → IsBounded (item_graph items) k
  bounded_stop k (at_mark k' l e) = bounded k (λ r unmarked lead. absurd (unmarked (subst IsLabelNode (sym (kind_is k (Mark l) e)) tt)))
  bounded_stop k (at_end k' e) = bounded_none k (kind_is k (Plain (Sjmp 0xFE)) e)
  bounded_stop k (after_place k' f n e s) = bounded_on k (suc k) (place_goes k f n e) (bounded_stop (suc k) s)
  bounded_stop k (after_entry k' f e s) = bounded_on k (suc k) (entry_goes k f e) (bounded_stop (suc k) s)

  pub bounded_end : (k : ℕ) → HasEnd items k → IsBounded (item_graph items) k
  bounded_end k (stops k' s) = bounded_stop k s
  bounded_end k (returns k' kind e) = bounded_none k (kind_is k (Plain (Ret kind)) e)
  bounded_end k (goes_on k' i e straight r) = bounded_on k (suc k) (straight_goes k i e straight) (bounded_end (suc k) r)
  bounded_end k (passes_place k' f n e r) = bounded_on k (suc k) (place_goes k f n e) (bounded_end (suc k) r)
  bounded_end k (passes_entry k' f e r) = bounded_on k (suc k) (entry_goes k f e) (bounded_end (suc k) r)
  bounded_end k (jumps k' f n e r) = bounded_on k _ (jump_goes k f n e) (bounded_end (target_of items (Jump f n)) r)
  bounded_end k (parts k' f n e s t) = bounded k (λ r unmarked lead. either r (subst (λ o. LeadsTo o r) (kind_is k (Test f n) e) lead))
    where
      either : (r : ℕ) → LeadsTo (Some (BranchNode (target_of items (Test f n)) (suc k))) r → IsBounded (item_graph items) r
      either r (inl q) = subst (IsBounded (item_graph items)) q (bounded_stop (target_of items (Test f n)) s)
      either r (inr (inl q)) = subst (IsBounded (item_graph items)) q (bounded_stop (suc k) t)
      either r (inr (inr n)) = absurd n
  bounded_end k (calls k' f e s) = bounded_on k _ (call_goes k f e) (bounded_stop (target_of items (Call f)) s)
