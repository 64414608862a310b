-- The callers of each function stay those whose callee it is, and an order by callers is one of the program.
use Rattle.std.proofs.Common.{◌≡◌, ℕ, ◌<◌, ◌^◌, ◌⊎◌, List, [], ◌∷◌, ◌++◌, length, ap, sym, ◌∙◌, subst, inl, inr, arith, take, drop, Result, Ok, Err}
use Rattle.std.specs.Prelude.{Contains, OnOk, OnErr}
use Rattle.std.proofs.Math.Seq.{take-append_seam}
use Rattle.std.proofs.lemmas.List.{get_or-set_same, get_or-set_other, length-set}
use Rattle.std.proofs.lemmas.List.Elements.{Contains-append_left, Contains-push, Contains-push_cases}
use Rattle.cerco_base.specs.CallOrder.{Called}
use Rattle.call_graph.specs.CallPaths.{list_added, Calls, CallsIn, IsOrderOf, IsOnCycle}
use Rattle.call_graph.specs.Code.Nodes.{CallsTo, AreOpposite}
use Rattle.call_graph.specs.Code.Walks.{list_at, IsOrderByCallers}
use Rattle.call_graph.proofs.Entries.{same_or_not}
use Rattle.call_graph.proofs.Paths.{cycle-along}
use Rattle.call_graph.proofs.OrderPaths.{stands, no_cycle}

added_cases : (lists : List (List ℕ)) (i n g x : ℕ) → i < length lists → Contains (list_at (list_added lists i n) g) x → Contains (list_at lists g) x ⊎ ((g ≡ i) × (n ≡ x))
added_cases lists i n g x h c =
    elim (same_or_not g i) [
      | inl e ↦
          elim (Contains-push_cases (list_at lists i) n x (subst (λ (xs : List ℕ). Contains xs x) (ap (list_at (list_added lists i n)) e ∙ get_or-set_same lists i (list_at lists i ++ n ∷ []) [] h) c)) [
            | inl a ↦ inl (subst (λ (j : ℕ). Contains (list_at lists j) x) (sym e) a)
            | inr a ↦ inr (e, a)
          ]
      | inr ne ↦ inl (subst (λ (xs : List ℕ). Contains xs x) (get_or-set_other lists i g (list_at lists i ++ n ∷ []) [] ne) c)
    ]

added_kept : (lists : List (List ℕ)) (i n g x : ℕ) → i < length lists → Contains (list_at lists g) x → Contains (list_at (list_added lists i n) g) x
added_kept lists i n g x h c =
    elim (same_or_not g i) [
      | inl e ↦ subst (λ (xs : List ℕ). Contains xs x) (sym (ap (list_at (list_added lists i n)) e ∙ get_or-set_same lists i (list_at lists i ++ n ∷ []) [] h)) (Contains-append_left (list_at lists i) (n ∷ []) x (subst (λ (j : ℕ). Contains (list_at lists j) x) e c))
      | inr ne ↦ subst (λ (xs : List ℕ). Contains xs x) (sym (get_or-set_other lists i g (list_at lists i ++ n ∷ []) [] ne)) c
    ]

added_here : (lists : List (List ℕ)) (i n : ℕ) → i < length lists → Contains (list_at (list_added lists i n) i) n
added_here lists i n h = subst (λ (xs : List ℕ). Contains xs n) (sym (get_or-set_same lists i (list_at lists i ++ n ∷ []) [] h)) (Contains-push (list_at lists i) n)

pub opposite_added : (callees callers : List (List ℕ)) (f g : ℕ) → AreOpposite callees callers → f < length callees → g < length callees → AreOpposite (list_added callees f g) (list_added callers g f)
opposite_added callees callers f g are hf hg =
    let le = length-set callees f (list_at callees f ++ g ∷ []) in
    let lr = length-set callers g (list_at callers g ++ f ∷ []) in
    let same = are.lengths in
    let hg' : g < length callers = omega arith in
    record {
      few = subst (λ (n : ℕ). n < 2 ^ 32) (sym le) are.few;
      lengths = lr ∙ (same ∙ sym le);
      exist = λ a b call.
          elim (added_cases callees f g a b hf call) [
            | inl old ↦ let lt = are.exist a b old in omega arith
            | inr new ↦ let e = new.1 in omega arith
          ];
      called = λ a b call.
          elim (added_cases callees f g a b hf call) [
            | inl old ↦ added_kept callers g f b a hg' (are.called a b old)
            | inr new ↦ subst (λ (j : ℕ). CallsTo (list_added callers g f) a j) new.1 (subst (λ (j : ℕ). CallsTo (list_added callers g f) j g) (sym new.0) (added_here callers g f hg'))
          ];
      calling = λ a b call.
          elim (added_cases callers g f b a hg' call) [
            | inl old ↦ added_kept callees f g a b hf (are.calling a b old)
            | inr new ↦ subst (λ (j : ℕ). Calls (list_added callees f g) j b) new.1 (subst (λ (j : ℕ). Calls (list_added callees f g) f j) (sym new.0) (added_here callees f g hf))
          ];
    }

-- an order by callers has the calls of the program
pub order_of : (callees callers : List (List ℕ)) (order : List Called) → AreOpposite callees callers → IsOrderByCallers callers order → IsOrderOf callees order
order_of callees callers order are by =
    record {
      functions = λ f.
          (λ c. let h = (by.functions f).0 c in let e = are.lengths in omega arith, λ h. (by.functions f).1 (let e = are.lengths in omega arith));
      calls = λ f g. (
        λ call. are.calling f g (subst (λ (xs : List ℕ). Contains xs f) (by.lists call.0 call.1 ∙ ap (list_at callers) call.2) call.3),
        λ call.
            let h : g < length callers = let lt = are.exist f g call in let e = are.lengths in omega arith in
            let at = stands order g ((by.functions g).1 h) in
            (at.0, at.1.within, at.1.is, subst (λ (xs : List ℕ). Contains xs f) (sym (by.lists at.0 at.1.within ∙ ap (list_at callers) at.1.is)) (are.called f g call)),
      );
      in_order = by.in_order;
    }

pub order_without_cycle : (callees : List (List ℕ)) (order : List Called) → IsOrderOf callees order → (functions f : ℕ) → IsOnCycle functions (Calls callees) f → ⊥
order_without_cycle callees order is functions f cycle = no_cycle order is.in_order functions f (cycle-along functions (Calls callees) (CallsIn order) (λ a b. (is.calls a b).1) f cycle)

-- after a call was added, or none
pub connected : {T E : Type 0} (r : Result T E) (callees callers new_callees new_callers : List (List ℕ)) (f g : ℕ) → AreOpposite callees callers → f < length callees → g < length callees → OnOk r (new_callees ≡ list_added callees f g) → OnOk r (new_callers ≡ list_added callers g f) → OnErr r (new_callees ≡ callees) → OnErr r (new_callers ≡ callers) → AreOpposite new_callees new_callers
connected (Ok x) callees callers new_callees new_callers f g are hf hg a b c d = rw (a, b) (opposite_added callees callers f g are hf hg)
connected (Err x) callees callers new_callees new_callers f g are hf hg a b c d = rw (c, d) are

-- what a vector holds after a change of all of it as a slice
pub whole_slice : {X : Type 0} (new old : List X) (n : ℕ) → n ≡ length old → length new ≡ length old → take n (new ++ drop (length new) old) ≡ new
whole_slice new old n e same = ap (λ (i : ℕ). take i (new ++ drop (length new) old)) (e ∙ sym same) ∙ take-append_seam new (drop (length new) old)

pub cycle_of : (callees callers : List (List ℕ)) → AreOpposite callees callers → (functions f : ℕ) → IsOnCycle functions (CallsTo callers) f → IsOnCycle functions (Calls callees) f
cycle_of callees callers are functions f cycle = cycle-along functions (CallsTo callers) (Calls callees) are.calling f cycle
