-- What the steps of the walk keep.
use Rattle.std.proofs.Common.{◌≡◌, ◌≢◌, ℕ, ◌+◌, ◌<◌, ◌≤◌, List, [], ◌∷◌, ◌++◌, length, map, get_or, set, refl, ap, sym, ◌∙◌, subst, inl, inr, arith, length-append, below_more}
use Rattle.std.specs.Prelude.{Contains, All}
use Rattle.std.specs.List.{sum_by}
use Rattle.std.proofs.lemmas.Bool.{cases_lt}
use Rattle.std.proofs.lemmas.List.{get_or_past, get_or_default, get_or_read, get_or-set_same, get_or-set_other, length-set}
use Rattle.std.proofs.lemmas.List.Elements.{Contains-append_left, Contains-push, Contains-push_cases}
use Rattle.std.proofs.lemmas.List.Sums.{sum_by-set}
use Rattle.cerco_base.specs.CallOrder.{Called, functions_of, callers_at}
use Rattle.cerco_base.proofs.CallOrders.{functions-push, map_at, map_at_end, order-push}
use Rattle.call_graph.specs.CallPaths.{AreCalledFrom}
use Rattle.call_graph.specs.Code.Nodes.{CallsTo}
use Rattle.call_graph.specs.Code.Walks.{list_at, mark_of, CallsFirst, IsOpenPath, IsWalk, steps_of}
use Rattle.call_graph.specs.declared.walk.Mark.{Mark}
use Rattle.call_graph.specs.declared.walk.Mark.TheVariants.{New, Open, Placed}
use Rattle.call_graph.proofs.Entries.{same_or_not, contains_here, contains_there, contains_cases, contains_none}

pub is_placed : (m : Mark) → (m ≡ New → ⊥) → (m ≡ Open → ⊥) → m ≡ Placed
is_placed New a b = absurd (a refl)
is_placed Open a b = absurd (b refl)
is_placed Placed a b = refl

pub is_new : (m : Mark) → (m ≡ Placed → ⊥) → (m ≡ Open → ⊥) → m ≡ New
is_new New a b = refl
is_new Open a b = absurd (b refl)
is_new Placed a b = absurd (a refl)

-- a mark is that of a function of the program, unless it is New
pub marked_within : (marks : List Mark) (f : ℕ) → (mark_of marks f ≡ New → ⊥) → f < length marks
marked_within marks f other =
    elim (cases_lt f (length marks)) [
      | inl h ↦ h
      | inr h ↦ absurd (other (get_or_past marks f New h))
    ]

pub mark_read : (marks : List Mark) (f : ℕ) (m : Mark) → f < length marks → m ≡ get_or marks f m → mark_of marks f ≡ m
mark_read marks f m h is = sym (get_or_read marks f m h is New)

mark_same : (marks : List Mark) (f : ℕ) (m : Mark) → f < length marks → mark_of (set marks f m) f ≡ m
mark_same marks f m h = get_or-set_same marks f m New h

mark_other : (marks : List Mark) (f g : ℕ) (m : Mark) → g ≢ f → mark_of (set marks f m) g ≡ mark_of marks g
mark_other marks f g m ne = get_or-set_other marks f g m New ne

-- a mark that is new at f and wasn't there before is elsewhere as it was
mark_before : (marks : List Mark) (f g : ℕ) (m n : Mark) → f < length marks → (m ≡ n → ⊥) → mark_of (set marks f m) g ≡ n → mark_of marks g ≡ n
mark_before marks f g m n h ne is =
    elim (same_or_not g f) [
      | inl e ↦ absurd (ne (sym (mark_same marks f m h) ∙ (ap (mark_of (set marks f m)) (sym e) ∙ is)))
      | inr other ↦ sym (mark_other marks f g m other) ∙ is
    ]

mark_still : (marks : List Mark) (f g : ℕ) (m n : Mark) → (mark_of marks f ≡ n → ⊥) → mark_of marks g ≡ n → mark_of (set marks f m) g ≡ n
mark_still marks f g m n ne is = mark_other marks f g m (λ e. ne (ap (mark_of marks) (sym e) ∙ is)) ∙ is

-- on the stack each function is open
on_path : (callers : List (List ℕ)) (marks : List Mark) (stack : List ℕ) (g : ℕ) → IsOpenPath callers marks stack → Contains stack g → mark_of marks g ≡ Open
on_path callers marks [] g path c = absurd (contains_none g c)
on_path callers marks (f ∷ below) g path c =
    elim (contains_cases f g below c) [
      | inl e ↦ ap (mark_of marks) (sym e) ∙ path.0
      | inr d ↦ on_path callers marks below g path.3 d
    ]

path_still : (callers : List (List ℕ)) (marks : List Mark) (stack : List ℕ) (g : ℕ) (m : Mark) → IsOpenPath callers marks stack → (Contains stack g → ⊥) → IsOpenPath callers (set marks g m) stack
path_still callers marks [] g m path apart = tt
path_still callers marks (f ∷ below) g m path apart =
    (mark_other marks g f m (λ e. apart (subst (Contains (f ∷ below)) e (contains_here f below))) ∙ path.0, path.1, path.2, path_still callers marks below g m path.3 (λ c. apart (contains_there f g below c)))

pub opened : (callers : List (List ℕ)) (marks : List Mark) (known stack : List ℕ) (order : List Called) (f : ℕ) → IsWalk callers marks known stack order → mark_of marks f ≡ New → f < length marks → CallsFirst callers f stack → IsWalk callers (set marks f Open) known (f ∷ stack) order
opened callers marks known stack order f w new h first =
    let not_placed : mark_of marks f ≡ Placed → ⊥ = λ e. cc in
    let not_there : Contains stack f → ⊥ = λ c. let e = on_path callers marks stack f w.path c in cc in
    record {
      marks_length = length-set marks f Open ∙ w.marks_length;
      known_length = w.known_length;
      placed = λ g e. w.placed g (mark_before marks f g Open Placed h (λ x. cc) e);
      marked = λ g c. mark_still marks f g Open Placed not_placed (w.marked g c);
      lists = w.lists;
      in_order = w.in_order;
      known_within = w.known_within;
      known_placed = λ g j k. mark_still marks f (get_or (list_at callers g) j 0) Open Placed not_placed (w.known_placed g j k);
      on_stack = λ g e.
          elim (same_or_not f g) [
            | inl same ↦ subst (Contains (f ∷ stack)) same (contains_here f stack)
            | inr other ↦ contains_there f g stack (w.on_stack g (sym (mark_other marks f g Open (λ x. other (sym x))) ∙ e))
          ];
      path = (mark_same marks f Open h, first, not_there, path_still callers marks stack f Open w.path not_there);
    }

-- the callers at each place, when one more is put into the order
lists-push : (callers : List (List ℕ)) (order : List Called) (f : ℕ) → ((i : ℕ) → i < length order → callers_at order i ≡ list_at callers (get_or (functions_of order) i 0)) → (i : ℕ) → i < length (order ++ record { function = f; callers = list_at callers f } ∷ []) → callers_at (order ++ record { function = f; callers = list_at callers f } ∷ []) i ≡ list_at callers (get_or (functions_of (order ++ record { function = f; callers = list_at callers f } ∷ [])) i 0)
lists-push callers order f lists i h =
    let c : Called = record { function = f; callers = list_at callers f } in
    let at : i < length order + 1 = let e = length-append order (c ∷ []) in omega arith in
    let P : ℕ → Type 0 = λ j. callers_at (order ++ c ∷ []) j ≡ list_at callers (get_or (functions_of (order ++ c ∷ [])) j 0) in
    below_more P (length order)
    (λ j k. map_at (λ (x : Called). x.callers) order c j [] k ∙ (lists j k ∙ ap (list_at callers) (sym (map_at (λ (x : Called). x.function) order c j 0 k))))
    (map_at_end (λ (x : Called). x.callers) order c [] ∙ ap (list_at callers) (sym (map_at_end (λ (x : Called). x.function) order c 0)))
    i at

-- the callers of the topmost function, once all are known, are in the order
pub callers_placed : (callers : List (List ℕ)) (marks : List Mark) (known stack : List ℕ) (order : List Called) (f : ℕ) → IsWalk callers marks known stack order → get_or known f 0 ≡ length (list_at callers f) → All (Contains (functions_of order)) (list_at callers f)
callers_placed callers marks known stack order f w all k d h =
    let lt : k < get_or known f 0 = omega arith in
    subst (Contains (functions_of order)) (get_or_default (list_at callers f) k 0 d h) (w.placed (get_or (list_at callers f) k 0) (w.known_placed f k lt))

pub top_missing : (callers : List (List ℕ)) (marks : List Mark) (known below : List ℕ) (order : List Called) (f : ℕ) → IsWalk callers marks known (f ∷ below) order → Contains (functions_of order) f → ⊥
top_missing callers marks known below order f w c = let e = w.marked f c in let o = w.path.0 in cc

pub placed : (callers : List (List ℕ)) (marks : List Mark) (known below : List ℕ) (order : List Called) (f : ℕ) → IsWalk callers marks known (f ∷ below) order → get_or known f 0 ≡ length (list_at callers f) → IsWalk callers (set marks f Placed) known below (order ++ record { function = f; callers = list_at callers f } ∷ [])
placed callers marks known below order f w all =
    let open_f : mark_of marks f ≡ Open = w.path.0 in
    let h : f < length marks = marked_within marks f (λ e. cc) in
    let c : Called = record { function = f; callers = list_at callers f } in
    let still : (g : ℕ) → mark_of marks g ≡ Placed → mark_of (set marks f Placed) g ≡ Placed = λ g e. mark_still marks f g Placed Placed (λ x. cc) e in
    record {
      marks_length = length-set marks f Placed ∙ w.marks_length;
      known_length = w.known_length;
      placed = λ g e.
          subst (λ (fs : List ℕ). Contains fs g) (sym (functions-push order (record { function = f; callers = list_at callers f })))
          (elim (same_or_not f g) [
            | inl same ↦ subst (Contains (functions_of order ++ f ∷ [])) same (Contains-push (functions_of order) f)
            | inr other ↦ Contains-append_left (functions_of order) (f ∷ []) g (w.placed g (sym (mark_other marks f g Placed (λ x. other (sym x))) ∙ e))
          ]);
      marked = λ g d.
          elim (Contains-push_cases (functions_of order) f g (subst (λ (fs : List ℕ). Contains fs g) (functions-push order (record { function = f; callers = list_at callers f })) d)) [
            | inl before ↦ still g (w.marked g before)
            | inr same ↦ ap (mark_of (set marks f Placed)) (sym same) ∙ mark_same marks f Placed h
          ];
      lists = lists-push callers order f w.lists;
      in_order = order-push order c w.in_order (top_missing callers marks known below order f w) (callers_placed callers marks known (f ∷ below) order f w all);
      known_within = w.known_within;
      known_placed = λ g j k. still (get_or (list_at callers g) j 0) (w.known_placed g j k);
      on_stack = λ g e.
          elim (contains_cases f g below (w.on_stack g (mark_before marks f g Placed Open h (λ x. cc) e))) [
            | inl same ↦ let p : mark_of (set marks f Placed) g ≡ Placed = ap (mark_of (set marks f Placed)) (sym same) ∙ mark_same marks f Placed h in cc
            | inr there ↦ there
          ];
      path = path_still callers marks below f Placed w.path.3 w.path.2;
    }

-- more of a function's callers are known to be in the order
pub known_more : (callers : List (List ℕ)) (marks : List Mark) (known stack : List ℕ) (order : List Called) (f n : ℕ) → IsWalk callers marks known stack order → f < length known → n ≤ length (list_at callers f) → ((j : ℕ) → j < n → mark_of marks (get_or (list_at callers f) j 0) ≡ Placed) → IsWalk callers marks (set known f n) stack order
known_more callers marks known stack order f n w h within all =
    record {
      marks_length = w.marks_length;
      known_length = length-set known f n ∙ w.known_length;
      placed = w.placed;
      marked = w.marked;
      lists = w.lists;
      in_order = w.in_order;
      known_within = λ g.
          elim (same_or_not g f) [
            | inl same ↦ subst (λ (x : ℕ). get_or (set known f n) x 0 ≤ length (list_at callers x)) (sym same) (rw get_or-set_same within)
            | inr other ↦ rw get_or-set_other (w.known_within g)
          ];
      known_placed = λ g j k.
          elim (same_or_not g f) [
            | inl same ↦
                let lt : j < get_or (set known f n) f 0 = subst (λ (x : ℕ). j < get_or (set known f n) x 0) same k in
                let e = get_or-set_same known f n 0 h in
                subst (λ (x : ℕ). mark_of marks (get_or (list_at callers x) j 0) ≡ Placed) (sym same) (all j (omega arith))
            | inr other ↦ let e = get_or-set_other known f g n 0 other in w.known_placed g j (omega arith)
          ];
      on_stack = w.on_stack;
      path = w.path;
    }

-- calls lead from a caller of the topmost function down to each function of the stack
pub leads_down : (callers : List (List ℕ)) (marks : List Mark) (h f : ℕ) (below : List ℕ) (g : ℕ) → CallsTo callers h f → IsOpenPath callers marks (f ∷ below) → Contains (f ∷ below) g → (between : List ℕ) × AreCalledFrom (CallsTo callers) h (between ++ g ∷ [])
leads_down callers marks h f [] g call path c =
    elim (contains_cases f g [] c) [
      | inl e ↦ ([], (subst (CallsTo callers h) e call, tt))
      | inr d ↦ absurd (contains_none g d)
    ]
leads_down callers marks h f (e ∷ below) g call path c =
    elim (contains_cases f g (e ∷ below) c) [
      | inl same ↦ ([], (subst (CallsTo callers h) same call, tt))
      | inr d ↦ let rest = leads_down callers marks f e below g path.1 path.3 d in (f ∷ rest.0, (call, rest.1))
    ]

pub steps_opened : (marks : List Mark) (f : ℕ) → mark_of marks f ≡ New → f < length marks → sum_by steps_of (set marks f Open) + 2 ≡ sum_by steps_of marks
steps_opened marks f new h =
    let e = sum_by-set steps_of marks f Open New h in
    let two : steps_of (mark_of marks f) ≡ 2 = ap steps_of new in
    omega arith

pub steps_placed : (marks : List Mark) (f : ℕ) → mark_of marks f ≡ Open → f < length marks → sum_by steps_of (set marks f Placed) ≡ sum_by steps_of marks
steps_placed marks f is h =
    let e = sum_by-set steps_of marks f Placed New h in
    let none : steps_of (mark_of marks f) ≡ 0 = ap steps_of is in
    omega arith

-- a function that is new after a change of another mark was new before
pub still_new : (marks : List Mark) (f g : ℕ) (m : Mark) → f < length marks → (m ≡ New → ⊥) → mark_of (set marks f m) g ≡ New → mark_of marks g ≡ New
still_new marks f g m h ne e = mark_before marks f g m New h ne e
