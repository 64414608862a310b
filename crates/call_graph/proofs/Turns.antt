-- One step of the walk, at the topmost function of the stack.
use Rattle.std.proofs.Common.{◌≡◌, ℕ, ◌+◌, ◌<◌, ◌≤◌, List, [], ◌∷◌, ◌++◌, length, get_or, set, reverse, refl, ap, sym, ◌∙◌, subst, inl, inr, arith, length-append}
use Rattle.std.specs.Prelude.{Contains, All}
use Rattle.std.specs.List.{sum_by}
use Rattle.std.proofs.lemmas.List.{reverse-append, length-map, get_or-map, get_or_past, get_or_default, get_or-set_same, get_or_read}
use Rattle.std.proofs.lemmas.Bool.{cases_lt}
use Rattle.cerco_base.specs.CallOrder.{Called, functions_of}
use Rattle.call_graph.specs.CallPaths.{IsOnCycle}
use Rattle.call_graph.specs.Code.Nodes.{callees_of, callers_of, CallsTo, AreNodes}
use Rattle.call_graph.specs.Code.Walks.{list_at, mark_of, IsWalk, IsWalkOf, Opens, Places, Steps, steps_of, IsUnderWay, IsOrderByCallers}
use Rattle.call_graph.specs.declared.nodes.Node.{Node}
use Rattle.call_graph.specs.declared.walk.Walk.{Walk}
use Rattle.call_graph.specs.declared.walk.Mark.{Mark}
use Rattle.call_graph.specs.declared.walk.Mark.TheVariants.{New, Open, Placed}
use Rattle.call_graph.proofs.Entries.{contains_at, contains_none}
use Rattle.call_graph.proofs.WalkSteps.{is_placed, marked_within, opened, placed, known_more, leads_down, top_missing, steps_opened, steps_placed, still_new}

pub reverse-push : (xs : List ℕ) (x : ℕ) → reverse (xs ++ x ∷ []) ≡ x ∷ reverse xs
reverse-push xs x = reverse-append xs (x ∷ [])

pub is_open : (m : Mark) → (m ≡ Placed → ⊥) → (m ≡ New → ⊥) → m ≡ Open
is_open New a b = absurd (b refl)
is_open Open a b = refl
is_open Placed a b = absurd (a refl)

pub length-callers : (nodes : List Node) → length (callers_of nodes) ≡ length nodes
length-callers nodes = length-map nodes (λ (n : Node). n.callers.items)

pub length-callees : (nodes : List Node) → length (callees_of nodes) ≡ length nodes
length-callees nodes = length-map nodes (λ (n : Node). n.callees.items)

-- a function with callers is one of the program, and so is a caller
pub caller_within : (nodes : List Node) → AreNodes nodes → (f g : ℕ) → CallsTo (callers_of nodes) f g → f < length nodes
caller_within nodes are f g c =
    let call = are.calling f g c in
    elim (cases_lt f (length nodes)) [
      | inl h ↦ h
      | inr h ↦
          let none : list_at (callees_of nodes) f ≡ [] = let e = length-callees nodes in get_or_past (callees_of nodes) f [] (omega arith) in
          absurd (contains_none g (subst (λ (xs : List ℕ). Contains xs g) none call))
    ]

-- the walk at its topmost function, of which the callers are these
pub record IsAtTop (nodes : List Node) (w : Walk) (top : ℕ) (list below : List ℕ) : Type 0 where
  pub graph : AreNodes nodes
  pub walk : IsWalk (callers_of nodes) w.marks.items w.known.items (top ∷ reverse below) w.order
  pub stack : w.stack.items ≡ below ++ top ∷ []
  pub callers : list ≡ list_at (callers_of nodes) top

top_within : (nodes : List Node) (w : Walk) (top : ℕ) (below : List ℕ) → IsWalkOf (callers_of nodes) w → w.stack.items ≡ below ++ top ∷ [] → top < length nodes
top_within nodes w top below walk stack =
    let at = subst (λ (s : List ℕ). IsWalk (callers_of nodes) w.marks.items w.known.items s w.order) (ap reverse stack ∙ reverse-push below top) walk in
    let is_open_top : mark_of w.marks.items top ≡ Open = at.path.0 in
    let h = marked_within w.marks.items top (λ e. cc) in
    let e = at.marks_length in
    let l = length-callers nodes in
    omega arith

pub at_top : (nodes : List Node) (w : Walk) (top : ℕ) (list below : List ℕ) (n : Node) → AreNodes nodes → IsWalkOf (callers_of nodes) w → w.stack.items ≡ below ++ top ∷ [] → list ≡ (get_or nodes top n).callers.items → IsAtTop nodes w top list below
at_top nodes w top list below n are walk stack list_is =
    let h = top_within nodes w top below walk stack in
    record {
      graph = are;
      walk = subst (λ (s : List ℕ). IsWalk (callers_of nodes) w.marks.items w.known.items s w.order) (ap reverse stack ∙ reverse-push below top) walk;
      stack = stack;
      callers = list_is ∙ sym (get_or-map (λ (x : Node). x.callers.items) nodes top n [] h);
    }

-- each of the callers has a mark
pub callers_marked : (nodes : List Node) (w : Walk) (top : ℕ) (list below : List ℕ) → IsAtTop nodes w top list below → All (λ c. c < length w.marks.items) list
callers_marked nodes w top list below at k d h =
    let call : CallsTo (callers_of nodes) (get_or list k d) top = subst (λ (xs : List ℕ). Contains xs (get_or list k d)) at.callers (contains_at list k (get_or list k d) h (get_or_default list k 0 d h)) in
    let lt = caller_within nodes at.graph (get_or list k d) top call in
    let e = at.walk.marks_length in
    let l = length-callers nodes in
    omega arith

known_in_list : (nodes : List Node) (w : Walk) (top : ℕ) (list below : List ℕ) → IsAtTop nodes w top list below → get_or w.known.items top 0 ≤ length list
known_in_list nodes w top list below at = subst (λ (xs : List ℕ). get_or w.known.items top 0 ≤ length xs) (sym at.callers) (at.walk.known_within top)

known_of_list : (nodes : List Node) (w : Walk) (top : ℕ) (list below : List ℕ) → IsAtTop nodes w top list below → (j : ℕ) → j < get_or w.known.items top 0 → mark_of w.marks.items (get_or list j 0) ≡ Placed
known_of_list nodes w top list below at j h = subst (λ (xs : List ℕ). mark_of w.marks.items (get_or xs j 0) ≡ Placed) (sym at.callers) (at.walk.known_placed top j h)

-- what is read of the callers that are known to be in the order
pub known_read : (nodes : List Node) (w : Walk) (top : ℕ) (list below : List ℕ) → IsAtTop nodes w top list below → (x : ℕ) → x ≡ get_or w.known.items top x → (x ≤ length list) × ((j : ℕ) → j < x → mark_of w.marks.items (get_or list j 0) ≡ Placed)
known_read nodes w top list below at x is =
    let is_open_top : mark_of w.marks.items top ≡ Open = at.walk.path.0 in
    let h = marked_within w.marks.items top (λ e. cc) in
    let e = at.walk.marks_length in
    let k = at.walk.known_length in
    let same : x ≡ get_or w.known.items top 0 = get_or_read w.known.items top x (omega arith) is 0 in
    let le = known_in_list nodes w top list below at in
    (omega arith, λ j lt. known_of_list nodes w top list below at j (omega arith))

-- the walk with what is known of the topmost function brought up to date
known_now : (nodes : List Node) (w : Walk) (top n : ℕ) (list below : List ℕ) → IsAtTop nodes w top list below → n ≤ length list → ((j : ℕ) → j < n → mark_of w.marks.items (get_or list j 0) ≡ Placed) → IsWalk (callers_of nodes) w.marks.items (set w.known.items top n) (top ∷ reverse below) w.order
known_now nodes w top n list below at within all =
    let is_open_top : mark_of w.marks.items top ≡ Open = at.walk.path.0 in
    let h = marked_within w.marks.items top (λ e. cc) in
    let e = at.walk.marks_length in
    let k = at.walk.known_length in
    known_more (callers_of nodes) w.marks.items w.known.items (top ∷ reverse below) w.order top n at.walk (omega arith) (subst (λ (xs : List ℕ). n ≤ length xs) at.callers within) (subst (λ (xs : List ℕ). (j : ℕ) → j < n → mark_of w.marks.items (get_or xs j 0) ≡ Placed) at.callers all)

-- the walk to which the step comes, in parts
walk_from : (callers : List (List ℕ)) (w : Walk) (marks : List Mark) (known stack : List ℕ) (order : List Called) → w.marks.items ≡ marks → w.known.items ≡ known → reverse w.stack.items ≡ stack → w.order ≡ order → IsWalk callers marks known stack order → IsWalkOf callers w
walk_from callers w marks known stack order m k s o walk = rw (m, k, s, o) walk

pub all_known : (nodes : List Node) (w : Walk) (top : ℕ) (list below : List ℕ) → IsAtTop nodes w top list below → ((j : ℕ) → j < length list → mark_of w.marks.items (get_or list j 0) ≡ Placed) → All (Contains (functions_of w.order)) list
all_known nodes w top list below at all k d h = subst (Contains (functions_of w.order)) (get_or_default list k 0 d h) (at.walk.placed (get_or list k 0) (all k h))

pub top_not_placed : (nodes : List Node) (w : Walk) (top : ℕ) (list below : List ℕ) → IsAtTop nodes w top list below → Contains (functions_of w.order) top → ⊥
top_not_placed nodes w top list below at c = top_missing (callers_of nodes) w.marks.items w.known.items (reverse below) w.order top at.walk c

-- the topmost function goes into the order
pub turn_places : (nodes : List Node) (w mid new : Walk) (top n : ℕ) (list below : List ℕ) → IsAtTop nodes w top list below → n ≡ length list → ((j : ℕ) → j < n → mark_of w.marks.items (get_or list j 0) ≡ Placed) → mid.marks.items ≡ w.marks.items → mid.known.items ≡ set w.known.items top n → mid.stack.items ≡ w.stack.items → mid.order ≡ w.order → Places top list mid new → Steps (callers_of nodes) w new
turn_places nodes w mid new top n list below at whole all m k s o places =
    let is_open_top : mark_of w.marks.items top ≡ Open = at.walk.path.0 in
    let h = marked_within w.marks.items top (λ e. cc) in
    let kl = at.walk.known_length in
    let ml = at.walk.marks_length in
    let now = known_now nodes w top n list below at (omega arith) all in
    let below_is = places.stack below (s ∙ at.stack) in
    let marks_is : new.marks.items ≡ set w.marks.items top Placed = places.marks ∙ ap (λ (ms : List Mark). set ms top Placed) m in
    let known_is : get_or (set w.known.items top n) top 0 ≡ length (list_at (callers_of nodes) top) = get_or-set_same w.known.items top n 0 (omega arith) ∙ (whole ∙ ap length at.callers) in
    let order_is : new.order ≡ w.order ++ record { function = top; callers = list_at (callers_of nodes) top } ∷ [] = places.order ∙ (ap (λ (os : List Called). os ++ record { function = top; callers = list } ∷ []) o ∙ ap (λ (xs : List ℕ). w.order ++ record { function = top; callers = xs } ∷ []) at.callers) in
    record {
      walk = walk_from (callers_of nodes) new (set w.marks.items top Placed) (set w.known.items top n) (reverse below) (w.order ++ record { function = top; callers = list_at (callers_of nodes) top } ∷ []) marks_is (places.known ∙ k) (ap reverse below_is) order_is
          (placed (callers_of nodes) w.marks.items (set w.known.items top n) (reverse below) w.order top now known_is);
      nearer =
          let sum = ap (sum_by steps_of) marks_is ∙ steps_placed w.marks.items top is_open_top h in
          let old : length w.stack.items ≡ length below + 1 = ap length at.stack ∙ length-append below (top ∷ []) in
          let less : length new.stack.items ≡ length below = ap length below_is in
          omega arith;
      met = λ g e. still_new w.marks.items top g Placed h (λ x. cc) (sym (ap (λ (ms : List Mark). mark_of ms g) marks_is) ∙ e);
    }

-- a caller of the topmost function comes on the stack
pub turn_opens : (nodes : List Node) (w mid new : Walk) (top n : ℕ) (list below : List ℕ) → IsAtTop nodes w top list below → n < length list → ((j : ℕ) → j < n → mark_of w.marks.items (get_or list j 0) ≡ Placed) → mark_of w.marks.items (get_or list n 0) ≡ New → mid.marks.items ≡ w.marks.items → mid.known.items ≡ set w.known.items top n → mid.stack.items ≡ w.stack.items → mid.order ≡ w.order → Opens (get_or list n 0) mid new → Steps (callers_of nodes) w new
turn_opens nodes w mid new top n list below at within all is_new m k s o opens =
    let now = known_now nodes w top n list below at (omega arith) all in
    let h : get_or list n 0 < length w.marks.items = callers_marked nodes w top list below at n 0 within in
    let call : CallsTo (callers_of nodes) (get_or list n 0) top = subst (λ (xs : List ℕ). Contains xs (get_or list n 0)) at.callers (contains_at list n (get_or list n 0) within refl) in
    let marks_is : new.marks.items ≡ set w.marks.items (get_or list n 0) Open = opens.marks ∙ ap (λ (ms : List Mark). set ms (get_or list n 0) Open) m in
    let stack_is : new.stack.items ≡ w.stack.items ++ get_or list n 0 ∷ [] = opens.stack ∙ ap (λ (xs : List ℕ). xs ++ get_or list n 0 ∷ []) s in
    let reversed : reverse new.stack.items ≡ get_or list n 0 ∷ (top ∷ reverse below) = ap reverse stack_is ∙ (reverse-push w.stack.items (get_or list n 0) ∙ ap (λ (xs : List ℕ). get_or list n 0 ∷ xs) (ap reverse at.stack ∙ reverse-push below top)) in
    record {
      walk = walk_from (callers_of nodes) new (set w.marks.items (get_or list n 0) Open) (set w.known.items top n) (get_or list n 0 ∷ (top ∷ reverse below)) w.order marks_is (opens.known ∙ k) reversed (opens.order ∙ o)
          (opened (callers_of nodes) w.marks.items (set w.known.items top n) (top ∷ reverse below) w.order (get_or list n 0) now is_new h call);
      nearer =
          let sum = steps_opened w.marks.items (get_or list n 0) is_new h in
          let same = ap (sum_by steps_of) marks_is in
          let more : length new.stack.items ≡ length w.stack.items + 1 = ap length stack_is ∙ length-append w.stack.items (get_or list n 0 ∷ []) in
          omega arith;
      met = λ g e. still_new w.marks.items (get_or list n 0) g Open h (λ x. cc) (sym (ap (λ (ms : List Mark). mark_of ms g) marks_is) ∙ e);
    }

-- a caller that is on the stack is on a cycle
pub turn_cycles : (nodes : List Node) (w : Walk) (top n : ℕ) (list below : List ℕ) → IsAtTop nodes w top list below → n < length list → mark_of w.marks.items (get_or list n 0) ≡ Open → IsOnCycle (length nodes) (CallsTo (callers_of nodes)) (get_or list n 0)
turn_cycles nodes w top n list below at within is =
    let call : CallsTo (callers_of nodes) (get_or list n 0) top = subst (λ (xs : List ℕ). Contains xs (get_or list n 0)) at.callers (contains_at list n (get_or list n 0) within refl) in
    let down = leads_down (callers_of nodes) w.marks.items (get_or list n 0) top (reverse below) (get_or list n 0) call at.walk.path (at.walk.on_stack (get_or list n 0) is) in
    (down.0, (caller_within nodes at.graph (get_or list n 0) top call, down.1))

-- the first function comes on the stack
pub first_opens : (callers : List (List ℕ)) (w mid new : Walk) (f : ℕ) → IsWalkOf callers w → w.stack.items ≡ [] → f < length callers → mark_of w.marks.items f ≡ New → mid.marks.items ≡ w.marks.items → mid.known.items ≡ w.known.items → mid.stack.items ≡ w.stack.items → mid.order ≡ w.order → Opens f mid new → IsUnderWay callers f w new
first_opens callers w mid new f walk none within is_new m k s o opens =
    let e = walk.marks_length in
    let h : f < length w.marks.items = omega arith in
    let marks_is : new.marks.items ≡ set w.marks.items f Open = opens.marks ∙ ap (λ (ms : List Mark). set ms f Open) m in
    let stack_is : new.stack.items ≡ [] ++ f ∷ [] = opens.stack ∙ ap (λ (xs : List ℕ). xs ++ f ∷ []) (s ∙ none) in
    let at = subst (λ (xs : List ℕ). IsWalk callers w.marks.items w.known.items xs w.order) (ap reverse none) walk in
    let open_f : mark_of (set w.marks.items f Open) f ≡ Open = get_or-set_same w.marks.items f Open New h in
    record {
      walk = walk_from callers new (set w.marks.items f Open) w.known.items (f ∷ []) w.order marks_is (opens.known ∙ k) (ap reverse stack_is) (opens.order ∙ o)
          (opened callers w.marks.items w.known.items [] w.order f at is_new h tt);
      met = λ g x. still_new w.marks.items f g Open h (λ y. cc) (sym (ap (λ (ms : List Mark). mark_of ms g) marks_is) ∙ x);
      begun = λ x. let y : mark_of new.marks.items f ≡ Open = ap (λ (ms : List Mark). mark_of ms f) marks_is ∙ open_f in cc;
    }

-- where the stack is empty, each function is new or in the order
pub placed_at_rest : (callers : List (List ℕ)) (w : Walk) (f : ℕ) → IsWalkOf callers w → w.stack.items ≡ [] → (mark_of w.marks.items f ≡ New → ⊥) → mark_of w.marks.items f ≡ Placed
placed_at_rest callers w f walk none met = is_placed (mark_of w.marks.items f) met (λ e. contains_none f (subst (λ (xs : List ℕ). Contains xs f) (ap reverse none) (walk.on_stack f e)))

-- the order of a walk that has placed each function
pub order_at_rest : (callers : List (List ℕ)) (w : Walk) → IsWalkOf callers w → ((f : ℕ) → f < length callers → mark_of w.marks.items f ≡ Placed) → IsOrderByCallers callers w.order
order_at_rest callers w walk all =
    record {
      functions = λ f. (λ c. let p = walk.marked f c in let h = marked_within w.marks.items f (λ e. cc) in let e = walk.marks_length in omega arith, λ h. walk.placed f (all f h));
      lists = walk.lists;
      in_order = walk.in_order;
    }
