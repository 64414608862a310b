-- The calls of a program have a cycle or an order.
use Rattle.std.proofs.Common.{◌≡◌, ◌≢◌, ℕ, zero, suc, ◌+◌, ◌<◌, ◌≤◌, ◌⊎◌, Bool, true, false, List, [], ◌∷◌, ◌++◌, length, map, get_or, set, replicate, refl, ap, sym, ◌∙◌, subst, inl, inr, arith, below_more, append_assoc, length-append}
use Rattle.std.specs.Prelude.{Contains, All, ◌↔◌}
use Rattle.std.specs.List.{AllPairs}
use Rattle.std.proofs.lemmas.Bool.{cases_lt, eqb-true}
use Rattle.std.proofs.lemmas.Bool.Decides.{Decides-eqb}
use Rattle.std.proofs.lemmas.List.{append-nil, length-replicate, get_or-replicate, get_or_past, get_or_default}
use Rattle.std.proofs.lemmas.List.Elements.{Contains-append_left, Contains-push, Contains-push_cases}
use Rattle.std.proofs.lemmas.Map.Steps.{length-le_from_distinct_below}
use Rattle.std.proofs.lemmas.Map.Made.{IsDistinct-from_AllPairs}
use Rattle.std.proofs.lemmas.Map.Views.{Contains-from_any}
use Rattle.cerco_base.specs.CallOrder.{Called, functions_of, callers_at, IsCallOrder}
use Rattle.cerco_base.proofs.CallOrders.{functions-push, map_at, map_at_end, order-push}
use Rattle.call_graph.specs.CallPaths.{Calls, AreCalledFrom, IsOnCycle, IsFirstOnCycle, IsOrderOf}
use Rattle.call_graph.specs.Code.Searches.{IsSeen, IsSearch, Sees, unseen}
use Rattle.call_graph.specs.Code.Walks.{list_at}
use Rattle.call_graph.proofs.Entries.{same_or_not, contains_here, contains_there, contains_cases, contains_none, contains_at, last_cases}
use Rattle.call_graph.proofs.OrderPaths.{length-functions, stands, not_twice}
use Rattle.call_graph.proofs.SearchSteps.{sees_known, sees_new, search_step, search_found, search_over}
use Rattle.clight_layout.specs.Layout.{HasNoCycle}

-- each callee is a function of the program
abbrev pub AreBounded : List (List ℕ) → Type 0
AreBounded callees = (f g : ℕ) → Calls callees f g → g < length callees

-- ---- cycles

-- the goal is among these, or all of them are seen
abbrev Looked : ℕ → List Bool → List ℕ → List ℕ → List ℕ → Type 0
Looked goal s w front rest = Contains rest goal ⊎ ((new : List Bool) × (more : List ℕ) × Sees (front ++ rest) goal s w new more)

abbrev AreWithin : List Bool → List ℕ → Type 0
AreWithin s rest = (c : ℕ) → Contains rest c → c < length s

-- one callee is looked at, and then the others
look_next : (goal : ℕ) (s : List Bool) (w front : List ℕ) (c : ℕ) (rest : List ℕ) → ((seen : List Bool) (work : List ℕ) → Sees (front ++ c ∷ []) goal s w seen work → Looked goal s w (front ++ c ∷ []) rest) → (seen : List Bool) (work : List ℕ) → AreWithin s (c ∷ rest) → Sees front goal s w seen work → Looked goal s w front (c ∷ rest)
look_next goal s w front c rest again seen work within sees =
    elim (same_or_not c goal) [
      | inl e ↦ inl (subst (Contains (c ∷ rest)) e (contains_here c rest))
      | inr ne ↦ by ne (get_or seen c false) refl
    ]
  where
    next : Looked goal s w (front ++ c ∷ []) rest → Looked goal s w front (c ∷ rest)
    next (inl found) = inl (contains_there c goal rest found)
    next (inr new) = inr (new.0, new.1, subst (λ (xs : List ℕ). Sees xs goal s w new.0 new.1) (append_assoc front (c ∷ []) rest) new.2)

    by : c ≢ goal → (b : Bool) → get_or seen c false ≡ b → Looked goal s w front (c ∷ rest)
    by ne true e = next (again seen work (sees_known front goal c s w seen work sees ne e))
    by ne false e =
        let h : c < length seen = let l = sees.seen_length in let k = within c (contains_here c rest) in omega arith in
        next (again (set seen c true) (work ++ c ∷ []) (sees_new front goal c s w seen work sees ne h e))

-- the callees of a function are looked at, one after the other
look : (goal : ℕ) (s : List Bool) (w front rest : List ℕ) (seen : List Bool) (work : List ℕ) → AreWithin s rest → Sees front goal s w seen work → Looked goal s w front rest
look goal s w front [] seen work within sees = inr (seen, work, subst (λ (xs : List ℕ). Sees xs goal s w seen work) (sym (append-nil front)) sees)
look goal s w front (c ∷ rest) seen work within sees =
    look_next goal s w front c rest (λ seen' work' sees'. look goal s w (front ++ c ∷ []) rest seen' work' (λ d h. within d (contains_there c d rest h)) sees') seen work within sees

abbrev OnCycleOrNot : List (List ℕ) → ℕ → Type 0
OnCycleOrNot callees f = IsOnCycle (length callees) (Calls callees) f ⊎ (IsOnCycle (length callees) (Calls callees) f → ⊥)

nothing_yet : (goal : ℕ) (seen : List Bool) (rest : List ℕ) → Sees [] goal seen rest seen rest
nothing_yet goal seen rest =
    record {
      seen_length = refl;
      no_goal = λ c. contains_none goal c;
      all = λ g c. absurd (contains_none g c);
      seen_still = λ g e. e;
      work_still = λ g c. c;
      seen_new = λ g e. inl e;
      work_new = λ g c. inl c;
      steps = refl;
    }

search : (fuel : ℕ) (callees : List (List ℕ)) (goal : ℕ) (seen : List Bool) (work : List ℕ) → AreBounded callees → goal < length callees → IsSearch callees goal seen work → unseen seen + length work ≤ fuel → OnCycleOrNot callees goal
search zero callees goal seen work b h s le =
    elim (last_cases work) [
      | inl none ↦ inr (search_over callees goal seen work (length callees) s none)
      | inr last ↦ absurd (let len : length work ≡ length last.0 + 1 = ap length last.2 ∙ length-append last.0 (last.1 ∷ []) in let never : ⊥ = omega arith in never)
    ]
search (suc fuel) callees goal seen work b h s le =
    elim (last_cases work) [
      | inl none ↦ inr (search_over callees goal seen work (length callees) s none)
      | inr last ↦
          let len : length work ≡ length last.0 + 1 = ap length last.2 ∙ length-append last.0 (last.1 ∷ []) in
          let within : (c : ℕ) → Contains (list_at callees last.1) c → c < length seen = λ c call. let lt = b last.1 c call in let e = s.seen_length in omega arith in
          elim (look goal seen last.0 [] (list_at callees last.1) seen last.0 within (nothing_yet goal seen last.0)) [
            | inl found ↦ inl (search_found callees goal seen work last.0 last.1 (list_at callees last.1) (length callees) s last.2 refl h found)
            | inr new ↦
                let fewer : unseen new.0 + length new.1 ≤ fuel = let e = new.2.steps in omega arith in
                search fuel callees goal new.0 new.1 b h (search_step callees goal seen work last.0 last.1 (list_at callees last.1) new.0 new.1 s last.2 refl new.2) fewer
          ]
    ]

none_seen : (n f : ℕ) → IsSeen (replicate n false) f → ⊥
none_seen n f is =
    elim (cases_lt f n) [
      | inl h ↦ let e : get_or (replicate {A = Bool} n false) f false ≡ false = get_or-replicate n f false false h in cc
      | inr h ↦
          let len : length (replicate {A = Bool} n false) ≡ n = length-replicate n false in
          let e : get_or (replicate {A = Bool} n false) f false ≡ false = get_or_past (replicate n false) f false (omega arith) in
          cc
    ]

begun : (callees : List (List ℕ)) (goal : ℕ) → IsSearch callees goal (replicate (length callees) false) (goal ∷ [])
begun callees goal =
    record {
      seen_length = length-replicate (length callees) false;
      reached = λ g is. absurd (none_seen (length callees) g is);
      met = λ g c. elim (contains_cases goal g [] c) [ inl e ↦ inl (sym e) | inr none ↦ absurd (contains_none g none) ];
      not_back = none_seen (length callees) goal;
      done = λ g m. elim m [ inl e ↦ inl (subst (Contains (goal ∷ [])) (sym e) (contains_here goal [])) | inr is ↦ absurd (none_seen (length callees) g is) ];
    }

on_cycle_or_not : (callees : List (List ℕ)) → AreBounded callees → (f : ℕ) → f < length callees → OnCycleOrNot callees f
on_cycle_or_not callees b f h =
    search (unseen (replicate (length callees) false) + length (f ∷ [])) callees f (replicate (length callees) false) (f ∷ []) b h (begun callees f) (omega arith)

first_below : (callees : List (List ℕ)) → AreBounded callees → (k : ℕ) → k ≤ length callees
    → ((f : ℕ) × IsFirstOnCycle (length callees) (Calls callees) f) ⊎ ((f : ℕ) → f < k → IsOnCycle (length callees) (Calls callees) f → ⊥)
first_below callees b zero h = inr (λ f lt cycle. let never : ⊥ = omega arith in never)
first_below callees b (suc k) h =
    elim (first_below callees b k (omega arith)) [
      | inl found ↦ inl found
      | inr none ↦
          elim (on_cycle_or_not callees b k (omega arith)) [
            | inl cycle ↦ inl (k, record { cycle = cycle; first = none })
            | inr not ↦ inr (λ f lt. below_more (λ (g : ℕ). IsOnCycle (length callees) (Calls callees) g → ⊥) k none not f (omega arith))
          ]
    ]

pub cycle_or_none : (callees : List (List ℕ)) → AreBounded callees → ((f : ℕ) × IsFirstOnCycle (length callees) (Calls callees) f) ⊎ HasNoCycle callees
cycle_or_none callees b =
    elim (first_below callees b (length callees) (omega arith)) [
      | inl found ↦ inl found
      | inr none ↦ inr (λ f cycle. none f cycle.1.0 cycle)
    ]

-- ---- callers

holds : (xs : List ℕ) (x : ℕ) → Contains xs x ⊎ (Contains xs x → ⊥)
holds [] x = inr (λ c. contains_none x c)
holds (y ∷ ys) x =
    elim (same_or_not y x) [
      | inl e ↦ inl (subst (Contains (y ∷ ys)) e (contains_here y ys))
      | inr ne ↦
          elim (holds ys x) [
            | inl c ↦ inl (contains_there y x ys c)
            | inr never ↦ inr (λ c. elim (contains_cases y x ys c) [ inl e ↦ ne e | inr d ↦ never d ])
          ]
    ]

-- all of these are among those, or one is missing
missing : (xs ys : List ℕ) → ((x : ℕ) → Contains xs x → Contains ys x) ⊎ ((x : ℕ) × Contains xs x × (Contains ys x → ⊥))
missing [] ys = inl (λ x c. absurd (contains_none x c))
missing (x ∷ xs) ys =
    elim (holds ys x) [
      | inr never ↦ inr (x, contains_here x xs, never)
      | inl c ↦
          elim (missing xs ys) [
            | inr found ↦ inr (found.0, contains_there x found.0 xs found.1, found.2)
            | inl all ↦ inl (λ z d. elim (contains_cases x z xs d) [ inl e ↦ subst (Contains ys) e c | inr there ↦ all z there ])
          ]
    ]

caller_within : (callees : List (List ℕ)) (f g : ℕ) → Calls callees f g → f < length callees
caller_within callees f g call =
    elim (cases_lt f (length callees)) [
      | inl h ↦ h
      | inr h ↦ absurd (contains_none g (subst (λ (xs : List ℕ). Contains xs g) (get_or_past callees f [] h) call))
    ]

-- those below a number that call a function
record CallersBelow (callees : List (List ℕ)) (g k : ℕ) : Type 0 where
  list : List ℕ
  are : (f : ℕ) → Contains list f ↔ ((f < k) × Calls callees f g)

callers_below : (callees : List (List ℕ)) (g k : ℕ) → CallersBelow callees g k
callers_below callees g zero = record { list = []; are = λ f. (λ c. absurd (contains_none f c), λ h. let lt = h.0 in let never : ⊥ = omega arith in absurd never) }
callers_below callees g (suc k) = by (callers_below callees g k) (holds (list_at callees k) g)
  where
    by : CallersBelow callees g k → Contains (list_at callees k) g ⊎ (Contains (list_at callees k) g → ⊥) → CallersBelow callees g (suc k)
    by r (inl call) =
        record {
          list = r.list ++ k ∷ [];
          are = λ f. (
            λ c. elim (Contains-push_cases r.list k f c) [
              | inl a ↦ let h = (r.are f).0 a in let lt = h.0 in (omega arith, h.1)
              | inr e ↦ (omega arith, subst (λ (x : ℕ). Calls callees x g) e call)
            ],
            λ h. elim (same_or_not f k) [
              | inl e ↦ subst (Contains (r.list ++ k ∷ [])) (sym e) (Contains-push r.list k)
              | inr ne ↦ let lt = h.0 in Contains-append_left r.list (k ∷ []) f ((r.are f).1 (omega arith, h.1))
            ],
          );
        }
    by r (inr never) =
        record {
          list = r.list;
          are = λ f. (
            λ c. let h = (r.are f).0 c in let lt = h.0 in (omega arith, h.1),
            λ h. elim (same_or_not f k) [
              | inl e ↦ absurd (never (subst (λ (x : ℕ). Calls callees x g) e h.1))
              | inr ne ↦ let lt = h.0 in (r.are f).1 (omega arith, h.1)
            ],
          );
        }

record Callers (callees : List (List ℕ)) (g : ℕ) : Type 0 where
  list : List ℕ
  are : (f : ℕ) → Contains list f ↔ Calls callees f g

callers : (callees : List (List ℕ)) (g : ℕ) → Callers callees g
callers callees g =
    let r = callers_below callees g (length callees) in
    record { list = r.list; are = λ f. (λ c. ((r.are f).0 c).1, λ call. (r.are f).1 (caller_within callees f g call, call)) }

-- ---- lists of different numbers

abbrev Apart : List ℕ → Type 0
Apart [] = Unit {0}
Apart (x ∷ xs) = (Contains xs x → ⊥) × Apart xs

pairs_more : (x : ℕ) (xs : List ℕ) → (Contains xs x → ⊥) → AllPairs (λ (a b : ℕ). a ≢ b) xs → (i j d : ℕ) → i < j → j < length (x ∷ xs) → get_or (x ∷ xs) i d ≢ get_or (x ∷ xs) j d
pairs_more x xs new pairs i zero d h k e = let never : ⊥ = omega arith in never
pairs_more x xs new pairs zero (suc j) d h k e =
    let lt : j < length xs = omega arith in
    let is : get_or xs j d ≡ x = sym e in
    new (contains_at xs j x lt (sym (get_or_default xs j d 0 lt) ∙ is))
pairs_more x xs new pairs (suc i) (suc j) d h k e = pairs i j d (omega arith) (omega arith) e

apart_pairs : (xs : List ℕ) → Apart xs → AllPairs (λ (a b : ℕ). a ≢ b) xs
apart_pairs [] apart i j d h k e = let never : ⊥ = omega arith in never
apart_pairs (x ∷ xs) apart i j d h k e = pairs_more x xs apart.0 (apart_pairs xs apart.1) i j d h k e

few_apart : (xs : List ℕ) (n : ℕ) → Apart xs → ((x : ℕ) → Contains xs x → x < n) → length xs ≤ n
few_apart xs n a below =
    length-le_from_distinct_below xs n (IsDistinct-from_AllPairs Decides-eqb xs (apart_pairs xs a))
    (λ q e. below q (Contains-from_any (λ x y t. eqb-true x y t) q xs e))

-- ---- an order, function by function

-- some functions in order, each with all of its callers
record IsBegun (callees : List (List ℕ)) (order : List Called) : Type 0 where
  in_order : IsCallOrder order
  within : (f : ℕ) → Contains (functions_of order) f → f < length callees
  callers : (i : ℕ) → i < length order → (f : ℕ) → Contains (callers_at order i) f ↔ Calls callees f (get_or (functions_of order) i 0)

few : (callees : List (List ℕ)) (order : List Called) → IsBegun callees order → length order ≤ length callees
few callees order is =
    let len : length (functions_of order) ≡ length order = length-functions order in
    let apart : AllPairs (λ (x y : ℕ). x ≢ y) (functions_of order) =
    λ i j d h k e. not_twice order is.in_order (get_or (functions_of order) j d) i j
    (record { within = omega arith; is = get_or_default (functions_of order) i 0 d (omega arith) ∙ e })
    (record { within = omega arith; is = get_or_default (functions_of order) j 0 d k })
    h
    in
    let le : length (functions_of order) ≤ length callees =
    length-le_from_distinct_below (functions_of order) (length callees) (IsDistinct-from_AllPairs Decides-eqb (functions_of order) apart)
    (λ q e. is.within q (Contains-from_any (λ x y t. eqb-true x y t) q (functions_of order) e))
    in
    omega arith

-- a function that isn't in the order, all of whose callers are
record IsReady (callees : List (List ℕ)) (order : List Called) (f : ℕ) : Type 0 where
  within : f < length callees
  new : Contains (functions_of order) f → ⊥
  known : (c : ℕ) → Calls callees c f → Contains (functions_of order) c

begun_more : (callees : List (List ℕ)) (order : List Called) (f : ℕ) → IsBegun callees order → IsReady callees order f → IsBegun callees (order ++ record { function = f; callers = (callers callees f).list } ∷ [])
begun_more callees order f is ready =
    let own = callers callees f in
    let c : Called = record { function = f; callers = own.list } in
    let all : All (Contains (functions_of order)) own.list = λ k d h. ready.known (get_or own.list k d) ((own.are (get_or own.list k d)).0 (contains_at own.list k (get_or own.list k d) h (get_or_default own.list k 0 d h))) in
    let P : ℕ → Type 0 = λ i. (g : ℕ) → Contains (callers_at (order ++ c ∷ []) i) g ↔ Calls callees g (get_or (functions_of (order ++ c ∷ [])) i 0) in
    record {
      in_order = order-push order c is.in_order ready.new all;
      within = λ g d.
          elim (Contains-push_cases (functions_of order) f g (subst (λ (fs : List ℕ). Contains fs g) (functions-push order c) d)) [
            | inl old ↦ is.within g old
            | inr same ↦ let w = ready.within in omega arith
          ];
      callers = λ i h.
          let lt : i < length order + 1 = let e = length-append order (c ∷ []) in omega arith in
          below_more P (length order)
          (λ j k. subst (λ (xs : List ℕ). (g : ℕ) → Contains xs g ↔ Calls callees g (get_or (functions_of (order ++ c ∷ [])) j 0)) (sym (map_at (λ (d : Called). d.callers) order c j [] k))
          (subst (λ (x : ℕ). (g : ℕ) → Contains (callers_at order j) g ↔ Calls callees g x) (sym (map_at (λ (d : Called). d.function) order c j 0 k)) (is.callers j k)))
          (subst (λ (xs : List ℕ). (g : ℕ) → Contains xs g ↔ Calls callees g (get_or (functions_of (order ++ c ∷ [])) (length order) 0)) (sym (map_at_end (λ (d : Called). d.callers) order c []))
          (subst (λ (x : ℕ). (g : ℕ) → Contains own.list g ↔ Calls callees g x) (sym (map_at_end (λ (d : Called). d.function) order c 0)) own.are))
          i lt;
    }

-- a function that isn't in the order has a caller that isn't
abbrev IsStuck : List (List ℕ) → List Called → ℕ → Type 0
IsStuck callees order f = (Contains (functions_of order) f → ⊥) → (c : ℕ) × Calls callees c f × (Contains (functions_of order) c → ⊥)

ready_or_stuck : (callees : List (List ℕ)) (order : List Called) (f : ℕ) → f < length callees → IsReady callees order f ⊎ IsStuck callees order f
ready_or_stuck callees order f h =
    elim (holds (functions_of order) f) [
      | inl there ↦ inr (λ new. absurd (new there))
      | inr new ↦
          let own = callers callees f in
          elim (missing own.list (functions_of order)) [
            | inl all ↦ inl (record { within = h; new = new; known = λ c call. all c ((own.are c).1 call) })
            | inr found ↦ inr (λ new. (found.0, (own.are found.0).0 found.1, found.2))
          ]
    ]

some_ready : (callees : List (List ℕ)) (order : List Called) (k : ℕ) → k ≤ length callees → ((f : ℕ) × IsReady callees order f) ⊎ ((f : ℕ) → f < k → IsStuck callees order f)
some_ready callees order zero h = inr (λ f lt. let never : ⊥ = omega arith in absurd never)
some_ready callees order (suc k) h =
    elim (some_ready callees order k (omega arith)) [
      | inl found ↦ inl found
      | inr stuck ↦
          elim (ready_or_stuck callees order k (omega arith)) [
            | inl ready ↦ inl (k, ready)
            | inr last ↦ inr (λ f lt. below_more (IsStuck callees order) k stuck last f (omega arith))
          ]
    ]

some_missing : (callees : List (List ℕ)) (order : List Called) (k : ℕ) → ((f : ℕ) → f < k → Contains (functions_of order) f) ⊎ ((f : ℕ) × (f < k) × (Contains (functions_of order) f → ⊥))
some_missing callees order zero = inl (λ f lt. let never : ⊥ = omega arith in absurd never)
some_missing callees order (suc k) =
    elim (some_missing callees order k) [
      | inr found ↦ let lt = found.1 in inr (found.0, omega arith, found.2)
      | inl all ↦
          elim (holds (functions_of order) k) [
            | inl there ↦ inl (λ f lt. below_more (Contains (functions_of order)) k all there f (omega arith))
            | inr never ↦ inr (k, omega arith, never)
          ]
    ]

-- calls lead from a function to one that is called later on a path
leads_to : (calls : ℕ → ℕ → Type 0) (h : ℕ) (more : List ℕ) (c : ℕ) → AreCalledFrom calls h more → Contains more c → (between : List ℕ) × AreCalledFrom calls h (between ++ c ∷ [])
leads_to calls h [] c way there = absurd (contains_none c there)
leads_to calls h (m ∷ more) c way there =
    elim (contains_cases m c more there) [
      | inl e ↦ ([], (subst (calls h) e way.0, tt))
      | inr later ↦ let rest = leads_to calls m more c way.1 later in (m ∷ rest.0, (way.0, rest.1))
    ]

-- a path of different functions, of which none is in the order, each with a caller that isn't
record IsLost (callees : List (List ℕ)) (order : List Called) (h : ℕ) (more : List ℕ) : Type 0 where
  way : AreCalledFrom (Calls callees) h more
  apart : Apart (h ∷ more)
  below : (x : ℕ) → Contains (h ∷ more) x → x < length callees
  new : Contains (functions_of order) h → ⊥

closed : (callees : List (List ℕ)) (order : List Called) (h : ℕ) (more : List ℕ) (c : ℕ) → IsLost callees order h more → c < length callees → Calls callees c h → Contains (h ∷ more) c → IsOnCycle (length callees) (Calls callees) c
closed callees order h more c lost within call there =
    elim (contains_cases h c more there) [
      | inl e ↦ ([], (within, (subst (Calls callees c) e call, tt)))
      | inr later ↦ let rest = leads_to (Calls callees) h more c lost.way later in (h ∷ rest.0, (within, (call, rest.1)))
    ]

-- where each is stuck and there is no cycle, there are such paths of any length
lost : (callees : List (List ℕ)) (order : List Called) → HasNoCycle callees → ((f : ℕ) → f < length callees → IsStuck callees order f) → (f : ℕ) → f < length callees → (Contains (functions_of order) f → ⊥) → (k : ℕ) → (h : ℕ) × (more : List ℕ) × IsLost callees order h more × (length more ≡ k)
lost callees order none stuck f within new zero =
    (f, [], record { way = tt; apart = (λ c. contains_none f c, tt); below = λ x c. elim (contains_cases f x [] c) [ inl e ↦ omega arith | inr d ↦ absurd (contains_none x d) ]; new = new }, refl)
lost callees order none stuck f within new (suc k) =
    let r = lost callees order none stuck f within new k in
    let s = stuck r.0 (r.2.below r.0 (contains_here r.0 r.1)) r.2.new in
    let lt : s.0 < length callees = caller_within callees s.0 r.0 s.1 in
    let e : length r.1 ≡ k = r.3 in (
      s.0,
      r.0 ∷ r.1,
      record {
        way = (s.1, r.2.way);
        apart = (λ c. none s.0 (closed callees order r.0 r.1 s.0 r.2 lt s.1 c), r.2.apart);
        below = λ x c. elim (contains_cases s.0 x (r.0 ∷ r.1) c) [ inl same ↦ omega arith | inr d ↦ r.2.below x d ];
        new = s.2;
      },
      ap suc e,
    )

not_stuck : (callees : List (List ℕ)) (order : List Called) → HasNoCycle callees → ((f : ℕ) → f < length callees → IsStuck callees order f) → (f : ℕ) → f < length callees → (Contains (functions_of order) f → ⊥) → ⊥
not_stuck callees order none stuck f within new =
    let r = lost callees order none stuck f within new (length callees) in
    let le = few_apart (r.0 ∷ r.1) (length callees) r.2.apart r.2.below in
    let e = r.3 in
    omega arith

whole : (callees : List (List ℕ)) (order : List Called) → AreBounded callees → IsBegun callees order → ((f : ℕ) → f < length callees → Contains (functions_of order) f) → IsOrderOf callees order
whole callees order b is all =
    record {
      functions = λ f. (is.within f, all f);
      calls = λ f g. (
        λ call. subst (Calls callees f) call.2 ((is.callers call.0 call.1 f).0 call.3),
        λ call.
            let at = stands order g (all g (b f g call)) in
            (at.0, at.1.within, at.1.is, (is.callers at.0 at.1.within f).1 (subst (Calls callees f) (sym at.1.is) call)),
      );
      in_order = is.in_order;
    }

grown : (fuel : ℕ) (callees : List (List ℕ)) (order : List Called) → AreBounded callees → HasNoCycle callees → IsBegun callees order → length callees < length order + fuel → (all : List Called) × IsOrderOf callees all
grown zero callees order b none is h = let le = few callees order is in let never : ⊥ = omega arith in absurd never
grown (suc fuel) callees order b none is h =
    elim (some_missing callees order (length callees)) [
      | inl all ↦ (order, whole callees order b is all)
      | inr found ↦
          elim (some_ready callees order (length callees) (omega arith)) [
            | inr stuck ↦ absurd (not_stuck callees order none stuck found.0 found.1 found.2)
            | inl ready ↦
                let c : Called = record { function = ready.0; callers = (callers callees ready.0).list } in
                let len : length (order ++ c ∷ []) ≡ length order + 1 = length-append order (c ∷ []) in
                grown fuel callees (order ++ c ∷ []) b none (begun_more callees order ready.0 is ready.1) (omega arith)
          ]
    ]

empty : (callees : List (List ℕ)) → IsBegun callees []
empty callees =
    record {
      in_order = record { once = λ i h c. let never : ⊥ = omega arith in never; callers_before = λ i h. let never : ⊥ = omega arith in absurd never };
      within = λ f c. absurd (contains_none f c);
      callers = λ i h. let never : ⊥ = omega arith in absurd never;
    }

pub some_order : (callees : List (List ℕ)) → AreBounded callees → HasNoCycle callees → (order : List Called) × IsOrderOf callees order
some_order callees b none = grown (suc (length callees)) callees [] b none (empty callees) (omega arith)
