-- What a search along the calls keeps, and what its end says.
use Rattle.std.proofs.Common.{◌≡◌, ℕ, ◌+◌, ◌<◌, ◌⊎◌, Bool, true, false, cond, List, [], ◌∷◌, ◌++◌, length, get_or, set, refl, ap, sym, ◌∙◌, subst, inl, inr, arith, length-append}
use Rattle.std.specs.Prelude.{Contains, All}
use Rattle.std.proofs.lemmas.Bool.{cases_lt}
use Rattle.std.proofs.lemmas.List.{get_or_past, get_or-set_same, get_or-set_other, length-set, get_or_default, get_or-map}
use Rattle.std.proofs.lemmas.List.Elements.{Contains-append_left, Contains-push, Contains-push_cases}
use Rattle.std.proofs.lemmas.List.Sums.{sum_by-set}
use Rattle.call_graph.specs.CallPaths.{Calls, AreCalledFrom, IsOnCycle}
use Rattle.call_graph.specs.Code.Nodes.{callees_of, AreNodes}
use Rattle.call_graph.specs.Code.Searches.{IsSeen, Reaches, IsSearch, Sees, unseen}
use Rattle.call_graph.specs.Code.Walks.{list_at}
use Rattle.call_graph.specs.declared.nodes.Node.{Node}
use Rattle.call_graph.proofs.Entries.{same_or_not, contains_none, contains_at}
use Rattle.call_graph.proofs.Paths.{called-push}
use Rattle.call_graph.proofs.Turns.{length-callees}

seen_within : (seen : List Bool) (f : ℕ) → IsSeen seen f → f < length seen
seen_within seen f is =
    elim (cases_lt f (length seen)) [
      | inl h ↦ h
      | inr h ↦ let none = get_or_past seen f false h in absurd cc
    ]

-- a callee that was seen already
pub sees_known : (xs : List ℕ) (goal c : ℕ) (s : List Bool) (w : List ℕ) (seen : List Bool) (work : List ℕ) → Sees xs goal s w seen work → (c ≡ goal → ⊥) → IsSeen seen c → Sees (xs ++ c ∷ []) goal s w seen work
sees_known xs goal c s w seen work sees other is =
    record {
      seen_length = sees.seen_length;
      no_goal = λ d. elim (Contains-push_cases xs c goal d) [ inl a ↦ sees.no_goal a | inr e ↦ other e ];
      all = λ g d. elim (Contains-push_cases xs c g d) [ inl a ↦ sees.all g a | inr e ↦ subst (IsSeen seen) e is ];
      seen_still = sees.seen_still;
      work_still = sees.work_still;
      seen_new = λ g e. elim (sees.seen_new g e) [ inl a ↦ inl a | inr a ↦ inr (Contains-append_left xs (c ∷ []) g a.0, a.1) ];
      work_new = sees.work_new;
      steps = sees.steps;
    }

-- a callee that is new
pub sees_new : (xs : List ℕ) (goal c : ℕ) (s : List Bool) (w : List ℕ) (seen : List Bool) (work : List ℕ) → Sees xs goal s w seen work → (c ≡ goal → ⊥) → c < length seen → get_or seen c false ≡ false → Sees (xs ++ c ∷ []) goal s w (set seen c true) (work ++ c ∷ [])
sees_new xs goal c s w seen work sees other within is_new =
    let here : IsSeen (set seen c true) c = get_or-set_same seen c true false within in
    let still : (g : ℕ) → IsSeen seen g → IsSeen (set seen c true) g =
    λ g e. elim (same_or_not g c) [
      | inl same ↦ subst (IsSeen (set seen c true)) (sym same) here
      | inr ne ↦ get_or-set_other seen c g true false ne ∙ e
    ]
    in
    let before : (g : ℕ) → IsSeen (set seen c true) g → (c ≡ g) ⊎ IsSeen seen g =
    λ g e. elim (same_or_not g c) [
      | inl same ↦ inl (sym same)
      | inr ne ↦ inr (sym (get_or-set_other seen c g true false ne) ∙ e)
    ]
    in
    record {
      seen_length = length-set seen c true ∙ sees.seen_length;
      no_goal = λ d. elim (Contains-push_cases xs c goal d) [ inl a ↦ sees.no_goal a | inr e ↦ other e ];
      all = λ g d. elim (Contains-push_cases xs c g d) [ inl a ↦ still g (sees.all g a) | inr e ↦ subst (IsSeen (set seen c true)) e here ];
      seen_still = λ g e. still g (sees.seen_still g e);
      work_still = λ g d. Contains-append_left work (c ∷ []) g (sees.work_still g d);
      seen_new = λ g e.
          elim (before g e) [
            | inl same ↦ inr (subst (Contains (xs ++ c ∷ [])) same (Contains-push xs c), subst (Contains (work ++ c ∷ [])) same (Contains-push work c))
            | inr old ↦ elim (sees.seen_new g old) [ inl a ↦ inl a | inr a ↦ inr (Contains-append_left xs (c ∷ []) g a.0, Contains-append_left work (c ∷ []) g a.1) ]
          ];
      work_new = λ g d.
          elim (Contains-push_cases work c g d) [
            | inl a ↦ elim (sees.work_new g a) [ inl b ↦ inl b | inr b ↦ inr (still g b) ]
            | inr e ↦ inr (subst (IsSeen (set seen c true)) e here)
          ];
      steps =
          let e : unseen (set seen c true) + cond {A = ℕ} (get_or seen c false) 0 1 ≡ unseen seen + 0 = sum_by-set (λ (b : Bool). cond {A = ℕ} b 0 1) seen c true false within in
          let one : cond {A = ℕ} (get_or seen c false) 0 1 ≡ 1 = ap (λ (b : Bool). cond {A = ℕ} b 0 1) is_new in
          let len : length (work ++ c ∷ []) ≡ length work + 1 = length-append work (c ∷ []) in
          let old = sees.steps in
          omega arith;
    }

-- what is met leads on
reaches_next : (callees : List (List ℕ)) (goal : ℕ) (seen : List Bool) (work : List ℕ) → IsSearch callees goal seen work → (f g : ℕ) → (f ≡ goal) ⊎ IsSeen seen f → Calls callees f g → Reaches callees goal g
reaches_next callees goal seen work search f g met call =
    elim met [
      | inl e ↦ ([], (subst (λ (x : ℕ). Calls callees x g) e call, tt))
      | inr is ↦ let r = search.reached f is in (r.0 ++ f ∷ [], called-push (Calls callees) goal r.0 f g r.1 call)
    ]

pub from_met : (callees : List (List ℕ)) (goal : ℕ) (seen : List Bool) (work rest : List ℕ) (from : ℕ) → IsSearch callees goal seen work → work ≡ rest ++ from ∷ [] → (from ≡ goal) ⊎ IsSeen seen from
from_met callees goal seen work rest from search taken = search.met from (subst (λ (xs : List ℕ). Contains xs from) (sym taken) (Contains-push rest from))

pub search_step : (callees : List (List ℕ)) (goal : ℕ) (seen : List Bool) (work rest : List ℕ) (from : ℕ) (list : List ℕ) (new : List Bool) (more : List ℕ) → IsSearch callees goal seen work → work ≡ rest ++ from ∷ [] → list ≡ list_at callees from → Sees list goal seen rest new more → IsSearch callees goal new more
search_step callees goal seen work rest from list new more search taken is sees =
    let met = from_met callees goal seen work rest from search taken in
    let to_list : (g : ℕ) → Contains list g → Calls callees from g = λ g c. subst (λ (xs : List ℕ). Contains xs g) is c in
    let of_list : (g : ℕ) → Calls callees from g → Contains list g = λ g c. subst (λ (xs : List ℕ). Contains xs g) (sym is) c in
    let was_done : (g : ℕ) → (g ≡ goal) ⊎ IsSeen seen g → Contains more g ⊎ ((h : ℕ) → Calls callees g h → IsSeen new h) =
    λ g m. elim (search.done g m) [
      | inl c ↦
          elim (Contains-push_cases rest from g (subst (λ (xs : List ℕ). Contains xs g) taken c)) [
            | inl a ↦ inl (sees.work_still g a)
            | inr e ↦ inr (λ h call. sees.all h (of_list h (subst (λ (x : ℕ). Calls callees x h) (sym e) call)))
          ]
      | inr all ↦ inr (λ h call. sees.seen_still h (all h call))
    ]
    in
    record {
      seen_length = sees.seen_length ∙ search.seen_length;
      reached = λ g e.
          elim (sees.seen_new g e) [
            | inl old ↦ search.reached g old
            | inr a ↦ reaches_next callees goal seen work search from g met (to_list g a.0)
          ];
      met = λ g c.
          elim (sees.work_new g c) [
            | inl a ↦
                elim (search.met g (subst (λ (xs : List ℕ). Contains xs g) (sym taken) (Contains-append_left rest (from ∷ []) g a))) [
                  | inl e ↦ inl e
                  | inr e ↦ inr (sees.seen_still g e)
                ]
            | inr e ↦ inr e
          ];
      not_back = λ e.
          elim (sees.seen_new goal e) [
            | inl old ↦ search.not_back old
            | inr a ↦ sees.no_goal a.0
          ];
      done = λ g m.
          elim m [
            | inl e ↦ was_done g (inl e)
            | inr e ↦
                elim (sees.seen_new g e) [
                  | inl old ↦ was_done g (inr old)
                  | inr a ↦ inl a.1
                ]
          ];
    }

pub search_found : (callees : List (List ℕ)) (goal : ℕ) (seen : List Bool) (work rest : List ℕ) (from : ℕ) (list : List ℕ) (functions : ℕ) → IsSearch callees goal seen work → work ≡ rest ++ from ∷ [] → list ≡ list_at callees from → goal < functions → Contains list goal → IsOnCycle functions (Calls callees) goal
search_found callees goal seen work rest from list functions search taken is within c =
    let met = from_met callees goal seen work rest from search taken in
    let way = reaches_next callees goal seen work search from goal met (subst (λ (xs : List ℕ). Contains xs goal) is c) in
    (way.0, (within, way.1))

-- once there is no work left, whatever is reached is seen
all_seen : (callees : List (List ℕ)) (goal : ℕ) (seen : List Bool) → IsSearch callees goal seen [] → (f : ℕ) (path : List ℕ) (g : ℕ) → (f ≡ goal) ⊎ IsSeen seen f → AreCalledFrom (Calls callees) f (path ++ g ∷ []) → IsSeen seen g
all_seen callees goal seen search f [] g met way = elim (search.done f met) [ inl c ↦ absurd (contains_none f c) | inr all ↦ all g way.0 ]
all_seen callees goal seen search f (h ∷ path) g met way =
    let next : IsSeen seen h = elim (search.done f met) [ inl c ↦ absurd (contains_none f c) | inr all ↦ all h way.0 ] in
    all_seen callees goal seen search h path g (inr next) way.1

pub search_over : (callees : List (List ℕ)) (goal : ℕ) (seen : List Bool) (work : List ℕ) (functions : ℕ) → IsSearch callees goal seen work → work ≡ [] → IsOnCycle functions (Calls callees) goal → ⊥
search_over callees goal seen work functions search none cycle =
    let rest = subst (IsSearch callees goal seen) none search in
    rest.not_back (all_seen callees goal seen rest goal cycle.0 goal (inl refl) cycle.1.1)

-- the function whose callees are looked at, and these, are functions of the program
pub from_within : (nodes : List Node) (goal : ℕ) (seen : List Bool) (work rest : List ℕ) (from : ℕ) → IsSearch (callees_of nodes) goal seen work → work ≡ rest ++ from ∷ [] → goal < length nodes → from < length nodes
from_within nodes goal seen work rest from search taken within =
    elim (from_met (callees_of nodes) goal seen work rest from search taken) [
      | inl e ↦ omega arith
      | inr is ↦ let h = seen_within seen from is in let e = search.seen_length in let l = length-callees nodes in omega arith
    ]

pub callees_within : (nodes : List Node) (goal : ℕ) (seen : List Bool) (work : List ℕ) (from : ℕ) (list : List ℕ) → AreNodes nodes → IsSearch (callees_of nodes) goal seen work → list ≡ list_at (callees_of nodes) from → All (λ c. c < length seen) list
callees_within nodes goal seen work from list are search is k d h =
    let call : Calls (callees_of nodes) from (get_or list k d) = subst (λ (xs : List ℕ). Contains xs (get_or list k d)) is (contains_at list k (get_or list k d) h (get_or_default list k 0 d h)) in
    let lt = are.exist from (get_or list k d) call in
    let e = search.seen_length in
    omega arith

pub callees-node : (nodes : List Node) (f : ℕ) (n : Node) → f < length nodes → list_at (callees_of nodes) f ≡ (get_or nodes f n).callees.items
callees-node nodes f n h = get_or-map (λ (x : Node). x.callees.items) nodes f n [] h
