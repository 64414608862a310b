-- Along a call path the places in an order of calls rise, so there is no cycle and no path with more functions than the order.
use Rattle.std.proofs.Common.{◌≡◌, ℕ, ◌+◌, ◌<◌, ◌≤◌, List, [], ◌∷◌, ◌++◌, length, take, get_or, ap, sym, ◌∙◌, subst, inl, inr, arith, length-append}
use Rattle.std.specs.Prelude.{Contains}
use Rattle.std.proofs.lemmas.Bool.{cases_lt}
use Rattle.std.proofs.lemmas.List.{get_or-take, length-take-le, length-map}
use Rattle.std.proofs.lemmas.List.Elements.{All-contains}
use Rattle.cerco_base.specs.CallOrder.{Called, functions_of, callers_at, IsCallOrder}
use Rattle.call_graph.specs.CallPaths.{AreCalledFrom, CallsIn, IsCallPath, IsOnCycle}
use Rattle.call_graph.proofs.Entries.{contains_at, at_contains, last_cases}

-- function f stands at place i of the order
pub record StandsAt (order : List Called) (f i : ℕ) : Type 0 where
  pub within : i < length order
  pub is : get_or (functions_of order) i 0 ≡ f

pub length-functions : (order : List Called) → length (functions_of order) ≡ length order
length-functions order = length-map order (λ (c : Called). c.function)

-- what stands before a place
pub stands_before : (order : List Called) (f j : ℕ) → j ≤ length order → Contains (take j (functions_of order)) f → (i : ℕ) × (i < j) × StandsAt order f i
stands_before order f j h c =
    let d = at_contains (take j (functions_of order)) f c in
    let len : length (take j (functions_of order)) ≡ j = let e = length-functions order in length-take-le j (functions_of order) (omega arith) in
    let lt : d.0 < j = let l = d.1 in omega arith in
    (d.0, lt, record { within = omega arith; is = sym (get_or-take j (functions_of order) d.0 0 lt) ∙ d.2 })

pub stands : (order : List Called) (f : ℕ) → Contains (functions_of order) f → (i : ℕ) × StandsAt order f i
stands order f c =
    let d = at_contains (functions_of order) f c in
    let e = length-functions order in
    let l = d.1 in
    (d.0, record { within = omega arith; is = d.2 })

pub contains_standing : (order : List Called) (f i : ℕ) → StandsAt order f i → Contains (functions_of order) f
contains_standing order f i s = let e = length-functions order in let w = s.within in contains_at (functions_of order) i f (omega arith) s.is

pub not_twice : (order : List Called) → IsCallOrder order → (f i j : ℕ) → StandsAt order f i → StandsAt order f j → i < j → ⊥
not_twice order o f i j s t h =
    let e = length-functions order in
    let w = t.within in
    let len : length (take j (functions_of order)) ≡ j = length-take-le j (functions_of order) (omega arith) in
    let x : ℕ = get_or (functions_of order) j 0 in
    o.once j t.within (contains_at (take j (functions_of order)) i (get_or (functions_of order) j 0) (omega arith) (get_or-take j (functions_of order) i 0 h ∙ (s.is ∙ sym t.is)))

pub one_place : (order : List Called) → IsCallOrder order → (f i j : ℕ) → StandsAt order f i → StandsAt order f j → i ≡ j
one_place order o f i j s t =
    elim (cases_lt i j) [
      | inl h ↦ absurd (not_twice order o f i j s t h)
      | inr h ↦
          elim (cases_lt j i) [
            | inl g ↦ absurd (not_twice order o f j i t s g)
            | inr g ↦ let e : i ≡ j = omega arith in e
          ]
    ]

-- a caller stands before what it calls
pub call_rises : (order : List Called) → IsCallOrder order → (f g j : ℕ) → CallsIn order f g → StandsAt order g j → (i : ℕ) × (i < j) × StandsAt order f i
call_rises order o f g j call at =
    let here : StandsAt order g call.0 = record { within = call.1; is = call.2 } in
    let same = one_place order o g call.0 j here at in
    let before = stands_before order f call.0 (let w = call.1 in omega arith) (All-contains (Contains (take call.0 (functions_of order))) (callers_at order call.0) f (o.callers_before call.0 call.1) call.3) in
    let lt = before.1 in
    (before.0, omega arith, before.2)

pub path_rises : (order : List Called) → IsCallOrder order → (f : ℕ) (path : List ℕ) (g j : ℕ) → AreCalledFrom (CallsIn order) f (path ++ g ∷ []) → StandsAt order g j → (i : ℕ) × (i + length path < j) × StandsAt order f i
path_rises order o f [] g j way at =
    let r = call_rises order o f g j way.0 at in
    let lt = r.1 in
    (r.0, omega arith, r.2)
path_rises order o f (h ∷ path) g j way at =
    let rest = path_rises order o h path g j way.1 at in
    let r = call_rises order o f h rest.0 way.0 rest.2 in
    let lt = r.1 in
    let le = rest.1 in
    (r.0, omega arith, r.2)

-- what is called stands somewhere
pub called_stands : (order : List Called) (f g : ℕ) → CallsIn order f g → (i : ℕ) × StandsAt order g i
called_stands order f g call = (call.0, record { within = call.1; is = call.2 })

-- the last function of a path stands somewhere
pub last_stands : (order : List Called) (f : ℕ) (path : List ℕ) (g : ℕ) → AreCalledFrom (CallsIn order) f (path ++ g ∷ []) → (i : ℕ) × StandsAt order g i
last_stands order f [] g way = called_stands order f g way.0
last_stands order f (h ∷ path) g way = last_stands order h path g way.1

pub no_cycle : (order : List Called) → IsCallOrder order → (functions f : ℕ) → IsOnCycle functions (CallsIn order) f → ⊥
no_cycle order o functions f cycle =
    let last = last_stands order f cycle.0 f cycle.1.1 in
    let first = path_rises order o f cycle.0 f last.0 cycle.1.1 last.1 in
    let e = one_place order o f first.0 last.0 first.2 last.1 in
    let h = first.1 in
    omega arith

-- a path has at most as many functions as the order
pub length-path : (order : List Called) → IsCallOrder order → (functions : ℕ) → ((f : ℕ) → f < functions → Contains (functions_of order) f) → (path : List ℕ) → IsCallPath functions (CallsIn order) path → length path ≤ length order
length-path order o functions all [] way = absurd way
length-path order o functions all (f ∷ path) way =
    elim (last_cases path) [
      | inl e ↦
          let at = stands order f (all f way.0) in
          let w = at.1.within in
          let none : length path ≡ 0 = ap length e in
          omega arith
      | inr h ↦
          let along = subst (AreCalledFrom (CallsIn order) f) h.2 way.1 in
          let last = last_stands order f h.0 h.1 along in
          let first = path_rises order o f h.0 h.1 last.0 along last.1 in
          let w = last.1.within in
          let lt = first.1 in
          let len : length path ≡ length h.0 + 1 = ap length h.2 ∙ length-append h.0 (h.1 ∷ []) in
          omega arith
    ]
