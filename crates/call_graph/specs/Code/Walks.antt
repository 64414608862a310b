-- How far the walk is that puts functions behind their callers. The list at place f of `callers` has the functions that call f.
use Rattle.std.specs.Prelude.{◌≡◌, ℕ, ◌+◌, ◌<◌, ◌≤◌, ◌↔◌, List, [], ◌∷◌, ◌++◌, length, reverse, replicate, Contains, slice_set, slice_index, slice_index_or}
use Rattle.std.specs.List.{sum_by}
use Rattle.cerco_base.specs.CallOrder.{Called, functions_of, callers_at, IsCallOrder}
use Rattle.call_graph.specs.Code.Nodes.{CallsTo}
use Rattle.call_graph.specs.declared.walk.Walk.{Walk}
use Rattle.call_graph.specs.declared.walk.Mark.{Mark}
use Rattle.call_graph.specs.declared.walk.Mark.TheVariants.{New, Open, Placed}

abbrev pub list_at : List (List ℕ) → ℕ → List ℕ
list_at lists f = slice_index_or lists f []

abbrev pub mark_of : List Mark → ℕ → Mark
mark_of marks f = slice_index_or marks f New

-- f calls the first of these, if there is one
abbrev pub CallsFirst : List (List ℕ) → ℕ → List ℕ → Type 0
CallsFirst callers f [] = Unit {0}
CallsFirst callers f (g ∷ more) = CallsTo callers f g

-- from the top of the stack down: each function is open, calls the one below it, and stands once
abbrev pub IsOpenPath : List (List ℕ) → List Mark → List ℕ → Type 0
IsOpenPath callers marks [] = Unit {0}
IsOpenPath callers marks (f ∷ below) = (mark_of marks f ≡ Open) × CallsFirst callers f below × (Contains below f → ⊥) × IsOpenPath callers marks below

-- the stack is listed from its top down
pub record IsWalk (callers : List (List ℕ)) (marks : List Mark) (known stack : List ℕ) (order : List Called) : Type 0 where
  pub marks_length : length marks ≡ length callers
  pub known_length : length known ≡ length callers
  pub placed : (f : ℕ) → mark_of marks f ≡ Placed → Contains (functions_of order) f
  pub marked : (f : ℕ) → Contains (functions_of order) f → mark_of marks f ≡ Placed
  pub lists : (i : ℕ) → i < length order → callers_at order i ≡ list_at callers (slice_index (functions_of order) i)
  pub in_order : IsCallOrder order
  pub known_within : (f : ℕ) → slice_index known f ≤ length (list_at callers f)
  pub known_placed : (f j : ℕ) → j < slice_index known f → mark_of marks (slice_index (list_at callers f) j) ≡ Placed
  pub on_stack : (f : ℕ) → mark_of marks f ≡ Open → Contains stack f
  pub path : IsOpenPath callers marks stack

abbrev pub IsWalkOf : List (List ℕ) → Walk → Type 0
IsWalkOf callers w = IsWalk callers w.marks.items w.known.items (reverse w.stack.items) w.order

-- the walk at its start
pub record IsStart (functions : ℕ) (w : Walk) : Type 0 where
  pub marks : w.marks.items ≡ replicate functions New
  pub known : w.known.items ≡ replicate functions 0
  pub stack : w.stack.items ≡ []
  pub order : w.order ≡ []

-- f comes on the stack
pub record Opens (f : ℕ) (old new : Walk) : Type 0 where
  pub marks : new.marks.items ≡ slice_set old.marks.items f Open
  pub known : new.known.items ≡ old.known.items
  pub stack : new.stack.items ≡ old.stack.items ++ f ∷ []
  pub order : new.order ≡ old.order

-- f goes from the stack into the order, with these callers
pub record Places (f : ℕ) (callers : List ℕ) (old new : Walk) : Type 0 where
  pub marks : new.marks.items ≡ slice_set old.marks.items f Placed
  pub known : new.known.items ≡ old.known.items
  pub stack : (below : List ℕ) → old.stack.items ≡ below ++ f ∷ [] → new.stack.items ≡ below
  pub order : new.order ≡ old.order ++ record { function = f; callers = callers } ∷ []

-- what is left to do for a function of this mark
abbrev pub steps_of : Mark → ℕ
steps_of New = 2
steps_of Open = 0
steps_of Placed = 0

-- at most how many steps are left
abbrev pub steps_left : Walk → ℕ
steps_left w = sum_by steps_of w.marks.items + length w.stack.items

-- a step keeps what is known, comes nearer to the end, and makes no function new
pub record Steps (callers : List (List ℕ)) (old new : Walk) : Type 0 where
  pub walk : IsWalkOf callers new
  pub nearer : steps_left new < steps_left old
  pub met : (f : ℕ) → mark_of new.marks.items f ≡ New → mark_of old.marks.items f ≡ New

-- the functions are those with callers here, each with its callers, and in order
pub record IsOrderByCallers (callers : List (List ℕ)) (order : List Called) : Type 0 where
  pub functions : (f : ℕ) → Contains (functions_of order) f ↔ (f < length callers)
  pub lists : (i : ℕ) → i < length order → callers_at order i ≡ list_at callers (slice_index (functions_of order) i)
  pub in_order : IsCallOrder order

-- on the way from one walk to another, on which f is no longer new
pub record IsUnderWay (callers : List (List ℕ)) (f : ℕ) (old new : Walk) : Type 0 where
  pub walk : IsWalkOf callers new
  pub met : (g : ℕ) → mark_of new.marks.items g ≡ New → mark_of old.marks.items g ≡ New
  pub begun : mark_of new.marks.items f ≡ New → ⊥
