-- Placing the nodes of a graph one after the other, as the code does: what holds of the nodes placed so far.
use Rattle.std.specs.Prelude.{◌≡◌, ℕ, ◌+◌, ◌<◌, List, [], ◌∷◌, ◌++◌, length, Bool, true, false, slice_index_or, Option, Some, None, if◌then◌else◌}
use Rattle.cerco_traces.specs.LabelledGraphs.{In}
use Rattle.rtl.specs.declared.locations.Place.{Place}
use Rattle.rtl.specs.declared.graphs.Exit.{Exit}
use Rattle.rtl.specs.declared.graphs.Exit.TheVariants as Out
use Rattle.rtl.specs.Programs.{Graph}
use Rattle.rtl.specs.Graphs.{exit_at}
use Rattle.rtl.specs.WellFormed.{NoneTwice}
use Rattle.lin_gen.specs.Ordering.{follower_of, KeepsFollowers}

abbrev pub is_marked : List Bool → ℕ → Bool
is_marked marks i = slice_index_or marks i false

abbrev pub unmarked : List Bool → ℕ
unmarked [] = 0
unmarked (b ∷ bs) = (if b then 0 else 1) + unmarked bs

-- the node that may come directly after an exit, or be jumped to
abbrev pub way_on_of : Exit Place → Option ℕ
way_on_of (Out.Next q) = Some q
way_on_of (Out.Label l q) = Some q
way_on_of _ = None

abbrev pub IsBelow : Option ℕ → ℕ → Type 0
IsBelow None n = Unit {0}
IsBelow (Some q) n = q < n

-- no other node needs p directly after it
abbrev pub IsHead : Graph Place → ℕ → Type 0
IsHead G p = (r : ℕ) → follower_of (exit_at G r) ≡ Some p → ⊥

-- the marks tell which nodes have to come directly after another
pub record AreFollowers (G : Graph Place) (marks : List Bool) : Type 0 where
  pub long : length marks ≡ length G.nodes
  pub sound : (q : ℕ) → is_marked marks q ≡ true → (p : ℕ) × (follower_of (exit_at G p) ≡ Some q)
  pub complete : (p q : ℕ) → follower_of (exit_at G p) ≡ Some q → is_marked marks q ≡ true

-- Some nodes have been placed: the marks tell which, each stands once, and a follower stands directly after its node, and only
-- there.
pub record Placing (G : Graph Place) (placed : List Bool) (order : List ℕ) : Type 0 where
  pub long : length placed ≡ length G.nodes
  pub sound : (p : ℕ) → is_marked placed p ≡ true → In p order
  pub complete : (p : ℕ) → In p order → is_marked placed p ≡ true
  pub within : (p : ℕ) → In p order → p < length G.nodes
  pub once : NoneTwice order
  pub followers : KeepsFollowers G order
  pub led : (p q : ℕ) → follower_of (exit_at G p) ≡ Some q → In q order → In p order

-- p has been placed, and perhaps more
pub record Placed (p : ℕ) (order order' : List ℕ) (placed placed' : List Bool) : Type 0 where
  pub more : List ℕ
  pub whole : order' ≡ order ++ p ∷ more
  pub less : unmarked placed' < unmarked placed
