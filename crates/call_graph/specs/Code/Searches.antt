-- How far a search along the calls from a function, the goal, back to it is.
use Rattle.std.specs.Prelude.{◌≡◌, ℕ, ◌+◌, Bool, true, false, cond, List, [], ◌∷◌, ◌++◌, ◌⊎◌, length, Contains, slice_index_or}
use Rattle.std.specs.List.{sum_by}
use Rattle.call_graph.specs.CallPaths.{Calls, AreCalledFrom}

abbrev pub IsSeen : List Bool → ℕ → Type 0
IsSeen seen f = slice_index_or seen f false ≡ true

-- calls lead from f to g
abbrev pub Reaches : List (List ℕ) → ℕ → ℕ → Type 0
Reaches callees f g = (between : List ℕ) × AreCalledFrom (Calls callees) f (between ++ g ∷ [])

pub record IsSearch (callees : List (List ℕ)) (goal : ℕ) (seen : List Bool) (work : List ℕ) : Type 0 where
  pub seen_length : length seen ≡ length callees
  pub reached : (g : ℕ) → IsSeen seen g → Reaches callees goal g
  pub met : (g : ℕ) → Contains work g → (g ≡ goal) ⊎ IsSeen seen g
  pub not_back : IsSeen seen goal → ⊥
  pub done : (g : ℕ) → (g ≡ goal) ⊎ IsSeen seen g → Contains work g ⊎ ((h : ℕ) → Calls callees g h → IsSeen seen h)

-- how many aren't seen
abbrev pub unseen : List Bool → ℕ
unseen seen = sum_by (λ s. cond s 0 1) seen

-- these functions, of which none is the goal, are seen, and those that are new are put to the work
pub record Sees (callees : List ℕ) (goal : ℕ) (old_seen : List Bool) (old_work : List ℕ) (seen : List Bool) (work : List ℕ) : Type 0 where
  pub seen_length : length seen ≡ length old_seen
  pub no_goal : Contains callees goal → ⊥
  pub all : (g : ℕ) → Contains callees g → IsSeen seen g
  pub seen_still : (g : ℕ) → IsSeen old_seen g → IsSeen seen g
  pub work_still : (g : ℕ) → Contains old_work g → Contains work g
  pub seen_new : (g : ℕ) → IsSeen seen g → IsSeen old_seen g ⊎ (Contains callees g × Contains work g)
  pub work_new : (g : ℕ) → Contains work g → Contains old_work g ⊎ IsSeen seen g
  pub steps : unseen seen + length work ≡ unseen old_seen + length old_work
