-- What is reached from seeds along ways, and how it is marked.
use Rattle.std.specs.Prelude.{◌≡◌, ℕ, ◌+◌, ◌*◌, ◌≤◌, List, [], ◌∷◌, ◌++◌, length, Bool, true, false, slice_index_or, if◌then◌else◌}
use Rattle.cerco_traces.specs.LabelledGraphs.{In}
use Rattle.liveness.specs.Code.Rows.{AreDistinct}

abbrev pub is_marked : List Bool → ℕ → Bool
is_marked marks i = slice_index_or marks i false

-- Seeds are reached, and where a way leads from what is reached, but to no wall.
pub data Reached (seeds : List ℕ) (ways : ℕ → List ℕ) (walls : List Bool) : ℕ → Type 0 where
  seed : (i : ℕ) → In i seeds → Reached seeds ways walls i
  onward : (i j : ℕ) → Reached seeds ways walls i → In j (ways i) → is_marked walls j ≡ false → Reached seeds ways walls j

-- there are marks for n numbers, and none is marked
pub record AreClear (marks : List Bool) (n : ℕ) : Type 0 where
  pub long : length marks ≡ n
  pub none : (i : ℕ) → is_marked marks i ≡ false

-- these have this mark, and all others the mark that they had
pub record AreSet (marks : List Bool) (list : List ℕ) (value : Bool) (marks' : List Bool) : Type 0 where
  pub long : length marks' ≡ length marks
  pub inside : (i : ℕ) → In i list → is_marked marks' i ≡ value
  pub outside : (i : ℕ) → (In i list → ⊥) → is_marked marks' i ≡ is_marked marks i

-- exactly the listed numbers are marked, each listed once
pub record AreListed (marks : List Bool) (list : List ℕ) : Type 0 where
  pub listed : (i : ℕ) → is_marked marks i ≡ true → In i list
  pub marked : (i : ℕ) → In i list → is_marked marks i ≡ true
  pub distinct : AreDistinct list

abbrev pub unmarked : List Bool → ℕ
unmarked [] = 0
unmarked (b ∷ bs) = (if b then 0 else 1) + unmarked bs

-- the numbers of a row that are no walls have been marked and listed
pub record AreMarked (walls marks : List Bool) (list row : List ℕ) (marks' : List Bool) (list' : List ℕ) : Type 0 where
  pub long : length marks' ≡ length marks
  pub exact : AreListed marks' list'
  pub added : List ℕ
  pub more : list' ≡ list ++ added
  pub only : (i : ℕ) → In i added → In i row × (is_marked walls i ≡ false)
  pub done : (i : ℕ) → In i row → is_marked walls i ≡ false → In i list'
  pub less : 2 * unmarked marks' + length list' ≤ 2 * unmarked marks + length list
