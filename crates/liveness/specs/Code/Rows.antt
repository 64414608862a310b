-- Rows of numbers: adding a number to some of them, and rows that are a relation turned around.
use Rattle.std.specs.Prelude.{◌≡◌, ◌≢◌, ℕ, ◌<◌, List, [], ◌∷◌, ◌++◌, Option, Some, None, slice_get, ◌⊎◌}
use Rattle.cerco_traces.specs.LabelledGraphs.{In}
use Rattle.liveness.specs.declared.ways.Ways.{Ways}

abbrev pub ways_in : Option Ways → List ℕ
ways_in None = []
ways_in (Some w) = w.to.items

-- the row of this number; none where there is no such row
abbrev pub ways_of : List Ways → ℕ → List ℕ
ways_of ways x = ways_in (slice_get ways x)

-- each of these is below n
abbrev pub AllBelow : List ℕ → ℕ → Type 0
AllBelow xs n = (x : ℕ) → In x xs → x < n

-- none of these stands twice
abbrev pub AreDistinct : List ℕ → Type 0
AreDistinct [] = Unit {0}
AreDistinct (x ∷ xs) = (In x xs → ⊥) × AreDistinct xs

-- i has been added to the row x alone, at its end
pub record IsAddedAt (rows : ℕ → List ℕ) (x i : ℕ) (rows' : ℕ → List ℕ) : Type 0 where
  pub here : rows' x ≡ rows x ++ i ∷ []
  pub elsewhere : (y : ℕ) → y ≢ x → rows' y ≡ rows y

-- i has been added to the rows for which P holds
pub record AddedTo {X : Type 0} (rows : X → List ℕ) (P : X → Type 0) (i : ℕ) (rows' : X → List ℕ) : Type 0 where
  pub only : (x : X) (y : ℕ) → In y (rows' x) → In y (rows x) ⊎ (P x × (i ≡ y))
  pub kept : (x : X) (y : ℕ) → In y (rows x) → In y (rows' x)
  pub added : (x : X) → P x → In i (rows' x)
  pub untouched : (x : X) → (P x → ⊥) → rows' x ≡ rows x

-- i has been added at the end of some of the rows, to none of them twice
abbrev pub AddedOnce : (ℕ → List ℕ) → ℕ → (ℕ → List ℕ) → Type 0
AddedOnce rows i rows' = (x : ℕ) → (rows' x ≡ rows x) ⊎ (rows' x ≡ rows x ++ i ∷ [])

-- the row of x lists exactly the numbers below n that lead to x
pub record AreTurned {X : Type 0} (Leads : ℕ → X → Type 0) (n : ℕ) (rows : X → List ℕ) : Type 0 where
  pub only : (x : X) (y : ℕ) → In y (rows x) → (y < n) × Leads y x
  pub every : (x : X) (y : ℕ) → y < n → Leads y x → In y (rows x)
