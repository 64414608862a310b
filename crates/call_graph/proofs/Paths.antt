-- Call paths that are made longer, cut, or told of another relation.
use Rattle.std.proofs.Common.{ℕ, List, [], ◌∷◌, ◌++◌}
use Rattle.call_graph.specs.CallPaths.{AreCalledFrom, IsCallPath, IsOnCycle}

pub called-push : (calls : ℕ → ℕ → Type 0) (f : ℕ) (path : List ℕ) (g h : ℕ) → AreCalledFrom calls f (path ++ g ∷ []) → calls g h → AreCalledFrom calls f ((path ++ g ∷ []) ++ h ∷ [])
called-push calls f [] g h way last = (way.0, (last, tt))
called-push calls f (x ∷ path) g h way last = (way.0, called-push calls x path g h way.1 last)

pub called-front : (calls : ℕ → ℕ → Type 0) (f : ℕ) (path : List ℕ) (g h : ℕ) → AreCalledFrom calls f ((path ++ g ∷ []) ++ h ∷ []) → AreCalledFrom calls f (path ++ g ∷ [])
called-front calls f [] g h way = (way.0, tt)
called-front calls f (x ∷ path) g h way = (way.0, called-front calls x path g h way.1)

pub called-last : (calls : ℕ → ℕ → Type 0) (f : ℕ) (path : List ℕ) (g h : ℕ) → AreCalledFrom calls f ((path ++ g ∷ []) ++ h ∷ []) → calls g h
called-last calls f [] g h way = way.1.0
called-last calls f (x ∷ path) g h way = called-last calls x path g h way.1

pub path-push : (functions : ℕ) (calls : ℕ → ℕ → Type 0) (path : List ℕ) (g h : ℕ) → IsCallPath functions calls (path ++ g ∷ []) → calls g h → IsCallPath functions calls ((path ++ g ∷ []) ++ h ∷ [])
path-push functions calls [] g h way last = (way.0, (last, tt))
path-push functions calls (x ∷ path) g h way last = (way.0, called-push calls x path g h way.1 last)

pub path-front : (functions : ℕ) (calls : ℕ → ℕ → Type 0) (path : List ℕ) (g h : ℕ) → IsCallPath functions calls ((path ++ g ∷ []) ++ h ∷ []) → IsCallPath functions calls (path ++ g ∷ [])
path-front functions calls [] g h way = (way.0, tt)
path-front functions calls (x ∷ path) g h way = (way.0, called-front calls x path g h way.1)

pub path-last : (functions : ℕ) (calls : ℕ → ℕ → Type 0) (path : List ℕ) (g h : ℕ) → IsCallPath functions calls ((path ++ g ∷ []) ++ h ∷ []) → calls g h
path-last functions calls [] g h way = way.1.0
path-last functions calls (x ∷ path) g h way = called-last calls x path g h way.1

-- a path of calls is one of any relation that has those calls
pub called-along : (r s : ℕ → ℕ → Type 0) → ((f g : ℕ) → r f g → s f g) → (f : ℕ) (path : List ℕ) → AreCalledFrom r f path → AreCalledFrom s f path
called-along r s move f [] way = tt
called-along r s move f (g ∷ path) way = (move f g way.0, called-along r s move g path way.1)

pub path-along : (functions : ℕ) (r s : ℕ → ℕ → Type 0) → ((f g : ℕ) → r f g → s f g) → (path : List ℕ) → IsCallPath functions r path → IsCallPath functions s path
path-along functions r s move [] way = way
path-along functions r s move (f ∷ path) way = (way.0, called-along r s move f path way.1)

pub cycle-along : (functions : ℕ) (r s : ℕ → ℕ → Type 0) → ((f g : ℕ) → r f g → s f g) → (f : ℕ) → IsOnCycle functions r f → IsOnCycle functions s f
cycle-along functions r s move f cycle = (cycle.0, path-along functions r s move (f ∷ (cycle.0 ++ f ∷ [])) cycle.1)
