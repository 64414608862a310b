-- Labelled transition systems, their runs within bounds, and arrival at a stop. The meaning of a program of each language below
-- the source is such a system. Its step is total, and its states carry their trace (compare the small-step semantics of
-- CompCert, where each step has its events).
use Rattle.std.specs.Prelude.{◌≡◌, ℕ, ◌≤◌, List, [], ◌∷◌, Bool, IsTrue}
use Rattle.cerco_base.specs.declared.events.Event.{Event}
use Rattle.cerco_base.specs.Events.{label_count, IsPrefix, Stop, Stopped, Ended}

pub record System (S : Type 0) : Type 0 where
  -- the state in which a run on a port script begins
  pub start : List ℕ → S
  -- the next state
  pub step : S → S
  -- the events so far, oldest first
  pub events : S → List Event
  -- the state stands before a label
  pub due : S → Bool
  -- the program has ended
  pub ended : S → Bool
  -- the addresses of the XRAM bytes that the step from here reads or writes
  pub touched : S → List ℕ
  -- how many calls are open
  pub opened : S → ℕ

-- Each of these addresses is from 1 to d.
abbrev pub EachWithin : ℕ → List ℕ → Type 0
EachWithin d [] = Unit {0}
EachWithin d (a ∷ more) = (1 ≤ a) × (a ≤ d) × EachWithin d more

-- The step from here keeps within bounds d: each XRAM byte that it reads or writes has an address from 1 to d, and at most 64
-- calls are open after it.
pub record IsWithin {S : Type 0} (X : System S) (d : ℕ) (s : S) : Type 0 where
  pub bytes : EachWithin d (X.touched s)
  pub calls : X.opened (X.step s) ≤ 64

-- A run within bounds d, from a state to a state: no step, or a step within bounds d and then such a run.
pub data Run {S : Type 0} (X : System S) (d : ℕ) : S → S → Type 0 where
  here : (s : S) → Run X d s s
  onward : (s t : S) → IsWithin X d s → Run X d (X.step s) t → Run X d s t

-- The state is the n-th stop: it stands before a label with n labels passed, or the program has ended with at most n passed.
abbrev pub StopsAt : {S : Type 0} → System S → ℕ → S → Stop → Type 0
StopsAt X n s Stopped = IsTrue (X.due s) × (label_count (X.events s) ≡ n)
StopsAt X n s Ended = IsTrue (X.ended s) × (label_count (X.events s) ≤ n)

-- On this script a run within bounds d leads to the n-th stop, with the events es.
pub record Arrives {S : Type 0} (X : System S) (d : ℕ) (script : List ℕ) (n : ℕ) (es : List Event) (stop : Stop) : Type 0 where
  pub state : S
  pub run : Run X d (X.start script) state
  pub stops : StopsAt X n state stop
  pub made : X.events state ≡ es

-- On this script a run within bounds d leads to a state whose events begin with es.
pub record Reaches {S : Type 0} (X : System S) (d : ℕ) (script : List ℕ) (es : List Event) : Type 0 where
  pub state : S
  pub run : Run X d (X.start script) state
  pub made : IsPrefix es (X.events state)
