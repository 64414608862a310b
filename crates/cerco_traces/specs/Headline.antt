-- What is promised of object code: it preserves the traces of its source, and at each stop the cycles that it took are the
-- costs of the labels that it passed. This is the correctness of a cost annotating compiler, as in CerCo (deliverable 2.1).
use Rattle.std.specs.Prelude.{◌≡◌, ℕ, zero, suc, List}
use Rattle.cerco_base.specs.declared.events.Event.{Event}
use Rattle.cerco_base.specs.Events.{IsPrefix, Stop, IsScript}
use Rattle.cerco_traces.specs.Systems.{System, StopsAt}
use Rattle.cerco_traces.specs.Preservation.{Outcome, Stops, Faults, Source}

-- the state after k steps
abbrev pub after : {M : Type 0} → System M → ℕ → M → M
after X zero s = s
after X (suc k) s = after X k (X.step s)

-- On this script some number of steps leads to the n-th stop, with the events es and c cycles.
pub record ArrivesWith {M : Type 0} (X : System M) (cycles : M → ℕ) (script : List ℕ) (n : ℕ) (es : List Event) (c : ℕ) (stop : Stop) : Type 0 where
  pub steps : ℕ
  pub stops : StopsAt X n (after X steps (X.start script)) stop
  pub made : X.events (after X steps (X.start script)) ≡ es
  pub took : cycles (after X steps (X.start script)) ≡ c

-- what is seen at a stop
pub record Arrival : Type 0 where
  pub events : List Event
  pub cycles : ℕ
  pub stop : Stop

-- Every script and n have at most one arrival.
abbrev pub ArrivesOnce : {M : Type 0} → System M → (M → ℕ) → Type 0
ArrivesOnce X cycles =
    (script : List ℕ) (n : ℕ) (a b : Arrival) → ArrivesWith X cycles script n a.events a.cycles a.stop → ArrivesWith X cycles script n b.events b.cycles b.stop → a ≡ b

-- At each stop of each run the cycles are those that its events cost.
pub record CostsOfStops {M : Type 0} (X : System M) (cycles : M → ℕ) (cost_at : List Event → ℕ) : Type 0 where
  pub by : (script : List ℕ) → IsScript script → (k n : ℕ) (stop : Stop) → StopsAt X n (after X k (X.start script)) stop → cycles (after X k (X.start script)) ≡ cost_at (X.events (after X k (X.start script)))

-- The object does what the source tells of the n-th stop: it arrives there, with the cycles that the events cost, and before a
-- fault some number of steps leads to a state whose events begin with those of the source.
abbrev pub KeepsTo : {Fault M : Type 0} → System M → (M → ℕ) → (List Event → ℕ) → List ℕ → ℕ → Outcome Fault → Type 0
KeepsTo X cycles cost_at script n (Stops es stop) = ArrivesWith X cycles script n es (cost_at es) stop
KeepsTo X cycles cost_at script n (Faults es fault) = (k : ℕ) × IsPrefix es (X.events (after X k (X.start script)))

-- The object keeps to its source on every script, at every stop.
abbrev pub Headline : {Fault M : Type 0} → Source Fault → System M → (M → ℕ) → (List Event → ℕ) → Type 0
Headline source X cycles cost_at = (script : List ℕ) → IsScript script → (n : ℕ) → KeepsTo X cycles cost_at script n (source script n)
