-- Steps of the machine that show nothing, made one after another (Intel, MCS-51 family, by the definition of the machine).
use Rattle.std.specs.Prelude.{◌≡◌, ℕ, zero, suc, ◌<◌, List, None, Bool, false, not, ◌||◌, is_some}
use Rattle.sim51.specs.declared.events.Events.{Events}
use Rattle.sim51.specs.State.{State}
use Rattle.sim51.specs.Step.{Moved, Halts, Reserved, Goes, step}

abbrev pub no_events : Events
no_events = record { label = None; read = None; write = None }

-- whether the machine goes on without an event
abbrev pub is_silent : Moved → Bool
is_silent Halts = false
is_silent Reserved = false
is_silent (Goes e s) = not (is_some e.label || (is_some e.read || is_some e.write))

-- This many steps lead from one state to another: each makes no event, and begins with fewer cycles than the limit.
unfoldable pub LeadsBy : List ℕ → List ℕ → ℕ → ℕ → State → State → Type 0
LeadsBy code labels limit zero s t = s ≡ t
LeadsBy code labels limit (suc n) s t = (q : State) × LeadsBy code labels limit n s q × (q.cycles < limit) × (step code labels q ≡ Goes no_events t)

pub record Skips (code labels : List ℕ) (limit : ℕ) (s t : State) : Type 0 where
  pub steps : ℕ
  pub leads : LeadsBy code labels limit steps s t
