-- Trace preservation: what it means that a translated program behaves as the program that it was translated from. It is the
-- preservation of observable events that CompCert proves of its passes, with the stops at cost labels of CerCo (deliverable
-- 2.1), and with bounds on the memory and the calls that a run uses.
use Rattle.std.specs.Prelude.{◌≡◌, ℕ, ◌+◌, ◌<◌, ◌^◌, List, ◌++◌}
use Rattle.cerco_base.specs.declared.events.Event.{Event}
use Rattle.cerco_base.specs.Events.{label_count, IsPrefix, Stop, IsScript}
use Rattle.cerco_traces.specs.Systems.{System, Run, StopsAt, Arrives, Reaches}

-- Runs of X within bounds d are preserved by runs of Y within bounds e: on every script, Y reaches the events of each run of X,
-- and arrives wherever X arrives, with the same events and the same stop.
pub record PreservesFor {S T : Type 0} (X : System S) (Y : System T) (d e : ℕ) : Type 0 where
  pub reaches : (script : List ℕ) → IsScript script → (x : S) → Run X d (X.start script) x → Reaches Y e script (X.events x)
  pub arrives : (script : List ℕ) → IsScript script → (n : ℕ) (es : List Event) (stop : Stop) → Arrives X d script n es stop → Arrives Y e script n es stop

-- Y preserves the traces of X, within the same bounds, whatever they are.
abbrev pub Preserves : {S T : Type 0} → System S → System T → Type 0
Preserves X Y = (d : ℕ) → d < 2 ^ 16 → PreservesFor X Y d d

-- What is told of a run up to a stop: it gets there, with these events, or a fault comes before, after these events.
pub data Outcome (Fault : Type 0) : Type 0 where
  Stops : List Event → Stop → Outcome Fault
  Faults : List Event → Fault → Outcome Fault

-- The meaning of a source program tells, of each script and n, how the run on that script comes to its n-th stop.
abbrev pub Source : Type 0 → Type 0
Source Fault = List ℕ → ℕ → Outcome Fault

-- The program does what is told of the n-th stop: it arrives there, and before a fault it reaches the events.
abbrev pub Meets : {Fault T : Type 0} → System T → ℕ → List ℕ → ℕ → Outcome Fault → Type 0
Meets Y d script n (Stops es stop) = Arrives Y d script n es stop
Meets Y d script n (Faults es fault) = Reaches Y d script es

-- Y preserves the traces of the source by runs within bounds d.
pub record PreservesSource {Fault T : Type 0} (source : Source Fault) (Y : System T) (d : ℕ) : Type 0 where
  pub meets : (script : List ℕ) → IsScript script → (n : ℕ) → Meets Y d script n (source script n)

-- these events first, and then what is told
abbrev pub and_then : {Fault : Type 0} → List Event → Outcome Fault → Outcome Fault
and_then es (Stops fs stop) = Stops (es ++ fs) stop
and_then es (Faults fs fault) = Faults (es ++ fs) fault

-- From the state y on, the program does what is told of the n-th stop from there.
abbrev pub MeetsFrom : {Fault T : Type 0} → System T → ℕ → T → ℕ → Outcome Fault → Type 0
MeetsFrom {T = T} Y d y n (Stops es stop) =
    (z : T) × Run Y d y z × StopsAt Y (label_count (Y.events y) + n) z stop × (Y.events z ≡ Y.events y ++ es)
MeetsFrom {T = T} Y d y n (Faults es fault) = (z : T) × Run Y d y z × IsPrefix (Y.events y ++ es) (Y.events z)
