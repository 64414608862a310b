-- That each answer is meant in one case alone: the files determine what a command answers, and a machine's run has one stop. (The
-- compiler's own.)
use Rattle.std.specs.Prelude.{◌≡◌, ℕ, ◌<◌, List, IsTrue}
use Rattle.cerco_base.specs.Outside.IoStates.{FilesState}
use Rattle.sim51.specs.Step.{Reserved}
use Rattle.sim51.specs.Runs.{Setup, state_after, step_after}
use Rattle.cerco_command.specs.Running.{RunsTo}
use Rattle.cerco_command.specs.declared.status.Status.{Status}
use Rattle.cerco_command.specs.declared.status.Status.TheVariants as Is

-- An answer that the files determine: its cause isn't a fault, nor out of memory, nor what the passes make of a sound source, of which more
-- than one thing is allowed.
abbrev pub IsFirm : Status → Type 0
IsFirm Is.FileFault = ⊥
IsFirm Is.OutFault = ⊥
IsFirm Is.NoMemory = ⊥
IsFirm Is.NoRoom = ⊥
IsFirm Is.Told = ⊥
IsFirm status = Unit {0}

-- Over files whose contents are known, one firm status at most is meant, with one text: the causes of different answers
-- exclude each other.
abbrev pub MeansOnce : (FilesState → FilesState → Status → List ℕ → Type 0) → Type 0
MeansOnce Means =
    (s t u : FilesState) (a b : Status) (x y : List ℕ) → IsTrue s.known → IsFirm a → IsFirm b → Means s t a x → Means s u b y → (a ≡ b) × (x ≡ y)

-- the machine reaches the reserved opcode with fewer cycles than the limit
pub record ReachesReserved (m : Setup) (limit : ℕ) : Type 0 where
  pub steps : ℕ
  pub stands : step_after m steps ≡ Reserved
  pub below : (state_after m steps).cycles < limit

-- A run has one stop, and it is at the reserved opcode exactly where the machine reaches that below the limit.
pub record StopsOnce (m : Setup) (limit : ℕ) : Type 0 where
  pub status : Status
  pub text : List ℕ
  pub runs : RunsTo m limit status text
  pub only : (other : Status) (line : List ℕ) → RunsTo m limit other line → (other ≡ status) × (line ≡ text)
  pub reserved : ReachesReserved m limit → status ≡ Is.Reserved
  pub reached : status ≡ Is.Reserved → ReachesReserved m limit
