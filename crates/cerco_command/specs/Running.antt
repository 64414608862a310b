-- What `run` prints: the events of the machine from reset, each with the cycles before the instruction that makes it, to the run's
-- stop. (Intel, MCS-51 family, by the definition of the machine; the lines are the compiler's own.)
use Rattle.std.specs.Prelude.{◌≡◌, ℕ, ◌<◌, ◌≤◌, ◌⊎◌, List, [], ◌∷◌, ◌++◌, IsTrue}
use Rattle.std.specs.List.{flat_map}
use Rattle.cerco_base.specs.Outside.IoStates.{FilesState, SameFiles}
use Rattle.sim51.specs.State.{State}
use Rattle.sim51.specs.Step.{Moved, Halts, Reserved, Goes}
use Rattle.sim51.specs.Runs.{Setup, state_after, step_after, trace}
use Rattle.cerco_command.specs.Answers.{NamedText}
use Rattle.cerco_command.specs.Messages.{event_line, end_line, stop_line, reserved_line}
use Rattle.cerco_command.specs.Inputs.{CannotRead, HasText, NoneTooLong, SaysTooLong, SaysBadObject, AreObject}
use Rattle.cerco_command.specs.Words.{RunRequest}
use Rattle.cerco_command.specs.declared.running.Inputs.{Inputs}
use Rattle.cerco_command.specs.declared.status.Status.{Status}
use Rattle.cerco_command.specs.declared.status.Status.TheVariants as Is

-- the machine goes on: it makes a step, and has run for fewer cycles than the limit
abbrev pub GoesOn : ℕ → State → Moved → Type 0
GoesOn limit s Halts = ⊥
GoesOn limit s Reserved = ⊥
GoesOn limit s (Goes events next) = s.cycles < limit

-- Why it doesn't, and the last line: it has halted; else it has run for as many cycles as the limit; else it stands at the
-- reserved opcode.
abbrev pub Stops : ℕ → State → Moved → Status → List ℕ → Type 0
Stops limit s Halts Is.Done line = line ≡ end_line s.cycles
Stops limit s Reserved Is.Done line = (limit ≤ s.cycles) × (line ≡ stop_line s.cycles)
Stops limit s (Goes events next) Is.Done line = (limit ≤ s.cycles) × (line ≡ stop_line s.cycles)
Stops limit s Reserved Is.Reserved line = (s.cycles < limit) × (line ≡ reserved_line s.pc)
Stops limit s moved status line = ⊥

-- The machine goes on for some steps and then stops; the text has the events of these steps and the last line.
pub record RunsTo (m : Setup) (limit : ℕ) (status : Status) (text : List ℕ) : Type 0 where
  pub steps : ℕ
  pub goes_on : (k : ℕ) → k < steps → GoesOn limit (state_after m k) (step_after m k)
  pub last : List ℕ
  pub stops : Stops limit (state_after m steps) (step_after m steps) status last
  pub printed : text ≡ flat_map (λ timed. event_line timed.0 timed.1) (trace m steps) ++ last

-- the texts of the three files
pub record RunTexts : Type 0 where
  pub hex : List ℕ
  pub map : List ℕ
  pub script : List ℕ

abbrev pub texts_of : Inputs → RunTexts
texts_of inputs = record { hex = inputs.hex.items; map = inputs.map.items; script = inputs.script.items }

-- the names of the three files, in the order of the words
abbrev pub names_of : RunRequest → List (List ℕ)
names_of names = names.hex ∷ names.map ∷ names.script ∷ []

abbrev pub with_names : RunRequest → RunTexts → List NamedText
with_names names texts = (names.hex, texts.hex) ∷ (names.map, texts.map) ∷ (names.script, texts.script) ∷ []

pub record AreTextsOf (names : RunRequest) (s : FilesState) (texts : RunTexts) : Type 0 where
  pub hex_read : HasText s names.hex texts.hex
  pub map_read : HasText s names.map texts.map
  pub script_read : HasText s names.script texts.script

-- The texts stand for an object, whose run on the script is printed.
pub record PrintsRun (names : RunRequest) (texts : RunTexts) (status : Status) (text : List ℕ) : Type 0 where
  pub code : List ℕ
  pub labels : List ℕ
  pub object_read : AreObject texts.hex texts.map code labels
  pub runs : RunsTo (record { code = code; labels = labels; script = texts.script }) names.limit status text

-- what each status means for these texts
abbrev pub RunMeansFor : RunRequest → RunTexts → Status → List ℕ → Type 0
RunMeansFor names texts Is.Done line = NoneTooLong (with_names names texts) × PrintsRun names texts Is.Done line
RunMeansFor names texts Is.Reserved line = NoneTooLong (with_names names texts) × PrintsRun names texts Is.Reserved line
RunMeansFor names texts Is.BadInput line =
    SaysTooLong (with_names names texts) line ⊎ (NoneTooLong (with_names names texts) × SaysBadObject texts.hex texts.map line)
RunMeansFor names texts Is.NoMemory line = line ≡ []
RunMeansFor names texts status line = ⊥

-- What each status of `run` means, and what is put with it. It changes no file.
pub record RunMeans (names : RunRequest) (s t : FilesState) (status : Status) (line : List ℕ) : Type 0 where
  pub same : IsTrue s.known → SameFiles s t
  pub means : CannotRead (names_of names) s t status line
      ⊎ ((texts : RunTexts) × (IsTrue s.known → AreTextsOf names s texts) × RunMeansFor names texts status line)
