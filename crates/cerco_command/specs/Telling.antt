-- What `meaning` prints: the events of a source's meaning on a port script, with the costs of the object to which it is compiled. (CerCo,
-- deliverable 2.1: the costs of labels along a run of the source; the lines are the compiler's own.)
use Rattle.std.specs.Prelude.{◌≡◌, ℕ, ◌≤◌, ◌⊎◌, List, [], ◌∷◌, length, Some, IsTrue}
use Rattle.cerco_base.specs.Outside.IoStates.{FilesState, SameFiles}
use Rattle.cerco_pipeline.specs.Told.{IsMeaningOf}
use Rattle.cerco_command.specs.Building.{SaysRefused, SaysNoRoom}
use Rattle.cerco_command.specs.Inputs.{CannotRead, HasText, longest, SaysTooLong}
use Rattle.cerco_command.specs.Words.{MeaningRequest}
use Rattle.cerco_command.specs.declared.status.Status.{Status}
use Rattle.cerco_command.specs.declared.status.Status.TheVariants as Is

-- the texts of the two files
pub record MeaningTexts : Type 0 where
  pub source : List ℕ
  pub script : List ℕ

-- the names of the two files, in the order of the words
abbrev pub names_of : MeaningRequest → List (List ℕ)
names_of words = words.source ∷ words.script ∷ []

-- The source is what stands under its name, and the script is what is read under its own.
pub record AreTextsOf (words : MeaningRequest) (s : FilesState) (texts : MeaningTexts) : Type 0 where
  pub source_read : s.file words.source ≡ Some texts.source
  pub script_read : HasText s words.script texts.script

-- what each status means for these texts
abbrev pub MeaningMeansFor : MeaningRequest → MeaningTexts → Status → List ℕ → Type 0
MeaningMeansFor words texts Is.Told line = (length texts.script ≤ longest) × IsMeaningOf texts.source texts.script words.limit line
MeaningMeansFor words texts Is.Refused line = (length texts.script ≤ longest) × SaysRefused texts.source line
MeaningMeansFor words texts Is.NoRoom line = (length texts.script ≤ longest) × SaysNoRoom texts.source line
MeaningMeansFor words texts Is.BadInput line = SaysTooLong ((words.script, texts.script) ∷ []) line
MeaningMeansFor words texts Is.NoMemory line = line ≡ []
MeaningMeansFor words texts status line = ⊥

-- What each status of `meaning` means, and what is put with it. It changes no file.
pub record MeaningMeans (words : MeaningRequest) (s t : FilesState) (status : Status) (line : List ℕ) : Type 0 where
  pub same : IsTrue s.known → SameFiles s t
  pub means : CannotRead (names_of words) s t status line
      ⊎ ((texts : MeaningTexts) × (IsTrue s.known → AreTextsOf words s texts) × MeaningMeansFor words texts status line)
