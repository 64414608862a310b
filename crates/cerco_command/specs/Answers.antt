-- What the program answers, whatever the command: its status, what it puts to its output, and files that it writes one after
-- the other. (The compiler's own.)
use Rattle.std.specs.Prelude.{◌≡◌, ℕ, ◌<◌, ◌≤◌, IsTrue, List, [], ◌∷◌, ◌⊎◌, length}
use Rattle.cerco_base.specs.Outside.IoFaults.{Rose}
use Rattle.cerco_base.specs.Outside.IoStates.{FilesState, SinkState, SameFiles, Puts}
use Rattle.cerco_base.specs.Outside.IoCalls.{Keeps, Adds, AddsPrefix}
use Rattle.cerco_base.specs.Outside.WholeFiles.{PutsPrefix}
use Rattle.cerco_command.specs.declared.status.Status.{Status}
use Rattle.cerco_command.specs.declared.status.Status.TheVariants.{OutFault, NoMemory}
use Rattle.cerco_command.specs.Status.{code_of}

-- a name and the text that is to stand under it
abbrev pub NamedText : Type 0
NamedText = List ℕ × List ℕ

-- what each command keeps of the files that it is given: the count of their faults never falls, and contents that are known stay known
pub record KeepsFiles (s t : FilesState) : Type 0 where
  pub later : s.faults ≤ t.faults
  pub known : IsTrue s.known → IsTrue t.known

-- these texts stand under their names, written in this order, and every other name is as it was
abbrev pub AreWritten : List NamedText → FilesState → FilesState → Type 0
AreWritten [] s t = SameFiles s t
AreWritten (file ∷ files) s t = (u : FilesState) × Puts s u file.0 file.1 × AreWritten files u t

-- some of these texts are written: each is whole before the next is created, and the last that was created holds a prefix of
-- its text
abbrev pub ArePartlyWritten : List NamedText → FilesState → FilesState → Type 0
ArePartlyWritten [] s t = SameFiles s t
ArePartlyWritten (file ∷ files) s t =
    SameFiles s t ⊎ PutsPrefix s t file.0 file.1 ⊎ ((u : FilesState) × Puts s u file.0 file.1 × ArePartlyWritten files u t)

-- The status of a text that couldn't be put whole: the output's count of faults rose, or there was no memory. Neither comes for an
-- empty text.
abbrev pub FellShort : SinkState → SinkState → List ℕ → Status → Type 0
FellShort o p text OutFault = Rose o.faults p.faults × (0 < length text)
FellShort o p text NoMemory = 0 < length text
FellShort o p text status = ⊥

-- A status was meant with a text: the text is put and this is the status, or a prefix of the text is put and the status says why.
pub record Says (o p : SinkState) (meant : Status) (text : List ℕ) (status : Status) : Type 0 where
  pub keeps : Keeps o p
  pub puts : ((status ≡ meant) × Adds o p text) ⊎ (FellShort o p text status × AddsPrefix o p text)

-- the same for a status and a text that a command may mean
pub record Answers (Means : Status → List ℕ → Type 0) (o p : SinkState) (status : Status) : Type 0 where
  pub meant : Status
  pub text : List ℕ
  pub means : Means meant text
  pub says : Says o p meant text status

-- the program ends so, with the number of the status
pub record EndsWith (Means : Status → List ℕ → Type 0) (o p : SinkState) (code : ℕ) : Type 0 where
  pub status : Status
  pub ends : code ≡ code_of status
  pub answers : Answers Means o p status
