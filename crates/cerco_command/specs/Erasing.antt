-- What `erase` prints: a text without its annotations. (The annotated source of CerCo, deliverable 2.1, is the source again without them;
-- what an annotation is is the compiler's own.)
use Rattle.std.specs.Prelude.{◌≡◌, ℕ, ◌≤◌, ◌⊎◌, List, [], ◌∷◌, length, IsTrue}
use Rattle.cerco_base.specs.Outside.IoStates.{FilesState, SameFiles}
use Rattle.annotate.specs.Erasure.{erased}
use Rattle.cerco_command.specs.Inputs.{CannotRead, HasText, longest, SaysTooLong}
use Rattle.cerco_command.specs.declared.status.Status.{Status}
use Rattle.cerco_command.specs.declared.status.Status.TheVariants as Is

-- what each status means for this text under this name
abbrev pub EraseMeansFor : List ℕ → List ℕ → Status → List ℕ → Type 0
EraseMeansFor name text Is.Done line = (length text ≤ longest) × (line ≡ erased text)
EraseMeansFor name text Is.BadInput line = SaysTooLong ((name, text) ∷ []) line
EraseMeansFor name text Is.NoMemory line = line ≡ []
EraseMeansFor name text status line = ⊥

-- What each status of `erase` means, and what is put with it. It changes no file.
pub record EraseMeans (name : List ℕ) (s t : FilesState) (status : Status) (line : List ℕ) : Type 0 where
  pub same : IsTrue s.known → SameFiles s t
  pub means : CannotRead (name ∷ []) s t status line
      ⊎ ((text : List ℕ) × (IsTrue s.known → HasText s name text) × EraseMeansFor name text status line)
