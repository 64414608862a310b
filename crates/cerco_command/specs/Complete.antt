-- That `build` refuses no source for which there is room. (The compiler's own; in CerCo, deliverable 2.1, the compiler may fail.)
use Rattle.std.specs.Prelude.{◌≡◌, ℕ, List, Option, Some, IsTrue, ◌⊎◌}
use Rattle.cerco_base.specs.Outside.IoFaults.{Rose}
use Rattle.cerco_base.specs.Outside.IoStates.{FilesState, SinkState}
use Rattle.cerco_pipeline.specs.Programs.{HasRoomByText}
use Rattle.cerco_command.specs.Words.{Request, Builds}
use Rattle.cerco_command.specs.Status.{code_of}
use Rattle.cerco_command.specs.declared.status.Status.TheVariants.{Done, NoMemory}

-- The source stands under its name. It is sound, and by its own bounds its program has room for its cells and for its code.
pub record HasRoomUnder (s : FilesState) (name : List ℕ) : Type 0 where
  pub source : List ℕ
  pub there : s.file name ≡ Some source
  pub room : HasRoomByText source

-- the program has ended with the number of its being done, or of its being out of memory
abbrev pub IsDone : ℕ → Type 0
IsDone code = (code ≡ code_of Done) ⊎ (code ≡ code_of NoMemory)

-- Where files are known and no call of files or of the output failed, a `build` whose source has room is done, or out of memory.
abbrev pub BuildsAll : Option Request → FilesState → FilesState → SinkState → SinkState → ℕ → Type 0
BuildsAll (Some (Builds files)) s t o p code =
    IsTrue s.known → HasRoomUnder s files.source → (Rose s.faults t.faults → ⊥) → (Rose o.faults p.faults → ⊥) → IsDone code
BuildsAll request s t o p code = Unit {0}
