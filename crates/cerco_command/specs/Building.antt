-- What `build` promises. (The compiler's own; the headline is the correctness of a cost annotating compiler as in CerCo,
-- deliverable 2.1.)
use Rattle.std.specs.Prelude.{◌≡◌, ℕ, List, [], ◌∷◌, Some, None, IsTrue, ◌⊎◌, false, bytes_eq}
use Rattle.cerco_base.specs.declared.events.Label.{Label}
use Rattle.cerco_base.specs.declared.reasons.Reason.{Reason}
use Rattle.cerco_base.specs.Outside.IoFaults.{Rose}
use Rattle.cerco_base.specs.Outside.IoStates.{FilesState, SameFiles}
use Rattle.cerco_traces.specs.Headline.{Headline}
use Rattle.sim51.specs.Runs.{object, cycles_of_run}
use Rattle.object_hex.specs.HexMeaning.{IsHexText}
use Rattle.object_hex.specs.MapMeaning.{IsMapText}
use Rattle.clight_syntax.specs.Annotations.{Costs}
use Rattle.clight_syntax.specs.Annotations.{annotated as annotated_text}
use Rattle.clight_syntax.specs.Labelling.{points_of}
use Rattle.clight_syntax.specs.TypedTrees.{TypedProgram}
use Rattle.clight_meaning.specs.Meaning.{source as meaning}
use Rattle.annotate.specs.Erasure.{erased}
use Rattle.annotate.specs.Numbers.{cost_at}
use Rattle.cerco_pipeline.specs.Programs.{IsProgramOf, HasFirstReason, HasRoomByText}
use Rattle.cerco_pipeline.specs.Built.{AreCostsOf, IsChainOf, LacksRoom}
use Rattle.cerco_command.specs.Words.{BuildFiles}
use Rattle.cerco_command.specs.Refusals.{refused}
use Rattle.cerco_command.specs.Answers.{NamedText, ArePartlyWritten}
use Rattle.cerco_command.specs.Messages.{no_file, file_fault}
use Rattle.cerco_command.specs.declared.status.Status.{Status}
use Rattle.cerco_command.specs.declared.status.Status.TheVariants.{Done, NoFile, Refused, NoRoom, FileFault, NoMemory}

-- The headline. The source is a sound program, and the object does what the program means with its cost labels: for every port script
-- and number n, after exactly as many cycles as the cost variable of the annotated source holds at its n-th stop, it has made exactly
-- the labels, port readings and port writings of the meaning, and has ended exactly if the meaning has; where the meaning is a fault,
-- it has at some time made those before it. The annotated source is the source with the annotations of the labels at their places, in
-- which stand the costs of the start and of each label in the object; without them it is the source. The object is the end of a chain
-- of values that the passes make, each from those before it.
pub record IsCompiled (source code labels annotated : List ℕ) : Type 0 where
  pub program : TypedProgram Label
  pub is_program : IsProgramOf source program
  pub headline : Headline (meaning program) (object code labels) cycles_of_run (cost_at annotated)
  pub costs : Costs
  pub costs_are : AreCostsOf code labels costs
  pub annotations : annotated ≡ annotated_text source (points_of program) costs
  pub erases : erased annotated ≡ source
  pub chain : IsChainOf program code labels

-- The texts of an object to which the source is compiled: its code, the addresses of its labels, and the annotated source.
pub record AreCompiled (source hex map annotated : List ℕ) : Type 0 where
  pub code : List ℕ
  pub labels : List ℕ
  pub is_code : IsHexText hex code
  pub are_labels : IsMapText map labels
  pub compiled : IsCompiled source code labels annotated

-- the files that are written, in this order
abbrev pub outputs : BuildFiles → List ℕ → List ℕ → List ℕ → List NamedText
outputs files hex map annotated = (files.hex, hex) ∷ (files.map, map) ∷ (files.annotated, annotated) ∷ []

-- The source is compiled, the three outputs hold the texts of what it is compiled to, and every other name is as it was.
pub record Builds (files : BuildFiles) (s t : FilesState) : Type 0 where
  pub source : List ℕ
  pub hex : List ℕ
  pub map : List ℕ
  pub annotated : List ℕ
  pub read : s.file files.source ≡ Some source
  pub texts : AreCompiled source hex map annotated
  pub hex_written : t.file files.hex ≡ Some hex
  pub map_written : t.file files.map ≡ Some map
  pub annotated_written : t.file files.annotated ≡ Some annotated
  pub others : (q : List ℕ) → bytes_eq files.hex q ≡ false → bytes_eq files.map q ≡ false → bytes_eq files.annotated q ≡ false → t.file q ≡ s.file q

-- The source is compiled, and the texts of what it is compiled to are written in part.
pub record PartlyBuilds (files : BuildFiles) (s t : FilesState) : Type 0 where
  pub source : List ℕ
  pub hex : List ℕ
  pub map : List ℕ
  pub annotated : List ℕ
  pub read : s.file files.source ≡ Some source
  pub texts : AreCompiled source hex map annotated
  pub written : ArePartlyWritten (outputs files hex map annotated) s t

-- The line names the first reason of the source.
abbrev pub SaysRefused : List ℕ → List ℕ → Type 0
SaysRefused source line = (reason : Reason) × HasFirstReason source reason × (line ≡ refused reason)

-- The source is a sound program that is too big for the machine: the line names how many cells, or how much code, a program of Cminor
-- with its traces comes to by the passes. By the source's own bounds there may not be room for it.
pub record SaysNoRoom (source line : List ℕ) : Type 0 where
  pub program : TypedProgram Label
  pub is_program : IsProgramOf source program
  pub reason : Reason
  pub lacks : LacksRoom program reason
  pub line_is : line ≡ refused reason
  pub not_by_text : HasRoomByText source → ⊥

-- the source is what stands under its name, and no file has changed
pub record Refuses (files : BuildFiles) (s t : FilesState) (source : List ℕ) : Type 0 where
  pub read : s.file files.source ≡ Some source
  pub same : SameFiles s t

-- one of the files that are written
abbrev pub IsOutput : BuildFiles → List ℕ → Type 0
IsOutput files name = (name ≡ files.hex) ⊎ (name ≡ files.map) ⊎ (name ≡ files.annotated)

-- A call of the files failed. It was at the source, and no file has changed, or at an output of a source that is a program.
abbrev pub Faults : BuildFiles → FilesState → FilesState → Type 0
Faults files s t =
    ((t.last_fault ≡ files.source) × (IsTrue s.known → SameFiles s t))
    ⊎ (IsOutput files t.last_fault × (IsTrue s.known → PartlyBuilds files s t))

-- What each status of `build` means, for files whose contents are known, and what is put with it.
abbrev pub BuildMeans : BuildFiles → FilesState → FilesState → Status → List ℕ → Type 0
BuildMeans files s t Done line = (line ≡ []) × (IsTrue s.known → Builds files s t)
BuildMeans files s t NoFile line = (line ≡ no_file files.source) × (IsTrue s.known → (s.file files.source ≡ None) × SameFiles s t)
BuildMeans files s t Refused line = (source : List ℕ) × SaysRefused source line × (IsTrue s.known → Refuses files s t source)
BuildMeans files s t NoRoom line = (source : List ℕ) × SaysNoRoom source line × (IsTrue s.known → Refuses files s t source)
BuildMeans files s t FileFault line = (line ≡ file_fault t.last_fault) × Rose s.faults t.faults × Faults files s t
BuildMeans files s t NoMemory line = (line ≡ []) × (IsTrue s.known → SameFiles s t ⊎ PartlyBuilds files s t)
BuildMeans files s t status line = ⊥
