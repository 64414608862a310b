-- The stages of the commands: what a reply is, how `build` reads a source, compiles it and writes the outputs, and how a text is put
-- by pieces. (The compiler's own.)
use Rattle.std.specs.Prelude.{◌≡◌, ℕ, ◌+◌, ◌<◌, length, All, ◌≤◌, List, [], ◌∷◌, ◌++◌, Option, Some, None, Result, OnOk, OnErr, IfErr, IsTrue, string_bytes, ◌⊎◌}
use Rattle.cerco_base.specs.Outside.IoFaults.{Rose}
use Rattle.cerco_base.specs.Outside.IoStates.{FilesState, SameFiles}
pub use Rattle.printed_lines.specs.Pieces.{PutsFront}
use Rattle.mcs51_isa.specs.declared.instr.Instr.{Instr}
use Rattle.mcs51_isa.specs.Table.{encode_of}
use Rattle.mcs51_isa.specs.Listing.{line_of}
use Rattle.sim51.specs.declared.events.Events.{Events}
use Rattle.sim51.specs.State.{State}
use Rattle.sim51.specs.Step.{Moved, Goes, step}
use Rattle.sim51.specs.State.{LoadedMachine}
use Rattle.sim51.specs.Runs.{events_of}
use Rattle.object_hex.specs.MapMeaning.{AreDistinct}
use Rattle.clight_syntax.specs.declared.points.Point.{Point}
use Rattle.clight_syntax.specs.Annotations.{Costs, annotated}
use Rattle.annotate.specs.Erasure.{erased}
use Rattle.annotate.specs.Numbers.{numbers}
use Rattle.cerco_pipeline.specs.Built.{IsBuilt}
use Rattle.cerco_pipeline.specs.declared.Built.{Built}
use Rattle.cerco_command.specs.Words.{BuildFiles}
use Rattle.cerco_command.specs.Answers.{NamedText, AreWritten, ArePartlyWritten}
use Rattle.cerco_command.specs.Building.{AreCompiled, SaysRefused, SaysNoRoom, outputs}
use Rattle.cerco_command.specs.Messages.{file_fault, event_lines, reserved_line}
use Rattle.cerco_command.specs.Running.{Stops}
use Rattle.cerco_command.specs.Disassembly.{listed_at}
use Rattle.cerco_command.specs.declared.reply.Reply.{Reply}
use Rattle.cerco_command.specs.declared.status.Status.{Status}
use Rattle.cerco_command.specs.declared.status.Status.TheVariants.{Done, Refused, NoRoom, FileFault, NoMemory}

-- the costs that were built
abbrev pub costs_in : Built → Costs
costs_in built = record { start = built.start; labels = built.costs.items }

-- this was built from the source
abbrev pub IsBuiltFrom : List ℕ → Built → Type 0
IsBuiltFrom source built = IsBuilt source built.points built.code built.labels (costs_in built)

-- addresses of labels that a text can have
pub record MayStand (labels : List ℕ) : Type 0 where
  pub few : length labels ≤ 65536
  pub within : All (λ address. address < 65536) labels
  pub apart : AreDistinct labels

-- The annotated text of a source: without the annotations it is the source, and its numbers are the costs.
pub record IsAnnotatedText (source : List ℕ) (points : List Point) (costs : Costs) (text : List ℕ) : Type 0 where
  pub annotations : text ≡ annotated source points costs
  pub erases : erased text ≡ source
  pub numbers_are : numbers text ≡ costs.start ∷ costs.labels

-- a reply with this status and line, or out of memory
abbrev pub Replies : Status → List ℕ → Status → List ℕ → Type 0
Replies meant text status line = ((status ≡ meant) × (line ≡ text)) ⊎ ((status ≡ NoMemory) × (line ≡ []))

-- one of the names of these texts
abbrev pub IsNameOf : List ℕ → List NamedText → Type 0
IsNameOf name [] = ⊥
IsNameOf name (file ∷ files) = (name ≡ file.0) ⊎ IsNameOf name files

-- texts couldn't be written: a call at one of them failed, or there was no memory
abbrev pub CannotWrite : List NamedText → FilesState → FilesState → Status → List ℕ → Type 0
CannotWrite texts s t FileFault line = (line ≡ file_fault t.last_fault) × Rose s.faults t.faults × IsNameOf t.last_fault texts
CannotWrite texts s t NoMemory line = line ≡ []
CannotWrite texts s t status line = ⊥

-- Texts are written in their order: all of them, or some of them.
pub record WritesAll (texts : List NamedText) (s t : FilesState) (result : Result (Unit {0}) Reply) : Type 0 where
  pub later : s.faults ≤ t.faults
  pub stays_known : IsTrue s.known → IsTrue t.known
  pub whole : IsTrue s.known → OnOk result (AreWritten texts s t)
  pub some : IsTrue s.known → OnErr result (ArePartlyWritten texts s t)
  pub failed : IfErr result (λ reply. CannotWrite texts s t reply.status (string_bytes reply.line))

-- what the status means once the texts are to be written
abbrev pub Finishes : List NamedText → FilesState → FilesState → Status → List ℕ → Type 0
Finishes texts s t Done line = (line ≡ []) × (IsTrue s.known → AreWritten texts s t)
Finishes texts s t status line = CannotWrite texts s t status line × (IsTrue s.known → ArePartlyWritten texts s t)

-- the texts of the source are made, and written or not
pub record Makes (files : BuildFiles) (source : List ℕ) (s t : FilesState) (status : Status) (line : List ℕ) : Type 0 where
  pub hex : List ℕ
  pub map : List ℕ
  pub annotated : List ℕ
  pub texts : AreCompiled source hex map annotated
  pub finishes : Finishes (outputs files hex map annotated) s t status line

-- what the status says of a source that isn't compiled
abbrev pub SaysWhy : List ℕ → Status → List ℕ → Type 0
SaysWhy source Refused line = SaysRefused source line
SaysWhy source NoRoom line = SaysNoRoom source line
SaysWhy source status line = ⊥

-- what the status means once the source is read
abbrev pub BuildsOn : BuildFiles → List ℕ → FilesState → FilesState → Status → List ℕ → Type 0
BuildsOn files source s t Refused line = SaysRefused source line × (IsTrue s.known → SameFiles s t)
BuildsOn files source s t NoRoom line = SaysNoRoom source line × (IsTrue s.known → SameFiles s t)
BuildsOn files source s t NoMemory line = ((line ≡ []) × (IsTrue s.known → SameFiles s t)) ⊎ Makes files source s t NoMemory line
BuildsOn files source s t status line = Makes files source s t status line

-- what one step of a run adds to the pending text: the lines of its events where the machine goes on, or the last line
abbrev pub Prints : ℕ → State → State → Moved → Option Status → List ℕ → Type 0
Prints limit s t moved None lines = (events : Events) × (moved ≡ Goes events t) × (s.cycles < limit) × (lines ≡ event_lines s.cycles (events_of events))
Prints limit s t moved (Some status) lines = Stops limit s moved status lines

-- one step of a run adds its lines to the pending text
pub record StepPrinted (limit : ℕ) (now next : LoadedMachine) (before after : List ℕ) (stop : Option Status) : Type 0 where
  pub lines : List ℕ
  pub added : after ≡ before ++ lines
  pub prints : Prints limit now.state next.state (step now.code now.labels now.state) stop lines

-- what the line of an address is, and where the next instruction stands: none where the reserved opcode stands there
abbrev pub LineOf : List ℕ → ℕ → Option ℕ → List ℕ → Type 0
LineOf code address None line = (listed_at code address ≡ None) × (line ≡ reserved_line address)
LineOf code address (Some next) line = (i : Instr) × (listed_at code address ≡ Some i) × (next ≡ address + length (encode_of i)) × (line ≡ line_of address i)

-- the line of an address is added to the pending text
pub record LineListed (code : List ℕ) (address : ℕ) (next : Option ℕ) (before after : List ℕ) : Type 0 where
  pub line : List ℕ
  pub added : after ≡ before ++ line
  pub is : LineOf code address next line
