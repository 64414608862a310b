-- What the program promises for its words. (The compiler's own.)
use Rattle.std.specs.Prelude.{◌≡◌, ℕ, List, [], Option, Some, None, IsTrue}
use Rattle.cerco_base.specs.Outside.IoStates.{FilesState, SameFiles}
use Rattle.cerco_command.specs.Words.{Request, Builds, Runs, Lists, GivesCosts, Erases, Tells}
use Rattle.cerco_command.specs.Messages.{usage}
use Rattle.cerco_command.specs.Building.{BuildMeans}
use Rattle.cerco_command.specs.Running.{RunMeans}
use Rattle.cerco_command.specs.Disassembly.{ListMeans}
use Rattle.cerco_command.specs.Costs.{CostsMeans}
use Rattle.cerco_command.specs.Erasing.{EraseMeans}
use Rattle.cerco_command.specs.Telling.{MeaningMeans}
use Rattle.cerco_command.specs.declared.status.Status.{Status}
use Rattle.cerco_command.specs.declared.status.Status.TheVariants.{Usage, NoMemory}

-- words that are no command: no file changes
abbrev pub UsageMeans : FilesState → FilesState → Status → List ℕ → Type 0
UsageMeans s t Usage line = (line ≡ usage) × (IsTrue s.known → SameFiles s t)
UsageMeans s t NoMemory line = (line ≡ []) × (IsTrue s.known → SameFiles s t)
UsageMeans s t status line = ⊥

-- what each status means for a request, and what is put with it
abbrev pub Means : Option Request → FilesState → FilesState → Status → List ℕ → Type 0
Means (Some (Builds files)) s t = BuildMeans files s t
Means (Some (Runs files)) s t = RunMeans files s t
Means (Some (Lists hex)) s t = ListMeans hex s t
Means (Some (GivesCosts files)) s t = CostsMeans files s t
Means (Some (Erases text)) s t = EraseMeans text s t
Means (Some (Tells words)) s t = MeaningMeans words s t
Means None s t = UsageMeans s t
