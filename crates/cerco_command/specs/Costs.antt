-- What `costs` prints: the costs of an object's start and of its labels, in machine cycles, or the first of them that is none. (The cost
-- of a label in CerCo, deliverables 2.1 and 4.1, by the definition of ways; the lines are the compiler's own.)
use Rattle.std.specs.Prelude.{◌≡◌, ℕ, ◌+◌, ◌⊎◌, List, [], ◌∷◌, ◌++◌, Bool, Result, Ok, Err, IsTrue}
use Rattle.cerco_base.specs.Outside.IoStates.{FilesState, SameFiles}
use Rattle.block_costs.specs.declared.faults.CostFault.{CostFault}
use Rattle.block_costs.specs.Ways.{AreMarks, cost, start_cost}
use Rattle.cerco_command.specs.Answers.{NamedText}
use Rattle.cerco_command.specs.Messages.{start_name, label_name, cost_line, uncosted_line}
use Rattle.cerco_command.specs.Inputs.{CannotRead, HasText, NoneTooLong, SaysTooLong, SaysBadObject, AreObject}
use Rattle.cerco_command.specs.Words.{ObjectFiles}
use Rattle.cerco_command.specs.declared.costs.Texts.{Texts}
use Rattle.cerco_command.specs.declared.status.Status.{Status}
use Rattle.cerco_command.specs.declared.status.Status.TheVariants as Is

-- What is told of costs: the lines of all of them, or the line of the first that is a fault.
abbrev pub Told : Type 0
Told = Result (List ℕ) (List ℕ)

-- a text before what is told
abbrev pub after_text : List ℕ → Told → Told
after_text text (Ok lines) = Ok (text ++ lines)
after_text text (Err line) = Err line

-- the cost of what has this name, before the others
abbrev pub told : List ℕ → Result ℕ CostFault → Told → Told
told name (Ok cycles) others = after_text (cost_line name cycles) others
told name (Err fault) others = Err (uncosted_line name fault)

-- the costs of labels at these addresses, of which the first has this number
abbrev pub labels_told : List ℕ → List Bool → ℕ → List ℕ → Told
labels_told code marks number [] = Ok []
labels_told code marks number (address ∷ addresses) = told (label_name number) (cost code marks address) (labels_told code marks (number + 1) addresses)

-- the cost of the start, and those of all labels
abbrev pub costs_told : List ℕ → List Bool → List ℕ → Told
costs_told code marks labels = told start_name (start_cost code marks) (labels_told code marks 0 labels)

-- what is told is printed, and its status
abbrev pub Prints : Told → Status → List ℕ → Type 0
Prints (Ok lines) Is.Done text = text ≡ lines
Prints (Err line) Is.Uncosted text = text ≡ line
Prints told status text = ⊥

-- the costs of a code with labels at these addresses are printed
pub record PrintsCosts (code labels : List ℕ) (status : Status) (text : List ℕ) : Type 0 where
  pub marks : List Bool
  pub are_marks : AreMarks labels marks
  pub prints : Prints (costs_told code marks labels) status text

-- the texts of the two files
pub record ObjectTexts : Type 0 where
  pub hex : List ℕ
  pub map : List ℕ

abbrev pub texts_of : Texts → ObjectTexts
texts_of texts = record { hex = texts.hex.items; map = texts.map.items }

-- the names of the two files, in the order of the words
abbrev pub names_of : ObjectFiles → List (List ℕ)
names_of names = names.hex ∷ names.map ∷ []

abbrev pub with_names : ObjectFiles → ObjectTexts → List NamedText
with_names names texts = (names.hex, texts.hex) ∷ (names.map, texts.map) ∷ []

pub record AreTextsOf (names : ObjectFiles) (s : FilesState) (texts : ObjectTexts) : Type 0 where
  pub hex_read : HasText s names.hex texts.hex
  pub map_read : HasText s names.map texts.map

-- The texts stand for an object, whose costs are printed.
pub record PrintsCostsOf (texts : ObjectTexts) (status : Status) (text : List ℕ) : Type 0 where
  pub code : List ℕ
  pub labels : List ℕ
  pub object_read : AreObject texts.hex texts.map code labels
  pub costs : PrintsCosts code labels status text

-- what each status means for these texts
abbrev pub CostsMeansFor : ObjectFiles → ObjectTexts → Status → List ℕ → Type 0
CostsMeansFor names texts Is.Done line = NoneTooLong (with_names names texts) × PrintsCostsOf texts Is.Done line
CostsMeansFor names texts Is.Uncosted line = NoneTooLong (with_names names texts) × PrintsCostsOf texts Is.Uncosted line
CostsMeansFor names texts Is.BadInput line =
    SaysTooLong (with_names names texts) line ⊎ (NoneTooLong (with_names names texts) × SaysBadObject texts.hex texts.map line)
CostsMeansFor names texts Is.NoMemory line = line ≡ []
CostsMeansFor names texts status line = ⊥

-- What each status of `costs` means, and what is put with it. It changes no file.
pub record CostsMeans (names : ObjectFiles) (s t : FilesState) (status : Status) (line : List ℕ) : Type 0 where
  pub same : IsTrue s.known → SameFiles s t
  pub means : CannotRead (names_of names) s t status line
      ⊎ ((texts : ObjectTexts) × (IsTrue s.known → AreTextsOf names s texts) × CostsMeansFor names texts status line)
