-- Items whose ways have ends (own): from the start and from each label on every way comes to the next label, to the end of the program or
-- to a return, and where a test parts two ways both come to a label at once. Then the code of each layout has one cost from there,
-- as sound and precise labellings ask (CerCo, deliverable 2.1).
use Rattle.std.specs.Prelude.{◌≡◌, ℕ, suc, ◌+◌, List, slice_get, Some}
use Rattle.cerco_base.specs.declared.events.Label.{Label}
use Rattle.mcs51_isa.specs.declared.instr.Instr.{Instr}
use Rattle.mcs51_isa.specs.declared.instr.Instr.TheVariants.{Sjmp, Ret}
use Rattle.mcs51_isa.specs.declared.instr.ReturnKind.{ReturnKind}
use Rattle.sim51.specs.Straight.{IsStraight}
use Rattle.asm51.specs.declared.items.AsmItem.{AsmItem}
use Rattle.asm51.specs.declared.items.AsmItem.TheVariants.{Plain, Mark, Enter, Here, Jump, Test, Call}
use Rattle.asm51.specs.Items.{target_of}
use Rattle.asm51.specs.Numbered.{OfEachItem}

-- Every way ends before item k: a mark comes next, or the jump to itself, maybe after places and entries.
pub data IsStop (items : List AsmItem) : ℕ → Type 0 where
  at_mark : (k : ℕ) (l : Label) → slice_get items k ≡ Some (Mark l) → IsStop items k
  at_end : (k : ℕ) → slice_get items k ≡ Some (Plain (Sjmp 0xFE)) → IsStop items k
  after_place : (k f n : ℕ) → slice_get items k ≡ Some (Here f n) → IsStop items (suc k) → IsStop items k
  after_entry : (k f : ℕ) → slice_get items k ≡ Some (Enter f) → IsStop items (suc k) → IsStop items k

-- The ways from item k on come to a stop or to a return.
pub data HasEnd (items : List AsmItem) : ℕ → Type 0 where
  stops : (k : ℕ) → IsStop items k → HasEnd items k
  returns : (k : ℕ) (kind : ReturnKind) → slice_get items k ≡ Some (Plain (Ret kind)) → HasEnd items k
  goes_on : (k : ℕ) (i : Instr) → slice_get items k ≡ Some (Plain i) → IsStraight i → HasEnd items (suc k) → HasEnd items k
  passes_place : (k f n : ℕ) → slice_get items k ≡ Some (Here f n) → HasEnd items (suc k) → HasEnd items k
  passes_entry : (k f : ℕ) → slice_get items k ≡ Some (Enter f) → HasEnd items (suc k) → HasEnd items k
  jumps : (k f n : ℕ) → slice_get items k ≡ Some (Jump f n) → HasEnd items (target_of items (Jump f n)) → HasEnd items k
  parts : (k f n : ℕ) → slice_get items k ≡ Some (Test f n) → IsStop items (target_of items (Test f n)) → IsStop items (suc k) → HasEnd items k
  calls : (k f : ℕ) → slice_get items k ≡ Some (Call f) → IsStop items (target_of items (Call f)) → HasEnd items k

-- The ways from the first item on have ends.
abbrev pub StartEnds : List AsmItem → Type 0
StartEnds items = HasEnd items 0

-- The ways from each label on, after its NOP, have ends.
abbrev pub LabelEnds : List AsmItem → ℕ → AsmItem → Type 0
LabelEnds items k (Mark l) = HasEnd items (k + 2)
LabelEnds items k item = Unit {0}

abbrev pub LabelsEnd : List AsmItem → Type 0
LabelsEnd items = OfEachItem (LabelEnds items) items

-- Both arms of each test are stops, also where no way comes to it.
abbrev pub HasArms : List AsmItem → ℕ → AsmItem → Type 0
HasArms items k (Test f n) = IsStop items (target_of items (Test f n)) × IsStop items (suc k)
HasArms items k item = Unit {0}

abbrev pub TestsHaveArms : List AsmItem → Type 0
TestsHaveArms items = OfEachItem (HasArms items) items

-- What comes after each call is a stop: a return lands there.
abbrev pub LandsAtStop : List AsmItem → ℕ → AsmItem → Type 0
LandsAtStop items k (Call f) = IsStop items (suc k)
LandsAtStop items k item = Unit {0}

abbrev pub ReturnsLandAtStops : List AsmItem → Type 0
ReturnsLandAtStops items = OfEachItem (LandsAtStop items) items

pub record HasEnds (items : List AsmItem) : Type 0 where
  pub start : StartEnds items
  pub labels : LabelsEnd items
  pub tests : TestsHaveArms items
  pub returns : ReturnsLandAtStops items
