-- What is asked of items so that their object does what they mean (own). They are well formed; the first sets the stack pointer, and
-- from then on calls and returns alone use the stack, since the meaning has it as a list of its own.
use Rattle.std.specs.Prelude.{◌≡◌, ℕ, ◌≤◌, List, take, drop, slice_get, Some, Bool, true, false, count_by}
use Rattle.std.specs.List.{AllByRecursion}
use Rattle.mcs51_isa.specs.declared.instr.Instr.{Instr}
use Rattle.mcs51_isa.specs.declared.instr.Instr.TheVariants.{Sjmp, Ret, MovDirectImmediate}
use Rattle.sim51.specs.Straight.{IsStraight}
use Rattle.sim51.specs.StackApart.{SparesStack}
use Rattle.asm51.specs.declared.items.AsmItem.{AsmItem}
use Rattle.asm51.specs.declared.items.AsmItem.TheVariants.{Plain, Jump, Test, Call}
use Rattle.asm51.specs.Items.{target_of}
use Rattle.asm51.specs.WellFormed.{IsWellFormed}
use Rattle.asm51.specs.Numbered.{OfEachItem}

-- The first item is MOV SP,#7FH.
abbrev pub SetsStack : List AsmItem → Type 0
SetsStack items = slice_get items 0 ≡ Some (Plain (MovDirectImmediate 0x81 0x7F))

-- Each other instruction is straight-line code that spares the stack, or a return, or the jump to itself.
abbrev pub IsSelectable : Instr → Type 0
IsSelectable (Ret kind) = Unit {0}
IsSelectable (Sjmp offset) = offset ≡ 0xFE
IsSelectable i = IsStraight i × SparesStack i

abbrev pub ItemIsSelectable : AsmItem → Type 0
ItemIsSelectable (Plain i) = IsSelectable i
ItemIsSelectable item = Unit {0}

abbrev pub InstructionsAreSelectable : List AsmItem → Type 0
InstructionsAreSelectable items = AllByRecursion ItemIsSelectable (drop 1 items)

-- an instruction, or what becomes one or several
abbrev pub has_code : AsmItem → Bool
has_code (Plain i) = true
has_code (Jump f n) = true
has_code (Test f n) = true
has_code (Call f) = true
has_code item = false

-- Between each jump and a target before it there is code, so that no jump is a jump to itself.
abbrev pub TurnsBack : List AsmItem → ℕ → AsmItem → Type 0
TurnsBack items k (Jump f n) = target_of items (Jump f n) ≤ k → 1 ≤ count_by has_code (drop (target_of items (Jump f n)) (take k items))
TurnsBack items k item = Unit {0}

abbrev pub JumpsTurnBack : List AsmItem → Type 0
JumpsTurnBack items = OfEachItem (TurnsBack items) items

pub record AreSelected (items : List AsmItem) : Type 0 where
  pub well_formed : IsWellFormed items
  pub stack : SetsStack items
  pub instructions : InstructionsAreSelectable items
  pub turns : JumpsTurnBack items
