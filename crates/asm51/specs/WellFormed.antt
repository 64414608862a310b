-- What is asked of the items of an assembly program, each condition by a name of its own (own).
use Rattle.std.specs.Prelude.{◌≡◌, ℕ, ◌^◌, ◌<◌, List, [], ◌∷◌, length, count_by, Bool}
use Rattle.std.specs.List.{AllByRecursion, range_with_len}
use Rattle.mcs51_isa.specs.declared.instr.Instr.TheVariants.{Nop}
use Rattle.asm51.specs.declared.items.AsmItem.{AsmItem}
use Rattle.asm51.specs.declared.items.AsmItem.TheVariants.{Plain, Mark, Jump, Test, Call}
use Rattle.asm51.specs.Items.{is_here, is_enter, is_mark_of, mark_count}

-- exactly one of the items passes the test
abbrev pub StandsOnce : List AsmItem → (AsmItem → Bool) → Type 0
StandsOnce items test = count_by test items ≡ 1

-- The place that each jump names stands among the items exactly once.
abbrev pub JumpHasPlace : List AsmItem → AsmItem → Type 0
JumpHasPlace items (Jump f n) = StandsOnce items (is_here f n)
JumpHasPlace items item = Unit {0}

abbrev pub JumpsHavePlaces : List AsmItem → Type 0
JumpsHavePlaces items = AllByRecursion (JumpHasPlace items) items

-- The place that each test names stands among the items exactly once.
abbrev pub TestHasPlace : List AsmItem → AsmItem → Type 0
TestHasPlace items (Test f n) = StandsOnce items (is_here f n)
TestHasPlace items item = Unit {0}

abbrev pub TestsHavePlaces : List AsmItem → Type 0
TestsHavePlaces items = AllByRecursion (TestHasPlace items) items

-- The entry of each function that is called stands among the items exactly once.
abbrev pub CallHasEntry : List AsmItem → AsmItem → Type 0
CallHasEntry items (Call f) = StandsOnce items (is_enter f)
CallHasEntry items item = Unit {0}

abbrev pub CallsHaveEntries : List AsmItem → Type 0
CallsHaveEntries items = AllByRecursion (CallHasEntry items) items

-- Each number below the number of the marks is a label that is marked exactly once.
abbrev pub LabelsStandOnce : List AsmItem → Type 0
LabelsStandOnce items = AllByRecursion (λ label. StandsOnce items (is_mark_of label)) (range_with_len 0 (mark_count items))

-- Each label that is marked is below the number of the marks.
abbrev pub LabelIsBelow : ℕ → AsmItem → Type 0
LabelIsBelow count (Mark l) = l.0 < count
LabelIsBelow count item = Unit {0}

abbrev pub LabelsAreBelow : List AsmItem → Type 0
LabelsAreBelow items = AllByRecursion (LabelIsBelow (mark_count items)) items

-- The item after each mark is a NOP.
abbrev pub BeginsWithNop : List AsmItem → Type 0
BeginsWithNop (Plain Nop ∷ items) = Unit {0}
BeginsWithNop items = ⊥

abbrev pub MarksHaveNops : List AsmItem → Type 0
MarksHaveNops [] = Unit {0}
MarksHaveNops (Mark l ∷ items) = BeginsWithNop items × MarksHaveNops items
MarksHaveNops (item ∷ items) = MarksHaveNops items

-- There are fewer than 2 to the 28th items.
abbrev pub AreFewItems : List AsmItem → Type 0
AreFewItems items = length items < 2 ^ 28

pub record IsWellFormed (items : List AsmItem) : Type 0 where
  pub jumps : JumpsHavePlaces items
  pub tests : TestsHavePlaces items
  pub calls : CallsHaveEntries items
  pub labels : LabelsStandOnce items
  pub below : LabelsAreBelow items
  pub nops : MarksHaveNops items
  pub few : AreFewItems items
