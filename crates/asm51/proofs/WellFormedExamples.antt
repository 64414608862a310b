-- The conditions on items: a program that meets them all, and one for each condition that doesn't meet it.
use Rattle.std.proofs.Common.{◌≡◌, ◌^◌, List, [], ◌∷◌, ◌++◌, length, lit≤, arith}
use Rattle.mcs51_isa.specs.declared.instr.Instr.TheVariants.{Nop}
use Rattle.asm51.specs.declared.items.AsmItem.{AsmItem}
use Rattle.asm51.specs.declared.items.AsmItem.TheVariants.{Plain, Mark, Enter, Here, Jump, Test, Call}
use Rattle.asm51.specs.WellFormed.{JumpsHavePlaces, TestsHavePlaces, CallsHaveEntries, LabelsStandOnce, LabelsAreBelow, MarksHaveNops, AreFewItems, IsWellFormed}
use Rattle.asm51.proofs.Samples.{filling, labelled, return, countdown}

pub well_formed : IsWellFormed countdown
well_formed = record { jumps = search; tests = search; calls = search; labels = search; below = grind arith; nops = search; few = lit≤ tt }

well_formed_jump : IsWellFormed (Here 0 1 ∷ filling 3 ++ Jump 0 1 ∷ [])
well_formed_jump = record { jumps = search; tests = search; calls = search; labels = search; below = search; nops = search; few = lit≤ tt }

no_place : JumpsHavePlaces (Jump 0 1 ∷ Here 1 0 ∷ []) → ⊥
no_place h = absurd cc

two_places : JumpsHavePlaces (Here 0 1 ∷ Jump 0 1 ∷ Here 0 1 ∷ []) → ⊥
two_places h = absurd cc

no_place_of_a_test : TestsHavePlaces (Test 0 1 ∷ Enter 0 ∷ []) → ⊥
no_place_of_a_test h = absurd cc

no_entry : CallsHaveEntries (Call 2 ∷ Here 2 0 ∷ []) → ⊥
no_entry h = absurd cc

-- label 0 is marked twice, label 1 isn't marked
marked_twice : LabelsStandOnce (labelled 0 ++ labelled 0) → ⊥
marked_twice h = absurd cc

-- one label is marked, and it isn't label 0
not_the_first : LabelsAreBelow (labelled 1) → ⊥
not_the_first h = let below = h.0 in omega arith

no_nop : MarksHaveNops (Mark (record { 0 = 0 }) ∷ return ∷ []) → ⊥
no_nop h = h.0

-- a mark at the end has no NOP after it
no_nop_at_the_end : MarksHaveNops (Plain Nop ∷ Mark (record { 0 = 0 }) ∷ []) → ⊥
no_nop_at_the_end h = h.0

too_many : (items : List AsmItem) → length items ≡ 2 ^ 28 → AreFewItems items → ⊥
too_many items long few = omega arith
