-- A program with a loop meets what the laws ask, and its costs, by the definitions.
use Rattle.std.proofs.Common.{◌≡◌, List, [], ◌∷◌, ◌++◌, Bool, true, false, Ok, replicate, refl, lit≤, arith, map}
use Rattle.mcs51_isa.specs.declared.operands.Reg.TheVariants.{R2}
use Rattle.mcs51_isa.specs.declared.instr.Instr.TheVariants.{Nop, Ret, Sjmp, ArithImmediate, MovDirectImmediate, MovRegister}
use Rattle.mcs51_isa.specs.declared.instr.ReturnKind.TheVariants.{FromCall}
use Rattle.mcs51_isa.specs.declared.instr.SumOp.TheVariants.{Add}
use Rattle.mcs51_isa.specs.declared.instr.Move.TheVariants.{IntoAcc, FromAcc}
use Rattle.mcs51_isa.specs.Decoding.{decode_of}
use Rattle.sim51.specs.Step.{instr_at}
use Rattle.asm51.specs.declared.items.AsmItem.{AsmItem}
use Rattle.asm51.specs.declared.items.AsmItem.TheVariants.{Plain, Mark, Enter, Here, Test, Call}
use Rattle.asm51.specs.declared.layouts.JumpLayout.{JumpLayout}
use Rattle.asm51.specs.Relaxation.{round, rounds}
use Rattle.asm51.specs.Emission.{code_of, labels_of}
use Rattle.asm51.specs.JumpLayouts.{IsLayoutOf, addresses_of, targets_of}
use Rattle.asm51.specs.Selected.{AreSelected}
use Rattle.asm51.specs.Ends.{IsStop, at_mark, at_end, after_place, after_entry, stops, returns, goes_on, parts, calls, HasEnds}
use Rattle.block_costs.specs.Ways.{AreMarks, cost, start_cost, way_from}
use Rattle.object_costs.specs.Costs.{HaveCosts}
use Rattle.object_costs.proofs.HaveCosts.{objects_have_costs}

-- the start; function 0 counts R2 down to 0
abbrev counting : List AsmItem
counting =
    Plain (MovDirectImmediate 0x81 0x7F) ∷ Call 0 ∷ Plain (Sjmp 0xFE)
    ∷ Enter 0 ∷ Mark (record { 0 = 0 }) ∷ Plain Nop
    ∷ Here 0 1 ∷ Mark (record { 0 = 1 }) ∷ Plain Nop ∷ Plain (MovRegister IntoAcc R2) ∷ Plain (ArithImmediate Add 0xFF) ∷ Plain (MovRegister FromAcc R2) ∷ Test 0 1
    ∷ Mark (record { 0 = 2 }) ∷ Plain Nop ∷ Plain (Ret FromCall) ∷ []

abbrev layout : JumpLayout
layout = record { forms = rounds counting 0; addresses = addresses_of counting (rounds counting 0); targets = targets_of counting }

is_layout : IsLayoutOf counting layout
unfolding round
is_layout = record { relaxed = record { count = 0; few = lit≤ tt; made = refl; stays = refl }; addresses = refl; targets = refl; fits = lit≤ tt }

loop : IsStop counting 6
loop = after_place 6 0 1 refl (at_mark 7 _ refl)

has_ends : HasEnds counting
has_ends =
    record {
      start = goes_on 0 _ refl tt (calls 1 0 refl (after_entry 3 0 refl (at_mark 4 _ refl)));
      labels = (tt, (tt, (tt, (tt, (stops 6 loop, (tt, (tt, (goes_on 9 _ refl tt (goes_on 10 _ refl tt (goes_on 11 _ refl tt (parts 12 0 1 refl loop (at_mark 13 _ refl)))), (tt, (tt, (tt, (tt, (tt, (returns 15 _ refl, (tt, (tt, tt))))))))))))))));
      tests = (tt, (tt, (tt, (tt, (tt, (tt, (tt, (tt, (tt, (tt, (tt, (tt, ((loop, at_mark 13 _ refl), (tt, (tt, (tt, tt))))))))))))))));
      returns = (tt, (at_end 2 refl, (tt, (tt, (tt, (tt, (tt, (tt, (tt, (tt, (tt, (tt, (tt, (tt, (tt, (tt, tt))))))))))))))));
    }

are_selected : AreSelected counting
are_selected =
    record {
      well_formed = record { jumps = search; tests = search; calls = search; labels = search; below = grind arith; nops = search; few = lit≤ tt };
      stack = refl;
      instructions = (tt, (refl, (tt, (tt, ((tt, tt), (tt, (tt, ((tt, tt), ((tt, tt), ((tt, tt), ((tt, tt), (tt, (tt, ((tt, tt), (tt, tt)))))))))))))));
      turns = search;
    }

have_costs : (marks : List Bool) → AreMarks (labels_of counting (rounds counting 0)) marks → HaveCosts counting (rounds counting 0) marks
have_costs marks marked = objects_have_costs counting layout marks are_selected has_ends is_layout marked

labels_of_counting : labels_of counting (rounds counting 0) ≡ 8 ∷ 9 ∷ 16 ∷ []
unfolding labels_of
labels_of_counting = refl

abbrev marks_of_counting : List Bool
marks_of_counting = replicate 8 false ++ true ∷ true ∷ replicate 6 false ++ true ∷ []

-- MOV SP,#7FH and LCALL take four cycles
start_of_counting : start_cost (code_of counting (rounds counting 0)) marks_of_counting ≡ Ok 4
unfolding way_from instr_at decode_of code_of
start_of_counting = refl

-- NOP; NOP, MOV, ADD, MOV and JNZ; NOP and RET
costs_of_counting : map (cost (code_of counting (rounds counting 0)) marks_of_counting) (8 ∷ 9 ∷ 16 ∷ []) ≡ Ok 1 ∷ Ok 6 ∷ Ok 3 ∷ []
unfolding way_from instr_at decode_of code_of
costs_of_counting = refl
