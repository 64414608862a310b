-- What some straight-line code comes to, by its definition, and which instructions spare the stack.
use Rattle.std.proofs.Common.{◌≡◌, List, [], ◌∷◌, refl}
use Rattle.cerco_base.specs.declared.events.Event.TheVariants as event
use Rattle.cerco_base.specs.declared.events.Port.TheVariants.{P1}
use Rattle.mcs51_isa.specs.declared.instr.Instr.{Instr}
use Rattle.mcs51_isa.specs.declared.instr.Instr.TheVariants.{Nop, ArithImmediate, BranchFlag, MovDirect, MovDirectImmediate, Sjmp, Stack}
use Rattle.mcs51_isa.specs.declared.instr.FlagTest.TheVariants.{Jnz}
use Rattle.mcs51_isa.specs.declared.instr.Move.TheVariants.{IntoAcc, FromAcc}
use Rattle.mcs51_isa.specs.declared.instr.StackOp.TheVariants.{Push}
use Rattle.mcs51_isa.specs.declared.instr.SumOp.TheVariants.{Add}
use Rattle.sim51.specs.State.{reset_core}
use Rattle.sim51.specs.Placed.{bytes_of}
use Rattle.sim51.specs.Straight.{IsStraight, AreStraight, core_after, port_events, cycles_of_instrs, ran, HaveNoLabel}
use Rattle.sim51.specs.StackApart.{SparesStack}

-- MOV A,90H; MOV 30H,A; MOV SP,#7FH; MOV 90H,#5
abbrev moves : List Instr
moves = MovDirect IntoAcc 0x90 ∷ MovDirect FromAcc 0x30 ∷ MovDirectImmediate 0x81 0x7F ∷ MovDirectImmediate 0x90 5 ∷ []

moves_are_straight : AreStraight moves
moves_are_straight = (tt, (tt, (tt, (tt, tt))))

port_is_read_and_written : port_events moves (reset_core (7 ∷ 9 ∷ [])) ≡ event.Read P1 7 ∷ event.Write P1 5 ∷ []
port_is_read_and_written = refl

stack_pointer_is_set : (core_after moves (reset_core (7 ∷ 9 ∷ []))).sp ≡ 0x7F
stack_pointer_is_set = refl

script_is_taken : (core_after moves (reset_core (7 ∷ 9 ∷ []))).script ≡ 9 ∷ []
script_is_taken = refl

cycles_add_up : cycles_of_instrs moves ≡ 6
cycles_add_up = refl

bytes_add_up : bytes_of moves ≡ 10
bytes_add_up = refl

-- at the end of the code memory the next address is 0
goes_around : (ran (Nop ∷ []) (record { events = []; state = record { core = reset_core []; pc = 65535; cycles = 3 } })).state.pc ≡ 0
goes_around = refl

no_label_at_the_second : HaveNoLabel (5 ∷ []) 3 (Nop ∷ Nop ∷ [])
no_label_at_the_second = (refl, (refl, tt))

jump_is_not_straight : IsStraight (Sjmp 0) → ⊥
jump_is_not_straight straight = straight

test_spares_stack : SparesStack (BranchFlag Jnz 2)
test_spares_stack = tt

sum_spares_stack : SparesStack (ArithImmediate Add 2)
sum_spares_stack = tt

push_does_not : SparesStack (Stack Push 0x30) → ⊥
push_does_not spares = spares

nor_does_the_stack_pointer : SparesStack (MovDirectImmediate 0x81 0x7F) → ⊥
nor_does_the_stack_pointer spares = spares refl
