-- Cminor by the program of ExampleProgram, which is well formed, its run and its sums; further statements by their runs; and the
-- sums of `unsigned char a;unsigned int b;void main(void){b=a;}`.
use Rattle.std.proofs.Common.{◌≡◌, ℕ, List, [], ◌∷◌, Some, None, true, refl, subst, arith}
use Rattle.std.proofs.lemmas.Option.{same_Some}
use Rattle.cerco_base.specs.Events.{label}
use Rattle.cerco_base.specs.declared.events.Event.{Event}
use Rattle.cerco_base.specs.declared.events.Event.TheVariants.{Write}
use Rattle.cerco_base.specs.declared.events.Port.TheVariants.{P1}
use Rattle.cerco_base.specs.declared.events.Label.{Label}
use Rattle.cerco_traces.specs.Headline.{after}
use Rattle.cerco_traces.specs.Worlds.{update}
use Rattle.cerco_middle.specs.declared.operators.Held.TheVariants.{U8, I8, W16}
use Rattle.cerco_middle.specs.declared.operators.CmOp.TheVariants.{Add, Sub, LtU}
use Rattle.cerco_middle.specs.Operators.{kept, held_at, operator_value}
use Rattle.cerco_middle.specs.Programs.{KnowsCallers}
use Rattle.cerco_middle.specs.Cminor.Trees.{Const, Var, Load, Bin, Test, Not, Both, Either, CmStmt, Seq, Set, Store, ReadPort, WritePort, Call, If, Loop, Do, Break, Continue, Return, NoStmts, Then, CmFunction, Cminor, callees_of}
use Rattle.cerco_middle.specs.Cminor.Meaning.{CmState, cminor}
use Rattle.cerco_middle.specs.Cminor.WellFormed.{OfStmts, CallsBelow, TargetFits, CallFits, CallsAreKnown, IsWellFormedFunction, IsWellFormed}
use Rattle.cerco_middle.specs.Cminor.Sums.{long_length, function_length, register_need}
use Rattle.cerco_middle.proofs.Each.{◌&◌, each_at}
use Rattle.cerco_middle.proofs.ExampleProgram.{example_calls, example_events, holds_functions, knows_of_next, knows_of_main, example_numbered}

abbrev mark : ℕ → Label
mark l = record { 0 = l }

abbrev next : CmFunction
next = record { held = U8 ∷ []; params = 1; result = Some U8; label = mark 0; body = Return (Some (Bin Add (Var 0) (Const 1))) }

abbrev call_of_next : CmStmt
call_of_next = Call (Some 0) 0 (Var 0 ∷ []) (mark 3)

abbrev the_loop : CmStmt
the_loop = Loop (Some (Test (Bin LtU (Var 0) (Load U8 (Const 1))))) (mark 2) call_of_next (Seq NoStmts) (mark 4)

abbrev the_main : CmFunction
the_main = record {
  held = U8 ∷ [];
  params = 0;
  result = None;
  label = mark 1;
  body = Seq (Then (Then (Then NoStmts (ReadPort 0)) the_loop) (WritePort (Var 0)));
}

abbrev program : Cminor
program = record { functions = next ∷ the_main ∷ []; calls = example_calls; main = 1; start = (1, 3) ∷ [] }

-- ---- its run on a script with the byte 1

abbrev end : CmState
end = after (cminor program) 50 ((cminor program).start (1 ∷ []))

ends : (cminor program).ended end ≡ true
unfolding update kept held_at operator_value
ends = refl

events : (cminor program).events end ≡ example_events
unfolding update kept held_at operator_value
events = refl

-- ---- its sums

length_of_next : function_length program.functions next ≡ 60
length_of_next = refl

length_of_program : long_length program ≡ 233
length_of_program = refl

need_of_main : register_need program.functions the_main ≡ 6
need_of_main = refl

-- ---- it is well formed

next_formed : IsWellFormedFunction program next
next_formed = record {
  variables_exist = (omega arith, (omega arith, tt));
  parameters_are_few = omega arith;
  jumps_are_in_loops = tt;
  returns_fit = tt;
  calls_fit = tt;
}

call_fits : CallFits program call_of_next
call_fits callee is = subst (λ f. (1 ≡ f.params) × TargetFits f.result (Some 0)) (same_Some next callee is) (refl, tt)

main_formed : IsWellFormedFunction program the_main
main_formed = record {
  variables_exist = (omega arith, (tt, (((tt, omega arith), ((omega arith, tt), (omega arith, (omega arith, tt)), (tt, tt))), omega arith)));
  parameters_are_few = omega arith;
  jumps_are_in_loops = (((tt, tt), (tt, tt)), tt);
  returns_fit = (tt, (((tt, tt), (tt, tt, (tt, tt))), tt));
  calls_fit = (tt, (((tt, tt), (tt, call_fits, (tt, tt))), tt));
}

calls_known : CallsAreKnown program
calls_known = record { functions = holds_functions; callers = each_at (λ i f. KnowsCallers example_calls i (callees_of f)) program.functions (knows_of_next & knows_of_main & tt) }

formed : IsWellFormed program
formed = record {
  functions_exist = (omega arith, each_at (λ i f. OfStmts (CallsBelow 2) f.body) program.functions (tt & (tt, (((tt, tt), (tt, omega arith, (tt, tt))), tt)) & tt));
  calls_are_known = calls_known;
  main_is_plain = λ f is. subst (λ f. (f.params ≡ 0) × (f.result ≡ None)) (same_Some the_main f is) (refl, refl);
  labels_are_numbered = example_numbered;
  starts_with_bytes = (omega arith, omega arith, tt);
  functions = each_at (λ i f. IsWellFormedFunction program f) program.functions (next_formed & main_formed & tt);
}

-- ---- other statements, in a function of one word and one byte

abbrev alone : CmStmt → Cminor
alone body = record {
  functions = record { held = W16 ∷ I8 ∷ []; params = 0; result = None; label = mark 0; body = body } ∷ [];
  calls = record { function = 0; callers = [] } ∷ [];
  main = 0;
  start = [];
}

abbrev shows : CmStmt → List Event
shows body = (cminor (alone body)).events (after (cminor (alone body)) 60 ((cminor (alone body)).start []))

-- a byte keeps its low part and its sign, a word in memory has its low byte first
parts : shows (Seq (Then (Then (Then (Then NoStmts (Set 1 (Const 511))) (Store W16 (Const 7) (Var 1))) (WritePort (Load U8 (Const 8)))) (WritePort (Bin Sub (Load I8 (Const 8)) (Load W16 (Const 7)))))) ≡ label 0 ∷ Write P1 255 ∷ Write P1 0 ∷ []
unfolding update kept held_at operator_value
parts = refl

-- the right operand is only evaluated where it decides
conditions : shows (If (Either (Not (Both (Test (Const 0)) (mark 1) (mark 2) (Test (Const 1)))) (mark 3) (mark 4) (Test (Const 0))) (mark 5) (WritePort (Const 1)) (mark 6) (WritePort (Const 2))) ≡ label 0 ∷ label 2 ∷ label 3 ∷ label 5 ∷ Write P1 1 ∷ []
conditions = refl

-- a continue goes to the step, a break past the loop
jumps : shows (Loop None (mark 1) (If (Test (Var 0)) (mark 2) Break (mark 3) Continue) (Set 0 (Const 1)) (mark 4)) ≡ label 0 ∷ label 1 ∷ label 3 ∷ label 1 ∷ label 2 ∷ label 4 ∷ []
unfolding update kept
jumps = refl

-- a loop with its condition after the body passes its label on the way back alone
repeats : shows (Do (Set 0 (Bin Add (Var 0) (Const 1))) (Test (Bin LtU (Var 0) (Const 2))) (mark 1) (mark 2)) ≡ label 0 ∷ label 1 ∷ label 2 ∷ []
unfolding update kept operator_value
repeats = refl

-- ---- the sums of `b=a`, which stores a word at 2 that it loads as a byte at 1

abbrev copies : Cminor
copies = record {
  functions = record { held = []; params = 0; result = None; label = mark 0; body = Store W16 (Const 2) (Load U8 (Const 1)) } ∷ [];
  calls = record { function = 0; callers = [] } ∷ [];
  main = 0;
  start = [];
}

length_of_copies : long_length copies ≡ 65
length_of_copies = refl
