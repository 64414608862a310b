-- RTLabs by the program of ExampleProgram, which is well formed, its run, its sums, and programs that break a condition each.
use Rattle.std.proofs.Common.{◌≡◌, ◌⊎◌, inl, inr, ℕ, zero, suc, ◌<◌, List, [], ◌∷◌, Some, None, true, false, refl, sym, ap, subst, ◌∙◌, eq-eqb, arith}
use Rattle.std.specs.Prelude.{slice_index_or, Contains, IsPermutation, nat_eq, if◌then◌else◌, ◌||◌}
use Rattle.std.proofs.lemmas.Option.{same_Some}
use Rattle.std.proofs.lemmas.List.Sorted.{IsPermutation-refl}
use Rattle.cerco_traces.specs.LabelledGraphs.{In}
use Rattle.cerco_traces.specs.Headline.{after}
use Rattle.cerco_traces.specs.Worlds.{update}
use Rattle.cerco_middle.specs.declared.operators.Held.TheVariants.{U8}
use Rattle.cerco_middle.specs.declared.operators.CmOp.TheVariants.{Add, LtU}
use Rattle.cerco_middle.specs.declared.rtlabs.RtOp.{RtOp}
use Rattle.cerco_middle.specs.declared.rtlabs.RtOp.TheVariants.{Const, Get, Put, Bin, Load, ReadPort, WritePort, Arg, Call, Result, Label, Test, Return, ReturnValue}
use Rattle.cerco_middle.specs.declared.rtlabs.RtNode.{RtNode}
use Rattle.cerco_middle.specs.Operators.{kept, held_at, operator_value}
use Rattle.cerco_middle.specs.Calls.{Argument}
use Rattle.cerco_middle.specs.Programs.{KnowsCallers}
use Rattle.cerco_middle.specs.RtLabs.Graphs.{RtFunction, RtLabs, next_nodes, variables_at, callees_at, callees_of, parameters_of, used_by}
use Rattle.cerco_middle.specs.RtLabs.Meaning.{RtState, rtlabs}
use Rattle.cerco_middle.specs.RtLabs.WellFormed.{OfNodes, CallsAreKnown, GoesOn, ReturnsAs, HandsOver, TakesExactly, CallFreePath, TakesOne, IsTaken, IsWithinTwelve, HasCame, Unwritten, IsWellFormedFunction, IsWellFormed}
use Rattle.cerco_middle.proofs.Each.{◌&◌, each_at}
use Rattle.cerco_middle.proofs.ExampleProgram.{example_calls, example_events, holds_functions, knows_of_next, knows_of_main, example_numbered}
use Rattle.cerco_middle.proofs.RtLabsPaths.{each_all, handed_over_as, holds_along, written_on_the_way}
use Rattle.cerco_middle.specs.RtLabs.Sums.{long_length, function_length, register_need}

-- an operation and the node that comes next
abbrev to : RtOp → ℕ → RtNode
to o next = record { op = o; next = Some next }

abbrev last : RtOp → RtNode
last o = record { op = o; next = None }

abbrev mark : ℕ → RtOp
mark l = Label (record { 0 = l })

abbrev next : RtFunction
next = record {
  held = U8 ∷ [];
  params = 1;
  result = Some U8;
  entry = 0;
  nodes = to (mark 0) 1 ∷ to (Get 0 0) 2 ∷ to (Const 1 1) 3 ∷ to (Bin Add 0 1) 4 ∷ last (ReturnValue 0) ∷ [];
}

abbrev the_main : RtFunction
the_main = record {
  held = U8 ∷ [];
  params = 0;
  result = None;
  entry = 0;
  nodes =
      to (mark 1) 1
      ∷ to (ReadPort 0) 2
      ∷ to (Put 0 0) 3
      -- the test of the loop
      ∷ to (Get 0 0) 4
      ∷ to (Const 1 1) 5
      ∷ to (Load U8 1) 6
      ∷ to (Bin LtU 0 1) 7
      ∷ last (Test 0 8 15)
      -- its body
      ∷ to (mark 2) 9
      ∷ to (Get 0 0) 10
      ∷ to (Arg U8 0 0) 11
      ∷ to (Call 0) 12
      ∷ to (mark 3) 13
      ∷ to (Result U8 0) 14
      ∷ to (Put 0 0) 3
      -- after it
      ∷ to (mark 4) 16
      ∷ to (Get 0 0) 17
      ∷ to (WritePort 0) 18
      ∷ last Return
      ∷ [];
}

abbrev program : RtLabs
program = record { functions = next ∷ the_main ∷ []; calls = example_calls; main = 1; start = (1, 3) ∷ [] }

-- ---- its run on a script with the byte 1

abbrev end : RtState
end = after (rtlabs program) 46 ((rtlabs program).start (1 ∷ []))

ends : (rtlabs program).ended end ≡ true
unfolding update kept held_at operator_value
ends = refl

events : (rtlabs program).events end ≡ example_events
unfolding update kept held_at operator_value
events = refl

-- ---- its sums

length_of_next : function_length next ≡ 47
length_of_next = refl

length_of_program : long_length program ≡ 220
length_of_program = refl

need_of_main : register_need the_main ≡ 6
need_of_main = refl

-- ---- it is well formed

-- the temporaries below n + 1 are those below n, and the one that is written
grows : (n t : ℕ) → t < suc n → (t < n) ⊎ ((n ≡ t) ⊎ ⊥)
grows zero zero lt = inr (inl refl)
grows zero (suc t) lt = absurd (omega (arith, lt))
grows (suc n) zero lt = inl (omega arith)
grows (suc n) (suc t) lt = more (grows n t (omega (arith, lt)))
  where
    more : (t < n) ⊎ ((n ≡ t) ⊎ ⊥) → (suc t < suc n) ⊎ ((suc n ≡ suc t) ⊎ ⊥)
    more (inl below) = inl (omega (arith, below))
    more (inr (inl same)) = inr (inl (ap suc same))
    more (inr (inr no_more)) = absurd no_more

-- how many temporaries are written before each node of `next`
abbrev next_written : ℕ → ℕ
next_written at = slice_index_or (0 ∷ 0 ∷ 1 ∷ 2 ∷ 2 ∷ []) at 0

next_is_written : (t at : ℕ) → Unwritten next t at → t < next_written at → ⊥
next_is_written = written_on_the_way next (λ at t. t < next_written at) (λ t lt. omega (arith, lt)) (λ t. each_at _ next.nodes (
    (λ w. inl w, tt) & (λ w. grows 0 t w, tt) & (λ w. grows 1 t w, tt) & (λ w. inl w, tt) & tt & tt))

next_formed : IsWellFormedFunction program next
next_formed = record {
  variables_exist = (omega arith, each_all next.nodes (λ node. variables_at node.op) (λ at node x. x < 1) (tt & (omega arith, tt) & tt & tt & tt & tt));
  nodes_exist = (omega arith, each_all next.nodes next_nodes (λ at node q. q < 5) ((omega arith, tt) & (omega arith, tt) & (omega arith, tt) & (omega arith, tt) & tt & tt));
  parameters_are_few = omega arith;
  paths_go_on = each_at (λ at node. GoesOn node.op node.next) next.nodes ((1, refl) & (2, refl) & (3, refl) & (4, refl) & refl & tt);
  returns_fit = each_at (λ at node. ReturnsAs (Some U8) node.op) next.nodes (tt & tt & tt & tt & tt & tt);
  arguments_meet_calls = λ arguments. each_at (λ at node. HandsOver next at arguments → TakesExactly program arguments node.op) next.nodes ((λ path. tt) & (λ path. tt) & (λ path. tt) & (λ path. tt) & (λ path. tt) & tt);
  arguments_are_taken = each_at (λ at node. IsTaken program next at node.op) next.nodes (tt & tt & tt & tt & tt & tt);
  arguments_are_within_twelve = each_at (λ at node. IsWithinTwelve node.op) next.nodes (tt & tt & tt & tt & tt & tt);
  results_follow_calls = each_at (λ at node. HasCame program next at node.op) next.nodes (tt & tt & tt & tt & tt & tt);
  written_before_use = λ t at node is used path. next_is_written t at path
      (each_all next.nodes (λ node. used_by node.op) (λ at node t. t < next_written at) (tt & tt & tt & (omega arith, (omega arith, tt)) & (omega arith, tt) & tt) at node is t used);
}

-- how many temporaries are written before each node of `main`
abbrev main_written : ℕ → ℕ
main_written at = slice_index_or (0 ∷ 0 ∷ 1 ∷ 0 ∷ 1 ∷ 2 ∷ 2 ∷ 1 ∷ 0 ∷ 0 ∷ 1 ∷ 0 ∷ 0 ∷ 0 ∷ 1 ∷ 0 ∷ 0 ∷ 1 ∷ 0 ∷ []) at 0

main_is_written : (t at : ℕ) → Unwritten the_main t at → t < main_written at → ⊥
main_is_written = written_on_the_way the_main (λ at t. t < main_written at) (λ t lt. omega (arith, lt)) (λ t. each_at _ the_main.nodes (
    (λ w. inl w, tt)
    & (λ w. grows 0 t w, tt)
    & (λ w. absurd (omega (arith, w)), tt)
    & (λ w. grows 0 t w, tt)
    & (λ w. grows 1 t w, tt)
    & (λ w. inl w, tt)
    & (λ w. inl (omega (arith, w)), tt)
    & (λ w. absurd (omega (arith, w)), (λ w. absurd (omega (arith, w)), tt))
    & (λ w. inl w, tt)
    & (λ w. grows 0 t w, tt)
    & (λ w. absurd (omega (arith, w)), tt)
    & (λ w. inl w, tt)
    & (λ w. inl w, tt)
    & (λ w. grows 0 t w, tt)
    & (λ w. absurd (omega (arith, w)), tt)
    & (λ w. inl w, tt)
    & (λ w. grows 0 t w, tt)
    & (λ w. absurd (omega (arith, w)), tt)
    & tt
    & tt))

-- the argument of `next`, which waits at its call
abbrev argument : Argument
argument = record { held = U8; first_byte = 0 }

abbrev main_arguments : ℕ → List Argument
main_arguments at = if nat_eq at 11 then argument ∷ [] else []

main_hands_over : (at : ℕ) (arguments : List Argument) → HandsOver the_main at arguments → arguments ≡ main_arguments at
main_hands_over = handed_over_as the_main main_arguments refl (each_at _ the_main.nodes (
    (refl, tt) & (refl, tt) & (refl, tt) & (refl, tt) & (refl, tt) & (refl, tt) & (refl, tt) & (refl, (refl, tt)) & (refl, tt) & (refl, tt)
    & (refl, tt) & (refl, tt) & (refl, tt) & (refl, tt) & (refl, tt) & (refl, tt) & (refl, tt) & (refl, tt) & tt & tt))

takes_exactly : (arguments : List Argument) → arguments ≡ argument ∷ [] → TakesExactly program arguments (Call 0)
takes_exactly arguments same callee is = subst (λ f. IsPermutation (parameters_of f) arguments) (same_Some next callee is) (subst (IsPermutation (argument ∷ [])) (sym same) (IsPermutation-refl _))

takes_one : TakesOne program argument (Call 0)
takes_one callee is = subst (λ f. Contains (parameters_of f) argument) (same_Some next callee is) (0, omega arith, refl)

-- the argument waits at its own node and at the call
abbrev Waits : ℕ → Type 0
Waits at = (nat_eq at 10 || nat_eq at 11) ≡ true

main_waits : (q : ℕ) → CallFreePath the_main 10 q → Waits q
main_waits q path = holds_along the_main Waits (each_at _ the_main.nodes (
    (λ calls waits. absurd cc, tt)
    & (λ calls waits. absurd cc, tt)
    & (λ calls waits. absurd cc, tt)
    & (λ calls waits. absurd cc, tt)
    & (λ calls waits. absurd cc, tt)
    & (λ calls waits. absurd cc, tt)
    & (λ calls waits. absurd cc, tt)
    & (λ calls waits. absurd cc, (λ calls waits. absurd cc, tt))
    & (λ calls waits. absurd cc, tt)
    & (λ calls waits. absurd cc, tt)
    & (λ calls waits. refl, tt)
    & (λ calls waits. absurd cc, tt)
    & (λ calls waits. absurd cc, tt)
    & (λ calls waits. absurd cc, tt)
    & (λ calls waits. absurd cc, tt)
    & (λ calls waits. absurd cc, tt)
    & (λ calls waits. absurd cc, tt)
    & (λ calls waits. absurd cc, tt)
    & tt
    & tt)) 10 q path refl

elsewhere : {A : Type 0} (at q : ℕ) → nat_eq q at ≡ false → (q ≡ at) ⊎ ⊥ → A
elsewhere at q differs (inl same) = absurd (no_bool (sym differs ∙ eq-eqb q at same))
  where
    no_bool : false ≡ true → ⊥
    no_bool e = cc
elsewhere at q differs (inr nowhere) = absurd nowhere

main_formed : IsWellFormedFunction program the_main
main_formed = record {
  variables_exist = (
    omega arith,
    each_all the_main.nodes (λ node. variables_at node.op) (λ at node x. x < 1) (
        tt & tt & (omega arith, tt) & (omega arith, tt) & tt & tt & tt & tt & tt & (omega arith, tt) & tt & tt & tt & tt & (omega arith, tt) & tt & (omega arith, tt) & tt & tt & tt),
  );
  nodes_exist = (
    omega arith,
    each_all the_main.nodes next_nodes (λ at node q. q < 19) (
        (omega arith, tt) & (omega arith, tt) & (omega arith, tt) & (omega arith, tt) & (omega arith, tt) & (omega arith, tt) & (omega arith, tt)
        & (omega arith, (omega arith, tt)) & (omega arith, tt) & (omega arith, tt) & (omega arith, tt) & (omega arith, tt) & (omega arith, tt)
        & (omega arith, tt) & (omega arith, tt) & (omega arith, tt) & (omega arith, tt) & (omega arith, tt) & tt & tt),
  );
  parameters_are_few = omega arith;
  paths_go_on = each_at (λ at node. GoesOn node.op node.next) the_main.nodes (
      (1, refl) & (2, refl) & (3, refl) & (4, refl) & (5, refl) & (6, refl) & (7, refl) & refl & (9, refl) & (10, refl) & (11, refl) & (12, refl)
      & (13, refl) & (14, refl) & (3, refl) & (16, refl) & (17, refl) & (18, refl) & refl & tt);
  returns_fit = each_at (λ at node. ReturnsAs None node.op) the_main.nodes (
      tt & tt & tt & tt & tt & tt & tt & tt & tt & tt & tt & tt & tt & tt & tt & tt & tt & tt & tt & tt);
  arguments_meet_calls = λ arguments. each_at (λ at node. HandsOver the_main at arguments → TakesExactly program arguments node.op) the_main.nodes (
      (λ path. tt) & (λ path. tt) & (λ path. tt) & (λ path. tt) & (λ path. tt) & (λ path. tt) & (λ path. tt) & (λ path. tt) & (λ path. tt) & (λ path. tt)
      & (λ path. tt) & (λ path. takes_exactly arguments (main_hands_over 11 arguments path)) & (λ path. tt) & (λ path. tt) & (λ path. tt) & (λ path. tt)
      & (λ path. tt) & (λ path. tt) & (λ path. tt) & tt);
  arguments_are_taken = each_at (λ at node. IsTaken program the_main at node.op) the_main.nodes (
      tt & tt & tt & tt & tt & tt & tt & tt & tt & tt
      & each_at (λ q node. CallFreePath the_main 10 q → TakesOne program argument node.op) the_main.nodes (
      (λ path. tt) & (λ path. tt) & (λ path. tt) & (λ path. tt) & (λ path. tt) & (λ path. tt) & (λ path. tt) & (λ path. tt) & (λ path. tt) & (λ path. tt)
      & (λ path. tt) & (λ path. takes_one) & (λ path. tt) & (λ path. tt) & (λ path. tt) & (λ path. tt) & (λ path. tt) & (λ path. tt)
      & (λ path. no_waiting (main_waits 18 path)) & tt)
      & tt & tt & tt & tt & tt & tt & tt & tt & tt);
  arguments_are_within_twelve = each_at (λ at node. IsWithinTwelve node.op) the_main.nodes (
      tt & tt & tt & tt & tt & tt & tt & tt & tt & tt & omega arith & tt & tt & tt & tt & tt & tt & tt & tt & tt);
  results_follow_calls = each_at (λ at node. HasCame program the_main at node.op) the_main.nodes (
      tt & tt & tt & tt & tt & tt & tt & tt & tt & tt & tt & tt & tt & record {
        call = 11;
        callee = 0;
        after = 12;
        label = record { 0 = 3 };
        function = next;
        calls = refl;
        labels = refl;
        is_callee = refl;
        held_so = refl;
        alone = each_at (λ q node. In 13 (next_nodes node) → q ≡ 12) the_main.nodes (
            elsewhere 13 1 refl & elsewhere 13 2 refl & elsewhere 13 3 refl & elsewhere 13 4 refl & elsewhere 13 5 refl & elsewhere 13 6 refl
            & elsewhere 13 7 refl & neither & elsewhere 13 9 refl & elsewhere 13 10 refl & elsewhere 13 11 refl & elsewhere 13 12 refl
            & (λ is. refl) & elsewhere 13 14 refl & elsewhere 13 3 refl & elsewhere 13 16 refl & elsewhere 13 17 refl & elsewhere 13 18 refl
            & (λ is. absurd is) & tt);
      } & tt & tt & tt & tt & tt & tt);
  written_before_use = λ t at node is used path. main_is_written t at path
      (each_all the_main.nodes (λ node. used_by node.op) (λ at node t. t < main_written at) (
      tt & tt & (omega arith, tt) & tt & tt & (omega arith, tt) & (omega arith, (omega arith, tt)) & (omega arith, tt) & tt & tt & (omega arith, tt)
      & tt & tt & tt & (omega arith, tt) & tt & tt & (omega arith, tt) & tt & tt) at node is t used);
}
  where
    no_waiting : (nat_eq 18 10 || nat_eq 18 11) ≡ true → ⊥
    no_waiting waits = cc

    neither : In 13 (8 ∷ 15 ∷ []) → ◌≡◌ {A = ℕ} 7 12
    neither (inl is) = absurd (omega (arith, is))
    neither (inr is) = elsewhere 13 15 refl is

calls_known : CallsAreKnown program
calls_known = record { functions = holds_functions; callers = each_at (λ i f. KnowsCallers example_calls i (callees_of f.nodes)) program.functions (knows_of_next & knows_of_main & tt) }

formed : IsWellFormed program
formed = record {
  functions_exist = (
    omega arith,
    each_at (λ i f. OfNodes f (λ at node. (g : ℕ) → In g (callees_at node.op) → g < 2)) program.functions (
        each_all next.nodes (λ node. callees_at node.op) (λ at node g. g < 2) (tt & tt & tt & tt & tt & tt)
        & each_all the_main.nodes (λ node. callees_at node.op) (λ at node g. g < 2) (
        tt & tt & tt & tt & tt & tt & tt & tt & tt & tt & tt & (omega arith, tt) & tt & tt & tt & tt & tt & tt & tt & tt)
        & tt),
  );
  calls_are_known = calls_known;
  main_is_plain = λ f is. subst (λ f. (f.params ≡ 0) × (f.result ≡ None)) (same_Some the_main f is) (refl, refl);
  labels_are_numbered = example_numbered;
  starts_with_bytes = (omega arith, omega arith, tt);
  functions = each_at (λ i f. IsWellFormedFunction program f) program.functions (next_formed & main_formed & tt);
}
