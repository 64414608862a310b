-- Programs of Cminor that break one condition each.
use Rattle.std.proofs.Common.{◌≡◌, ℕ, zero, suc, ◌<◌, ◌≤◌, List, [], ◌∷◌, Some, None, refl, arith}
use Rattle.cerco_base.specs.CallOrder.{Called}
use Rattle.cerco_base.specs.declared.events.Label.{Label}
use Rattle.cerco_middle.specs.declared.operators.Held.TheVariants.{U8, W16}
use Rattle.cerco_middle.specs.Programs.{times_in}
use Rattle.cerco_middle.specs.Cminor.Trees.{Const, Var, CmStmt, Seq, Set, Call, Loop, Break, Continue, Return, NoStmts, CmFunction, Cminor}
use Rattle.cerco_middle.specs.Cminor.WellFormed.{VariablesExist, FunctionsExist, CallsAreKnown, ParametersAreFew, MainIsPlain, LabelsAreNumbered, StartsWithBytes, JumpsAreInLoops, ReturnsFit, CallsFit}

abbrev mark : ℕ → Label
mark l = record { 0 = l }

abbrev nothing : CmStmt
nothing = Seq NoStmts

-- a function with this body, with neither variables nor a result
abbrev plain : CmStmt → CmFunction
plain body = record { held = []; params = 0; result = None; label = mark 0; body = body }

abbrev of_byte : CmFunction
of_byte = record { held = U8 ∷ []; params = 1; result = None; label = mark 0; body = nothing }

abbrev with_functions : List CmFunction → List Called → Cminor
with_functions functions calls = record { functions = functions; calls = calls; main = 0; start = [] }

no_variable : VariablesExist (plain (Set 0 (Const 1))) → ⊥
no_variable exist = let there = exist.1.0 in omega (arith, there)

no_variable_read : VariablesExist (plain (Return (Some (Var 0)))) → ⊥
no_variable_read exist = let there = exist.1 in omega (arith, there)

no_function : FunctionsExist (with_functions (plain (Call None 1 [] (mark 1)) ∷ []) []) → ⊥
no_function exist = let there = exist.1 0 (plain (Call None 1 [] (mark 1))) refl in omega (arith, there)

caller_unknown : CallsAreKnown (with_functions (plain (Call None 1 [] (mark 1)) ∷ plain nothing ∷ []) (record { function = 0; callers = [] } ∷ record { function = 1; callers = [] } ∷ [])) → ⊥
caller_unknown known =
    let found = known.callers 0 (plain (Call None 1 [] (mark 1))) refl 1 (0, omega arith, refl) 1 (record { function = 1; callers = [] }) refl refl in
    let below = found.1 in omega (arith, below)

many_parameters : ParametersAreFew (record { held = W16 ∷ W16 ∷ W16 ∷ W16 ∷ W16 ∷ W16 ∷ U8 ∷ []; params = 7; result = None; label = mark 0; body = nothing }) → ⊥
many_parameters few = omega (arith, few)

main_takes_a_byte : MainIsPlain (with_functions (of_byte ∷ []) []) → ⊥
main_takes_a_byte is = let none = (is of_byte refl).0 in omega (arith, none)

start_byte_too_great : StartsWithBytes (record { functions = []; calls = []; main = 0; start = (1, 256) ∷ [] }) → ⊥
start_byte_too_great bytes = let below = bytes.1 in omega (arith, below)

label_twice : LabelsAreNumbered (with_functions (plain (Call None 0 [] (mark 0)) ∷ []) []) → ⊥
label_twice numbered = by numbered.number numbered.once numbered.no_more
  where
    by : (n : ℕ) → ((l : ℕ) → l < n → times_in l (0 ∷ 0 ∷ []) ≡ 1) → ((l : ℕ) → n ≤ l → times_in l (0 ∷ 0 ∷ []) ≡ 0) → ⊥
    by zero once no_more = let two = no_more 0 (omega arith) in omega (arith, two)
    by (suc n) once no_more = let two = once 0 (omega arith) in omega (arith, two)

break_outside : JumpsAreInLoops (plain Break) → ⊥
break_outside inside = inside

continue_in_step : JumpsAreInLoops (plain (Loop None (mark 1) nothing Continue (mark 2))) → ⊥
continue_in_step inside = inside.1

loop_in_step : JumpsAreInLoops (plain (Loop None (mark 1) nothing (Loop None (mark 2) Break nothing (mark 3)) (mark 4))) → ⊥
loop_in_step inside = inside.1.0

value_without_result : ReturnsFit (plain (Return (Some (Const 0)))) → ⊥
value_without_result fit = fit

result_without_value : ReturnsFit (record { held = []; params = 0; result = Some U8; label = mark 0; body = Return None }) → ⊥
result_without_value fit = fit

argument_left_out : CallsFit (with_functions (of_byte ∷ []) []) (plain (Call None 0 [] (mark 1))) → ⊥
argument_left_out fit = let none = (fit of_byte refl).0 in omega (arith, none)

target_without_result : CallsFit (with_functions (of_byte ∷ []) []) (plain (Call (Some 0) 0 (Const 0 ∷ []) (mark 1))) → ⊥
target_without_result fit = (fit of_byte refl).1
