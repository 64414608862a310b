-- Programs of RTLabs that break one condition each.
use Rattle.std.proofs.Common.{◌≡◌, inl, ℕ, zero, suc, ◌<◌, ◌≤◌, List, [], ◌∷◌, Some, None, Bool, true, false, refl, sym, arith}
use Rattle.std.proofs.lemmas.Option.{none-some}
use Rattle.std.proofs.lemmas.List.Sorted.{length_permutation}
use Rattle.cerco_base.specs.CallOrder.{Called}
use Rattle.cerco_middle.specs.declared.operators.Held.TheVariants.{U8, W16}
use Rattle.cerco_middle.specs.declared.rtlabs.RtOp.{RtOp}
use Rattle.cerco_middle.specs.declared.rtlabs.RtOp.TheVariants.{Get, WritePort, Arg, Call, Result, Label, Return, ReturnValue}
use Rattle.cerco_middle.specs.declared.rtlabs.RtNode.{RtNode}
use Rattle.cerco_middle.specs.Programs.{times_in}
use Rattle.cerco_middle.specs.RtLabs.Graphs.{RtFunction, RtLabs}
use Rattle.cerco_middle.specs.RtLabs.WellFormed.{VariablesExist, NodesExist, FunctionsExist, CallsAreKnown, ParametersAreFew, MainIsPlain, LabelsAreNumbered, StartsWithBytes, PathsGoOn, ReturnsFit, at_entry, onward, ArgumentsMeetCalls, edge, ArgumentsAreTaken, ArgumentsAreWithinTwelve, ResultsFollowCalls, at_start, WrittenBeforeUse}
use Rattle.cerco_middle.proofs.Each.{◌&◌, each_at}

abbrev to : RtOp → ℕ → RtNode
to o next = record { op = o; next = Some next }

abbrev last : RtOp → RtNode
last o = record { op = o; next = None }

abbrev mark : ℕ → RtOp
mark l = Label (record { 0 = l })

-- a function with these nodes, with neither variables nor a result
abbrev plain : List RtNode → RtFunction
plain nodes = record { held = []; params = 0; result = None; entry = 0; nodes = nodes }

-- a function of one byte
abbrev of_byte : RtFunction
of_byte = record { held = U8 ∷ []; params = 1; result = None; entry = 0; nodes = to (mark 0) 1 ∷ last Return ∷ [] }

abbrev with_functions : List RtFunction → List Called → RtLabs
with_functions functions calls = record { functions = functions; calls = calls; main = 0; start = [] }

-- ---- what is named isn't there

no_variable : VariablesExist (plain (to (Get 0 0) 1 ∷ [])) → ⊥
no_variable exist = let there = exist.1 0 (to (Get 0 0) 1) refl 0 (inl refl) in omega (arith, there)

no_node : NodesExist (plain (to (mark 0) 1 ∷ [])) → ⊥
no_node exist = let there = exist.1 0 (to (mark 0) 1) refl 1 (inl refl) in omega (arith, there)

no_function : FunctionsExist (with_functions (plain (to (Call 1) 0 ∷ []) ∷ []) []) → ⊥
no_function exist = let there = exist.1 0 (plain (to (Call 1) 0 ∷ [])) refl 0 (to (Call 1) 0) refl 1 (inl refl) in omega (arith, there)

no_main : FunctionsExist (with_functions [] []) → ⊥
no_main exist = let there = exist.0 in omega (arith, there)

-- ---- the program

uncalled_left_out : CallsAreKnown (with_functions (plain [] ∷ []) []) → ⊥
uncalled_left_out known = let below = (known.functions.all 0 (omega arith)).1 in omega (arith, below)

caller_unknown : CallsAreKnown (with_functions (plain (to (Call 1) 1 ∷ last Return ∷ []) ∷ plain [] ∷ []) (record { function = 0; callers = [] } ∷ record { function = 1; callers = [] } ∷ [])) → ⊥
caller_unknown known =
    let found = known.callers 0 (plain (to (Call 1) 1 ∷ last Return ∷ [])) refl 1 (0, omega arith, refl) 1 (record { function = 1; callers = [] }) refl refl in
    let below = found.1 in omega (arith, below)

many_parameters : ParametersAreFew (record { held = W16 ∷ W16 ∷ W16 ∷ W16 ∷ W16 ∷ W16 ∷ U8 ∷ []; params = 7; result = None; entry = 0; nodes = [] }) → ⊥
many_parameters few = omega (arith, few)

main_takes_a_byte : MainIsPlain (with_functions (of_byte ∷ []) []) → ⊥
main_takes_a_byte is = let none = (is of_byte refl).0 in omega (arith, none)

start_byte_too_great : StartsWithBytes (record { functions = []; calls = []; main = 0; start = (1, 256) ∷ [] }) → ⊥
start_byte_too_great bytes = let below = bytes.1 in omega (arith, below)

label_twice : LabelsAreNumbered (with_functions (plain (to (mark 0) 1 ∷ to (mark 0) 0 ∷ []) ∷ []) []) → ⊥
label_twice numbered = by numbered.number numbered.once numbered.no_more
  where
    by : (n : ℕ) → ((l : ℕ) → l < n → times_in l (0 ∷ 0 ∷ []) ≡ 1) → ((l : ℕ) → n ≤ l → times_in l (0 ∷ 0 ∷ []) ≡ 0) → ⊥
    by zero once no_more = let two = no_more 0 (omega arith) in omega (arith, two)
    by (suc n) once no_more = let two = once 0 (omega arith) in omega (arith, two)

label_left_out : LabelsAreNumbered (with_functions (plain (to (mark 1) 0 ∷ []) ∷ []) []) → ⊥
label_left_out numbered = by numbered.number numbered.once numbered.no_more
  where
    by : (n : ℕ) → ((l : ℕ) → l < n → times_in l (1 ∷ []) ≡ 1) → ((l : ℕ) → n ≤ l → times_in l (1 ∷ []) ≡ 0) → ⊥
    by zero once no_more = let one = no_more 1 (omega arith) in omega (arith, one)
    by (suc n) once no_more = let none = once 0 (omega arith) in omega (arith, none)

-- ---- where a path ends

return_goes_on : PathsGoOn (plain (to Return 0 ∷ [])) → ⊥
return_goes_on ends = none-some 0 (sym (ends 0 (to Return 0) refl))

label_ends : PathsGoOn (plain (last (mark 0) ∷ [])) → ⊥
label_ends ends = let next = ends 0 (last (mark 0)) refl in none-some next.0 next.1

value_without_result : ReturnsFit (plain (last (ReturnValue 0) ∷ [])) → ⊥
value_without_result fit = fit 0 (last (ReturnValue 0)) refl

result_without_value : ReturnsFit (record { held = []; params = 0; result = Some U8; entry = 0; nodes = last Return ∷ [] }) → ⊥
result_without_value fit = fit 0 (last Return) refl

-- ---- arguments and results

argument_left_out : ArgumentsMeetCalls (with_functions (of_byte ∷ []) []) (plain (to (Call 0) 0 ∷ [])) → ⊥
argument_left_out meet = let same = length_permutation _ _ (meet [] 0 (to (Call 0) 0) refl at_entry of_byte refl) in omega (arith, same)

argument_twice : ArgumentsMeetCalls (with_functions (of_byte ∷ []) []) (plain (to (Arg U8 0 0) 1 ∷ to (Arg U8 0 0) 2 ∷ to (Call 0) 2 ∷ [])) → ⊥
argument_twice meet =
    let same = length_permutation _ _ (meet _ 2 (to (Call 0) 2) refl (onward 1 2 (to (Arg U8 0 0) 2) _ (onward 0 1 (to (Arg U8 0 0) 1) _ at_entry refl refl (inl refl)) refl refl (inl refl)) of_byte refl) in
    omega (arith, same)

argument_lost : ArgumentsAreTaken (with_functions [] []) (plain (to (Arg U8 0 0) 1 ∷ last Return ∷ [])) → ⊥
argument_lost taken = taken 0 (to (Arg U8 0 0) 1) refl 1 (last Return) refl (edge 0 1 (to (Arg U8 0 0) 1) refl refl (inl refl))

argument_too_far : ArgumentsAreWithinTwelve (plain (to (Arg W16 11 0) 0 ∷ [])) → ⊥
argument_too_far within = let twelve = within 0 (to (Arg W16 11 0) 0) refl in omega (arith, twelve)

abbrev is_label : RtOp → Bool
is_label (Label l) = true
is_label _ = false

result_before_a_call : ResultsFollowCalls (with_functions [] []) (plain (to (Result U8 0) 1 ∷ last Return ∷ [])) → ⊥
result_before_a_call follow =
    let came = follow 0 (to (Result U8 0) 1) refl in
    no_label (each_at (λ at node. is_label node.op ≡ false) (to (Result U8 0) 1 ∷ last Return ∷ []) (refl & refl & tt) came.after _ came.labels)
  where
    no_label : true ≡ false → ⊥
    no_label e = cc

unwritten : WrittenBeforeUse (plain (to (WritePort 0) 0 ∷ [])) → ⊥
unwritten written = written 0 0 (to (WritePort 0) 0) refl (inl refl) at_start
