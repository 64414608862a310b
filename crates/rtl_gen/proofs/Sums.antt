-- The length of the translation is at most that of the program.
use Rattle.std.proofs.Common.{◌≡◌, ℕ, zero, suc, ◌+◌, ◌*◌, ◌≤◌, List, [], ◌∷◌, ◌++◌, map, length, take, drop, Option, Some, None, Bool, true, false, nat_eq, if◌then◌else◌, ap, arith}
use Rattle.cerco_middle.specs.declared.operators.Held.{Held}
use Rattle.cerco_middle.specs.declared.operators.Held.TheVariants.{U8, I8, W16}
use Rattle.cerco_middle.specs.declared.operators.CmOp.{CmOp}
use Rattle.cerco_middle.specs.declared.operators.CmOp.TheVariants as o
use Rattle.cerco_middle.specs.declared.rtlabs.RtOp.{RtOp}
use Rattle.cerco_middle.specs.declared.rtlabs.RtOp.TheVariants as op
use Rattle.cerco_middle.specs.declared.rtlabs.RtNode.{RtNode}
use Rattle.cerco_middle.specs.Operators.{held_bytes, all_held_bytes}
use Rattle.cerco_middle.specs.Calls.{variable_held}
use Rattle.cerco_middle.specs.Lengths.{extension_length, operator_length, return_value_length, entry_length}
use Rattle.cerco_middle.specs.RtLabs.Graphs.{RtFunction, RtLabs}
use Rattle.cerco_middle.specs.RtLabs.Sums as labs
use Rattle.rtl.specs.Operations.{ByteOp}
use Rattle.rtl.specs.Locations.{vreg_number}
use Rattle.rtl.specs.Graphs.{renamed_graph}
use Rattle.rtl.specs.Lengths.{total, op_length, exit_length, node_length, graph_length, vreg_length}
use Rattle.byte_sequences.specs.Words.{word_from, variable, argument, vreg}
use Rattle.byte_sequences.specs.Sequences.{held_part, moves, zeros, extension, reading, load, store, sum, repeated, half}
use Rattle.byte_sequences.specs.Operations.{operator_code, result_code, operation_code, operation_exit}
use Rattle.byte_sequences.proofs.OperationLaws.{number}
use Rattle.rtl_gen.specs.Translation.{next_of, entry_next, entry_node, taken, cleared, nodes_from, translated_function, translated}
use Rattle.rtl_gen.proofs.Numbered.{function_numbered}

pub total_append : {A : Type 0} (f : A → ℕ) (xs ys : List A) → total f (xs ++ ys) ≡ total f xs + total f ys
total_append f [] ys = omega arith
total_append f (x ∷ xs) ys = let rest = total_append f xs ys in omega (arith, rest)

abbrev size : List (ByteOp ℕ) → ℕ
size ops = total op_length ops

-- ---- sequences

at_most_three : (b : Bool) → (if b then 0 else 3) ≤ 3
at_most_three true = omega arith
at_most_three false = omega arith

moves_size : (h : Held) (a b : ℕ) → size (moves (held_part h (word_from number a)) (held_part h (word_from number b))) ≤ 3 * held_bytes h
moves_size U8 a b = let m = at_most_three (nat_eq a b) in omega (arith, m)
moves_size I8 a b = let m = at_most_three (nat_eq a b) in omega (arith, m)
moves_size W16 a b = let m = at_most_three (nat_eq a b) in let n = at_most_three (nat_eq (a + 1) (b + 1)) in omega (arith, m, n)

zeros_size : (h : Held) (a : ℕ) → size (zeros (held_part h (word_from number a))) ≤ 3 * held_bytes h
zeros_size U8 a = omega arith
zeros_size I8 a = omega arith
zeros_size W16 a = omega arith

extension_size : (h : Held) (a : ℕ) → size (extension h (word_from number a)) ≤ extension_length h
extension_size U8 a = omega arith
extension_size I8 a = omega arith
extension_size W16 a = omega arith

reading_size : (h : Held) (a b : ℕ) → size (reading h (word_from number a) (word_from number b)) ≤ 3 * held_bytes h + extension_length h
reading_size h a b =
    let both = total_append op_length (moves (held_part h (word_from number a)) (held_part h (word_from number b))) (extension h (word_from number a)) in
    let m = moves_size h a b in
    let e = extension_size h a in
    omega (arith, both, m, e)

load_size : (h : Held) (a : ℕ) → size (load h (word_from number a)) ≤ 5 + 4 * held_bytes h + extension_length h
load_size U8 a = omega arith
load_size I8 a = omega arith
load_size W16 a = omega arith

store_size : (h : Held) (a b : ℕ) → size (store h (word_from number a) (word_from number b)) ≤ 5 + 4 * held_bytes h
store_size U8 a b = omega arith
store_size I8 a b = omega arith
store_size W16 a b = omega arith

operator_size : (s : ℕ) (o : CmOp) (a b : ℕ) → size (operator_code s o (word_from number a) (word_from number b)) + 3 ≤ operator_length 2 o
operator_size s o.Add a b = omega arith
operator_size s o.Sub a b = omega arith
operator_size s o.Mul a b = omega arith
operator_size s o.Div a b = omega arith
operator_size s o.Rem a b = omega arith
operator_size s o.And a b = omega arith
operator_size s o.Or a b = omega arith
operator_size s o.Xor a b = omega arith
operator_size s o.Eq a b = omega arith
operator_size s o.Ne a b = omega arith
operator_size s o.LtS a b = omega arith
operator_size s o.LtU a b = omega arith
operator_size s o.LeS a b = omega arith
operator_size s o.LeU a b = omega arith

left_size : (k a : ℕ) → size (repeated k (sum (word_from number a) (word_from number a))) ≡ 12 * k
left_size zero a = omega arith
left_size (suc k) a =
    let both = total_append op_length (sum (word_from number a) (word_from number a)) (repeated k (sum (word_from number a) (word_from number a))) in
    let rest = left_size k a in
    omega (arith, both, rest)

right_size : (k a : ℕ) → size (repeated k (half false (word_from number a))) ≡ 11 * k
right_size zero a = omega arith
right_size (suc k) a =
    let both = total_append op_length (half false (word_from number a)) (repeated k (half false (word_from number a))) in
    let rest = right_size k a in
    omega (arith, both, rest)

signed_right_size : (k a : ℕ) → size (repeated k (half true (word_from number a))) ≡ 13 * k
signed_right_size zero a = omega arith
signed_right_size (suc k) a =
    let both = total_append op_length (half true (word_from number a)) (repeated k (half true (word_from number a))) in
    let rest = signed_right_size k a in
    omega (arith, both, rest)

result_size : (result : Option Held) (a b : ℕ) → size (result_code (word_from number a) result (word_from number b)) + 1 ≤ return_value_length result
result_size None a b = omega arith
result_size (Some h) a b = let m = moves_size h a b in omega (arith, m)

-- ---- nodes

op_size : (held : List Held) (result : Option Held) (o : RtOp) (r : ℕ) → size (operation_code number held result o) + exit_length (operation_exit number o r) ≤ labs.op_length held result o
op_size held result (op.Const t n) r = omega arith
op_size held result (op.Get t x) r = let m = reading_size (variable_held held x) (27 + 4 * t) (25 + 4 * x) in omega (arith, m)
op_size held result (op.Put x t) r = let m = moves_size (variable_held held x) (25 + 4 * x) (27 + 4 * t) in omega (arith, m)
op_size held result (op.Neg t) r = omega arith
op_size held result (op.Not t) r = omega arith
op_size held result (op.Narrow h t) r = let m = extension_size h (27 + 4 * t) in omega (arith, m)
op_size held result (op.Bin o t u) r = operator_size 24 o (27 + 4 * t) (27 + 4 * u)
op_size held result (op.Shl k t) r = let m = left_size k (27 + 4 * t) in omega (arith, m)
op_size held result (op.Shr k true t) r = let m = signed_right_size k (27 + 4 * t) in omega (arith, m)
op_size held result (op.Shr k false t) r = let m = right_size k (27 + 4 * t) in omega (arith, m)
op_size held result (op.Load h t) r = let m = load_size h (27 + 4 * t) in omega (arith, m)
op_size held result (op.Store h t u) r = let m = store_size h (27 + 4 * t) (27 + 4 * u) in omega (arith, m)
op_size held result (op.ReadPort t) r = omega arith
op_size held result (op.WritePort t) r = omega arith
op_size held result (op.Arg h first t) r = let m = moves_size h (12 + first) (27 + 4 * t) in omega (arith, m)
op_size held result (op.Call g) r = omega arith
op_size held result (op.Result h t) r = let m = reading_size h (27 + 4 * t) (12 + 0) in omega (arith, m)
op_size held result (op.Label l) r = omega arith
op_size held result (op.Test t on_true on_false) r = omega arith
op_size held result op.Return r = omega arith
op_size held result (op.ReturnValue t) r = result_size result (12 + 0) (27 + 4 * t)

taken_size : (hs : List Held) (x first : ℕ) → size (taken number hs x first) ≤ 3 * all_held_bytes hs
taken_size [] x first = omega arith
taken_size (h ∷ hs) x first =
    let both = total_append op_length (moves (held_part h (variable number x)) (held_part h (argument number first))) (taken number hs (x + 1) (first + held_bytes h)) in
    let m = moves_size h (25 + 4 * x) (12 + first) in
    let rest = taken_size hs (x + 1) (first + held_bytes h) in
    omega (arith, both, m, rest)

cleared_size : (hs : List Held) (x : ℕ) → size (cleared number hs x) ≤ 3 * all_held_bytes hs
cleared_size [] x = omega arith
cleared_size (h ∷ hs) x =
    let both = total_append op_length (zeros (held_part h (variable number x))) (cleared number hs (x + 1)) in
    let m = zeros_size h (25 + 4 * x) in
    let rest = cleared_size hs (x + 1) in
    omega (arith, both, m, rest)

split_bytes : (n : ℕ) (hs : List Held) → all_held_bytes (take n hs) + all_held_bytes (drop n hs) ≡ all_held_bytes hs
split_bytes zero hs = omega arith
split_bytes (suc n) [] = omega arith
split_bytes (suc n) (h ∷ hs) = let rest = split_bytes n hs in omega (arith, rest)

entry_size : (held : List Held) (params next : ℕ) → node_length (entry_node number held params next) ≤ entry_length held
entry_size held params next =
    let both = total_append op_length (taken number (take params held) 0 0) (cleared number (drop params held) params) in
    let t = taken_size (take params held) 0 0 in
    let c = cleared_size (drop params held) params in
    let s = split_bytes params held in
    omega (arith, both, t, c, s)

-- ---- functions and programs

nodes_size : (f : RtFunction) (new p : ℕ) (nodes : List RtNode) → total node_length (nodes_from number f new p nodes) ≤ labs.sum_of_nodes (labs.op_length f.held f.result) nodes
nodes_size f new p [] = omega arith
nodes_size f new p (node ∷ nodes) =
    let one = op_size f.held f.result node.op (next_of f.entry new p node.next) in
    let rest = nodes_size f new (p + 1) nodes in
    omega (arith, one, rest)

function_size : (f : RtFunction) → graph_length (translated_function number f) ≤ labs.function_length f
function_size f =
    let both = total_append node_length (nodes_from number f (length f.nodes) 0 f.nodes) (entry_node number f.held f.params (entry_next f) ∷ []) in
    let old = nodes_size f (length f.nodes) 0 f.nodes in
    let new = entry_size f.held f.params (entry_next f) in
    omega (arith, both, old, new)

functions_size : (fs : List RtFunction) → total graph_length (map (renamed_graph vreg_number) (map (translated_function vreg) fs)) ≤ labs.functions_length fs
functions_size [] = omega arith
functions_size (f ∷ fs) =
    let one = function_size f in
    let named = ap graph_length (function_numbered f) in
    let rest = functions_size fs in
    omega (arith, one, named, rest)

-- the clause on the length
pub translation_length : (p : RtLabs) → vreg_length (translated p) ≤ labs.long_length p
translation_length p = let all = functions_size p.functions in omega (arith, all)
