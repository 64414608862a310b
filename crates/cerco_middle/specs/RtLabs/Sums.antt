-- Two sums over a program of RTLabs: how long its code can become with every place in internal RAM and every jump long, and how many
-- bytes of registers and cells each function needs (own).
use Rattle.std.specs.Prelude.{ℕ, suc, ◌+◌, ◌*◌, max, List, [], ◌∷◌, ◌++◌, Option}
use Rattle.cerco_middle.specs.declared.operators.Held.{Held}
use Rattle.cerco_middle.specs.declared.rtlabs.RtOp.{RtOp}
use Rattle.cerco_middle.specs.declared.rtlabs.RtOp.TheVariants as op
use Rattle.cerco_middle.specs.declared.rtlabs.RtNode.{RtNode}
use Rattle.cerco_middle.specs.Operators.{word_bytes, all_held_bytes}
use Rattle.cerco_middle.specs.Calls.{variable_held}
use Rattle.cerco_middle.specs.Lengths.{constant_length, get_length, put_length, difference_length, narrow_length, operator_length, shift_left_length, shift_right_length, load_length, store_length, read_port_length, write_port_length, argument_length, call_length, label_length, test_length, return_length, return_value_length, entry_length, start_length}
use Rattle.cerco_middle.specs.RtLabs.Graphs.{RtFunction, RtLabs, used_by, written_by}

-- ---- length with long jumps

-- an operation of a function with these variables and this result
abbrev pub op_length : List Held → Option Held → RtOp → ℕ
op_length held result (op.Const t number) = constant_length word_bytes
op_length held result (op.Get t x) = get_length (variable_held held x)
op_length held result (op.Put x t) = put_length (variable_held held x)
op_length held result (op.Neg t) = difference_length word_bytes
op_length held result (op.Not t) = difference_length word_bytes
op_length held result (op.Narrow h t) = narrow_length h
op_length held result (op.Bin o t u) = operator_length word_bytes o
op_length held result (op.Shl k t) = shift_left_length word_bytes k
op_length held result (op.Shr k arithmetic t) = shift_right_length word_bytes arithmetic k
op_length held result (op.Load h t) = load_length h
op_length held result (op.Store h t u) = store_length h
op_length held result (op.ReadPort t) = read_port_length
op_length held result (op.WritePort t) = write_port_length
op_length held result (op.Arg h first_byte t) = argument_length h
op_length held result (op.Call g) = call_length
op_length held result (op.Result h t) = get_length h
op_length held result (op.Label l) = label_length
op_length held result (op.Test t on_true on_false) = test_length word_bytes
op_length held result op.Return = return_length
op_length held result (op.ReturnValue t) = return_value_length result

-- a weight of each operation, summed over nodes
abbrev pub sum_of_nodes : (RtOp → ℕ) → List RtNode → ℕ
sum_of_nodes weight [] = 0
sum_of_nodes weight (node ∷ nodes) = weight node.op + sum_of_nodes weight nodes

abbrev pub function_length : RtFunction → ℕ
function_length f = entry_length f.held + sum_of_nodes (op_length f.held f.result) f.nodes

abbrev pub functions_length : List RtFunction → ℕ
functions_length [] = 0
functions_length (f ∷ fs) = function_length f + functions_length fs

abbrev pub long_length : RtLabs → ℕ
long_length p = start_length p.start + functions_length p.functions

-- ---- register need

-- how many temporaries there are up to the greatest of these
abbrev pub count_up_to : List ℕ → ℕ
count_up_to [] = 0
count_up_to (t ∷ ts) = max (suc t) (count_up_to ts)

-- how many temporaries there are up to the greatest one that a node names
abbrev pub temporaries : List RtNode → ℕ
temporaries [] = 0
temporaries (node ∷ nodes) = max (count_up_to (written_by node.op ++ used_by node.op)) (temporaries nodes)

-- the bytes of the variables and temporaries of a function, and one more to work with
abbrev pub register_need : RtFunction → ℕ
register_need f = all_held_bytes f.held + word_bytes * temporaries f.nodes + 1
