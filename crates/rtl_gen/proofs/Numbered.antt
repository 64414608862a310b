-- The translated program with numbers for its virtual registers is the translation over numbers.
use Rattle.std.proofs.Common.{◌≡◌, ℕ, zero, suc, ◌+◌, ◌*◌, List, [], ◌∷◌, ◌++◌, map, length, take, drop, Bool, true, false, Option, Some, None, refl, ap, ap₂, ◌∙◌}
use Rattle.std.specs.Prelude.{slice_get, option_map}
use Rattle.std.proofs.lemmas.List.{map-append}
use Rattle.std.proofs.lemmas.Option.{slice_get-map}
use Rattle.cerco_middle.specs.declared.operators.Held.{Held}
use Rattle.cerco_middle.specs.declared.operators.Held.TheVariants.{U8, I8, W16}
use Rattle.cerco_middle.specs.declared.operators.CmOp.{CmOp}
use Rattle.cerco_middle.specs.declared.operators.CmOp.TheVariants as o
use Rattle.cerco_middle.specs.declared.rtlabs.RtOp.{RtOp}
use Rattle.cerco_middle.specs.declared.rtlabs.RtOp.TheVariants as op
use Rattle.cerco_middle.specs.declared.rtlabs.RtNode.{RtNode}
use Rattle.cerco_middle.specs.Operators.{held_bytes}
use Rattle.cerco_middle.specs.Calls.{variable_held}
use Rattle.cerco_middle.specs.RtLabs.Graphs.{RtFunction, RtLabs}
use Rattle.rtl.specs.declared.locations.Vreg.{Vreg}
use Rattle.rtl.specs.declared.graphs.Exit.TheVariants.{Next}
use Rattle.rtl.specs.Operations.{ByteOp}
use Rattle.rtl.specs.Programs.{Graph}
use Rattle.rtl.specs.Locations.{vreg_number}
use Rattle.rtl.specs.Graphs.{renamed_op, renamed_exit, renamed_node, renamed_graph, graph_or, graph_at, numbered}
use Rattle.byte_sequences.specs.Words.{word_from, temporary, variable, argument, scratch, vreg}
use Rattle.byte_sequences.specs.Sequences.{held_part, moves, zeros, extension, reading, load, store, sum, repeated, half}
use Rattle.byte_sequences.specs.Operations.{operator_code, result_code, operation_code, operation_exit, operation_node}
use Rattle.byte_sequences.proofs.OperationLaws.{number}
use Rattle.rtl_gen.specs.Translation.{next_of, entry_next, taken, cleared, entry_node, nodes_from, translated_function, translated}

-- operations with numbers for their virtual registers
abbrev numbered_ops : List (ByteOp Vreg) → List (ByteOp ℕ)
numbered_ops = map (renamed_op vreg_number)

-- ---- sequences

moves_numbered : (h : Held) (a b : ℕ) → numbered_ops (moves (held_part h (word_from vreg a)) (held_part h (word_from vreg b))) ≡ moves (held_part h (word_from number a)) (held_part h (word_from number b))
moves_numbered U8 a b = refl
moves_numbered I8 a b = refl
moves_numbered W16 a b = refl

zeros_numbered : (h : Held) (a : ℕ) → numbered_ops (zeros (held_part h (word_from vreg a))) ≡ zeros (held_part h (word_from number a))
zeros_numbered U8 a = refl
zeros_numbered I8 a = refl
zeros_numbered W16 a = refl

extension_numbered : (h : Held) (a : ℕ) → numbered_ops (extension h (word_from vreg a)) ≡ extension h (word_from number a)
extension_numbered U8 a = refl
extension_numbered I8 a = refl
extension_numbered W16 a = refl

reading_numbered : (h : Held) (a b : ℕ) → numbered_ops (reading h (word_from vreg a) (word_from vreg b)) ≡ reading h (word_from number a) (word_from number b)
reading_numbered U8 a b = refl
reading_numbered I8 a b = refl
reading_numbered W16 a b = refl

load_numbered : (h : Held) (a : ℕ) → numbered_ops (load h (word_from vreg a)) ≡ load h (word_from number a)
load_numbered U8 a = refl
load_numbered I8 a = refl
load_numbered W16 a = refl

store_numbered : (h : Held) (a b : ℕ) → numbered_ops (store h (word_from vreg a) (word_from vreg b)) ≡ store h (word_from number a) (word_from number b)
store_numbered U8 a b = refl
store_numbered I8 a b = refl
store_numbered W16 a b = refl

operator_numbered : (o : CmOp) (a b : ℕ) → numbered_ops (operator_code (scratch vreg) o (word_from vreg a) (word_from vreg b)) ≡ operator_code (scratch number) o (word_from number a) (word_from number b)
operator_numbered o.Add a b = refl
operator_numbered o.Sub a b = refl
operator_numbered o.Mul a b = refl
operator_numbered o.Div a b = refl
operator_numbered o.Rem a b = refl
operator_numbered o.And a b = refl
operator_numbered o.Or a b = refl
operator_numbered o.Xor a b = refl
operator_numbered o.Eq a b = refl
operator_numbered o.Ne a b = refl
operator_numbered o.LtS a b = refl
operator_numbered o.LtU a b = refl
operator_numbered o.LeS a b = refl
operator_numbered o.LeU a b = refl

repeated_numbered : (k : ℕ) (ops : List (ByteOp Vreg)) → numbered_ops (repeated k ops) ≡ repeated k (numbered_ops ops)
repeated_numbered zero ops = refl
repeated_numbered (suc k) ops = map-append (renamed_op vreg_number) ops (repeated k ops) ∙ ap (λ more. numbered_ops ops ++ more) (repeated_numbered k ops)

half_numbered : (keeps_sign : Bool) (a : ℕ) → numbered_ops (half keeps_sign (word_from vreg a)) ≡ half keeps_sign (word_from number a)
half_numbered true a = refl
half_numbered false a = refl

result_numbered : (result : Option Held) (a b : ℕ) → numbered_ops (result_code (word_from vreg a) result (word_from vreg b)) ≡ result_code (word_from number a) result (word_from number b)
result_numbered None a b = refl
result_numbered (Some h) a b = moves_numbered h a b

-- ---- nodes

code_numbered : (held : List Held) (result : Option Held) (o : RtOp) → numbered_ops (operation_code vreg held result o) ≡ operation_code number held result o
code_numbered held result (op.Const t n) = refl
code_numbered held result (op.Get t x) = reading_numbered (variable_held held x) (27 + 4 * t) (25 + 4 * x)
code_numbered held result (op.Put x t) = moves_numbered (variable_held held x) (25 + 4 * x) (27 + 4 * t)
code_numbered held result (op.Neg t) = refl
code_numbered held result (op.Not t) = refl
code_numbered held result (op.Narrow h t) = extension_numbered h (27 + 4 * t)
code_numbered held result (op.Bin o t u) = operator_numbered o (27 + 4 * t) (27 + 4 * u)
code_numbered held result (op.Shl k t) = repeated_numbered k (sum (temporary vreg t) (temporary vreg t))
code_numbered held result (op.Shr k keeps_sign t) = repeated_numbered k (half keeps_sign (temporary vreg t)) ∙ ap (repeated k) (half_numbered keeps_sign (27 + 4 * t))
code_numbered held result (op.Load h t) = load_numbered h (27 + 4 * t)
code_numbered held result (op.Store h t u) = store_numbered h (27 + 4 * t) (27 + 4 * u)
code_numbered held result (op.ReadPort t) = refl
code_numbered held result (op.WritePort t) = refl
code_numbered held result (op.Arg h first_byte t) = moves_numbered h (12 + first_byte) (27 + 4 * t)
code_numbered held result (op.Call g) = refl
code_numbered held result (op.Result h t) = reading_numbered h (27 + 4 * t) (12 + 0)
code_numbered held result (op.Label l) = refl
code_numbered held result (op.Test t on_true on_false) = refl
code_numbered held result op.Return = refl
code_numbered held result (op.ReturnValue t) = result_numbered result (12 + 0) (27 + 4 * t)

exit_numbered : (o : RtOp) (next : ℕ) → renamed_exit vreg_number (operation_exit vreg o next) ≡ operation_exit number o next
exit_numbered (op.Const t n) next = refl
exit_numbered (op.Get t x) next = refl
exit_numbered (op.Put x t) next = refl
exit_numbered (op.Neg t) next = refl
exit_numbered (op.Not t) next = refl
exit_numbered (op.Narrow h t) next = refl
exit_numbered (op.Bin o t u) next = refl
exit_numbered (op.Shl k t) next = refl
exit_numbered (op.Shr k keeps_sign t) next = refl
exit_numbered (op.Load h t) next = refl
exit_numbered (op.Store h t u) next = refl
exit_numbered (op.ReadPort t) next = refl
exit_numbered (op.WritePort t) next = refl
exit_numbered (op.Arg h first_byte t) next = refl
exit_numbered (op.Call g) next = refl
exit_numbered (op.Result h t) next = refl
exit_numbered (op.Label l) next = refl
exit_numbered (op.Test t on_true on_false) next = refl
exit_numbered op.Return next = refl
exit_numbered (op.ReturnValue t) next = refl

node_numbered : (held : List Held) (result : Option Held) (o : RtOp) (next : ℕ) → renamed_node vreg_number (operation_node vreg held result o next) ≡ operation_node number held result o next
node_numbered held result o next = ap₂ (λ ops exit. record { ops = ops; exit = exit }) (code_numbered held result o) (exit_numbered o next)

taken_numbered : (hs : List Held) (x first : ℕ) → numbered_ops (taken vreg hs x first) ≡ taken number hs x first
taken_numbered [] x first = refl
taken_numbered (h ∷ hs) x first =
    map-append (renamed_op vreg_number) (moves (held_part h (variable vreg x)) (held_part h (argument vreg first))) (taken vreg hs (x + 1) (first + held_bytes h))
    ∙ ap₂ (λ ops more. ops ++ more) (moves_numbered h (25 + 4 * x) (12 + first)) (taken_numbered hs (x + 1) (first + held_bytes h))

cleared_numbered : (hs : List Held) (x : ℕ) → numbered_ops (cleared vreg hs x) ≡ cleared number hs x
cleared_numbered [] x = refl
cleared_numbered (h ∷ hs) x =
    map-append (renamed_op vreg_number) (zeros (held_part h (variable vreg x))) (cleared vreg hs (x + 1))
    ∙ ap₂ (λ ops more. ops ++ more) (zeros_numbered h (25 + 4 * x)) (cleared_numbered hs (x + 1))

entry_numbered : (held : List Held) (params next : ℕ) → renamed_node vreg_number (entry_node vreg held params next) ≡ entry_node number held params next
entry_numbered held params next =
    ap (λ ops. record { ops = ops; exit = Next next })
    (map-append (renamed_op vreg_number) (taken vreg (take params held) 0 0) (cleared vreg (drop params held) params)
    ∙ ap₂ (λ ops more. ops ++ more) (taken_numbered (take params held) 0 0) (cleared_numbered (drop params held) params))

-- ---- graphs

nodes_numbered : (f : RtFunction) (new p : ℕ) (nodes : List RtNode) → map (renamed_node vreg_number) (nodes_from vreg f new p nodes) ≡ nodes_from number f new p nodes
nodes_numbered f new p [] = refl
nodes_numbered f new p (node ∷ nodes) = ap₂ (λ n more. n ∷ more) (node_numbered f.held f.result node.op (next_of f.entry new p node.next)) (nodes_numbered f new (p + 1) nodes)

pub function_numbered : (f : RtFunction) → renamed_graph vreg_number (translated_function vreg f) ≡ translated_function number f
function_numbered f =
    ap (λ nodes. record { entry = f.entry; nodes = nodes })
    (map-append (renamed_node vreg_number) (nodes_from vreg f (length f.nodes) 0 f.nodes) (entry_node vreg f.held f.params (entry_next f) ∷ [])
    ∙ ap₂ (λ nodes last. nodes ++ last ∷ []) (nodes_numbered f (length f.nodes) 0 f.nodes) (entry_numbered f.held f.params (entry_next f)))

-- the graphs of a translated program by number
abbrev pub graphs_of : RtLabs → ℕ → Graph ℕ
graphs_of p = graph_at (numbered vreg_number (translated p))

pub graph_is : (p : RtLabs) (i : ℕ) (f : RtFunction) → slice_get p.functions i ≡ Some f → graphs_of p i ≡ translated_function number f
graph_is p i f is =
    ap graph_or (slice_get-map (renamed_graph vreg_number) (map (translated_function vreg) p.functions) i ∙ ap (option_map (renamed_graph vreg_number)) (slice_get-map (translated_function vreg) p.functions i ∙ ap (option_map (translated_function vreg)) is))
    ∙ function_numbered f

pub no_graph : (p : RtLabs) (i : ℕ) → slice_get p.functions i ≡ None → graphs_of p i ≡ graph_or None
no_graph p i is =
    ap graph_or (slice_get-map (renamed_graph vreg_number) (map (translated_function vreg) p.functions) i ∙ ap (option_map (renamed_graph vreg_number)) (slice_get-map (translated_function vreg) p.functions i ∙ ap (option_map (translated_function vreg)) is))
