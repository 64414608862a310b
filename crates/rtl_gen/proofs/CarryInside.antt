-- The carry is live in front of no node: each sequence sets it before it uses it.
use Rattle.std.proofs.Common.{◌≡◌, ℕ, zero, suc, ◌+◌, ◌*◌, ◌≤◌, ◌⊎◌, inl, inr, ⊎_elim, List, [], ◌∷◌, ◌++◌, map, length, take, drop, Option, Some, None, Bool, true, false, refl, sym, ap, ◌∙◌, subst, arith}
use Rattle.std.specs.Prelude.{slice_get}
use Rattle.std.proofs.lemmas.Bool.{cases_lt}
use Rattle.std.proofs.lemmas.Option.{slice_get-get_or, slice_get_past}
use Rattle.std.proofs.lemmas.List.{length-append}
use Rattle.cerco_middle.specs.declared.operators.Held.{Held}
use Rattle.cerco_middle.specs.declared.operators.Held.TheVariants.{U8, I8, W16}
use Rattle.cerco_middle.specs.declared.operators.CmOp.{CmOp}
use Rattle.cerco_middle.specs.declared.operators.CmOp.TheVariants as o
use Rattle.cerco_middle.specs.declared.rtlabs.RtOp.{RtOp}
use Rattle.cerco_middle.specs.declared.rtlabs.RtOp.TheVariants as op
use Rattle.cerco_middle.specs.declared.rtlabs.RtNode.{RtNode}
use Rattle.cerco_middle.specs.Operators.{held_bytes}
use Rattle.cerco_middle.specs.Calls.{variable_held}
use Rattle.cerco_middle.specs.RtLabs.Graphs.{RtFunction, RtLabs}
use Rattle.rtl.specs.declared.graphs.Exit.{Exit}
use Rattle.rtl.specs.declared.graphs.Exit.TheVariants.{Next, Test, Call, Label, Return}
use Rattle.rtl.specs.Operations.{ByteOp}
use Rattle.rtl.specs.Programs.{Node, Graph}
use Rattle.rtl.specs.Effects.{Loc, Carry, reads, writes}
use Rattle.rtl.specs.Graphs.{node_or, node_at, ops_at, exit_at, stay, graph_or}
use Rattle.rtl.specs.Liveness.{IsAmong, Uses, Live, used, kept, used_by_exit, onward}
use Rattle.rtl.specs.CallingConvention.{CarryStaysInside}
use Rattle.byte_sequences.specs.Words.{word_from, variable, argument}
use Rattle.byte_sequences.specs.Sequences.{held_part, moves, zeros, extension, reading, sum, repeated, half}
use Rattle.byte_sequences.specs.Operations.{operator_code, result_code, operation_code, operation_node}
use Rattle.byte_sequences.proofs.OperationLaws.{number}
use Rattle.rtl_gen.specs.Translation.{entry_next, entry_code, entry_node, taken, cleared, all_nodes, nodes_from, translated_function}
use Rattle.rtl_gen.proofs.Nodes.{old_node, new_node, length_nodes_from}
use Rattle.rtl_gen.proofs.Numbered.{graphs_of, graph_is, no_graph}

-- ---- nodes of a translated function

-- each node is that of an operation, the new one, or none
pub data NodeIs (f : RtFunction) (q : ℕ) : Type 0 where
  of_operation : (node : RtNode) (r : ℕ) → slice_get f.nodes q ≡ Some node → node_at (translated_function number f) q ≡ operation_node number f.held f.result node.op r → NodeIs f q
  of_entry : (r : ℕ) → q ≡ length f.nodes → node_at (translated_function number f) q ≡ entry_node number f.held f.params r → NodeIs f q
  of_none : node_at (translated_function number f) q ≡ stay q → NodeIs f q

pub node_cases : (f : RtFunction) (q : ℕ) → NodeIs f q
node_cases f q = ⊎_elim
    (λ below. old _ (slice_get-get_or f.nodes q (record { op = op.Return; next = None }) below))
    (λ above. ⊎_elim (λ at. last (omega (arith, above, at))) (λ far. past far) (cases_lt q (length f.nodes + 1)))
    (cases_lt q (length f.nodes))
  where
    use_node : (n : Option (Node ℕ)) → slice_get (all_nodes number f) q ≡ n → node_at (translated_function number f) q ≡ node_or q n
    use_node n is = ap (node_or q) is

    old : (node : RtNode) → slice_get f.nodes q ≡ Some node → NodeIs f q
    old node is = of_operation node _ is (use_node _ (old_node number f q node is))

    last : q ≡ length f.nodes → NodeIs f q
    last same = of_entry (entry_next f) same (use_node _ (ap (slice_get (all_nodes number f)) same ∙ new_node number f))

    past : length f.nodes + 1 ≤ q → NodeIs f q
    past far =
        let all : length (all_nodes number f) ≡ length f.nodes + 1 = length-append (nodes_from number f (length f.nodes) 0 f.nodes) (entry_node number f.held f.params (entry_next f) ∷ []) ∙ ap (λ n. n + 1) (length_nodes_from number f (length f.nodes) 0 f.nodes) in
        of_none (use_node _ (slice_get_past (all_nodes number f) q (omega (arith, all, far))))

-- ---- sequences

-- the carry is set before it is used, if it is used
abbrev pub SetsFirst : List (ByteOp ℕ) → Type 0
SetsFirst [] = Unit {0}
SetsFirst (op ∷ ops) = (IsAmong Carry (reads op) → ⊥) × (IsAmong Carry (writes op) ⊎ SetsFirst ops)

no_carry : {t : ℕ} → Loc t ≡ Carry → ⊥
no_carry e = cc

-- no operation of these uses it
abbrev pub UsesNone : List (ByteOp ℕ) → Type 0
UsesNone [] = Unit {0}
UsesNone (op ∷ ops) = (IsAmong Carry (reads op) → ⊥) × UsesNone ops

none_sets : (ops : List (ByteOp ℕ)) → UsesNone ops → SetsFirst ops
none_sets [] none = tt
none_sets (op ∷ ops) none = (none.0, inr (none_sets ops none.1))

none_append : (ops more : List (ByteOp ℕ)) → UsesNone ops → UsesNone more → UsesNone (ops ++ more)
none_append [] more f g = g
none_append (op ∷ ops) more f g = (f.0, none_append ops more f.1 g)

sets_append : (ops more : List (ByteOp ℕ)) → UsesNone ops → SetsFirst more → SetsFirst (ops ++ more)
sets_append [] more f g = g
sets_append (op ∷ ops) more f g = (f.0, inr (sets_append ops more f.1 g))

-- one location is read
one : {t : ℕ} → IsAmong Carry (Loc t ∷ []) → ⊥
one (inl e) = no_carry e
one (inr n) = n

two : {t u : ℕ} → IsAmong Carry (Loc t ∷ Loc u ∷ []) → ⊥
two (inl e) = no_carry e
two (inr i) = one i

nothing : IsAmong Carry [] → ⊥
nothing n = n

moves_none : (h : Held) (a b : ℕ) → UsesNone (moves (held_part h (word_from number a)) (held_part h (word_from number b)))
moves_none U8 a b = (one, tt)
moves_none I8 a b = (one, tt)
moves_none W16 a b = (one, (one, tt))

zeros_none : (h : Held) (a : ℕ) → UsesNone (zeros (held_part h (word_from number a)))
zeros_none U8 a = (nothing, tt)
zeros_none I8 a = (nothing, tt)
zeros_none W16 a = (nothing, (nothing, tt))

extension_sets : (h : Held) (a : ℕ) → SetsFirst (extension h (word_from number a))
extension_sets U8 a = (nothing, inr tt)
extension_sets I8 a = (one, inl (inl refl))
extension_sets W16 a = tt

reading_sets : (h : Held) (a b : ℕ) → SetsFirst (reading h (word_from number a) (word_from number b))
reading_sets h a b = sets_append (moves (held_part h (word_from number a)) (held_part h (word_from number b))) (extension h (word_from number a)) (moves_none h a b) (extension_sets h a)

operator_sets : (s : ℕ) (o : CmOp) (a b : ℕ) → SetsFirst (operator_code s o (word_from number a) (word_from number b))
operator_sets s o.Add a b = (two, inl (inr (inl refl)))
operator_sets s o.Sub a b = (nothing, inl (inl refl))
operator_sets s o.Mul a b = (two, inr tt)
operator_sets s o.Div a b = (two, inr (nothing, inr tt))
operator_sets s o.Rem a b = (two, inr (nothing, inr tt))
operator_sets s o.And a b = (two, inr (two, inr tt))
operator_sets s o.Or a b = (two, inr (two, inr tt))
operator_sets s o.Xor a b = (two, inr (two, inr tt))
operator_sets s o.Eq a b = (nothing, inl (inl refl))
operator_sets s o.Ne a b = (nothing, inl (inl refl))
operator_sets s o.LtS a b = (one, inl (inr (inl refl)))
operator_sets s o.LtU a b = (nothing, inl (inl refl))
operator_sets s o.LeS a b = (one, inl (inr (inl refl)))
operator_sets s o.LeU a b = (nothing, inl (inl refl))

left_sets : (k a : ℕ) → SetsFirst (repeated k (sum (word_from number a) (word_from number a)))
left_sets zero a = tt
left_sets (suc k) a = (two, inl (inr (inl refl)))

right_sets : (k : ℕ) (keeps_sign : Bool) (a : ℕ) → SetsFirst (repeated k (half keeps_sign (word_from number a)))
right_sets zero keeps_sign a = tt
right_sets (suc k) true a = (one, inl (inl refl))
right_sets (suc k) false a = (nothing, inl (inl refl))

result_none : (result : Option Held) (a b : ℕ) → UsesNone (result_code (word_from number a) result (word_from number b))
result_none None a b = tt
result_none (Some h) a b = moves_none h a b

store_reads : (h : Held) (a b : ℕ) → IsAmong Carry (Loc a ∷ Loc (a + 1) ∷ map Loc (held_part h (word_from number b))) → ⊥
store_reads h a b (inl e) = no_carry e
store_reads h a b (inr (inl e)) = no_carry e
store_reads U8 a b (inr (inr i)) = one i
store_reads I8 a b (inr (inr i)) = one i
store_reads W16 a b (inr (inr i)) = two i

code_sets : (held : List Held) (result : Option Held) (o : RtOp) → SetsFirst (operation_code number held result o)
code_sets held result (op.Const t n) = (nothing, inr (nothing, inr tt))
code_sets held result (op.Get t x) = reading_sets (variable_held held x) (27 + 4 * t) (25 + 4 * x)
code_sets held result (op.Put x t) = none_sets (operation_code number held result (op.Put x t)) (moves_none (variable_held held x) (25 + 4 * x) (27 + 4 * t))
code_sets held result (op.Neg t) = (nothing, inl (inl refl))
code_sets held result (op.Not t) = (nothing, inl (inl refl))
code_sets held result (op.Narrow h t) = extension_sets h (27 + 4 * t)
code_sets held result (op.Bin o t u) = operator_sets 24 o (27 + 4 * t) (27 + 4 * u)
code_sets held result (op.Shl k t) = left_sets k (27 + 4 * t)
code_sets held result (op.Shr k keeps_sign t) = right_sets k keeps_sign (27 + 4 * t)
code_sets held result (op.Load h t) = (two, inr (extension_sets h (27 + 4 * t)))
code_sets held result (op.Store h t u) = (store_reads h (27 + 4 * t) (27 + 4 * u), inr tt)
code_sets held result (op.ReadPort t) = (nothing, inr (nothing, inr tt))
code_sets held result (op.WritePort t) = (one, inr tt)
code_sets held result (op.Arg h first t) = none_sets (operation_code number held result (op.Arg h first t)) (moves_none h (12 + first) (27 + 4 * t))
code_sets held result (op.Call g) = tt
code_sets held result (op.Result h t) = reading_sets h (27 + 4 * t) (12 + 0)
code_sets held result (op.Label l) = tt
code_sets held result (op.Test t on_true on_false) = (two, inr tt)
code_sets held result op.Return = tt
code_sets held result (op.ReturnValue t) = none_sets (operation_code number held result (op.ReturnValue t)) (result_none result (12 + 0) (27 + 4 * t))

taken_none : (hs : List Held) (x first : ℕ) → UsesNone (taken number hs x first)
taken_none [] x first = tt
taken_none (h ∷ hs) x first = none_append (moves (held_part h (variable number x)) (held_part h (argument number first))) (taken number hs (x + 1) (first + held_bytes h)) (moves_none h (25 + 4 * x) (12 + first)) (taken_none hs (x + 1) (first + held_bytes h))

cleared_none : (hs : List Held) (x : ℕ) → UsesNone (cleared number hs x)
cleared_none [] x = tt
cleared_none (h ∷ hs) x = none_append (zeros (held_part h (variable number x))) (cleared number hs (x + 1)) (zeros_none h (25 + 4 * x)) (cleared_none hs (x + 1))

entry_sets : (held : List Held) (params : ℕ) → SetsFirst (entry_code number held params)
entry_sets held params = none_sets (entry_code number held params) (none_append (taken number (take params held) 0 0) (cleared number (drop params held) params) (taken_none (take params held) 0 0) (cleared_none (drop params held) params))

-- ---- graphs

module _ (g : Graph ℕ) (each : (p : ℕ) → SetsFirst (ops_at g p)) where
  exit_uses : (e : Exit ℕ) (p : ℕ) → Uses 12 e g p Carry → ⊥
  exit_uses (Next q) p uses = uses
  exit_uses (Test v a b) p uses = no_carry uses
  exit_uses (Call f q) p uses = uses.0
  exit_uses (Label l q) p uses = uses
  exit_uses Return p uses = uses.0

  not_live : (p : ℕ) (ops : List (ByteOp ℕ)) → Live 12 g Carry p ops → SetsFirst ops → ⊥
  not_live p ops (used _ op rest among) sets = sets.0 among
  not_live p ops (kept _ op rest not_among live) sets = ⊎_elim (λ among. not_among among) (λ later. not_live p rest live later) sets.1
  not_live p ops (used_by_exit _ uses) sets = exit_uses (exit_at g p) p uses
  not_live p ops (onward _ q not_over goes live) sets = not_live q (ops_at g q) live (each q)

  carry_inside : CarryStaysInside 12 g
  carry_inside p live = not_live p (ops_at g p) live (each p)

node_sets : (f : RtFunction) (q : ℕ) → NodeIs f q → SetsFirst (ops_at (translated_function number f) q)
node_sets f q (of_operation node r at is) = subst (λ (n : Node ℕ). SetsFirst n.ops) (sym is) (code_sets f.held f.result node.op)
node_sets f q (of_entry r at is) = subst (λ (n : Node ℕ). SetsFirst n.ops) (sym is) (entry_sets f.held f.params)
node_sets f q (of_none is) = subst (λ (n : Node ℕ). SetsFirst n.ops) (sym is) tt

-- a function that isn't there
stays_sets : (q : ℕ) → SetsFirst (ops_at (graph_or None) q)
stays_sets zero = tt
stays_sets (suc q) = tt

-- the clause on the carry
pub translation_carry : (p : RtLabs) (i : ℕ) → CarryStaysInside 12 (graphs_of p i)
translation_carry p i = by (slice_get p.functions i) refl
  where
    by : (n : Option RtFunction) → slice_get p.functions i ≡ n → CarryStaysInside 12 (graphs_of p i)
    by (Some f) is = subst (CarryStaysInside 12) (sym (graph_is p i f is)) (carry_inside (translated_function number f) (λ q. node_sets f q (node_cases f q)))
    by None is = subst (CarryStaysInside 12) (sym (no_graph p i is)) (carry_inside (graph_or None) stays_sets)
