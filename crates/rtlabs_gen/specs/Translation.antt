-- What becomes of each form of Cminor: the nodes of a control flow graph, added from its end to its entry, so that each part comes after
-- what it goes on to (CerCo, deliverable 3.3; Appel, Modern Compiler Implementation, chapter 7). A jump is no node, but the number of the
-- node that it leads to. Values are in temporaries that are numbered by the depth of the evaluation stack.
use Rattle.std.specs.Prelude.{ℕ, ◌+◌, List, [], ◌∷◌, ◌++◌, length, map, Option, Some, None, slice_get, slice_set}
use Rattle.cerco_base.specs.declared.events.Label.{Label}
use Rattle.cerco_middle.specs.declared.operators.Held.{Held}
use Rattle.cerco_middle.specs.declared.rtlabs.RtOp.{RtOp}
use Rattle.cerco_middle.specs.declared.rtlabs.RtOp.TheVariants as o
use Rattle.cerco_middle.specs.declared.rtlabs.RtNode.{RtNode}
use Rattle.cerco_middle.specs.Operators.{held_bytes}
use Rattle.cerco_middle.specs.Cminor.Trees.{CmExpr, Const, Var, Load, Neg, Complement, Narrow, Bin, Shl, Shr, CmCond, Test, Not, Both, Either, CmStmt, Seq, Set, Store, ReadPort, WritePort, Call, If, Loop, Do, Break, Continue, Return, CmStmts, NoStmts, Then, CmFunction, Cminor}
use Rattle.cerco_middle.specs.Cminor.Sums.{parameters_at, result_at}
use Rattle.cerco_middle.specs.RtLabs.Graphs.{RtFunction, RtLabs}
use Rattle.rtlabs_gen.specs.declared.exits.Exits.{Exits}

-- the nodes so far, and the one at which the part begins that was added last
pub record Part : Type 0 where
  pub nodes : List RtNode
  pub entry : ℕ

-- a part of no node
abbrev pub nothing : List RtNode → ℕ → Part
nothing ns next = record { nodes = ns; entry = next }

-- a node more
abbrev pub added : List RtNode → RtOp → Option ℕ → Part
added ns op next = record { nodes = ns ++ (record { op = op; next = next }) ∷ []; entry = length ns }

-- a part, and one that goes on to it
abbrev pub before : Part → (List RtNode → ℕ → Part) → Part
before part earlier = earlier part.nodes part.entry

-- ---- expressions

-- the value of an expression into a temporary, past which others are free
abbrev pub add_expr : List RtNode → CmExpr → ℕ → ℕ → Part
add_expr ns (Const number) t next = added ns (o.Const t number) (Some next)
add_expr ns (Var x) t next = added ns (o.Get t x) (Some next)
add_expr ns (Load h e) t next = before (added ns (o.Load h t) (Some next)) (λ ms m. add_expr ms e t m)
add_expr ns (Neg e) t next = before (added ns (o.Neg t) (Some next)) (λ ms m. add_expr ms e t m)
add_expr ns (Complement e) t next = before (added ns (o.Not t) (Some next)) (λ ms m. add_expr ms e t m)
add_expr ns (Narrow h e) t next = before (added ns (o.Narrow h t) (Some next)) (λ ms m. add_expr ms e t m)
add_expr ns (Bin op a b) t next =
    before (added ns (o.Bin op t (t + 1)) (Some next)) (λ ms m. before (add_expr ms b (t + 1) m) (λ ks k. add_expr ks a t k))
add_expr ns (Shl k e) t next = before (added ns (o.Shl k t) (Some next)) (λ ms m. add_expr ms e t m)
add_expr ns (Shr k arithmetic e) t next = before (added ns (o.Shr k arithmetic t) (Some next)) (λ ms m. add_expr ms e t m)

-- arguments for parameters that are held so, from a first argument byte on, each evaluated and handed over in turn
abbrev pub add_arguments : List RtNode → List Held → ℕ → List CmExpr → ℕ → Part
add_arguments ns [] first es next = nothing ns next
add_arguments ns (h ∷ hs) first [] next = nothing ns next
add_arguments ns (h ∷ hs) first (e ∷ es) next =
    before (add_arguments ns hs (first + held_bytes h) es next) (λ os i. before (added os (o.Arg h first 0) (Some i)) (λ ms m. add_expr ms e 0 m))

-- a condition, with the nodes to go on to where it is true and where it is false
abbrev pub add_cond : List RtNode → CmCond → ℕ → ℕ → Part
add_cond ns (Test e) one other = before (added ns (o.Test 0 one other) None) (λ ms m. add_expr ms e 0 m)
add_cond ns (Not c) one other = add_cond ns c other one
add_cond ns (Both a on_true on_false b) one other =
    before (add_cond ns b one other) (λ bs j. before (added bs (o.Label on_true) (Some j)) (λ is i. before (added is (o.Label on_false) (Some other)) (λ ks k. add_cond ks a i k)))
add_cond ns (Either a on_true on_false b) one other =
    before (add_cond ns b one other) (λ bs j. before (added bs (o.Label on_true) (Some one)) (λ is i. before (added is (o.Label on_false) (Some j)) (λ ks k. add_cond ks a i k)))

-- no condition is a true one
abbrev pub add_cond_if_any : List RtNode → Option CmCond → ℕ → ℕ → Part
add_cond_if_any ns None one other = nothing ns one
add_cond_if_any ns (Some c) one other = add_cond ns c one other

-- ---- statements

abbrev pub add_set : List RtNode → ℕ → CmExpr → ℕ → Part
add_set ns v e next = before (added ns (o.Put v 0) (Some next)) (λ ms m. add_expr ms e 0 m)

abbrev pub add_store : List RtNode → Held → CmExpr → CmExpr → ℕ → Part
add_store ns h a e next = before (added ns (o.Store h 0 1) (Some next)) (λ ms m. before (add_expr ms e 1 m) (λ ks k. add_expr ks a 0 k))

abbrev pub add_read_port : List RtNode → ℕ → ℕ → Part
add_read_port ns v next = before (added ns (o.Put v 0) (Some next)) (λ ms m. added ms (o.ReadPort 0) (Some m))

abbrev pub add_write_port : List RtNode → CmExpr → ℕ → Part
add_write_port ns e next = before (added ns (o.WritePort 0) (Some next)) (λ ms m. add_expr ms e 0 m)

-- the result of a call into the target, where there are both
abbrev pub add_taking : List RtNode → Option Held → Option ℕ → ℕ → Part
add_taking ns (Some h) (Some x) next = before (added ns (o.Put x 0) (Some next)) (λ ms m. added ms (o.Result h 0) (Some m))
add_taking ns _ _ next = nothing ns next

-- a call with its label, of a function among these
abbrev pub add_call : List CmFunction → List RtNode → Option ℕ → ℕ → List CmExpr → Label → ℕ → Part
add_call fs ns target g es after next =
    before (add_taking ns (result_at (slice_get fs g)) target next) (λ is i. before (added is (o.Label after) (Some i)) (λ ks k. before (added ks (o.Call g) (Some k)) (λ ms m. add_arguments ms (parameters_at (slice_get fs g)) 0 es m)))

-- A return without a value goes to the end of the function.
abbrev pub add_return : List RtNode → Option CmExpr → ℕ → Part
add_return ns None end = nothing ns end
add_return ns (Some e) end = before (added ns (o.ReturnValue 0) None) (λ ms m. add_expr ms e 0 m)

-- a condition with the labels of its two arms, which go on to these nodes
abbrev pub add_arms : List RtNode → CmCond → Label → ℕ → Label → ℕ → Part
add_arms ns c on_true j on_false n = before (added ns (o.Label on_false) (Some n)) (λ ks k. before (added ks (o.Label on_true) (Some j)) (λ is i. add_cond is c i k))

-- the exit label of a loop
abbrev pub loop_exit : List RtNode → Label → ℕ → Part
loop_exit ns exit_label next = added ns (o.Label exit_label) (Some next)

-- and the label before its body, which waits for the body
abbrev pub loop_turn : List RtNode → Label → Label → ℕ → Part
loop_turn ns body_label exit_label next = added (loop_exit ns exit_label next).nodes (o.Label body_label) None

-- and its condition
abbrev pub loop_test : List RtNode → Option CmCond → Label → Label → ℕ → Part
loop_test ns c body_label exit_label next =
    add_cond_if_any (loop_turn ns body_label exit_label next).nodes c (loop_turn ns body_label exit_label next).entry (loop_exit ns exit_label next).entry

-- a part in which a label goes on to its entry, and which is gone into at another node
abbrev pub closed : ℕ → Label → ℕ → Part → Part
closed i l head part = record { nodes = slice_set part.nodes i (record { op = o.Label l; next = Some part.entry }); entry = head }

-- the same, gone into at its entry
abbrev pub closed_at_entry : ℕ → Label → Part → Part
closed_at_entry i l part = closed i l part.entry part

-- the ways out of the body of a loop
abbrev pub in_loop : Exits → ℕ → ℕ → Exits
in_loop x on_break on_continue = record { on_break = on_break; on_continue = on_continue; on_return = x.on_return }

-- a statement of a program with these functions: the label of a loop's body is added first, and goes on to the body once this is there
abbrev mutual
  pub add_stmt : List CmFunction → List RtNode → CmStmt → ℕ → Exits → Part
  add_stmt fs ns (Seq statements) next x = add_stmts fs ns statements next x
  add_stmt fs ns (Set v e) next x = add_set ns v e next
  add_stmt fs ns (Store h a e) next x = add_store ns h a e next
  add_stmt fs ns (ReadPort v) next x = add_read_port ns v next
  add_stmt fs ns (WritePort e) next x = add_write_port ns e next
  add_stmt fs ns (Call target g es after) next x = add_call fs ns target g es after next
  add_stmt fs ns (If c on_true a on_false b) next x =
      before (add_stmt fs ns b next x) (λ bs n. before (add_stmt fs bs a next x) (λ os j. add_arms os c on_true j on_false n))
  add_stmt fs ns (Loop c body_label body step exit_label) next x =
      before (loop_test ns c body_label exit_label next) (λ hs h. before (add_stmt fs hs step h (in_loop x (loop_exit ns exit_label next).entry h)) (λ ss n. closed (loop_turn ns body_label exit_label next).entry body_label h (add_stmt fs ss body n (in_loop x (loop_exit ns exit_label next).entry n))))
  add_stmt fs ns (Do body c repeat_label exit_label) next x =
      before (loop_test ns (Some c) repeat_label exit_label next) (λ hs h. closed_at_entry (loop_turn ns repeat_label exit_label next).entry repeat_label (add_stmt fs hs body h (in_loop x (loop_exit ns exit_label next).entry h)))
  add_stmt fs ns Break next x = nothing ns x.on_break
  add_stmt fs ns Continue next x = nothing ns x.on_continue
  add_stmt fs ns (Return e) next x = add_return ns e x.on_return

  pub add_stmts : List CmFunction → List RtNode → CmStmts → ℕ → Exits → Part
  add_stmts fs ns NoStmts next x = nothing ns next
  add_stmts fs ns (Then earlier s) next x = before (add_stmt fs ns s next x) (λ ms m. add_stmts fs ms earlier m x)

-- ---- functions and programs

-- the end of a function, which returns 0 where there is a result
abbrev pub add_end : List RtNode → Option Held → Part
add_end ns None = added ns o.Return None
add_end ns (Some h) = before (added ns (o.ReturnValue 0) None) (λ ms m. added ms (o.Const 0 0) (Some m))

-- outside loops all ways out lead to the end
abbrev pub exits_at : ℕ → Exits
exits_at end = record { on_break = end; on_continue = end; on_return = end }

abbrev pub add_body : List CmFunction → CmFunction → Part
add_body fs f = before (add_end [] f.result) (λ ns end. before (add_stmt fs ns f.body end (exits_at end)) (λ ms m. added ms (o.Label f.label) (Some m)))

abbrev pub translated_function : List CmFunction → CmFunction → RtFunction
translated_function fs f = record { held = f.held; params = f.params; result = f.result; entry = (add_body fs f).entry; nodes = (add_body fs f).nodes }

abbrev pub translated : Cminor → RtLabs
translated p = record { functions = map (translated_function p.functions) p.functions; calls = p.calls; main = p.main; start = p.start }
