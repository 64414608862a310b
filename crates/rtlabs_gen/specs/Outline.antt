-- The operations that a function of Cminor tells, in the order in which its graph has them, but for the numbers of nodes: each form tells
-- the same wherever it is, so all sums over a graph are those over its statements (CerCo, deliverable 3.3).
use Rattle.std.specs.Prelude.{ℕ, ◌+◌, List, [], ◌∷◌, ◌++◌, Option, Some, None, option_map, slice_get}
use Rattle.cerco_base.specs.declared.events.Label.{Label}
use Rattle.cerco_middle.specs.declared.operators.Held.{Held}
use Rattle.cerco_middle.specs.declared.rtlabs.RtOp.{RtOp}
use Rattle.cerco_middle.specs.declared.rtlabs.RtOp.TheVariants as o
use Rattle.cerco_middle.specs.declared.rtlabs.RtNode.{RtNode}
use Rattle.cerco_middle.specs.Operators.{held_bytes}
use Rattle.cerco_middle.specs.Cminor.Trees.{CmExpr, Const, Var, Load, Neg, Complement, Narrow, Bin, Shl, Shr, CmCond, Test, Not, Both, Either, CmStmt, Seq, Set, Store, ReadPort, WritePort, Call, If, Loop, Do, Break, Continue, Return, CmStmts, NoStmts, Then, CmFunction}
use Rattle.cerco_middle.specs.Cminor.Sums.{parameters_at, result_at}

-- ---- nodes without the numbers in them

abbrev pub bare_op : RtOp → RtOp
bare_op (o.Test t one other) = o.Test t 0 0
bare_op op = op

abbrev pub bare : RtNode → RtNode
bare n = record { op = bare_op n.op; next = option_map (λ q. 0) n.next }

abbrev pub goes : RtOp → RtNode
goes op = record { op = op; next = Some 0 }

abbrev pub stops : RtOp → RtNode
stops op = record { op = op; next = None }

-- ---- what each form tells

abbrev pub expr_nodes : CmExpr → ℕ → List RtNode
expr_nodes (Const number) t = goes (o.Const t number) ∷ []
expr_nodes (Var x) t = goes (o.Get t x) ∷ []
expr_nodes (Load h e) t = goes (o.Load h t) ∷ expr_nodes e t
expr_nodes (Neg e) t = goes (o.Neg t) ∷ expr_nodes e t
expr_nodes (Complement e) t = goes (o.Not t) ∷ expr_nodes e t
expr_nodes (Narrow h e) t = goes (o.Narrow h t) ∷ expr_nodes e t
expr_nodes (Bin op a b) t = goes (o.Bin op t (t + 1)) ∷ (expr_nodes b (t + 1) ++ expr_nodes a t)
expr_nodes (Shl k e) t = goes (o.Shl k t) ∷ expr_nodes e t
expr_nodes (Shr k arithmetic e) t = goes (o.Shr k arithmetic t) ∷ expr_nodes e t

abbrev pub arguments_nodes : List Held → ℕ → List CmExpr → List RtNode
arguments_nodes [] first es = []
arguments_nodes (h ∷ hs) first [] = []
arguments_nodes (h ∷ hs) first (e ∷ es) = arguments_nodes hs (first + held_bytes h) es ++ (goes (o.Arg h first 0) ∷ expr_nodes e 0)

abbrev pub cond_nodes : CmCond → List RtNode
cond_nodes (Test e) = stops (o.Test 0 0 0) ∷ expr_nodes e 0
cond_nodes (Not c) = cond_nodes c
cond_nodes (Both a on_true on_false b) = cond_nodes b ++ (goes (o.Label on_true) ∷ goes (o.Label on_false) ∷ cond_nodes a)
cond_nodes (Either a on_true on_false b) = cond_nodes b ++ (goes (o.Label on_true) ∷ goes (o.Label on_false) ∷ cond_nodes a)

abbrev pub cond_nodes_if_any : Option CmCond → List RtNode
cond_nodes_if_any None = []
cond_nodes_if_any (Some c) = cond_nodes c

abbrev pub taking_nodes : Option Held → Option ℕ → List RtNode
taking_nodes (Some h) (Some x) = goes (o.Put x 0) ∷ goes (o.Result h 0) ∷ []
taking_nodes _ _ = []

abbrev pub call_nodes : List Held → Option Held → Option ℕ → ℕ → List CmExpr → Label → List RtNode
call_nodes hs result target g es after = taking_nodes result target ++ (goes (o.Label after) ∷ goes (o.Call g) ∷ arguments_nodes hs 0 es)

abbrev pub return_nodes : Option CmExpr → List RtNode
return_nodes None = []
return_nodes (Some e) = stops (o.ReturnValue 0) ∷ expr_nodes e 0

abbrev mutual
  pub stmt_nodes : List CmFunction → CmStmt → List RtNode
  stmt_nodes fs (Seq statements) = stmts_nodes fs statements
  stmt_nodes fs (Set x e) = goes (o.Put x 0) ∷ expr_nodes e 0
  stmt_nodes fs (Store h a e) = goes (o.Store h 0 1) ∷ (expr_nodes e 1 ++ expr_nodes a 0)
  stmt_nodes fs (ReadPort x) = goes (o.Put x 0) ∷ goes (o.ReadPort 0) ∷ []
  stmt_nodes fs (WritePort e) = goes (o.WritePort 0) ∷ expr_nodes e 0
  stmt_nodes fs (Call target g es after) = call_nodes (parameters_at (slice_get fs g)) (result_at (slice_get fs g)) target g es after
  stmt_nodes fs (If c on_true a on_false b) = stmt_nodes fs b ++ (stmt_nodes fs a ++ (goes (o.Label on_false) ∷ goes (o.Label on_true) ∷ cond_nodes c))
  stmt_nodes fs (Loop c body_label body step exit_label) =
      goes (o.Label exit_label) ∷ goes (o.Label body_label) ∷ (cond_nodes_if_any c ++ (stmt_nodes fs step ++ stmt_nodes fs body))
  stmt_nodes fs (Do body c repeat_label exit_label) = goes (o.Label exit_label) ∷ goes (o.Label repeat_label) ∷ (cond_nodes c ++ stmt_nodes fs body)
  stmt_nodes fs Break = []
  stmt_nodes fs Continue = []
  stmt_nodes fs (Return e) = return_nodes e

  pub stmts_nodes : List CmFunction → CmStmts → List RtNode
  stmts_nodes fs NoStmts = []
  stmts_nodes fs (Then earlier s) = stmt_nodes fs s ++ stmts_nodes fs earlier

abbrev pub end_nodes : Option Held → List RtNode
end_nodes None = stops o.Return ∷ []
end_nodes (Some h) = stops (o.ReturnValue 0) ∷ goes (o.Const 0 0) ∷ []

abbrev pub body_nodes : List CmFunction → CmFunction → List RtNode
body_nodes fs f = end_nodes f.result ++ (stmt_nodes fs f.body ++ goes (o.Label f.label) ∷ [])
