-- The programs of Cminor and RTLabs that the compiler holds, as definitions speak of them: without pointers and capacities.
use Rattle.std.specs.Prelude.{List, [], ◌∷◌, map, option_map}
use Rattle.cerco_middle.specs.declared.cminor.CmExpr.{CmExpr}
use Rattle.cerco_middle.specs.declared.cminor.CmExpr.TheVariants as e
use Rattle.cerco_middle.specs.declared.cminor.CmCond.{CmCond}
use Rattle.cerco_middle.specs.declared.cminor.CmCond.TheVariants as c
use Rattle.cerco_middle.specs.declared.cminor.CmStmt.{CmStmt, Row_of-CmStmt, end_of-CmStmt, more_of-CmStmt}
use Rattle.cerco_middle.specs.declared.cminor.CmStmt.TheVariants as s
use Rattle.cerco_middle.specs.declared.cminor.CmFunction.{CmFunction}
use Rattle.cerco_middle.specs.declared.cminor.Cminor.{Cminor}
use Rattle.cerco_middle.specs.declared.rtlabs.RtFunction.{RtFunction}
use Rattle.cerco_middle.specs.declared.rtlabs.RtLabs.{RtLabs}
use Rattle.cerco_middle.specs.Cminor.Trees as p
use Rattle.cerco_middle.specs.RtLabs.Graphs as g

-- ---- Cminor

abbrev pub expr_of : CmExpr → p.CmExpr
expr_of (e.Const number) = p.Const number
expr_of (e.Var x) = p.Var x
expr_of (e.Load' h q x) = p.Load h (expr_of x)
expr_of (e.Neg' q x) = p.Neg (expr_of x)
expr_of (e.Not' q x) = p.Complement (expr_of x)
expr_of (e.Narrow' h q x) = p.Narrow h (expr_of x)
expr_of (e.Bin' o q x r y) = p.Bin o (expr_of x) (expr_of y)
expr_of (e.Shl' k q x) = p.Shl k (expr_of x)
expr_of (e.Shr' k arithmetic q x) = p.Shr k arithmetic (expr_of x)

abbrev pub cond_of : CmCond → p.CmCond
cond_of (c.Test x) = p.Test (expr_of x)
cond_of (c.Not' q x) = p.Not (cond_of x)
cond_of (c.Both' q x l m r y) = p.Both (cond_of x) l m (cond_of y)
cond_of (c.Either' q x l m r y) = p.Either (cond_of x) l m (cond_of y)

abbrev mutual
  pub stmt_of : CmStmt → p.CmStmt
  stmt_of (s.Seq' shape row) = p.Seq (row_onto row p.NoStmts)
  stmt_of (s.Set x value) = p.Set x (expr_of value)
  stmt_of (s.Store h address value) = p.Store h (expr_of address) (expr_of value)
  stmt_of (s.ReadPort x) = p.ReadPort x
  stmt_of (s.WritePort value) = p.WritePort (expr_of value)
  stmt_of (s.Call target function arguments l) = p.Call target function (map expr_of arguments.items) l
  stmt_of (s.If' condition l q x m r y) = p.If (cond_of condition) l (stmt_of x) m (stmt_of y)
  stmt_of (s.Loop' condition l q body r step m) = p.Loop (option_map cond_of condition) l (stmt_of body) (stmt_of step) m
  stmt_of (s.Do' q body condition l m) = p.Do (stmt_of body) (cond_of condition) l m
  stmt_of s.Break = p.Break
  stmt_of s.Continue = p.Continue
  stmt_of (s.Return value) = p.Return (option_map expr_of value)

  -- the statements of a row after some earlier ones
  pub row_onto : {n : _} → Row_of-CmStmt n → p.CmStmts → p.CmStmts
  row_onto end_of-CmStmt earlier = earlier
  row_onto (more_of-CmStmt x rest) earlier = row_onto rest (p.Then earlier (stmt_of x))

-- statements after some earlier ones
abbrev pub stmts_onto : List CmStmt → p.CmStmts → p.CmStmts
stmts_onto [] earlier = earlier
stmts_onto (x ∷ rest) earlier = stmts_onto rest (p.Then earlier (stmt_of x))

abbrev pub stmts_of : List CmStmt → p.CmStmts
stmts_of xs = stmts_onto xs p.NoStmts

abbrev pub function_of : CmFunction → p.CmFunction
function_of f = record { held = f.held.items; params = f.params; result = f.result; label = f.label; body = stmt_of f.body }

abbrev pub cminor_of : Cminor → p.Cminor
cminor_of x = record { functions = map function_of x.functions.items; calls = x.calls; main = x.main; start = x.start }

-- ---- RTLabs

abbrev pub graph_of : RtFunction → g.RtFunction
graph_of f = record { held = f.held.items; params = f.params; result = f.result; entry = f.entry; nodes = f.nodes.items }

abbrev pub rtlabs_of : RtLabs → g.RtLabs
rtlabs_of x = record { functions = map graph_of x.functions.items; calls = x.calls; main = x.main; start = x.start }
