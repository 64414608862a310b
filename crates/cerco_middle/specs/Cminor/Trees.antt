-- The programs of Cminor, as definitions speak of them: structured statements over numbered variables and a flat external RAM, with the
-- cost labels (CerCo, deliverable 3.3). A list of statements has its last one outermost.
use Rattle.std.specs.Prelude.{ℕ, List, [], ◌∷◌, take, Option, Some, None, Bool}
use Rattle.cerco_base.specs.CallOrder.{Called}
use Rattle.cerco_base.specs.declared.events.Label.{Label}
use Rattle.cerco_middle.specs.declared.operators.Held.{Held}
use Rattle.cerco_middle.specs.declared.operators.CmOp.{CmOp}

pub data CmExpr : Type 0 where
  Const : (number : ℕ) → CmExpr
  Var : (variable : ℕ) → CmExpr
  Load : (held : Held) (address : CmExpr) → CmExpr
  Neg : (e : CmExpr) → CmExpr
  Complement : (e : CmExpr) → CmExpr
  Narrow : (held : Held) (e : CmExpr) → CmExpr
  Bin : (operator : CmOp) (left right : CmExpr) → CmExpr
  Shl : (bits : ℕ) (e : CmExpr) → CmExpr
  Shr : (bits : ℕ) (arithmetic : Bool) (e : CmExpr) → CmExpr

pub data CmCond : Type 0 where
  Test : (e : CmExpr) → CmCond
  Not : (c : CmCond) → CmCond
  -- the labels are after the left operand, where it is true and where it is false
  Both : (left : CmCond) (on_true on_false : Label) (right : CmCond) → CmCond
  Either : (left : CmCond) (on_true on_false : Label) (right : CmCond) → CmCond

mutual
  pub data CmStmt : Type 0 where
    Seq : (statements : CmStmts) → CmStmt
    Set : (variable : ℕ) (e : CmExpr) → CmStmt
    Store : (held : Held) (address value : CmExpr) → CmStmt
    ReadPort : (variable : ℕ) → CmStmt
    WritePort : (e : CmExpr) → CmStmt
    Call : (target : Option ℕ) (function : ℕ) (arguments : List CmExpr) (after : Label) → CmStmt
    If : (c : CmCond) (on_true : Label) (true_branch : CmStmt) (on_false : Label) (false_branch : CmStmt) → CmStmt
    Loop : (c : Option CmCond) (body_label : Label) (body step : CmStmt) (exit_label : Label) → CmStmt
    Do : (body : CmStmt) (c : CmCond) (repeat_label exit_label : Label) → CmStmt
    Break : CmStmt
    Continue : CmStmt
    Return : (e : Option CmExpr) → CmStmt

  pub data CmStmts : Type 0 where
    NoStmts : CmStmts
    Then : (earlier : CmStmts) (s : CmStmt) → CmStmts

pub record CmFunction : Type 0 where
  -- how each variable is held, the parameters first
  pub held : List Held
  -- how many parameters it has
  pub params : ℕ
  pub result : Option Held
  pub label : Label
  pub body : CmStmt

pub record Cminor : Type 0 where
  pub functions : List CmFunction
  pub calls : List Called
  pub main : ℕ
  pub start : List (ℕ × ℕ)

-- how its parameters are held
abbrev pub held_parameters : CmFunction → List Held
held_parameters f = take f.params f.held

-- ---- the labels of a program, in the order of the tree, before some more

abbrev pub cond_labels : CmCond → List ℕ → List ℕ
cond_labels (Test e) more = more
cond_labels (Not c) more = cond_labels c more
cond_labels (Both left on_true on_false right) more = cond_labels left (on_true.0 ∷ on_false.0 ∷ cond_labels right more)
cond_labels (Either left on_true on_false right) more = cond_labels left (on_true.0 ∷ on_false.0 ∷ cond_labels right more)

abbrev pub cond_labels_if_any : Option CmCond → List ℕ → List ℕ
cond_labels_if_any None more = more
cond_labels_if_any (Some c) more = cond_labels c more

abbrev mutual
  pub stmt_labels : CmStmt → List ℕ → List ℕ
  stmt_labels (Seq statements) more = stmts_labels statements more
  stmt_labels (Call target function arguments after) more = after.0 ∷ more
  stmt_labels (If c on_true a on_false b) more = cond_labels c (on_true.0 ∷ stmt_labels a (on_false.0 ∷ stmt_labels b more))
  stmt_labels (Loop c body_label body step exit_label) more = cond_labels_if_any c (body_label.0 ∷ stmt_labels body (stmt_labels step (exit_label.0 ∷ more)))
  stmt_labels (Do body c repeat_label exit_label) more = stmt_labels body (cond_labels c (repeat_label.0 ∷ exit_label.0 ∷ more))
  stmt_labels _ more = more

  pub stmts_labels : CmStmts → List ℕ → List ℕ
  stmts_labels NoStmts more = more
  stmts_labels (Then earlier s) more = stmts_labels earlier (stmt_labels s more)

abbrev pub labels_of : List CmFunction → List ℕ
labels_of [] = []
labels_of (f ∷ fs) = f.label.0 ∷ stmt_labels f.body (labels_of fs)

-- ---- the functions that a statement calls, before some more

abbrev mutual
  pub stmt_callees : CmStmt → List ℕ → List ℕ
  stmt_callees (Seq statements) more = stmts_callees statements more
  stmt_callees (Call target function arguments after) more = function ∷ more
  stmt_callees (If c on_true a on_false b) more = stmt_callees a (stmt_callees b more)
  stmt_callees (Loop c body_label body step exit_label) more = stmt_callees body (stmt_callees step more)
  stmt_callees (Do body c repeat_label exit_label) more = stmt_callees body more
  stmt_callees _ more = more

  pub stmts_callees : CmStmts → List ℕ → List ℕ
  stmts_callees NoStmts more = more
  stmts_callees (Then earlier s) more = stmts_callees earlier (stmt_callees s more)

abbrev pub callees_of : CmFunction → List ℕ
callees_of f = stmt_callees f.body []
