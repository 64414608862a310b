-- The cost labels of a labelled program, function by function and in the order of the tree, the labels of a condition before those of what
-- it chooses (CerCo, deliverable 2.1).
use Rattle.std.specs.Prelude.{◌≡◌, ℕ, List, [], ◌∷◌, length, Option, Some, None}
use Rattle.std.specs.List.{range_with_len}
use Rattle.cerco_base.specs.declared.events.Label.{Label}
use Rattle.clight_syntax.specs.Labelling.{IsLabelled}
use Rattle.clight_syntax.specs.TypedTrees.{Cond, Truth, InParentheses, Not, Both, Either, Stmt, Empty, Block, Assign, ReadPort, WritePort, CallOf, If, IfElse, While, Do, For, Break, Continue, Return, Stmts, NoStmts, Then, Function, TypedProgram}

-- each before some more

abbrev pub cond_labels : Cond Label → List ℕ → List ℕ
cond_labels (Truth e) more = more
cond_labels (InParentheses left c right) more = cond_labels c more
cond_labels (Not at c) more = cond_labels c more
cond_labels (Both l at on_true on_false r) more = cond_labels l (on_true.0 ∷ on_false.0 ∷ cond_labels r more)
cond_labels (Either l at on_true on_false r) more = cond_labels l (on_true.0 ∷ on_false.0 ∷ cond_labels r more)

abbrev pub cond_labels_if_any : Option (Cond Label) → List ℕ → List ℕ
cond_labels_if_any None more = more
cond_labels_if_any (Some c) more = cond_labels c more

abbrev mutual
  pub stmt_labels : Stmt Label → List ℕ → List ℕ
  stmt_labels (Empty semicolon) more = more
  stmt_labels (Block left body right) more = stmts_labels body more
  stmt_labels (Assign a semicolon) more = more
  stmt_labels (ReadPort target equals port semicolon) more = more
  stmt_labels (WritePort port equals e semicolon) more = more
  stmt_labels (CallOf c semicolon back) more = back.0 ∷ more
  stmt_labels (If test one arm other) more = cond_labels test.condition (one.0 ∷ stmt_labels arm (other.0 ∷ more))
  stmt_labels (IfElse test one arm keyword other otherwise) more = cond_labels test.condition (one.0 ∷ stmt_labels arm (other.0 ∷ stmt_labels otherwise more))
  stmt_labels (While test turn body after) more = cond_labels test.condition (turn.0 ∷ stmt_labels body (after.0 ∷ more))
  stmt_labels (Do keyword body test again semicolon after) more = stmt_labels body (cond_labels test.condition (again.0 ∷ after.0 ∷ more))
  stmt_labels (For head turn body after) more = cond_labels_if_any head.condition (turn.0 ∷ stmt_labels body (after.0 ∷ more))
  stmt_labels (Break keyword semicolon) more = more
  stmt_labels (Continue keyword semicolon) more = more
  stmt_labels (Return keyword e semicolon) more = more

  pub stmts_labels : Stmts Label → List ℕ → List ℕ
  stmts_labels NoStmts more = more
  stmts_labels (Then earlier last) more = stmts_labels earlier (stmt_labels last more)

abbrev pub function_labels : Function Label → List ℕ → List ℕ
function_labels f more = f.label.0 ∷ stmts_labels f.body more

abbrev pub labels_of : List (Function Label) → List ℕ
labels_of [] = []
labels_of (f ∷ fs) = function_labels f (labels_of fs)

-- the labels of a labelled program are 0, 1, 2 and so on along its tree
abbrev pub LabelsAreInOrder : Type 0
LabelsAreInOrder =
    (typed : TypedProgram (Unit {0})) (p : TypedProgram Label) → IsLabelled typed p → labels_of p.functions ≡ range_with_len 0 (length (labels_of p.functions))
