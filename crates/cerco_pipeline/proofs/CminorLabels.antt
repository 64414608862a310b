-- The labels of a statement of Cminor before some more are its own and those.
use Rattle.std.proofs.Common.{◌≡◌, ℕ, ◌+◌, List, [], ◌∷◌, length, Option, Some, None, arith}
use Rattle.cerco_middle.specs.Cminor.Trees.{CmCond, Test, Not, Both, Either, CmStmt, Seq, Call, If, Loop, Do, CmStmts, NoStmts, Then, cond_labels, cond_labels_if_any, stmt_labels, stmts_labels}

cond_more : (c : CmCond) (more : List ℕ) → length (cond_labels c more) ≡ length (cond_labels c []) + length more
cond_more (Test e) more = omega arith
cond_more (Not c) more = cond_more c more
cond_more (Both l on_true on_false r) more =
    omega (arith, cond_more l (on_true.0 ∷ on_false.0 ∷ cond_labels r more), cond_more l (on_true.0 ∷ on_false.0 ∷ cond_labels r []), cond_more r more)
cond_more (Either l on_true on_false r) more =
    omega (arith, cond_more l (on_true.0 ∷ on_false.0 ∷ cond_labels r more), cond_more l (on_true.0 ∷ on_false.0 ∷ cond_labels r []), cond_more r more)

any_more : (c : Option CmCond) (more : List ℕ) → length (cond_labels_if_any c more) ≡ length (cond_labels_if_any c []) + length more
any_more None more = omega arith
any_more (Some c) more = cond_more c more

mutual
  pub stmt_more : (s : CmStmt) (more : List ℕ) → length (stmt_labels s more) ≡ length (stmt_labels s []) + length more
  stmt_more (Seq statements) more = stmts_more statements more
  stmt_more (Call target function arguments after) more = omega arith
  stmt_more (If c on_true a on_false b) more =
      omega (arith, cond_more c (on_true.0 ∷ stmt_labels a (on_false.0 ∷ stmt_labels b more)), cond_more c (on_true.0 ∷ stmt_labels a (on_false.0 ∷ stmt_labels b [])), stmt_more a (on_false.0 ∷ stmt_labels b more), stmt_more a (on_false.0 ∷ stmt_labels b []), stmt_more b more)
  stmt_more (Loop c turn body step exit) more =
      omega (arith, any_more c (turn.0 ∷ stmt_labels body (stmt_labels step (exit.0 ∷ more))), any_more c (turn.0 ∷ stmt_labels body (stmt_labels step (exit.0 ∷ []))), stmt_more body (stmt_labels step (exit.0 ∷ more)), stmt_more body (stmt_labels step (exit.0 ∷ [])), stmt_more step (exit.0 ∷ more), stmt_more step (exit.0 ∷ []))
  stmt_more (Do body c again exit) more =
      omega (arith, stmt_more body (cond_labels c (again.0 ∷ exit.0 ∷ more)), stmt_more body (cond_labels c (again.0 ∷ exit.0 ∷ [])), cond_more c (again.0 ∷ exit.0 ∷ more), cond_more c (again.0 ∷ exit.0 ∷ []))
  stmt_more _ more = omega arith

  stmts_more : (s : CmStmts) (more : List ℕ) → length (stmts_labels s more) ≡ length (stmts_labels s []) + length more
  stmts_more NoStmts more = omega arith
  stmts_more (Then earlier s) more = omega (arith, stmts_more earlier (stmt_labels s more), stmts_more earlier (stmt_labels s []), stmt_more s more)
