-- The calls in the bodies of a program's functions, in unreachable code too (ISO/IEC 9899:1999, 6.5.2.2).
use Rattle.std.specs.Prelude.{ℕ, List, [], ◌∷◌, ◌++◌, length, map, filter, nat_lt}
use Rattle.clight_syntax.specs.TypedTrees.{Stmt, Empty, Block, Assign, ReadPort, WritePort, CallOf, If, IfElse, While, Do, For, Break, Continue, Return, Stmts, NoStmts, Then, Function}

abbrev mutual
  -- the functions that a statement calls, in the order of the text
  pub stmt_calls : {L : Type 0} → Stmt L → List ℕ
  stmt_calls (Empty a) = []
  stmt_calls (Block left body right) = stmts_calls body
  stmt_calls (Assign x a) = []
  stmt_calls (ReadPort target equals port a) = []
  stmt_calls (WritePort port equals value a) = []
  stmt_calls (CallOf x a back) = x.function ∷ []
  stmt_calls (If test one x other) = stmt_calls x
  stmt_calls (IfElse test one x a other y) = stmt_calls x ++ stmt_calls y
  stmt_calls (While test turn x after) = stmt_calls x
  stmt_calls (Do keyword x test again a after) = stmt_calls x
  stmt_calls (For head turn x after) = stmt_calls x
  stmt_calls (Break keyword a) = []
  stmt_calls (Continue keyword a) = []
  stmt_calls (Return keyword value a) = []

  pub stmts_calls : {L : Type 0} → Stmts L → List ℕ
  stmts_calls NoStmts = []
  stmts_calls (Then earlier last) = stmts_calls earlier ++ stmt_calls last

-- those of a program of so many functions that a function's body calls
abbrev pub body_calls : {L : Type 0} → ℕ → Function L → List ℕ
body_calls functions f = filter (λ g. nat_lt g functions) (stmts_calls f.body)

-- for each function, the functions that it calls
abbrev pub callees : {L : Type 0} → List (Function L) → List (List ℕ)
callees functions = map (body_calls (length functions)) functions
