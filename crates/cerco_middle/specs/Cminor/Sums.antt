-- Two sums over a program of Cminor: how long its code can become with every place in internal RAM and every jump long, and how many
-- bytes of registers and cells each function needs (own).
use Rattle.std.specs.Prelude.{ℕ, suc, ◌+◌, ◌*◌, max, List, [], ◌∷◌, Option, Some, None, slice_get}
use Rattle.cerco_middle.specs.declared.operators.Held.{Held}
use Rattle.cerco_middle.specs.Operators.{word_bytes, all_held_bytes}
use Rattle.cerco_middle.specs.Calls.{variable_held}
use Rattle.cerco_middle.specs.Lengths.{constant_length, get_length, put_length, difference_length, narrow_length, operator_length, shift_left_length, shift_right_length, load_length, store_length, read_port_length, write_port_length, argument_length, call_length, label_length, test_length, return_length, return_value_length, entry_length, start_length}
use Rattle.cerco_middle.specs.Cminor.Trees.{CmExpr, Const, Var, Load, Neg, Complement, Narrow, Bin, Shl, Shr, CmCond, Test, Not, Both, Either, CmStmt, Seq, Set, Store, ReadPort, WritePort, Call, If, Loop, Do, Break, Continue, Return, CmStmts, NoStmts, Then, CmFunction, Cminor, held_parameters}

-- ---- length with long jumps

abbrev pub expr_length : List Held → CmExpr → ℕ
expr_length held (Const number) = constant_length word_bytes
expr_length held (Var x) = get_length (variable_held held x)
expr_length held (Load h e) = expr_length held e + load_length h
expr_length held (Neg e) = expr_length held e + difference_length word_bytes
expr_length held (Complement e) = expr_length held e + difference_length word_bytes
expr_length held (Narrow h e) = expr_length held e + narrow_length h
expr_length held (Bin o a b) = expr_length held a + expr_length held b + operator_length word_bytes o
expr_length held (Shl k e) = expr_length held e + shift_left_length word_bytes k
expr_length held (Shr k arithmetic e) = expr_length held e + shift_right_length word_bytes arithmetic k

abbrev pub cond_length : List Held → CmCond → ℕ
cond_length held (Test e) = expr_length held e + test_length word_bytes
cond_length held (Not c) = cond_length held c
cond_length held (Both left on_true on_false right) = cond_length held left + label_length + label_length + cond_length held right
cond_length held (Either left on_true on_false right) = cond_length held left + label_length + label_length + cond_length held right

abbrev pub cond_length_if_any : List Held → Option CmCond → ℕ
cond_length_if_any held None = 0
cond_length_if_any held (Some c) = cond_length held c

-- arguments for parameters that are held so
abbrev pub arguments_length : List Held → List Held → List CmExpr → ℕ
arguments_length held [] es = 0
arguments_length held (h ∷ hs) [] = 0
arguments_length held (h ∷ hs) (e ∷ es) = expr_length held e + argument_length h + arguments_length held hs es

abbrev pub parameters_at : Option CmFunction → List Held
parameters_at None = []
parameters_at (Some g) = held_parameters g

abbrev pub result_at : Option CmFunction → Option Held
result_at None = None
result_at (Some g) = g.result

-- the result goes into the target, where there are both
abbrev pub taking_length : List Held → Option Held → Option ℕ → ℕ
taking_length held (Some h) (Some x) = get_length h + put_length (variable_held held x)
taking_length held _ _ = 0

abbrev pub return_length_of : List Held → Option Held → Option CmExpr → ℕ
return_length_of held result None = 0
return_length_of held result (Some e) = expr_length held e + return_value_length result

-- a statement of a function with these variables and this result
abbrev mutual
  pub stmt_length : List CmFunction → List Held → Option Held → CmStmt → ℕ
  stmt_length fs held result (Seq statements) = stmts_length fs held result statements
  stmt_length fs held result (Set x e) = expr_length held e + put_length (variable_held held x)
  stmt_length fs held result (Store h a e) = expr_length held a + expr_length held e + store_length h
  stmt_length fs held result (ReadPort x) = read_port_length + put_length (variable_held held x)
  stmt_length fs held result (WritePort e) = expr_length held e + write_port_length
  stmt_length fs held result (Call target g es after) =
      arguments_length held (parameters_at (slice_get fs g)) es + call_length + label_length + taking_length held (result_at (slice_get fs g)) target
  stmt_length fs held result (If c on_true a on_false b) =
      cond_length held c + label_length + stmt_length fs held result a + label_length + stmt_length fs held result b
  stmt_length fs held result (Loop c body_label body step exit_label) =
      cond_length_if_any held c + label_length + stmt_length fs held result body + stmt_length fs held result step + label_length
  stmt_length fs held result (Do body c repeat_label exit_label) = stmt_length fs held result body + cond_length held c + label_length + label_length
  stmt_length fs held result Break = 0
  stmt_length fs held result Continue = 0
  stmt_length fs held result (Return e) = return_length_of held result e

  pub stmts_length : List CmFunction → List Held → Option Held → CmStmts → ℕ
  stmts_length fs held result NoStmts = 0
  stmts_length fs held result (Then earlier s) = stmts_length fs held result earlier + stmt_length fs held result s

-- the return at the end of a function, with 0 where it has a result
abbrev pub end_length : Option Held → ℕ
end_length None = return_length
end_length (Some h) = constant_length word_bytes + return_value_length (Some h)

abbrev pub function_length : List CmFunction → CmFunction → ℕ
function_length fs f = entry_length f.held + label_length + stmt_length fs f.held f.result f.body + end_length f.result

-- functions of a program with all these functions
abbrev pub functions_length : List CmFunction → List CmFunction → ℕ
functions_length fs [] = 0
functions_length fs (g ∷ gs) = function_length fs g + functions_length fs gs

abbrev pub long_length : Cminor → ℕ
long_length p = start_length p.start + functions_length p.functions p.functions

-- ---- register need

-- how many values are on the evaluation stack at once, at most
abbrev pub expr_temporaries : CmExpr → ℕ
expr_temporaries (Const number) = 1
expr_temporaries (Var x) = 1
expr_temporaries (Load h e) = expr_temporaries e
expr_temporaries (Neg e) = expr_temporaries e
expr_temporaries (Complement e) = expr_temporaries e
expr_temporaries (Narrow h e) = expr_temporaries e
expr_temporaries (Bin o a b) = max (expr_temporaries a) (suc (expr_temporaries b))
expr_temporaries (Shl k e) = expr_temporaries e
expr_temporaries (Shr k arithmetic e) = expr_temporaries e

abbrev pub temporaries_if_any : Option CmExpr → ℕ
temporaries_if_any None = 0
temporaries_if_any (Some e) = expr_temporaries e

-- one argument after the other is handed over
abbrev pub arguments_temporaries : List Held → List CmExpr → ℕ
arguments_temporaries [] es = 0
arguments_temporaries (h ∷ hs) [] = 0
arguments_temporaries (h ∷ hs) (e ∷ es) = max (expr_temporaries e) (arguments_temporaries hs es)

abbrev pub taking_temporaries : Option Held → Option ℕ → ℕ
taking_temporaries (Some h) (Some x) = 1
taking_temporaries _ _ = 0

abbrev pub cond_temporaries : CmCond → ℕ
cond_temporaries (Test e) = expr_temporaries e
cond_temporaries (Not c) = cond_temporaries c
cond_temporaries (Both left on_true on_false right) = max (cond_temporaries left) (cond_temporaries right)
cond_temporaries (Either left on_true on_false right) = max (cond_temporaries left) (cond_temporaries right)

abbrev pub cond_temporaries_if_any : Option CmCond → ℕ
cond_temporaries_if_any None = 0
cond_temporaries_if_any (Some c) = cond_temporaries c

-- a store holds its address while it evaluates its value
abbrev mutual
  pub stmt_temporaries : List CmFunction → CmStmt → ℕ
  stmt_temporaries fs (Seq statements) = stmts_temporaries fs statements
  stmt_temporaries fs (Set x e) = expr_temporaries e
  stmt_temporaries fs (Store h a e) = max (expr_temporaries a) (suc (expr_temporaries e))
  stmt_temporaries fs (ReadPort x) = 1
  stmt_temporaries fs (WritePort e) = expr_temporaries e
  stmt_temporaries fs (Call target g es after) = max (arguments_temporaries (parameters_at (slice_get fs g)) es) (taking_temporaries (result_at (slice_get fs g)) target)
  stmt_temporaries fs (If c on_true a on_false b) = max (cond_temporaries c) (max (stmt_temporaries fs a) (stmt_temporaries fs b))
  stmt_temporaries fs (Loop c body_label body step exit_label) = max (cond_temporaries_if_any c) (max (stmt_temporaries fs body) (stmt_temporaries fs step))
  stmt_temporaries fs (Do body c repeat_label exit_label) = max (stmt_temporaries fs body) (cond_temporaries c)
  stmt_temporaries fs Break = 0
  stmt_temporaries fs Continue = 0
  stmt_temporaries fs (Return e) = temporaries_if_any e

  pub stmts_temporaries : List CmFunction → CmStmts → ℕ
  stmts_temporaries fs NoStmts = 0
  stmts_temporaries fs (Then earlier s) = max (stmts_temporaries fs earlier) (stmt_temporaries fs s)

-- the 0 that a function with a result returns at its end
abbrev pub end_temporaries : Option Held → ℕ
end_temporaries None = 0
end_temporaries (Some h) = 1

-- the bytes of the variables and temporaries of a function, and one more to work with
abbrev pub register_need : List CmFunction → CmFunction → ℕ
register_need fs f = all_held_bytes f.held + word_bytes * max (end_temporaries f.result) (stmt_temporaries fs f.body) + 1
