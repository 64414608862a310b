-- What the form of a compiler's output rests on: jumps are in loops, values are returned exactly where there is a result, callers are known
-- to the order of calls, and parameters are few (ISO/IEC 9899:1999, 6.8.6).
use Rattle.std.specs.Prelude.{◌≡◌, ℕ, ◌<◌, ◌≤◌, Bool, true, false, IsTrue, List, length, Contains, Option, Some, None, slice_get}
use Rattle.cerco_base.specs.CallOrder.{Called, functions_of}
use Rattle.c_types.specs.Types.{CType, Void}
use Rattle.clight_syntax.specs.Bounds.{parameter_bytes}
use Rattle.clight_syntax.specs.TypedTrees.{Expr, Stmt, Empty, Block, Assign, ReadPort, WritePort, CallOf, If, IfElse, While, Do, For, Break, Continue, Return, Stmts, NoStmts, Then, Function, TypedProgram}
use Rattle.clight_programs.specs.Scopes.{IsShortScalar}

-- the caller is among those that the order of calls names with the callee
abbrev pub IsKnownCaller : List Called → (caller callee : ℕ) → Type 0
IsKnownCaller calls caller callee = (i : ℕ) (entry : Called) → slice_get calls i ≡ Some entry → entry.function ≡ callee → Contains entry.callers caller

-- 6.8.6.4: a value is returned exactly where the function has a result
abbrev pub ReturnFits : CType → Option Expr → Type 0
ReturnFits result None = result ≡ Void
ReturnFits result (Some e) = IsShortScalar result

abbrev mutual
  -- a statement of the function with this number and this result, in a loop or not
  pub IsFormed : {L : Type 0} → List Called → (caller : ℕ) → CType → (in_loop : Bool) → Stmt L → Type 0
  IsFormed calls n result in_loop (Empty a) = Unit {0}
  IsFormed calls n result in_loop (Block left body right) = AreFormed calls n result in_loop body
  IsFormed calls n result in_loop (Assign x a) = Unit {0}
  IsFormed calls n result in_loop (ReadPort target equals port a) = Unit {0}
  IsFormed calls n result in_loop (WritePort port equals e a) = Unit {0}
  IsFormed calls n result in_loop (CallOf x a back) = IsKnownCaller calls n x.function
  IsFormed calls n result in_loop (If test one x other) = IsFormed calls n result in_loop x
  IsFormed calls n result in_loop (IfElse test one x a other y) = IsFormed calls n result in_loop x × IsFormed calls n result in_loop y
  IsFormed calls n result in_loop (While test turn x after) = IsFormed calls n result true x
  IsFormed calls n result in_loop (Do keyword x test again a after) = IsFormed calls n result true x
  IsFormed calls n result in_loop (For head turn x after) = IsFormed calls n result true x
  IsFormed calls n result in_loop (Break keyword a) = IsTrue in_loop
  IsFormed calls n result in_loop (Continue keyword a) = IsTrue in_loop
  IsFormed calls n result in_loop (Return keyword e a) = ReturnFits result e

  pub AreFormed : {L : Type 0} → List Called → (caller : ℕ) → CType → (in_loop : Bool) → Stmts L → Type 0
  AreFormed calls n result in_loop NoStmts = Unit {0}
  AreFormed calls n result in_loop (Then earlier last) = AreFormed calls n result in_loop earlier × IsFormed calls n result in_loop last

-- the parameters have 12 bytes at most
pub record FunctionIsFormed {L : Type 0} (p : TypedProgram L) (h : ℕ) (f : Function L) : Type 0 where
  pub few : parameter_bytes p (Some f) ≤ 12
  pub body : AreFormed p.calls h f.result false f.body

pub record ProgramIsFormed {L : Type 0} (p : TypedProgram L) : Type 0 where
  pub functions : (h : ℕ) (f : Function L) → slice_get p.functions h ≡ Some f → FunctionIsFormed p h f
  pub ordered : (f : ℕ) → f < length p.functions → Contains (functions_of p.calls) f
  pub no_others : (f : ℕ) → Contains (functions_of p.calls) f → f < length p.functions
