-- Which programs of Cminor are well formed: what they name is there, each label is at one place, breaks are in loops, and calls and returns fit
-- their functions (after the constraints of ISO/IEC 9899:1999, 6.5.2.2 and 6.8.6). Each condition has a name of its own.
use Rattle.std.specs.Prelude.{◌≡◌, ℕ, ◌<◌, ◌≤◌, List, [], ◌∷◌, length, Option, Some, None, slice_get}
use Rattle.cerco_middle.specs.declared.operators.Held.{Held}
use Rattle.cerco_middle.specs.Operators.{all_held_bytes}
use Rattle.cerco_middle.specs.Programs.{AreBytesAtAddresses, AreNumbered, HoldsFunctions, KnowsCallers}
use Rattle.cerco_middle.specs.Cminor.Trees.{CmExpr, Const, Var, Load, Neg, Complement, Narrow, Bin, Shl, Shr, CmCond, Test, Not, Both, Either, CmStmt, Seq, Set, Store, ReadPort, WritePort, Call, If, Loop, Do, Break, Continue, Return, CmStmts, NoStmts, Then, CmFunction, Cminor, held_parameters, labels_of, callees_of}

-- it holds of each function
abbrev pub OfFunctions : Cminor → (CmFunction → Type 0) → Type 0
OfFunctions p Holds = (i : ℕ) (f : CmFunction) → slice_get p.functions i ≡ Some f → Holds f

-- it holds of the statement and of each statement in it
abbrev mutual
  pub OfStmts : (CmStmt → Type 0) → CmStmt → Type 0
  OfStmts Holds (Seq statements) = Holds (Seq statements) × OfAll Holds statements
  OfStmts Holds (If c on_true a on_false b) = Holds (If c on_true a on_false b) × OfStmts Holds a × OfStmts Holds b
  OfStmts Holds (Loop c body_label body step exit_label) = Holds (Loop c body_label body step exit_label) × OfStmts Holds body × OfStmts Holds step
  OfStmts Holds (Do body c repeat_label exit_label) = Holds (Do body c repeat_label exit_label) × OfStmts Holds body
  OfStmts Holds s = Holds s

  pub OfAll : (CmStmt → Type 0) → CmStmts → Type 0
  OfAll Holds NoStmts = Unit {0}
  OfAll Holds (Then earlier s) = OfAll Holds earlier × OfStmts Holds s

-- ---- what is named is there

-- an expression names variables below n alone, and so on
abbrev pub NamesBelow : ℕ → CmExpr → Type 0
NamesBelow n (Const number) = Unit {0}
NamesBelow n (Var x) = x < n
NamesBelow n (Load h e) = NamesBelow n e
NamesBelow n (Neg e) = NamesBelow n e
NamesBelow n (Complement e) = NamesBelow n e
NamesBelow n (Narrow h e) = NamesBelow n e
NamesBelow n (Bin o a b) = NamesBelow n a × NamesBelow n b
NamesBelow n (Shl k e) = NamesBelow n e
NamesBelow n (Shr k arithmetic e) = NamesBelow n e

abbrev pub NamesBelowIfAny : ℕ → Option CmExpr → Type 0
NamesBelowIfAny n None = Unit {0}
NamesBelowIfAny n (Some e) = NamesBelow n e

abbrev pub AllNameBelow : ℕ → List CmExpr → Type 0
AllNameBelow n [] = Unit {0}
AllNameBelow n (e ∷ es) = NamesBelow n e × AllNameBelow n es

abbrev pub CondNamesBelow : ℕ → CmCond → Type 0
CondNamesBelow n (Test e) = NamesBelow n e
CondNamesBelow n (Not c) = CondNamesBelow n c
CondNamesBelow n (Both left on_true on_false right) = CondNamesBelow n left × CondNamesBelow n right
CondNamesBelow n (Either left on_true on_false right) = CondNamesBelow n left × CondNamesBelow n right

abbrev pub CondNamesBelowIfAny : ℕ → Option CmCond → Type 0
CondNamesBelowIfAny n None = Unit {0}
CondNamesBelowIfAny n (Some c) = CondNamesBelow n c

abbrev pub TargetBelow : ℕ → Option ℕ → Type 0
TargetBelow n None = Unit {0}
TargetBelow n (Some x) = x < n

-- the statement itself, without those in it
abbrev pub StmtNamesBelow : ℕ → CmStmt → Type 0
StmtNamesBelow n (Set x e) = (x < n) × NamesBelow n e
StmtNamesBelow n (Store h a e) = NamesBelow n a × NamesBelow n e
StmtNamesBelow n (ReadPort x) = x < n
StmtNamesBelow n (WritePort e) = NamesBelow n e
StmtNamesBelow n (Call target g es after) = TargetBelow n target × AllNameBelow n es
StmtNamesBelow n (If c on_true a on_false b) = CondNamesBelow n c
StmtNamesBelow n (Loop c body_label body step exit_label) = CondNamesBelowIfAny n c
StmtNamesBelow n (Do body c repeat_label exit_label) = CondNamesBelow n c
StmtNamesBelow n (Return e) = NamesBelowIfAny n e
StmtNamesBelow n _ = Unit {0}

abbrev pub VariablesExist : CmFunction → Type 0
VariablesExist f = (f.params ≤ length f.held) × OfStmts (StmtNamesBelow (length f.held)) f.body

abbrev pub CallsBelow : ℕ → CmStmt → Type 0
CallsBelow n (Call target g es after) = g < n
CallsBelow n _ = Unit {0}

abbrev pub FunctionsExist : Cminor → Type 0
FunctionsExist p = (p.main < length p.functions) × OfFunctions p (λ f. OfStmts (CallsBelow (length p.functions)) f.body)

-- ---- the program

-- The order of calls holds the functions, and a function is among the callers of each function that it calls.
pub record CallsAreKnown (p : Cminor) : Type 0 where
  pub functions : HoldsFunctions p.calls (length p.functions)
  pub callers : (i : ℕ) (f : CmFunction) → slice_get p.functions i ≡ Some f → KnowsCallers p.calls i (callees_of f)

-- The parameters of a function have at most 12 bytes.
abbrev pub ParametersAreFew : CmFunction → Type 0
ParametersAreFew f = all_held_bytes (held_parameters f) ≤ 12

-- `main` has no parameter and no result.
abbrev pub MainIsPlain : Cminor → Type 0
MainIsPlain p = (f : CmFunction) → slice_get p.functions p.main ≡ Some f → (f.params ≡ 0) × (f.result ≡ None)

-- What external RAM has at first are bytes at addresses.
abbrev pub StartsWithBytes : Cminor → Type 0
StartsWithBytes p = AreBytesAtAddresses p.start

abbrev pub LabelsAreNumbered : Cminor → Type 0
LabelsAreNumbered p = AreNumbered (labels_of p.functions)

-- ---- breaks and continues

-- where a statement is: in no loop, in the body of a loop, or in the step of one
pub data Place : Type 0 where
  NoLoop : Place
  Body : Place
  InStep : Place

-- a loop's body, but in the step of an outer one
abbrev pub body_of : Place → Place
body_of NoLoop = Body
body_of Body = Body
body_of InStep = InStep

abbrev pub LeavesLoop : Place → Type 0
LeavesLoop NoLoop = ⊥
LeavesLoop Body = Unit {0}
LeavesLoop InStep = ⊥

-- 6.8.6.2 and 6.8.6.3: breaks and continues are in the bodies of loops, and in no step
abbrev mutual
  pub JumpsLeaveLoops : Place → CmStmt → Type 0
  JumpsLeaveLoops at (Seq statements) = AllLeaveLoops at statements
  JumpsLeaveLoops at (If c on_true a on_false b) = JumpsLeaveLoops at a × JumpsLeaveLoops at b
  JumpsLeaveLoops at (Loop c body_label body step exit_label) = JumpsLeaveLoops (body_of at) body × JumpsLeaveLoops InStep step
  JumpsLeaveLoops at (Do body c repeat_label exit_label) = JumpsLeaveLoops (body_of at) body
  JumpsLeaveLoops at Break = LeavesLoop at
  JumpsLeaveLoops at Continue = LeavesLoop at
  JumpsLeaveLoops at _ = Unit {0}

  pub AllLeaveLoops : Place → CmStmts → Type 0
  AllLeaveLoops at NoStmts = Unit {0}
  AllLeaveLoops at (Then earlier s) = AllLeaveLoops at earlier × JumpsLeaveLoops at s

abbrev pub JumpsAreInLoops : CmFunction → Type 0
JumpsAreInLoops f = JumpsLeaveLoops NoLoop f.body

-- ---- calls and returns

-- 6.8.6.4: a return has a value exactly in a function with a result
abbrev pub ReturnsAs : Option Held → CmStmt → Type 0
ReturnsAs (Some h) (Return None) = ⊥
ReturnsAs None (Return (Some e)) = ⊥
ReturnsAs result _ = Unit {0}

abbrev pub ReturnsFit : CmFunction → Type 0
ReturnsFit f = OfStmts (ReturnsAs f.result) f.body

-- a target is there only where the function has a result
abbrev pub TargetFits : Option Held → Option ℕ → Type 0
TargetFits None (Some x) = ⊥
TargetFits _ _ = Unit {0}

-- 6.5.2.2: a call has an argument for each parameter
abbrev pub CallFits : Cminor → CmStmt → Type 0
CallFits p (Call target g es after) = (callee : CmFunction) → slice_get p.functions g ≡ Some callee → (length es ≡ callee.params) × TargetFits callee.result target
CallFits p _ = Unit {0}

abbrev pub CallsFit : Cminor → CmFunction → Type 0
CallsFit p f = OfStmts (CallFits p) f.body

-- ---- all conditions

pub record IsWellFormedFunction (p : Cminor) (f : CmFunction) : Type 0 where
  pub variables_exist : VariablesExist f
  pub parameters_are_few : ParametersAreFew f
  pub jumps_are_in_loops : JumpsAreInLoops f
  pub returns_fit : ReturnsFit f
  pub calls_fit : CallsFit p f

pub record IsWellFormed (p : Cminor) : Type 0 where
  pub functions_exist : FunctionsExist p
  pub calls_are_known : CallsAreKnown p
  pub main_is_plain : MainIsPlain p
  pub labels_are_numbered : LabelsAreNumbered p
  pub starts_with_bytes : StartsWithBytes p
  pub functions : OfFunctions p (IsWellFormedFunction p)
