-- What becomes of C's statements and functions in Cminor (ISO/IEC 9899:1999, 6.8 and 6.9.1; CerCo, deliverable 3.3). The body of a
-- function begins with what C leaves to the declarations: a scalar that lives in a block is stored there, and then the
-- initialisers are assigned.
use Rattle.std.specs.Prelude.{ℕ, suc, ◌+◌, List, [], ◌∷◌, Option, Some, None, slice_get, option_map, if◌then◌else◌}
use Rattle.cerco_base.specs.declared.events.Label.{Label}
use Rattle.cerco_middle.specs.declared.operators.Held.{Held}
use Rattle.cerco_middle.specs.Cminor.Trees as m
use Rattle.cerco_middle.specs.Cminor.Trees.{CmExpr, CmCond, CmStmt, CmStmts, CmFunction}
use Rattle.c_types.specs.Types.{CType}
use Rattle.c_types.specs.Kinds.{is_scalar}
use Rattle.clight_syntax.specs.declared.typed.Home.{Home}
use Rattle.clight_syntax.specs.declared.typed.Home.TheVariants as h
use Rattle.clight_syntax.specs.declared.typed.ResultTarget.{ResultTarget}
use Rattle.clight_syntax.specs.TypedTrees.{type_at, Assignment, Call, ForHead, Stmt, Empty, Block, Assign, ReadPort, WritePort, CallOf, If, IfElse, While, Do, For, Break, Continue, Return, Stmts, NoStmts, Then, LocalInitialiser, NoValue, Value, Local, Function, Variable', TypedProgram, own_variables, address_at}
use Rattle.clight_meaning.specs.Meaning.{argument_list, variable_type}
use Rattle.flat_memory.specs.HeldTypes.{held_of}
use Rattle.cminor_gen.specs.Translation.Expressions.{scalar_in, scalar_at, place, value, values, condition}

-- ---- statements

abbrev pub nothing : CmStmt
nothing = m.Seq m.NoStmts

-- a value goes into a variable, or to an address
abbrev pub set_or_store : Option ℕ → Held → CmExpr → CmExpr → CmStmt
set_or_store (Some n) held address e = m.Set n e
set_or_store None held address e = m.Store held address e

abbrev pub assignment : TypedProgram Label → Assignment → CmStmt
assignment p a = set_or_store (scalar_at p a.target) (held_of (type_at a.target)) (place p a.target) (value p a.value)

abbrev pub assignment_if_any : TypedProgram Label → Option Assignment → CmStmt
assignment_if_any p None = nothing
assignment_if_any p (Some a) = assignment p a

-- a byte of the port goes into a variable, which is a scalar in no block
abbrev pub read_port : Option ℕ → CmStmt
read_port (Some n) = m.ReadPort n
read_port None = nothing

abbrev pub target_of : TypedProgram Label → Option ResultTarget → Option ℕ
target_of p None = None
target_of p (Some target) = scalar_in (slice_get p.variables target.variable)

abbrev pub call : TypedProgram Label → Call → Label → CmStmt
call p c back = m.Call (target_of p c.target) c.function (values p (argument_list c.arguments)) back

-- a `for` with its body
abbrev pub for_loop : TypedProgram Label → ForHead Label → Label → CmStmt → Label → CmStmt
for_loop p head turn body after =
    m.Seq (m.Then (m.Then m.NoStmts (assignment_if_any p head.first))
    (m.Loop (option_map (condition p) head.condition) turn body (assignment_if_any p head.step) after))

abbrev mutual
  pub statement : TypedProgram Label → Stmt Label → CmStmt
  statement p (Empty semicolon) = nothing
  statement p (Block left body right) = m.Seq (statements_after p body m.NoStmts)
  statement p (Assign a semicolon) = assignment p a
  statement p (ReadPort target equals port semicolon) = read_port (scalar_at p target)
  statement p (WritePort port equals e semicolon) = m.WritePort (value p e)
  statement p (CallOf c semicolon back) = call p c back
  statement p (If test one arm other) = m.If (condition p test.condition) one (statement p arm) other nothing
  statement p (IfElse test one arm keyword other otherwise) = m.If (condition p test.condition) one (statement p arm) other (statement p otherwise)
  statement p (While test turn body after) = m.Loop (Some (condition p test.condition)) turn (statement p body) nothing after
  statement p (Do keyword body test again semicolon after) = m.Do (statement p body) (condition p test.condition) again after
  statement p (For head turn body after) = for_loop p head turn (statement p body) after
  statement p (Break keyword semicolon) = m.Break
  statement p (Continue keyword semicolon) = m.Continue
  statement p (Return keyword e semicolon) = m.Return (option_map (value p) e)

  -- statements after some earlier ones
  pub statements_after : TypedProgram Label → Stmts Label → CmStmts → CmStmts
  statements_after p NoStmts earlier = earlier
  statements_after p (Then ss s) earlier = m.Then (statements_after p ss earlier) (statement p s)

-- ---- functions

-- how the scalars among some variables are held
abbrev pub held_scalars : List Variable' → List Held
held_scalars [] = []
held_scalars (x ∷ xs) = if is_scalar x.type then held_of x.type ∷ held_scalars xs else held_scalars xs

-- a scalar with this number, which lives in a block, is stored there
abbrev pub home_after : Home → CType → ℕ → ℕ → CmStmts → CmStmts
home_after (h.Block b) T address n earlier = m.Then earlier (m.Store (held_of T) (m.Const address) (m.Var n))
home_after (h.Global b) T address n earlier = earlier
home_after (h.Scalar k) T address n earlier = earlier

-- the same for each of these variables, the scalars among which are numbered from here
abbrev pub homes_after : List Variable' → ℕ → CmStmts → CmStmts
homes_after [] n earlier = earlier
homes_after (x ∷ xs) n earlier =
    if is_scalar x.type then homes_after xs (suc n) (home_after x.home x.type x.address n earlier) else homes_after xs n earlier

abbrev pub variable_held : TypedProgram Label → ℕ → Held
variable_held p n = held_of (variable_type p n)

-- a value is assigned to the variable with this number
abbrev pub variable_assignment : TypedProgram Label → ℕ → CmExpr → CmStmt
variable_assignment p n e = set_or_store (scalar_in (slice_get p.variables n)) (variable_held p n) (m.Const (address_at p n)) e

abbrev pub initialiser_after : TypedProgram Label → ℕ → LocalInitialiser → CmStmts → CmStmts
initialiser_after p n NoValue earlier = earlier
initialiser_after p n (Value equals e) earlier = m.Then earlier (variable_assignment p n (value p e))

-- the initialisers of locals, in order; the locals' variables are numbered from here
abbrev pub initialisers_after : TypedProgram Label → List Local → ℕ → CmStmts → CmStmts
initialisers_after p [] n earlier = earlier
initialisers_after p (l ∷ ls) n earlier = initialisers_after p ls (suc n) (initialiser_after p n l.initialiser earlier)

-- what comes before the statements of a function's body
abbrev pub prologue : TypedProgram Label → Function Label → CmStmts
prologue p f = initialisers_after p f.locals (f.first_variable + f.parameters) (homes_after (own_variables f p.variables) 0 m.NoStmts)

abbrev pub result_of : CType → Option Held
result_of T = if is_scalar T then Some (held_of T) else None

abbrev pub body : TypedProgram Label → Function Label → CmStmt
body p f = m.Seq (statements_after p f.body (prologue p f))

abbrev pub function : TypedProgram Label → Function Label → CmFunction
function p f = record {
  held = held_scalars (own_variables f p.variables);
  params = f.parameters;
  result = result_of f.result;
  label = f.label;
  body = body p f;
}
