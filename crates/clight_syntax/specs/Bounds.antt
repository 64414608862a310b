-- Two numbers of a program that are read off its tree and bound what the compiler makes of it: the bytes of registers and cells
-- that a function needs, and the bytes of code of the program. (The compiler's own: a program below the greatest of both is
-- never refused for its size.)
use Rattle.std.specs.Prelude.{ℕ, ◌+◌, ◌*◌, ◌^◌, zero, suc, Bool, true, false, List, [], ◌∷◌, Option, Some, None, length, map, max, nat_eq, if◌then◌else◌, slice_get, take}
use Rattle.std.specs.List.{sum_by}
use Rattle.clight_source.specs.declared.tree.BinaryOperator.{BinaryOperator}
use Rattle.clight_source.specs.declared.tree.BinaryOperator.TheVariants as o
use Rattle.clight_source.specs.declared.tree.PrefixOperator.TheVariants as p
use Rattle.clight_source.specs.declared.tree.MemberOperator.TheVariants.{Dot, Arrow}
use Rattle.clight_source.specs.Trees.{Initialiser, NoInitialiser, Single, Listed, Global}
use Rattle.clight_syntax.specs.declared.typed.ResultTarget.{ResultTarget}
use Rattle.clight_syntax.specs.declared.typed.Home.TheVariants as h
use Rattle.c_types.specs.Types.{CType, Void, Pointer, StructType, size_of}
use Rattle.c_types.specs.Kinds.{is_scalar}
use Rattle.clight_syntax.specs.TypedTrees.{Expr, Variable, Number, Parenthesis, Binary, Prefix, Cast, Index, Select, type_at, Cond, Truth, InParentheses, Not, Both, Either, Assignment, EarlierArgument, Arguments, NoArguments, Arguments', Call, ForHead, Stmt, Empty, Block, Assign, ReadPort, WritePort, CallOf, If, IfElse, While, Do, For, Break, Continue, Return, Stmts, NoStmts, Then, LocalInitialiser, NoValue, Value, Local, Function, Item, GlobalItem, Variable', TypedProgram, own_variables}

-- ---- depths of expressions, as of the source's

abbrev pub depth : Expr → ℕ
depth (Variable type variable name) = 0
depth (Number type number span) = 0
depth (Parenthesis type left e right) = 1 + depth e
depth (Binary type l operator at r) = 1 + max (depth l) (depth r)
depth (Prefix type operator at e) = 1 + depth e
depth (Cast type left words right e) = 1 + depth e
depth (Index type base left index right) = 1 + max (depth base) (depth index)
depth (Select type e operator at member offset) = 1 + depth e

abbrev pub cond_depth : {L : Type 0} → Cond L → ℕ
cond_depth (Truth e) = depth e
cond_depth (InParentheses left c right) = 1 + cond_depth c
cond_depth (Not at c) = 1 + cond_depth c
cond_depth (Both l at on_true on_false r) = 1 + max (cond_depth l) (cond_depth r)
cond_depth (Either l at on_true on_false r) = 1 + max (cond_depth l) (cond_depth r)

abbrev pub assignment_depth : Assignment → ℕ
assignment_depth x = max (depth x.target) (depth x.value)

abbrev pub depth_of : {A : Type 0} → (A → ℕ) → Option A → ℕ
depth_of f None = 0
depth_of f (Some x) = f x

abbrev pub deepest : {A : Type 0} → (A → ℕ) → List A → ℕ
deepest f [] = 0
deepest f (x ∷ rest) = max (f x) (deepest f rest)

abbrev pub arguments_depth : Arguments → ℕ
arguments_depth NoArguments = 0
arguments_depth (Arguments' earlier last) = max (deepest (λ x. depth x.value) earlier) (depth last)

abbrev pub for_depth : {L : Type 0} → ForHead L → ℕ
for_depth x = max (depth_of assignment_depth x.first) (max (depth_of cond_depth x.condition) (depth_of assignment_depth x.step))

-- the greatest depth of the expressions in a statement: left sides and conditions count
abbrev mutual
  pub stmt_depth : {L : Type 0} → Stmt L → ℕ
  stmt_depth (Empty a) = 0
  stmt_depth (Block left body right) = stmts_depth body
  stmt_depth (Assign x a) = assignment_depth x
  stmt_depth (ReadPort target equals port a) = depth target
  stmt_depth (WritePort port equals value a) = depth value
  stmt_depth (CallOf x a back) = arguments_depth x.arguments
  stmt_depth (If test one x other) = max (cond_depth test.condition) (stmt_depth x)
  stmt_depth (IfElse test one x a other y) = max (cond_depth test.condition) (max (stmt_depth x) (stmt_depth y))
  stmt_depth (While test turn x after) = max (cond_depth test.condition) (stmt_depth x)
  stmt_depth (Do keyword x test again a after) = max (stmt_depth x) (cond_depth test.condition)
  stmt_depth (For head turn x after) = max (for_depth head) (stmt_depth x)
  stmt_depth (Break keyword a) = 0
  stmt_depth (Continue keyword a) = 0
  stmt_depth (Return keyword value a) = depth_of depth value

  pub stmts_depth : {L : Type 0} → Stmts L → ℕ
  stmts_depth NoStmts = 0
  stmts_depth (Then earlier last) = max (stmts_depth earlier) (stmt_depth last)

abbrev pub initialiser_depth : LocalInitialiser → ℕ
initialiser_depth NoValue = 0
initialiser_depth (Value equals value) = depth value

-- the greatest depth of a function's expressions, 0 where it has none
abbrev pub function_depth : {L : Type 0} → Function L → ℕ
function_depth f = max (deepest (λ x. initialiser_depth x.initialiser) f.locals) (stmts_depth f.body)

-- ---- the register need of a function

-- the bytes of a scalar, none of an array or a struct
abbrev pub scalar_bytes : List StructType → Variable' → ℕ
scalar_bytes structs x = if is_scalar x.type then size_of structs x.type else 0

-- the bytes of a function's parameters and scalar locals
abbrev pub own_bytes : {L : Type 0} → TypedProgram L → Function L → ℕ
own_bytes program f = sum_by (scalar_bytes program.structs) (own_variables f program.variables)

-- besides those bytes, two for each step of depth, and six
abbrev pub register_need : {L : Type 0} → TypedProgram L → Function L → ℕ
register_need program f = own_bytes program f + 2 * (3 + function_depth f)

-- ---- the code bound: expressions

-- the variable with a number is a scalar in no block
abbrev pub is_held_in : Option Variable' → Bool
is_held_in None = false
is_held_in (Some x) = elim x.home [ h.Global n ↦ false | h.Block n ↦ false | h.Scalar n ↦ true ]

-- the least exponent of 2, of so many from one on, that gives n; 0 where none does
abbrev pub exponent_from : ℕ → ℕ → ℕ → ℕ
exponent_from zero k n = 0
exponent_from (suc tries) k n = if nat_eq (2 ^ k) n then k else exponent_from tries (suc k) n

-- a step along elements of so many bytes: a shift is made where they are a power of 2
abbrev pub step_bound : ℕ → ℕ
step_bound bytes = 80 + 14 * exponent_from 16 0 bytes

-- of a step where an operand is a pointer, of a sum or a difference of integers otherwise
abbrev pub sum_bound : List StructType → CType → ℕ
sum_bound structs (Pointer target) = step_bound (size_of structs target)
sum_bound structs type = 16

-- a shift is by a number
abbrev pub number_of : Expr → ℕ
number_of (Number type number span) = number.value
number_of (Parenthesis type left e right) = number_of e
number_of e = 0

-- an operator alone, with the type of its result and its right operand
abbrev pub operator_bound : List StructType → CType → BinaryOperator → Expr → ℕ
operator_bound structs type o.Add r = sum_bound structs type
operator_bound structs type o.Subtract r = sum_bound structs type
operator_bound structs type o.BitAnd r = 16
operator_bound structs type o.BitXor r = 16
operator_bound structs type o.BitOr r = 16
operator_bound structs type o.Multiply r = 32
operator_bound structs type o.Divide r = 32
operator_bound structs type o.Remainder r = 32
operator_bound structs type o.ShiftLeft r = 16 + 14 * number_of r
operator_bound structs type o.ShiftRight r = 16 + 14 * number_of r
operator_bound structs type o.Equal r = 48
operator_bound structs type o.NotEqual r = 48
operator_bound structs type o.Less r = 48
operator_bound structs type o.Greater r = 48
operator_bound structs type o.LessOrEqual r = 48
operator_bound structs type o.GreaterOrEqual r = 48
-- these two stand in conditions alone
operator_bound structs type o.LogicalAnd r = 0
operator_bound structs type o.LogicalOr r = 0

-- a scalar is read through its address; an array or a struct isn't read
abbrev pub reading_bound : CType → ℕ
reading_bound type = if is_scalar type then 32 else 0

abbrev mutual
  -- an expression whose value is used
  pub value_bound : {L : Type 0} → TypedProgram L → Expr → ℕ
  value_bound program (Variable type variable name) = if is_held_in (slice_get program.variables variable) then 16 else 9 + reading_bound type
  value_bound program (Number type number span) = 9
  value_bound program (Parenthesis type left e right) = value_bound program e
  value_bound program (Binary type l operator at r) = value_bound program l + value_bound program r + operator_bound program.structs type operator r
  value_bound program (Prefix type p.Negate at e) = 16 + value_bound program e
  value_bound program (Prefix type p.Complement at e) = 16 + value_bound program e
  value_bound program (Prefix type p.AddressOf at e) = place_bound program e
  value_bound program (Prefix type p.Dereference at e) = value_bound program e + reading_bound type
  -- stands in conditions alone
  value_bound program (Prefix type p.Not at e) = value_bound program e
  value_bound program (Cast type left words right e) = 16 + value_bound program e
  value_bound program (Index type base left index right) = value_bound program base + value_bound program index + step_bound (size_of program.structs type) + reading_bound type
  value_bound program (Select type e Dot at member offset) = 24 + place_bound program e + reading_bound type
  value_bound program (Select type e Arrow at member offset) = 24 + value_bound program e + reading_bound type

  -- an expression whose address is used, or that is set
  pub place_bound : {L : Type 0} → TypedProgram L → Expr → ℕ
  place_bound program (Variable type variable name) = if is_held_in (slice_get program.variables variable) then 0 else 9
  place_bound program (Parenthesis type left e right) = place_bound program e
  place_bound program (Prefix type p.Dereference at e) = value_bound program e
  place_bound program (Index type base left index right) = value_bound program base + value_bound program index + step_bound (size_of program.structs type)
  place_bound program (Select type e Dot at member offset) = 24 + place_bound program e
  place_bound program (Select type e Arrow at member offset) = 24 + value_bound program e
  -- what is no place
  place_bound program e = 0

-- ---- statements

abbrev pub label_bound : ℕ
label_bound = 4

abbrev pub cond_bound : {L M : Type 0} → TypedProgram L → Cond M → ℕ
cond_bound program (Truth e) = 24 + value_bound program e
cond_bound program (InParentheses left c right) = cond_bound program c
cond_bound program (Not at c) = cond_bound program c
cond_bound program (Both l at on_true on_false r) = 8 + 2 * label_bound + cond_bound program l + cond_bound program r
cond_bound program (Either l at on_true on_false r) = 8 + 2 * label_bound + cond_bound program l + cond_bound program r

abbrev pub bound_of : {A : Type 0} → (A → ℕ) → Option A → ℕ
bound_of f None = 0
bound_of f (Some x) = f x

abbrev pub assignment_bound : {L : Type 0} → TypedProgram L → Assignment → ℕ
assignment_bound program x = 32 + place_bound program x.target + value_bound program x.value

-- the bytes of a function's parameters
abbrev pub parameter_bytes : {L : Type 0} → TypedProgram L → Option (Function L) → ℕ
parameter_bytes program None = 0
parameter_bytes program (Some f) = sum_by (scalar_bytes program.structs) (take f.parameters (own_variables f program.variables))

abbrev pub arguments_bound : {L : Type 0} → TypedProgram L → Arguments → ℕ
arguments_bound program NoArguments = 0
arguments_bound program (Arguments' earlier last) = sum_by (λ x. value_bound program x.value) earlier + value_bound program last

-- of a variable that gets the result of a call
abbrev pub result_bound : {L : Type 0} → TypedProgram L → ResultTarget → ℕ
result_bound program x = if is_held_in (slice_get program.variables x.variable) then 0 else 9

-- with the label after it
abbrev pub call_bound : {L : Type 0} → TypedProgram L → Call → ℕ
call_bound program x =
    40 + 8 * parameter_bytes program (slice_get program.functions x.function) + arguments_bound program x.arguments + bound_of (result_bound program) x.target + label_bound

abbrev pub for_bound : {L M : Type 0} → TypedProgram L → ForHead M → ℕ
for_bound program x = bound_of (assignment_bound program) x.first + bound_of (cond_bound program) x.condition + bound_of (assignment_bound program) x.step

abbrev mutual
  pub stmt_bound : {L M : Type 0} → TypedProgram L → Stmt M → ℕ
  stmt_bound program (Empty a) = 0
  stmt_bound program (Block left body right) = stmts_bound program body
  stmt_bound program (Assign x a) = assignment_bound program x
  stmt_bound program (ReadPort target equals port a) = 24 + place_bound program target
  stmt_bound program (WritePort port equals value a) = 8 + value_bound program value
  stmt_bound program (CallOf x a back) = call_bound program x
  stmt_bound program (If test one x other) = 8 + 2 * label_bound + cond_bound program test.condition + stmt_bound program x
  stmt_bound program (IfElse test one x a other y) = 8 + 2 * label_bound + cond_bound program test.condition + stmt_bound program x + stmt_bound program y
  stmt_bound program (While test turn x after) = 16 + 2 * label_bound + cond_bound program test.condition + stmt_bound program x
  stmt_bound program (Do keyword x test again a after) = 16 + 2 * label_bound + cond_bound program test.condition + stmt_bound program x
  stmt_bound program (For head turn x after) = 16 + 2 * label_bound + for_bound program head + stmt_bound program x
  stmt_bound program (Break keyword a) = 8
  stmt_bound program (Continue keyword a) = 8
  stmt_bound program (Return keyword value a) = 24 + bound_of (value_bound program) value

  pub stmts_bound : {L M : Type 0} → TypedProgram L → Stmts M → ℕ
  stmts_bound program NoStmts = 0
  stmts_bound program (Then earlier last) = stmts_bound program earlier + stmt_bound program last

-- ---- functions and programs

abbrev pub local_bound : {L : Type 0} → TypedProgram L → Local → ℕ
local_bound program x = elim x.initialiser [ NoValue ↦ 0 | Value equals value ↦ 32 + value_bound program value ]

-- a parameter or a scalar local is put into its block where its address is taken
abbrev pub own_bound : List StructType → Variable' → ℕ
own_bound structs x = 24 * scalar_bytes structs x + (if is_scalar x.type then (if is_held_in (Some x) then 0 else 24) else 0)

abbrev pub function_bound : {L : Type 0} → TypedProgram L → Function L → ℕ
function_bound program f =
    32 + label_bound + sum_by (own_bound program.structs) (own_variables f program.variables) + sum_by (local_bound program) f.locals + stmts_bound program f.body

abbrev pub type_of_variable : Option Variable' → CType
type_of_variable None = Void
type_of_variable (Some x) = x.type

abbrev pub is_initialised : Initialiser → Bool
is_initialised NoInitialiser = false
is_initialised (Single equals number) = true
is_initialised (Listed equals left earlier last right) = true

-- each byte of an initialised global is written at the start
abbrev pub item_bound : {L : Type 0} → TypedProgram L → Item → ℕ
item_bound program (GlobalItem x variable) = if is_initialised x.initialiser then 6 * size_of program.structs (type_of_variable (slice_get program.variables variable)) else 0
item_bound program item = 0

abbrev pub code_bound : {L : Type 0} → TypedProgram L → ℕ
code_bound program = 8 + sum_by (item_bound program) program.items + sum_by (function_bound program) program.functions
