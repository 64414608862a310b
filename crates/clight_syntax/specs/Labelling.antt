-- Where the cost labels of a program stand, and the annotations that pass them. The places are the compiler's own: a label at
-- the start of each function, of each arm and of each body, behind each loop and each call, on the way back of a `do`, and on
-- both ways of the left operand of `&&` and `||`.
use Rattle.std.specs.Prelude.{◌≡◌, ℕ, List, [], ◌∷◌, ◌++◌, Option, Some, None, option_map, map}
use Rattle.std.specs.List.{flat_map}
use Rattle.cerco_base.specs.declared.events.Label.{Label}
use Rattle.clight_syntax.specs.declared.points.Piece.{Piece}
use Rattle.clight_syntax.specs.declared.points.Piece.TheVariants.{Start, After, ArmOpen, ArmClose, ThenClose, BodyClose, DoOpen, DoClose, CondOpen, CondBoth, CondRepeat}
use Rattle.clight_syntax.specs.declared.points.Point.{Point}
use Rattle.clight_syntax.specs.declared.typed.ResultTarget.{ResultTarget}
use Rattle.clight_syntax.specs.Annotations.{labels_in, AreNumberedInOrder}
use Rattle.clight_syntax.specs.TypedTrees.{Expr, Variable, Number, Parenthesis, Binary, Prefix, Cast, Index, Select, Cond, Truth, InParentheses, Not, Both, Either, Test, Call, ForHead, Stmt, Empty, Block, Assign, ReadPort, WritePort, CallOf, If, IfElse, While, Do, For, Break, Continue, Return, Stmts, NoStmts, Then, Function, TypedProgram}

-- ---- the program without its labels

abbrev pub cond_without : {L : Type 0} → Cond L → Cond (Unit {0})
cond_without (Truth e) = Truth e
cond_without (InParentheses left c right) = InParentheses left (cond_without c) right
cond_without (Not at c) = Not at (cond_without c)
cond_without (Both l at on_true on_false r) = Both (cond_without l) at tt tt (cond_without r)
cond_without (Either l at on_true on_false r) = Either (cond_without l) at tt tt (cond_without r)

abbrev pub test_without : {L : Type 0} → Test L → Test (Unit {0})
test_without x = record { keyword = x.keyword; left = x.left; condition = cond_without x.condition; right = x.right }

abbrev pub head_without : {L : Type 0} → ForHead L → ForHead (Unit {0})
head_without x = record {
  keyword = x.keyword;
  left = x.left;
  first = x.first;
  first_semicolon = x.first_semicolon;
  condition = option_map cond_without x.condition;
  second_semicolon = x.second_semicolon;
  step = x.step;
  right = x.right;
}

abbrev mutual
  pub stmt_without : {L : Type 0} → Stmt L → Stmt (Unit {0})
  stmt_without (Empty semicolon) = Empty semicolon
  stmt_without (Block left body right) = Block left (stmts_without body) right
  stmt_without (Assign x semicolon) = Assign x semicolon
  stmt_without (ReadPort target equals port semicolon) = ReadPort target equals port semicolon
  stmt_without (WritePort port equals value semicolon) = WritePort port equals value semicolon
  stmt_without (CallOf call semicolon back) = CallOf call semicolon tt
  stmt_without (If test one arm other) = If (test_without test) tt (stmt_without arm) tt
  stmt_without (IfElse test one arm else other otherwise) = IfElse (test_without test) tt (stmt_without arm) else tt (stmt_without otherwise)
  stmt_without (While test turn body after) = While (test_without test) tt (stmt_without body) tt
  stmt_without (Do keyword body test again semicolon after) = Do keyword (stmt_without body) (test_without test) tt semicolon tt
  stmt_without (For head turn body after) = For (head_without head) tt (stmt_without body) tt
  stmt_without (Break keyword semicolon) = Break keyword semicolon
  stmt_without (Continue keyword semicolon) = Continue keyword semicolon
  stmt_without (Return keyword value semicolon) = Return keyword value semicolon

  pub stmts_without : {L : Type 0} → Stmts L → Stmts (Unit {0})
  stmts_without NoStmts = NoStmts
  stmts_without (Then earlier last) = Then (stmts_without earlier) (stmt_without last)

abbrev pub function_without : {L : Type 0} → Function L → Function (Unit {0})
function_without x = record {
  header = x.header;
  result = x.result;
  first_variable = x.first_variable;
  parameters = x.parameters;
  left = x.left;
  label = tt;
  locals = x.locals;
  body = stmts_without x.body;
  right = x.right;
}

abbrev pub without_labels : {L : Type 0} → TypedProgram L → TypedProgram (Unit {0})
without_labels x = record {
  names = x.names;
  items = x.items;
  span = x.span;
  structs = x.structs;
  variables = x.variables;
  functions = map function_without x.functions;
  main = x.main;
  frames = x.frames;
  data_bytes = x.data_bytes;
  calls = x.calls;
}

-- ---- where a part stands: the offset of the first byte of its first token, and the one behind the last byte of its last token

abbrev pub expr_from : Expr → ℕ
expr_from (Variable type variable name) = name.span.from
expr_from (Number type number span) = span.from
expr_from (Parenthesis type left e right) = left.from
expr_from (Binary type l operator at r) = expr_from l
expr_from (Prefix type operator at e) = at.from
expr_from (Cast type left words right e) = left.from
expr_from (Index type base left index right) = expr_from base
expr_from (Select type e operator at member offset) = expr_from e

abbrev pub expr_to : Expr → ℕ
expr_to (Variable type variable name) = name.span.to
expr_to (Number type number span) = span.to
expr_to (Parenthesis type left e right) = right.to
expr_to (Binary type l operator at r) = expr_to r
expr_to (Prefix type operator at e) = expr_to e
expr_to (Cast type left words right e) = expr_to e
expr_to (Index type base left index right) = right.to
expr_to (Select type e operator at member offset) = member.span.to

abbrev pub cond_from : {L : Type 0} → Cond L → ℕ
cond_from (Truth e) = expr_from e
cond_from (InParentheses left c right) = left.from
cond_from (Not at c) = at.from
cond_from (Both l at on_true on_false r) = cond_from l
cond_from (Either l at on_true on_false r) = cond_from l

abbrev pub cond_to : {L : Type 0} → Cond L → ℕ
cond_to (Truth e) = expr_to e
cond_to (InParentheses left c right) = right.to
cond_to (Not at c) = cond_to c
cond_to (Both l at on_true on_false r) = cond_to r
cond_to (Either l at on_true on_false r) = cond_to r

-- of a call whose result is assigned, where its target stands
abbrev pub target_from : Option ResultTarget → ℕ → ℕ
target_from None otherwise = otherwise
target_from (Some x) otherwise = x.target.name.span.from

abbrev pub call_from : Call → ℕ
call_from x = target_from x.target x.name.span.from

abbrev pub stmt_from : {L : Type 0} → Stmt L → ℕ
stmt_from (Empty semicolon) = semicolon.from
stmt_from (Block left body right) = left.from
stmt_from (Assign x semicolon) = expr_from x.target
stmt_from (ReadPort target equals port semicolon) = expr_from target
stmt_from (WritePort port equals value semicolon) = port.from
stmt_from (CallOf call semicolon back) = call_from call
stmt_from (If test one arm other) = test.keyword.from
stmt_from (IfElse test one arm else other otherwise) = test.keyword.from
stmt_from (While test turn body after) = test.keyword.from
stmt_from (Do keyword body test again semicolon after) = keyword.from
stmt_from (For head turn body after) = head.keyword.from
stmt_from (Break keyword semicolon) = keyword.from
stmt_from (Continue keyword semicolon) = keyword.from
stmt_from (Return keyword value semicolon) = keyword.from

abbrev pub stmt_to : {L : Type 0} → Stmt L → ℕ
stmt_to (Empty semicolon) = semicolon.to
stmt_to (Block left body right) = right.to
stmt_to (Assign x semicolon) = semicolon.to
stmt_to (ReadPort target equals port semicolon) = semicolon.to
stmt_to (WritePort port equals value semicolon) = semicolon.to
stmt_to (CallOf call semicolon back) = semicolon.to
stmt_to (If test one arm other) = stmt_to arm
stmt_to (IfElse test one arm else other otherwise) = stmt_to otherwise
stmt_to (While test turn body after) = stmt_to body
stmt_to (Do keyword body test again semicolon after) = semicolon.to
stmt_to (For head turn body after) = stmt_to body
stmt_to (Break keyword semicolon) = semicolon.to
stmt_to (Continue keyword semicolon) = semicolon.to
stmt_to (Return keyword value semicolon) = semicolon.to

-- ---- the annotations, in the order of the annotated text: of each part first those before it, then those inside, then those
-- behind it

abbrev pub point : ℕ → Piece → Point
point at piece = record { at = at; piece = piece }

-- annotations with one before them and one behind
abbrev pub between : Point → List Point → Point → List Point
between before points behind = before ∷ (points ++ behind ∷ [])

-- the left operand of `&&` or `||`
abbrev pub operand_points : ℕ → List Point → ℕ → Label → Label → List Point
operand_points from points to on_true on_false = between (point from CondOpen) points (point to (CondBoth on_true on_false))

-- parentheses and `!` have none of their own
abbrev pub cond_points : Cond Label → List Point
cond_points (Truth e) = []
cond_points (InParentheses left c right) = cond_points c
cond_points (Not at c) = cond_points c
cond_points (Both l at on_true on_false r) = operand_points (cond_from l) (cond_points l) (cond_to l) on_true on_false ++ cond_points r
cond_points (Either l at on_true on_false r) = operand_points (cond_from l) (cond_points l) (cond_to l) on_true on_false ++ cond_points r

abbrev pub head_points : Option (Cond Label) → List Point
head_points None = []
head_points (Some c) = cond_points c

-- an arm of an `if` with `else`
abbrev pub arm_points : Label → ℕ → List Point → ℕ → List Point
arm_points label from points to = between (point from (ArmOpen label)) points (point to ArmClose)

-- the arm of an `if` without `else`, with the label of the missing arm
abbrev pub only_arm_points : Label → ℕ → List Point → ℕ → Label → List Point
only_arm_points one from points to other = between (point from (ArmOpen one)) points (point to (ThenClose other))

-- the body of a `while` or `for`, with the label behind the loop
abbrev pub body_points : Label → ℕ → List Point → ℕ → Label → List Point
body_points turn from points to after = between (point from (ArmOpen turn)) points (point to (BodyClose after))

abbrev mutual
  pub stmt_points : Stmt Label → List Point
  stmt_points (Empty semicolon) = []
  stmt_points (Block left body right) = stmts_points body
  stmt_points (Assign x semicolon) = []
  stmt_points (ReadPort target equals port semicolon) = []
  stmt_points (WritePort port equals value semicolon) = []
  stmt_points (CallOf call semicolon back) = point semicolon.to (After back) ∷ []
  stmt_points (If test one arm other) =
      cond_points test.condition ++ only_arm_points one (stmt_from arm) (stmt_points arm) (stmt_to arm) other
  stmt_points (IfElse test one arm else other otherwise) =
      cond_points test.condition
      ++ (arm_points one (stmt_from arm) (stmt_points arm) (stmt_to arm)
      ++ arm_points other (stmt_from otherwise) (stmt_points otherwise) (stmt_to otherwise))
  stmt_points (While test turn body after) =
      cond_points test.condition ++ body_points turn (stmt_from body) (stmt_points body) (stmt_to body) after
  stmt_points (Do keyword body test again semicolon after) =
      between (point (stmt_from body) DoOpen) (stmt_points body) (point (stmt_to body) DoClose)
      ++ (between (point (cond_from test.condition) CondOpen) (cond_points test.condition) (point (cond_to test.condition) (CondRepeat again))
      ++ point semicolon.to (After after) ∷ [])
  stmt_points (For head turn body after) =
      head_points head.condition ++ body_points turn (stmt_from body) (stmt_points body) (stmt_to body) after
  stmt_points (Break keyword semicolon) = []
  stmt_points (Continue keyword semicolon) = []
  stmt_points (Return keyword value semicolon) = []

  pub stmts_points : Stmts Label → List Point
  stmts_points NoStmts = []
  stmts_points (Then earlier last) = stmts_points earlier ++ stmt_points last

abbrev pub function_points : Function Label → List Point
function_points x = point x.left.to (After x.label) ∷ stmts_points x.body

abbrev pub points_of : TypedProgram Label → List Point
points_of x = point 0 Start ∷ flat_map function_points x.functions

-- ---- the labelled program

-- Without its labels it is the typed one, and its labels are numbered by their place in the annotated text.
pub record IsLabelled (typed : TypedProgram (Unit {0})) (labelled : TypedProgram Label) : Type 0 where
  pub typed_alone : without_labels labelled ≡ typed
  pub numbered : AreNumberedInOrder (labels_in (points_of labelled))
