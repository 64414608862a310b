-- The fold over postfix nodes of expressions and statements: what is whole and joins nothing yet, the newest first.
use Rattle.std.specs.Prelude.{List, [], ◌∷◌, ◌++◌, Option, Some, None}
use Rattle.clight_source.specs.declared.span.Span.{Span}
use Rattle.clight_source.specs.declared.tree.Name.{Name}
use Rattle.clight_source.specs.declared.tree.CallTarget.{CallTarget}
use Rattle.clight_source.specs.declared.tree.BinaryOperator.{BinaryOperator}
use Rattle.clight_source.specs.declared.tree.PrefixOperator.{PrefixOperator}
use Rattle.clight_source.specs.declared.tree.MemberOperator.{MemberOperator}
use Rattle.clight_source.specs.declared.tree.Specifiers.{Specifiers}
use Rattle.clight_source.specs.Trees.{Expr, Variable, Number, Parenthesis, Binary, Prefix, Cast, Index, Select, Assignment, Test, EarlierArgument, Arguments, NoArguments, Arguments', Call, ForHead, Stmt, Empty, Block, Assign, ReadPort, WritePort, CallOf, If, IfElse, While, Do, For, Break, Continue, Return, Stmts, NoStmts, Then}
use Rattle.clight_nodes.specs.declared.forms.ForMiddle.{ForMiddle}
use Rattle.clight_nodes.specs.declared.nodes.Node.{Node}
use Rattle.clight_nodes.specs.declared.nodes.Node.TheVariants as n

pub record Stacks : Type 0 where
  pub exprs : List Expr
  pub stmts : List Stmt
  pub lists : List Stmts
  pub arguments : List (List EarlierArgument)
  pub assignments : List (Option Assignment)
  pub conditions : List (Option Expr)

abbrev pub stacks : List Expr → List Stmt → List Stmts → List (List EarlierArgument) → List (Option Assignment) → List (Option Expr) → Stacks
stacks e x l a f c = record { exprs = e; stmts = x; lists = l; arguments = a; assignments = f; conditions = c }

abbrev pub no_stacks : Stacks
no_stacks = stacks [] [] [] [] [] []

abbrev pub rest : {A : Type 0} → List A → List A
rest [] = []
rest (x ∷ l) = l

-- the rest of the second list, where something is on the first
abbrev pub rest_with : {A B : Type 0} → List A → List B → List B
rest_with [] l = l
rest_with (x ∷ k) l = rest l

-- the second one, where something is on the list
abbrev pub after : {A B : Type 0} → List A → B → B → B
after [] x y = x
after (a ∷ k) x y = y

abbrev pub make_test : (keyword left : Span) → Expr → (right : Span) → Test
make_test keyword left e right = record { keyword = keyword; left = left; condition = e; right = right }

abbrev pub make_call : Option CallTarget → (function : Name) (left : Span) → Arguments → (right : Span) → Call
make_call target function left arguments right = record { target = target; function = function; left = left; arguments = arguments; right = right }

-- ---- nodes of expressions, over the expressions

abbrev pub parenthesis : (left right : Span) → List Expr → List Expr
parenthesis left right (e ∷ k) = Parenthesis left e right ∷ k
parenthesis left right _ = []

abbrev pub binary : BinaryOperator → Span → List Expr → List Expr
binary operator a (r ∷ (l ∷ k)) = Binary l operator a r ∷ k
binary operator a _ = []

abbrev pub prefix : PrefixOperator → Span → List Expr → List Expr
prefix operator a (e ∷ k) = Prefix operator a e ∷ k
prefix operator a _ = []

abbrev pub cast : (left : Span) → Specifiers → (right : Span) → List Expr → List Expr
cast left type right (e ∷ k) = Cast left type right e ∷ k
cast left type right _ = []

abbrev pub index : (left right : Span) → List Expr → List Expr
index left right (i ∷ (e ∷ k)) = Index e left i right ∷ k
index left right _ = []

abbrev pub select : MemberOperator → Span → Name → List Expr → List Expr
select operator a member (e ∷ k) = Select e operator a member ∷ k
select operator a member _ = []

-- ---- lists

abbrev pub one_argument : (comma : Span) → List Expr → List (List EarlierArgument) → List (List EarlierArgument)
one_argument a [] l = l
one_argument a (e ∷ k) [] = []
one_argument a (e ∷ k) (l ∷ more) = (l ++ record { value = e; comma = a } ∷ []) ∷ more

abbrev pub one_statement : List Stmt → List Stmts → List Stmts
one_statement [] l = l
one_statement (x ∷ k) [] = []
one_statement (x ∷ k) (xs ∷ more) = Then xs x ∷ more

-- ---- nodes of statements, over the statements

abbrev pub block : (left right : Span) → List Stmts → List Stmt → List Stmt
block left right [] x = x
block left right (xs ∷ more) x = Block left xs right ∷ x

abbrev pub assign : (equals semicolon : Span) → List Expr → List Stmt → List Stmt
assign equals a (v ∷ (t ∷ k)) x = Assign (record { target = t; equals = equals; value = v }) a ∷ x
assign equals a _ x = x

abbrev pub read_port : (equals port semicolon : Span) → List Expr → List Stmt → List Stmt
read_port equals port a (t ∷ k) x = ReadPort t equals port a ∷ x
read_port equals port a _ x = x

abbrev pub write_port : (port equals semicolon : Span) → List Expr → List Stmt → List Stmt
write_port port equals a (v ∷ k) x = WritePort port equals v a ∷ x
write_port port equals a _ x = x

abbrev pub call : Option CallTarget → Name → (left right semicolon : Span) → List Expr → List (List EarlierArgument) → List Stmt → List Stmt
call target function left right a (e ∷ k) (l ∷ more) x = CallOf (make_call target function left (Arguments' l e) right) a ∷ x
call target function left right a _ _ x = x

abbrev pub if_statement : (keyword left right : Span) → List Expr → List Stmt → List Stmt
if_statement word left right [] x = x
if_statement word left right (e ∷ k) (x ∷ more) = If (make_test word left e right) x ∷ more
if_statement word left right (e ∷ k) [] = []

abbrev pub if_else : (keyword left right else' : Span) → List Expr → List Stmt → List Stmt
if_else word left right a [] x = x
if_else word left right a (e ∷ k) (y ∷ (x ∷ more)) = IfElse (make_test word left e right) x a y ∷ more
if_else word left right a (e ∷ k) _ = []

abbrev pub while_statement : (keyword left right : Span) → List Expr → List Stmt → List Stmt
while_statement word left right [] x = x
while_statement word left right (e ∷ k) (x ∷ more) = While (make_test word left e right) x ∷ more
while_statement word left right (e ∷ k) [] = []

abbrev pub do_statement : (keyword while' left right semicolon : Span) → List Expr → List Stmt → List Stmt
do_statement word while' left right a [] x = x
do_statement word while' left right a (e ∷ k) (x ∷ more) = Do word x (make_test while' left e right) a ∷ more
do_statement word while' left right a (e ∷ k) [] = []

abbrev pub assignment : (equals : Span) → List Expr → List (Option Assignment) → List (Option Assignment)
assignment equals (v ∷ (t ∷ k)) l = Some (record { target = t; equals = equals; value = v }) ∷ l
assignment equals _ l = l

abbrev pub condition : List Expr → List (Option Expr) → List (Option Expr)
condition [] l = l
condition (e ∷ k) l = Some e ∷ l

abbrev pub make_head : ForMiddle → Option Assignment → Option Expr → Option Assignment → (right : Span) → ForHead
make_head x first condition step right = record {
  keyword = x.start.keyword;
  left = x.start.left;
  first = first;
  first_semicolon = x.start.semicolon;
  condition = condition;
  second_semicolon = x.semicolon;
  step = step;
  right = right;
}

abbrev pub head : ForMiddle → (right : Span) → List (Option Assignment) → List (Option Expr) → Option ForHead
head middle right (step ∷ (first ∷ k)) (condition ∷ l) = Some (make_head middle first condition step right)
head middle right _ _ = None

abbrev pub for_statement : Option ForHead → List Stmt → List Stmt
for_statement _ [] = []
for_statement None (x ∷ more) = more
for_statement (Some head) (x ∷ more) = For head x ∷ more

abbrev pub return_value : (keyword semicolon : Span) → List Expr → List Stmt → List Stmt
return_value word a (e ∷ k) x = Return word (Some e) a ∷ x
return_value word a _ x = x

-- ---- the fold

abbrev pub on_exprs : List Expr → Stacks → Stacks
on_exprs e s = stacks e s.stmts s.lists s.arguments s.assignments s.conditions

abbrev pub on_stmts : List Stmt → Stacks → Stacks
on_stmts x s = stacks s.exprs x s.lists s.arguments s.assignments s.conditions

-- a statement takes an expression from the expressions
abbrev pub with_one : List Stmt → Stacks → Stacks
with_one x s = stacks (rest s.exprs) x s.lists s.arguments s.assignments s.conditions

abbrev pub add_expression : Node → Stacks → Stacks
add_expression (n.Name name) s = on_exprs (Variable name ∷ s.exprs) s
add_expression (n.Number number a) s = on_exprs (Number number a ∷ s.exprs) s
add_expression (n.Parenthesis left right) s = on_exprs (parenthesis left right s.exprs) s
add_expression (n.Binary operator a) s = on_exprs (binary operator a s.exprs) s
add_expression (n.Prefix operator a) s = on_exprs (prefix operator a s.exprs) s
add_expression (n.Cast left type right) s = on_exprs (cast left type right s.exprs) s
add_expression (n.Index left right) s = on_exprs (index left right s.exprs) s
add_expression (n.Select operator a member) s = on_exprs (select operator a member s.exprs) s
add_expression _ s = s

abbrev pub add_simple : Node → Stacks → Stacks
add_simple (n.Empty a) s = on_stmts (Empty a ∷ s.stmts) s
add_simple (n.Assign equals a) s = stacks (rest (rest s.exprs)) (assign equals a s.exprs s.stmts) s.lists s.arguments s.assignments s.conditions
add_simple (n.ReadPort equals port a) s = with_one (read_port equals port a s.exprs s.stmts) s
add_simple (n.WritePort port equals a) s = with_one (write_port port equals a s.exprs s.stmts) s
add_simple (n.CallAlone target function left right a) s = on_stmts (CallOf (make_call target function left NoArguments right) a ∷ s.stmts) s
add_simple (n.Call target function left right a) s =
    stacks (rest s.exprs) (call target function left right a s.exprs s.arguments s.stmts) s.lists (rest_with s.exprs s.arguments) s.assignments s.conditions
add_simple (n.Break word a) s = on_stmts (Break word a ∷ s.stmts) s
add_simple (n.Continue word a) s = on_stmts (Continue word a ∷ s.stmts) s
add_simple (n.Return word a) s = on_stmts (Return word None a ∷ s.stmts) s
add_simple (n.ReturnValue word a) s = with_one (return_value word a s.exprs s.stmts) s
add_simple x s = add_expression x s

abbrev pub add_part : Node → Stacks → Stacks
add_part n.NoArguments s = stacks s.exprs s.stmts s.lists ([] ∷ s.arguments) s.assignments s.conditions
add_part (n.Argument a) s = stacks (rest s.exprs) s.stmts s.lists (one_argument a s.exprs s.arguments) s.assignments s.conditions
add_part n.NoStatements s = stacks s.exprs s.stmts (NoStmts ∷ s.lists) s.arguments s.assignments s.conditions
add_part n.Then s = stacks s.exprs (rest s.stmts) (one_statement s.stmts s.lists) s.arguments s.assignments s.conditions
add_part n.NoAssignment s = stacks s.exprs s.stmts s.lists s.arguments (None ∷ s.assignments) s.conditions
add_part (n.Assignment equals) s = stacks (rest (rest s.exprs)) s.stmts s.lists s.arguments (assignment equals s.exprs s.assignments) s.conditions
add_part n.NoCondition s = stacks s.exprs s.stmts s.lists s.arguments s.assignments (None ∷ s.conditions)
add_part n.Condition s = stacks (rest s.exprs) s.stmts s.lists s.arguments s.assignments (condition s.exprs s.conditions)
add_part x s = add_simple x s

abbrev pub add : Node → Stacks → Stacks
add (n.Block left right) s = stacks s.exprs (block left right s.lists s.stmts) (rest s.lists) s.arguments s.assignments s.conditions
add (n.If word left right) s = with_one (if_statement word left right s.exprs s.stmts) s
add (n.IfElse word left right a) s = with_one (if_else word left right a s.exprs s.stmts) s
add (n.While word left right) s = with_one (while_statement word left right s.exprs s.stmts) s
add (n.Do word while' left right a) s = with_one (do_statement word while' left right a s.exprs s.stmts) s
add (n.For middle right) s =
    stacks s.exprs (for_statement (head middle right s.assignments s.conditions) s.stmts) s.lists s.arguments
    (after s.stmts s.assignments (rest_with s.conditions (rest s.assignments)))
    (after s.stmts s.conditions (rest_with s.assignments s.conditions))
add x s = add_part x s
