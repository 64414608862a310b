-- How the recogniser reads statements. A whole statement ends each loop and each `else` that it is the last part of; over an `if`
-- one token decides, which is `else` or not, so an `else` belongs to the nearest `if` that has none (ISO/IEC 9899:1999, 6.8).
use Rattle.std.specs.Prelude.{List, [], ◌∷◌, Option, Some, None}
use Rattle.clight_source.specs.declared.span.Span.{Span}
use Rattle.clight_source.specs.declared.symbol.Symbol.{Symbol}
use Rattle.clight_source.specs.declared.symbol.Symbol.TheVariants as s
use Rattle.clight_source.specs.declared.tree.Name.{Name}
use Rattle.clight_source.specs.declared.tree.MemberOperator.TheVariants as o
use Rattle.clight_source.specs.declared.tree.Specifiers.{Specifiers}
use Rattle.clight_source.specs.declared.tree.CallTarget.{CallTarget}
use Rattle.clight_nodes.specs.declared.forms.Form.{Form}
use Rattle.clight_nodes.specs.declared.forms.Form.TheVariants as f
use Rattle.clight_nodes.specs.declared.forms.Place.TheVariants as c
use Rattle.clight_nodes.specs.declared.forms.ForStart.{ForStart}
use Rattle.clight_nodes.specs.declared.forms.ForMiddle.{ForMiddle}
use Rattle.clight_nodes.specs.declared.modes.StatementMode.{StatementMode}
use Rattle.clight_nodes.specs.declared.modes.StatementMode.TheVariants as b
use Rattle.clight_nodes.specs.declared.modes.DeclarationMode.TheVariants as d
use Rattle.clight_nodes.specs.declared.modes.Owner.TheVariants as w
use Rattle.clight_nodes.specs.declared.modes.Mode.TheVariants as m
use Rattle.clight_nodes.specs.declared.modes.Pending.{Pending}
use Rattle.clight_nodes.specs.declared.modes.Pending.TheVariants as e
use Rattle.clight_nodes.specs.declared.nodes.Node.{Node}
use Rattle.clight_nodes.specs.declared.nodes.Node.TheVariants as n
use Rattle.clight_nodes.specs.Code.States.{State, at, refused}
use Rattle.clight_nodes.specs.Code.Expressions.{first_word, binary_of, infix_at, operand, Settled}

-- where a statement may begin
abbrev pub begin : List Form → List Node → State
begin k z = at (m.Statement b.Start) k z

-- ---- a statement is whole

-- a statement joins what holds statements, or is the body of a `do`
abbrev pub gather : List Form → List Node → State
gather (f.Do a ∷ k) z = at (m.Statement (b.DoBody a)) k z
gather (f.Block left ∷ k) z = begin (f.Block left ∷ k) (n.Then ∷ z)
gather (f.Locals left ∷ k) z = begin (f.Body left ∷ k) (n.Then ∷ z)
gather (f.Body left ∷ k) z = begin (f.Body left ∷ k) (n.Then ∷ z)
gather _ z = refused

-- closes what ends with the statement, but no `if` that may go on with `else`
abbrev pub finish : List Form → List Node → State
finish (f.While word left right ∷ k) z = finish k (n.While word left right ∷ z)
finish (f.For middle right ∷ k) z = finish k (n.For middle right ∷ z)
finish (f.Else word left right a ∷ k) z = finish k (n.IfElse word left right a ∷ z)
finish (f.If word left right ∷ k) z = at (m.Statement b.MayElse) (f.If word left right ∷ k) z
finish k z = gather k z

-- the same, where no `else` comes
abbrev pub flush : List Form → List Node → State
flush (f.While word left right ∷ k) z = flush k (n.While word left right ∷ z)
flush (f.For middle right ∷ k) z = flush k (n.For middle right ∷ z)
flush (f.Else word left right a ∷ k) z = flush k (n.IfElse word left right a ∷ z)
flush (f.If word left right ∷ k) z = flush k (n.If word left right ∷ z)
flush k z = gather k z

-- a simple statement with its `;`
abbrev pub ended : Pending → (semicolon : Span) → Node
ended (e.CallAlone target function left right) a = n.CallAlone target function left right a
ended (e.Call target function left right) a = n.Call target function left right a
ended (e.Read equals port) a = n.ReadPort equals port a
ended (e.Do word while' left right) a = n.Do word while' left right a
ended (e.Break word) a = n.Break word a
ended (e.Continue word) a = n.Continue word a

-- ---- a token after an operand, whose operators are closed

-- `)`
abbrev pub close_parenthesis : Span → List Form → List Node → State
close_parenthesis a (f.Parenthesis left ∷ k) z = at m.AfterOperand k (n.Parenthesis left a ∷ z)
close_parenthesis a (f.IfTest word left ∷ k) z = begin (f.If word left a ∷ k) z
close_parenthesis a (f.WhileTest word left ∷ k) z = begin (f.While word left a ∷ k) z
close_parenthesis a (f.DoTest word while' left ∷ k) z = at (m.Statement (b.End (e.Do word while' left a))) k z
close_parenthesis a (f.Arguments target function left ∷ k) z = at (m.Statement (b.End (e.Call target function left a))) k z
close_parenthesis a (f.Value (c.AsStep middle) equals ∷ k) z = begin (f.For middle a ∷ k) (n.Assignment equals ∷ z)
close_parenthesis a _ z = refused

-- `]`
abbrev pub close_bracket : Span → List Form → List Node → State
close_bracket a (f.Index left ∷ k) z = at m.AfterOperand k (n.Index left a ∷ z)
close_bracket a _ z = refused

-- `,`
abbrev pub next_argument : Span → List Form → List Node → State
next_argument a (f.Arguments target function left ∷ k) z = at m.Operand (f.Arguments target function left ∷ k) (n.Argument a ∷ z)
next_argument a _ z = refused

abbrev pub make_start : (keyword left semicolon : Span) → ForStart
make_start keyword left semicolon = record { keyword = keyword; left = left; semicolon = semicolon }

abbrev pub make_middle : ForStart → (semicolon : Span) → ForMiddle
make_middle start semicolon = record { start = start; semicolon = semicolon }

-- `;`
abbrev pub end_expression : Span → List Form → List Node → State
end_expression a (f.Value c.AsStatement equals ∷ k) z = finish k (n.Assign equals a ∷ z)
end_expression a (f.Value (c.AsFirst word left) equals ∷ k) z = at (m.Statement (b.ForCondition (make_start word left a))) k (n.Assignment equals ∷ z)
end_expression a (f.PortValue port equals ∷ k) z = finish k (n.WritePort port equals a ∷ z)
end_expression a (f.Condition start ∷ k) z = at (m.Statement (b.ForStep (make_middle start a))) k (n.Condition ∷ z)
end_expression a (f.Return word ∷ k) z = finish k (n.ReturnValue word a ∷ z)
end_expression a (f.LocalValue left equals ∷ k) z = begin (f.Locals left ∷ k) (n.LocalValue equals a ∷ z)
end_expression a _ z = refused

-- `=`
abbrev pub begin_value : Span → List Form → List Node → State
begin_value a (f.Target place ∷ k) z = at m.Operand (f.Value place a ∷ k) z
begin_value a _ z = refused

-- `(`: the call of a function is a statement, or the right side of one whose left side is a name
abbrev pub begin_call : Span → List Form → List Node → State
begin_call a k (n.Name function ∷ z) = at (m.Statement (b.FirstArgument None function a)) k z
begin_call a k _ = refused

abbrev pub make_target : Name → (equals : Span) → CallTarget
make_target name equals = record { name = name; equals = equals }

abbrev pub begin_call_to : (equals : Span) → Span → List Form → List Node → State
begin_call_to equals a k (n.Name function ∷ (n.Name target ∷ z)) = at (m.Statement (b.FirstArgument (Some (make_target target equals)) function a)) k z
begin_call_to equals a k _ = refused

abbrev pub call_at : Span → List Form → List Node → State
call_at a (f.Target c.AsStatement ∷ k) z = begin_call a k z
call_at a (f.Value c.AsStatement equals ∷ k) z = begin_call_to equals a k z
call_at a _ z = refused

-- a token that is no binary operator
abbrev pub mark : Symbol → Span → List Form → List Node → State
mark s.RightParenthesis a k z = close_parenthesis a k z
mark s.RightBracket a k z = close_bracket a k z
mark s.Comma a k z = next_argument a k z
mark s.Semicolon a k z = end_expression a k z
mark s.Assign a k z = begin_value a k z
mark s.LeftParenthesis a k z = call_at a k z
mark s.LeftBracket a k z = at m.Operand (f.Index a ∷ k) z
mark s.Dot a k z = at (m.MemberName o.Dot a) k z
mark s.Arrow a k z = at (m.MemberName o.Arrow a) k z
mark _ a k z = refused

abbrev pub act : Symbol → Span → Settled → State
act y a x = elim (binary_of y) [ None ↦ mark y a x.forms x.nodes | Some operator ↦ infix_at operator a x.forms x.nodes ]

-- ---- a token where a statement may begin

-- `}`
abbrev pub close_brace : Span → List Form → List Node → State
close_brace a (f.Block left ∷ k) z = finish k (n.Block left a ∷ z)
close_brace a (f.Locals left ∷ k) z = at m.Finished [] (n.Function left a ∷ z)
close_brace a (f.Body left ∷ k) z = at m.Finished [] (n.Function left a ∷ z)
close_brace a _ z = refused

-- locals are before the first statement
abbrev pub local_words : Specifiers → List Form → List Node → State
local_words type (f.Locals left ∷ k) z = at (m.Declaration (d.Words (w.InFunction left) type)) [] z
local_words type _ z = refused

abbrev pub local_tag : Span → List Form → List Node → State
local_tag a (f.Locals left ∷ k) z = at (m.Declaration (d.TagName (w.InFunction left) a)) [] z
local_tag a _ z = refused

-- a local, or a statement that begins with an expression
abbrev pub begin_simple : List Form → List Node → Symbol → Span → State
begin_simple k z y a = elim (first_word y a) [ None ↦ operand (f.Target c.AsStatement ∷ k) z y a | Some type ↦ local_words type k z ]

abbrev pub statement : List Form → List Node → Symbol → Span → State
statement k z s.Semicolon a = finish k (n.Empty a ∷ z)
statement k z s.LeftBrace a = begin (f.Block a ∷ k) (n.NoStatements ∷ z)
statement k z s.RightBrace a = close_brace a k z
statement k z s.If a = at (m.Statement (b.IfWord a)) k z
statement k z s.While a = at (m.Statement (b.WhileWord a)) k z
statement k z s.Do a = begin (f.Do a ∷ k) z
statement k z s.For a = at (m.Statement (b.ForWord a)) k z
statement k z s.Break a = at (m.Statement (b.End (e.Break a))) k z
statement k z s.Continue a = at (m.Statement (b.End (e.Continue a))) k z
statement k z s.Return a = at (m.Statement (b.ReturnWord a)) k z
statement k z s.PortOne a = at (m.Statement (b.PortWord a)) k z
statement k z s.Struct a = local_tag a k z
statement k z y a = begin_simple k z y a

-- ---- other tokens inside a statement

abbrev pub do_while : Span → List Form → List Node → Symbol → Span → State
do_while word k z s.While a = at (m.Statement (b.DoWhile word a)) k z
do_while word k z _ a = refused

-- after a statement that an `if` ends with, where no `else` comes
abbrev pub again : State → Symbol → Span → State
again x y a = elim x.mode [
  | m.Statement b.Start ↦ statement x.forms x.nodes y a
  | m.Statement (b.DoBody word) ↦ do_while word x.forms x.nodes y a
  | _ ↦ refused
]

abbrev pub else_arm : List Form → List Node → Span → State
else_arm (f.If word left right ∷ k) z a = begin (f.Else word left right a ∷ k) z
else_arm _ z a = refused

abbrev pub may_else : List Form → List Node → Symbol → Span → State
may_else k z s.Else a = else_arm k z a
may_else k z y a = again (flush k z) y a

-- `(` after a keyword
abbrev pub opened : Form → List Form → List Node → Symbol → State
opened f k z s.LeftParenthesis = at m.Operand (f ∷ k) z
opened f k z _ = refused

abbrev pub for_word : Span → List Form → List Node → Symbol → Span → State
for_word word k z s.LeftParenthesis a = at (m.Statement (b.ForFirst word a)) k z
for_word word k z _ a = refused

abbrev pub for_first : (word left : Span) → List Form → List Node → Symbol → Span → State
for_first word left k z s.Semicolon a = at (m.Statement (b.ForCondition (make_start word left a))) k (n.NoAssignment ∷ z)
for_first word left k z y a = operand (f.Target (c.AsFirst word left) ∷ k) z y a

abbrev pub for_condition : ForStart → List Form → List Node → Symbol → Span → State
for_condition start k z s.Semicolon a = at (m.Statement (b.ForStep (make_middle start a))) k (n.NoCondition ∷ z)
for_condition start k z y a = operand (f.Condition start ∷ k) z y a

abbrev pub for_step : ForMiddle → List Form → List Node → Symbol → Span → State
for_step middle k z s.RightParenthesis a = begin (f.For middle a ∷ k) (n.NoAssignment ∷ z)
for_step middle k z y a = operand (f.Target (c.AsStep middle) ∷ k) z y a

abbrev pub return_word : Span → List Form → List Node → Symbol → Span → State
return_word word k z s.Semicolon a = finish k (n.Return word a ∷ z)
return_word word k z y a = operand (f.Return word ∷ k) z y a

abbrev pub port_word : Span → List Form → List Node → Symbol → Span → State
port_word port k z s.Assign a = at m.Operand (f.PortValue port a ∷ k) z
port_word port k z _ a = refused

abbrev pub first_argument : Option CallTarget → Name → Span → List Form → List Node → Symbol → Span → State
first_argument target function left k z s.RightParenthesis a = at (m.Statement (b.End (e.CallAlone target function left a))) k z
first_argument target function left k z y a = operand (f.Arguments target function left ∷ k) (n.NoArguments ∷ z) y a

abbrev pub statement_end : Pending → List Form → List Node → Symbol → Span → State
statement_end x k z s.Semicolon a = finish k (ended x a ∷ z)
statement_end x k z _ a = refused

-- ---- any token in a statement

abbrev pub in_statement : StatementMode → List Form → List Node → Symbol → Span → State
in_statement b.Start k z y a = statement k z y a
in_statement b.MayElse k z y a = may_else k z y a
in_statement (b.IfWord word) k z y a = opened (f.IfTest word a) k z y
in_statement (b.WhileWord word) k z y a = opened (f.WhileTest word a) k z y
in_statement (b.DoBody word) k z y a = do_while word k z y a
in_statement (b.DoWhile word while') k z y a = opened (f.DoTest word while' a) k z y
in_statement (b.ForWord word) k z y a = for_word word k z y a
in_statement (b.ForFirst word left) k z y a = for_first word left k z y a
in_statement (b.ForCondition start) k z y a = for_condition start k z y a
in_statement (b.ForStep middle) k z y a = for_step middle k z y a
in_statement (b.ReturnWord word) k z y a = return_word word k z y a
in_statement (b.PortWord port) k z y a = port_word port k z y a
in_statement (b.FirstArgument target function left) k z y a = first_argument target function left k z y a
in_statement (b.End x) k z y a = statement_end x k z y a
