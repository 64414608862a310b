-- How the machine over trees reads statements. A whole statement ends each loop and each `else` that it is the last part of; over an `if`
-- one token decides, which is `else` or not, so an `else` belongs to the nearest `if` that has none (ISO/IEC 9899:1999, 6.8).
use Rattle.std.specs.Prelude.{List, [], ◌∷◌, ◌++◌, Option, Some, None}
use Rattle.clight_source.specs.declared.span.Span.{Span}
use Rattle.clight_source.specs.declared.symbol.Symbol.{Symbol}
use Rattle.clight_source.specs.declared.symbol.Symbol.TheVariants as s
use Rattle.clight_source.specs.declared.tree.Name.{Name}
use Rattle.clight_source.specs.declared.tree.MemberOperator.TheVariants as m
use Rattle.clight_source.specs.declared.tree.Specifiers.{Specifiers}
use Rattle.clight_source.specs.declared.tree.CallTarget.{CallTarget}
use Rattle.clight_source.specs.Trees.{Expr, Parenthesis, Index, NoArguments, Arguments', Stmt, Empty, Block, Assign, ReadPort, WritePort, CallOf, If, IfElse, While, Do, For, Break, Continue, Return, NoStmts, Then, Value}
use Rattle.clight_nodes.specs.Code.Expressions.{first_word, binary_of}
use Rattle.clight_nodes.specs.Code.Statements.{make_target}
use Rattle.clight_grammar.specs.Code.Parts.{ForStart, ForMiddle, name_of, assignment, test, call, for_start, for_middle, function_item, make_head, make_local, with_local}
use Rattle.clight_grammar.specs.Code.Forms.{AsStatement, AsFirst, AsStep, Form, InParenthesis, InIndex, InTarget, InValue, InPortValue, InArguments, InIfTest, InWhileTest, InDoTest, InCondition, InReturn, InLocalValue, InIf, InElse, InWhile, InDo, InFor, InBlock, InLocals, InBody, InFunction, Pending, CallPending, ReadPending, DoPending, BreakPending, ContinuePending, Mode, Operand, AfterOperand, MemberName, Statement, MayElse, IfWord, WhileWord, DoBody, DoWhile, ForWord, ForFirst, ForCondition, ForStep, ReturnWord, PortWord, FirstArgument, StatementEnd, TagName, Words, Finished, Refused}
use Rattle.clight_grammar.specs.Code.Expressions.{infix_at, operand, Settled}

-- ---- a statement is whole

-- closes what ends with the statement, but no `if` that may go on with `else`
abbrev pub finish : Stmt → List Form → Mode
finish x (InWhile t ∷ k) = finish (While t x) k
finish x (InFor head ∷ k) = finish (For head x) k
finish x (InElse t y a ∷ k) = finish (IfElse t y a x) k
finish x (InIf t ∷ k) = MayElse x (InIf t ∷ k)
finish x (InDo a ∷ k) = DoBody a x k
finish x (InBlock left xs ∷ k) = Statement (InBlock left (Then xs x) ∷ k)
finish x (InLocals front ∷ k) = Statement (InBody front (Then NoStmts x) ∷ k)
finish x (InBody front xs ∷ k) = Statement (InBody front (Then xs x) ∷ k)
finish x _ = Refused

-- the same, where no `else` comes
abbrev pub flush : Stmt → List Form → Mode
flush x (InWhile t ∷ k) = flush (While t x) k
flush x (InFor head ∷ k) = flush (For head x) k
flush x (InElse t y a ∷ k) = flush (IfElse t y a x) k
flush x (InIf t ∷ k) = flush (If t x) k
flush x (InDo a ∷ k) = DoBody a x k
flush x (InBlock left xs ∷ k) = Statement (InBlock left (Then xs x) ∷ k)
flush x (InLocals front ∷ k) = Statement (InBody front (Then NoStmts x) ∷ k)
flush x (InBody front xs ∷ k) = Statement (InBody front (Then xs x) ∷ k)
flush x _ = Refused

-- a simple statement with its `;`
abbrev pub ended : Pending → (semicolon : Span) → Stmt
ended (CallPending x) a = CallOf x a
ended (ReadPending target equals port) a = ReadPort target equals port a
ended (DoPending k x t) a = Do k x t a
ended (BreakPending k) a = Break k a
ended (ContinuePending k) a = Continue k a

-- ---- a token after an operand, whose operators are closed

-- `)`
abbrev pub close_parenthesis : Span → Expr → List Form → Mode
close_parenthesis a e (InParenthesis left ∷ k) = AfterOperand (Parenthesis left e a) k
close_parenthesis a e (InIfTest word left ∷ k) = Statement (InIf (test word left e a) ∷ k)
close_parenthesis a e (InWhileTest word left ∷ k) = Statement (InWhile (test word left e a) ∷ k)
close_parenthesis a e (InDoTest word x while' left ∷ k) = StatementEnd (DoPending word x (test while' left e a)) k
close_parenthesis a e (InArguments target function left earlier ∷ k) =
    StatementEnd (CallPending (call target function left (Arguments' earlier e) a)) k
close_parenthesis a e (InValue (AsStep middle) target equals ∷ k) =
    Statement (InFor (make_head middle (Some (assignment target equals e)) a) ∷ k)
close_parenthesis a e _ = Refused

-- `]`
abbrev pub close_bracket : Span → Expr → List Form → Mode
close_bracket a e (InIndex base left ∷ k) = AfterOperand (Index base left e a) k
close_bracket a e _ = Refused

-- `,`
abbrev pub next_argument : Span → Expr → List Form → Mode
next_argument a e (InArguments target function left earlier ∷ k) = Operand (InArguments target function left (earlier ++ record { value = e; comma = a } ∷ []) ∷ k)
next_argument a e _ = Refused

-- `;`
abbrev pub end_expression : Span → Expr → List Form → Mode
end_expression a e (InValue AsStatement target equals ∷ k) = finish (Assign (assignment target equals e) a) k
end_expression a e (InValue (AsFirst word left) target equals ∷ k) =
    ForCondition (for_start word left (Some (assignment target equals e)) a) k
end_expression a e (InPortValue port equals ∷ k) = finish (WritePort port equals e a) k
end_expression a e (InCondition start ∷ k) = ForStep (for_middle start (Some e) a) k
end_expression a e (InReturn word ∷ k) = finish (Return word (Some e) a) k
end_expression a e (InLocalValue front x equals ∷ k) = Statement (InLocals (with_local front (make_local x (Value equals e) a)) ∷ k)
end_expression a e _ = Refused

-- `=`
abbrev pub begin_value : Span → Expr → List Form → Mode
begin_value a e (InTarget place ∷ k) = Operand (InValue place e a ∷ k)
begin_value a e _ = Refused

-- `(`: the call of a function is a statement, or the right side of one whose left side is a name
abbrev pub begin_call : Option Name → Span → List Form → Mode
begin_call None a k = Refused
begin_call (Some function) a k = FirstArgument None function a k

abbrev pub begin_call_to : Option Name → Option Name → (equals : Span) → Span → List Form → Mode
begin_call_to (Some target) (Some function) equals a k = FirstArgument (Some (make_target target equals)) function a k
begin_call_to _ _ equals a k = Refused

abbrev pub call_at : Span → Expr → List Form → Mode
call_at a e (InTarget AsStatement ∷ k) = begin_call (name_of e) a k
call_at a e (InValue AsStatement target equals ∷ k) = begin_call_to (name_of target) (name_of e) equals a k
call_at a e _ = Refused

-- a token that is no binary operator
abbrev pub mark : Symbol → Span → Expr → List Form → Mode
mark s.RightParenthesis a e k = close_parenthesis a e k
mark s.RightBracket a e k = close_bracket a e k
mark s.Comma a e k = next_argument a e k
mark s.Semicolon a e k = end_expression a e k
mark s.Assign a e k = begin_value a e k
mark s.LeftParenthesis a e k = call_at a e k
mark s.LeftBracket a e k = Operand (InIndex e a ∷ k)
mark s.Dot a e k = MemberName e m.Dot a k
mark s.Arrow a e k = MemberName e m.Arrow a k
mark _ a e k = Refused

abbrev pub act : Symbol → Span → Settled → Mode
act y a x = elim (binary_of y) [ None ↦ mark y a x.operand x.forms | Some operator ↦ infix_at operator a x.operand x.forms ]

-- ---- a token where a statement may begin

-- `}`
abbrev pub close_brace : Span → List Form → Mode
close_brace a (InBlock left xs ∷ k) = finish (Block left xs a) k
close_brace a (InLocals front ∷ k) = Finished (function_item front NoStmts a)
close_brace a (InBody front xs ∷ k) = Finished (function_item front xs a)
close_brace a _ = Refused

-- locals are before the first statement
abbrev pub local_words : Specifiers → List Form → Mode
local_words type (InLocals front ∷ k) = Words (InFunction front) type
local_words type _ = Refused

abbrev pub local_tag : Span → List Form → Mode
local_tag a (InLocals front ∷ k) = TagName (InFunction front) a
local_tag a _ = Refused

abbrev pub statement : List Form → Symbol → Span → Mode
statement k s.Semicolon a = finish (Empty a) k
statement k s.LeftBrace a = Statement (InBlock a NoStmts ∷ k)
statement k s.RightBrace a = close_brace a k
statement k s.If a = IfWord a k
statement k s.While a = WhileWord a k
statement k s.Do a = Statement (InDo a ∷ k)
statement k s.For a = ForWord a k
statement k s.Break a = StatementEnd (BreakPending a) k
statement k s.Continue a = StatementEnd (ContinuePending a) k
statement k s.Return a = ReturnWord a k
statement k s.PortOne a = PortWord a k
statement k s.Struct a = local_tag a k
statement k y a = elim (first_word y a) [ None ↦ operand (InTarget AsStatement ∷ k) y a | Some type ↦ local_words type k ]

-- ---- other tokens inside a statement

abbrev pub do_while : Span → Stmt → List Form → Symbol → Span → Mode
do_while word x k s.While a = DoWhile word x a k
do_while word x k _ a = Refused

-- after a statement that an `if` ends with, where no `else` comes
abbrev pub again : Mode → Symbol → Span → Mode
again (Statement k) y a = statement k y a
again (DoBody word x k) y a = do_while word x k y a
again _ y a = Refused

abbrev pub else_arm : Stmt → List Form → Span → Mode
else_arm x (InIf t ∷ k) a = Statement (InElse t x a ∷ k)
else_arm x _ a = Refused

abbrev pub may_else : Stmt → List Form → Symbol → Span → Mode
may_else x k s.Else a = else_arm x k a
may_else x k y a = again (flush x k) y a

-- `(` after a keyword
abbrev pub opened : Form → List Form → Symbol → Mode
opened f k s.LeftParenthesis = Operand (f ∷ k)
opened f k _ = Refused

abbrev pub for_word : Span → List Form → Symbol → Span → Mode
for_word word k s.LeftParenthesis a = ForFirst word a k
for_word word k _ a = Refused

abbrev pub for_first : (word left : Span) → List Form → Symbol → Span → Mode
for_first word left k s.Semicolon a = ForCondition (for_start word left None a) k
for_first word left k y a = operand (InTarget (AsFirst word left) ∷ k) y a

abbrev pub for_condition : ForStart → List Form → Symbol → Span → Mode
for_condition start k s.Semicolon a = ForStep (for_middle start None a) k
for_condition start k y a = operand (InCondition start ∷ k) y a

abbrev pub for_step : ForMiddle → List Form → Symbol → Span → Mode
for_step middle k s.RightParenthesis a = Statement (InFor (make_head middle None a) ∷ k)
for_step middle k y a = operand (InTarget (AsStep middle) ∷ k) y a

abbrev pub return_word : Span → List Form → Symbol → Span → Mode
return_word word k s.Semicolon a = finish (Return word None a) k
return_word word k y a = operand (InReturn word ∷ k) y a

abbrev pub port_word : Span → List Form → Symbol → Span → Mode
port_word port k s.Assign a = Operand (InPortValue port a ∷ k)
port_word port k _ a = Refused

abbrev pub first_argument : Option CallTarget → Name → Span → List Form → Symbol → Span → Mode
first_argument target function left k s.RightParenthesis a = StatementEnd (CallPending (call target function left NoArguments a)) k
first_argument target function left k y a = operand (InArguments target function left [] ∷ k) y a

abbrev pub statement_end : Pending → List Form → Symbol → Span → Mode
statement_end x k s.Semicolon a = finish (ended x a) k
statement_end x k _ a = Refused
