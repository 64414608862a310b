-- The recogniser does with statements what the machine over trees does.
use Rattle.std.proofs.Common.{◌≡◌, List, [], ◌∷◌, ◌++◌, refl, ap, ◌∙◌}
use Rattle.std.specs.Prelude.{Option, Some, None}
use Rattle.clight_source.specs.declared.span.Span.{Span}
use Rattle.clight_source.specs.declared.symbol.Symbol.{Symbol}
use Rattle.clight_source.specs.declared.symbol.Symbol.TheVariants as s
use Rattle.clight_source.specs.declared.tree.BinaryOperator.{BinaryOperator}
use Rattle.clight_source.specs.declared.tree.CallTarget.{CallTarget}
use Rattle.clight_source.specs.declared.tree.Specifiers.{Specifiers}
use Rattle.clight_source.specs.declared.tree.Name.{Name}
use Rattle.clight_source.specs.Trees.{For, Value, Expr, Variable, Arguments, NoArguments, Arguments', Call, Stmt, Empty, Block, Assign, WritePort, If, IfElse, While, Return}
use Rattle.clight_nodes.specs.declared.nodes.Node.{Node}
use Rattle.clight_nodes.specs.declared.nodes.Node.TheVariants as n
use Rattle.clight_nodes.specs.declared.forms.Form.TheVariants as f
use Rattle.clight_nodes.specs.declared.forms.Place.TheVariants as c
use Rattle.clight_nodes.specs.declared.modes.Mode.TheVariants as m
use Rattle.clight_nodes.specs.declared.modes.Pending.TheVariants as p
use Rattle.clight_nodes.specs.Code.States.{at}
use Rattle.clight_nodes.specs.Code.Expressions.{first_word, binary_of}
use Rattle.clight_nodes.specs.Code.Statements.{begin}
use Rattle.clight_nodes.specs.Code.Expressions as x
use Rattle.clight_nodes.specs.Code.Statements as r
use Rattle.clight_grammar.specs.Code.Parts.{ForStart, ForMiddle, make_local, assignment, name_of}
use Rattle.clight_grammar.specs.Code.Forms.{AsStatement, AsFirst, AsStep, Form, InParenthesis, InIndex, InTarget, InValue, InPortValue, InArguments, InCondition, InReturn, InLocalValue, InIf, InElse, InWhile, InFor, InBlock, InLocals, Pending, CallPending, Mode, Statement, DoBody}
use Rattle.clight_grammar.specs.Code.Expressions.{infix_at, operand, Settled}
use Rattle.clight_grammar.specs.Code.Statements.{finish, flush, ended, close_parenthesis, close_bracket, next_argument, end_expression, begin_value, begin_call, begin_call_to, call_at, mark, act, close_brace, local_words, local_tag, statement, do_while, again, else_arm, may_else, opened, for_word, for_first, for_condition, for_step, return_word, port_word, first_argument, statement_end}
use Rattle.clight_nodes.specs.Code.Postfix.{add_argument, out_expr, out_earlier, out_stmt, add_local}
use Rattle.clight_grammar.proofs.Lists.{onto-push}
use Rattle.clight_grammar.specs.Code.Flat.{flat_start, flat_middle, flat_form, flat_forms, out_start, out_middle, out_forms, flat_settled, flat_pending, out_pending, flat}
use Rattle.clight_grammar.proofs.FlatExpressions.{infix_flat, operand_flat}

-- ---- a statement is whole

pub finish_flat : (items : List Node) (x : Stmt) (k : List Form) → flat items (finish x k) ≡ r.finish (flat_forms k) (out_stmt x (out_forms items k))
finish_flat items x [] = refl
finish_flat items x (InWhile t ∷ k) = finish_flat items (While t x) k
finish_flat items x (InFor head ∷ k) = finish_flat items (For head x) k
finish_flat items x (InElse t y a ∷ k) = finish_flat items (IfElse t y a x) k
finish_flat items x (g ∷ k) = refl

pub flush_flat : (items : List Node) (x : Stmt) (k : List Form) → flat items (flush x k) ≡ r.flush (flat_forms k) (out_stmt x (out_forms items k))
flush_flat items x [] = refl
flush_flat items x (InWhile t ∷ k) = flush_flat items (While t x) k
flush_flat items x (InFor head ∷ k) = flush_flat items (For head x) k
flush_flat items x (InElse t y a ∷ k) = flush_flat items (IfElse t y a x) k
flush_flat items x (InIf t ∷ k) = flush_flat items (If t x) k
flush_flat items x (g ∷ k) = refl

-- ---- a token after an operand

pub close_parenthesis_flat : (items : List Node) (a : Span) (e : Expr) (k : List Form) → flat items (close_parenthesis a e k) ≡ r.close_parenthesis a (flat_forms k) (out_expr e (out_forms items k))
close_parenthesis_flat items a e [] = refl
close_parenthesis_flat items a e (InParenthesis left ∷ k) = refl
close_parenthesis_flat items a e (InValue AsStatement target equals ∷ k) = refl
close_parenthesis_flat items a e (InValue place target equals ∷ k) = refl
close_parenthesis_flat items a e (g ∷ k) = refl

pub close_bracket_flat : (items : List Node) (a : Span) (e : Expr) (k : List Form) → flat items (close_bracket a e k) ≡ r.close_bracket a (flat_forms k) (out_expr e (out_forms items k))
close_bracket_flat items a e [] = refl
close_bracket_flat items a e (InIndex base left ∷ k) = refl
close_bracket_flat items a e (g ∷ k) = refl

pub next_argument_flat : (items : List Node) (a : Span) (e : Expr) (k : List Form) → flat items (next_argument a e k) ≡ r.next_argument a (flat_forms k) (out_expr e (out_forms items k))
next_argument_flat items a e [] = refl
next_argument_flat items a e (InArguments g h left earlier ∷ k) =
    ap (λ z. at m.Operand (f.Arguments g h left ∷ flat_forms k) z) (onto-push add_argument (n.NoArguments ∷ out_forms items k) earlier (record { value = e; comma = a }))
next_argument_flat items a e (g ∷ k) = refl

pub end_expression_flat : (items : List Node) (a : Span) (e : Expr) (k : List Form) → flat items (end_expression a e k) ≡ r.end_expression a (flat_forms k) (out_expr e (out_forms items k))
end_expression_flat items a e [] = refl
end_expression_flat items a e (InValue (AsFirst word left) target equals ∷ k) = refl
end_expression_flat items a e (InValue (AsStep middle) target equals ∷ k) = refl
end_expression_flat items a e (InValue AsStatement target equals ∷ k) = finish_flat items (Assign (assignment target equals e) a) k
end_expression_flat items a e (InPortValue port equals ∷ k) = finish_flat items (WritePort port equals e a) k
end_expression_flat items a e (InReturn word ∷ k) = finish_flat items (Return word (Some e) a) k
end_expression_flat items a e (InLocalValue front x equals ∷ k) =
    ap (begin (f.Locals front.left ∷ flat_forms k)) (onto-push add_local _ front.locals (make_local x (Value equals e) a))
end_expression_flat items a e (g ∷ k) = refl

pub begin_value_flat : (items : List Node) (a : Span) (e : Expr) (k : List Form) → flat items (begin_value a e k) ≡ r.begin_value a (flat_forms k) (out_expr e (out_forms items k))
begin_value_flat items a e [] = refl
begin_value_flat items a e (InTarget place ∷ k) = refl
begin_value_flat items a e (g ∷ k) = refl

-- the newest node is a name where the operand is one
pub begin_call_flat : (items : List Node) (e : Expr) (a : Span) (k : List Form) → flat items (begin_call (name_of e) a k) ≡ r.begin_call a (flat_forms k) (out_expr e (out_forms items k))
begin_call_flat items (Variable name) a k = refl
begin_call_flat items e a k = refl

pub begin_call_to_flat : (items : List Node) (target e : Expr) (equals a : Span) (k : List Form)
    → flat items (begin_call_to (name_of target) (name_of e) equals a k) ≡ r.begin_call_to equals a (flat_forms k) (out_expr e (out_expr target (out_forms items k)))
begin_call_to_flat items (Variable target) (Variable name) equals a k = refl
begin_call_to_flat items (Variable target) e equals a k = refl
begin_call_to_flat items target (Variable name) equals a k = refl
begin_call_to_flat items target e equals a k = refl

pub call_flat : (items : List Node) (a : Span) (e : Expr) (k : List Form) → flat items (call_at a e k) ≡ r.call_at a (flat_forms k) (out_expr e (out_forms items k))
call_flat items a e [] = refl
call_flat items a e (InTarget AsStatement ∷ k) = begin_call_flat items e a k
call_flat items a e (InTarget place ∷ k) = refl
call_flat items a e (InValue AsStatement target equals ∷ k) = begin_call_to_flat items target e equals a k
call_flat items a e (InValue place target equals ∷ k) = refl
call_flat items a e (g ∷ k) = refl

pub mark_flat : (items : List Node) (y : Symbol) (a : Span) (e : Expr) (k : List Form) → flat items (mark y a e k) ≡ r.mark y a (flat_forms k) (out_expr e (out_forms items k))
mark_flat items s.RightParenthesis a e k = close_parenthesis_flat items a e k
mark_flat items s.RightBracket a e k = close_bracket_flat items a e k
mark_flat items s.Comma a e k = next_argument_flat items a e k
mark_flat items s.Semicolon a e k = end_expression_flat items a e k
mark_flat items s.Assign a e k = begin_value_flat items a e k
mark_flat items s.LeftParenthesis a e k = call_flat items a e k
mark_flat items y a e k = refl

pub act_by : (items : List Node) (b : Option BinaryOperator) (y : Symbol) (a : Span) (e : Expr) (k : List Form)
    → flat items (elim b [ None ↦ mark y a e k | Some operator ↦ infix_at operator a e k ])
    ≡ elim b [ None ↦ r.mark y a (flat_forms k) (out_expr e (out_forms items k)) | Some operator ↦ x.infix_at operator a (flat_forms k) (out_expr e (out_forms items k)) ]
act_by items None y a e k = mark_flat items y a e k
act_by items (Some operator) y a e k = infix_flat items operator a e k

pub act_flat : (items : List Node) (y : Symbol) (a : Span) (x : Settled) → flat items (act y a x) ≡ r.act y a (flat_settled items x)
act_flat items y a x = act_by items (binary_of y) y a x.operand x.forms

-- ---- a token in a statement

pub close_brace_flat : (items : List Node) (a : Span) (k : List Form) → flat items (close_brace a k) ≡ r.close_brace a (flat_forms k) (out_forms items k)
close_brace_flat items a [] = refl
close_brace_flat items a (InBlock left xs ∷ k) = finish_flat items (Block left xs a) k
close_brace_flat items a (g ∷ k) = refl

pub local_words_flat : (items : List Node) (type : Specifiers) (k : List Form) → flat items (local_words type k) ≡ r.local_words type (flat_forms k) (out_forms items k)
local_words_flat items type [] = refl
local_words_flat items type (InLocals front ∷ k) = refl
local_words_flat items type (g ∷ k) = refl

pub local_tag_flat : (items : List Node) (a : Span) (k : List Form) → flat items (local_tag a k) ≡ r.local_tag a (flat_forms k) (out_forms items k)
local_tag_flat items a [] = refl
local_tag_flat items a (InLocals front ∷ k) = refl
local_tag_flat items a (g ∷ k) = refl

pub simple_by : (items : List Node) (b : Option Specifiers) (k : List Form) (y : Symbol) (a : Span)
    → flat items (elim b [ None ↦ operand (InTarget AsStatement ∷ k) y a | Some type ↦ local_words type k ])
    ≡ elim b [ None ↦ x.operand (f.Target c.AsStatement ∷ flat_forms k) (out_forms items k) y a | Some type ↦ r.local_words type (flat_forms k) (out_forms items k) ]
simple_by items None k y a = operand_flat items (InTarget AsStatement ∷ k) y a
simple_by items (Some type) k y a = local_words_flat items type k

pub statement_flat : (items : List Node) (k : List Form) (y : Symbol) (a : Span) → flat items (statement k y a) ≡ r.statement (flat_forms k) (out_forms items k) y a
statement_flat items k s.Semicolon a = finish_flat items (Empty a) k
statement_flat items k s.LeftBrace a = refl
statement_flat items k s.RightBrace a = close_brace_flat items a k
statement_flat items k s.If a = refl
statement_flat items k s.While a = refl
statement_flat items k s.Do a = refl
statement_flat items k s.For a = refl
statement_flat items k s.Break a = refl
statement_flat items k s.Continue a = refl
statement_flat items k s.Return a = refl
statement_flat items k s.PortOne a = refl
statement_flat items k s.Struct a = local_tag_flat items a k
statement_flat items k y a = simple_by items (first_word y a) k y a

pub do_while_flat : (items : List Node) (word : Span) (x : Stmt) (k : List Form) (y : Symbol) (a : Span) → flat items (do_while word x k y a) ≡ r.do_while word (flat_forms k) (out_stmt x (out_forms items k)) y a
do_while_flat items word x k s.While a = refl
do_while_flat items word x k y a = refl

pub again_flat : (items : List Node) (m : Mode) (y : Symbol) (a : Span) → flat items (again m y a) ≡ r.again (flat items m) y a
again_flat items (Statement k) y a = statement_flat items k y a
again_flat items (DoBody word x k) y a = do_while_flat items word x k y a
again_flat items m y a = refl

pub else_arm_flat : (items : List Node) (x : Stmt) (k : List Form) (a : Span) → flat items (else_arm x k a) ≡ r.else_arm (flat_forms k) (out_stmt x (out_forms items k)) a
else_arm_flat items x [] a = refl
else_arm_flat items x (InIf t ∷ k) a = refl
else_arm_flat items x (g ∷ k) a = refl

pub may_else_flat : (items : List Node) (x : Stmt) (k : List Form) (y : Symbol) (a : Span) → flat items (may_else x k y a) ≡ r.may_else (flat_forms k) (out_stmt x (out_forms items k)) y a
may_else_flat items x k s.Else a = else_arm_flat items x k a
may_else_flat items x k y a = again_flat items (flush x k) y a ∙ ap (λ z. r.again z y a) (flush_flat items x k)

pub opened_flat : (items : List Node) (g : Form) (k : List Form) (y : Symbol) → flat items (opened g k y) ≡ r.opened (flat_form g) (flat_forms k) (out_forms items (g ∷ k)) y
opened_flat items g k s.LeftParenthesis = refl
opened_flat items g k y = refl

pub for_word_flat : (items : List Node) (word : Span) (k : List Form) (y : Symbol) (a : Span) → flat items (for_word word k y a) ≡ r.for_word word (flat_forms k) (out_forms items k) y a
for_word_flat items word k s.LeftParenthesis a = refl
for_word_flat items word k y a = refl

pub for_first_flat : (items : List Node) (word left : Span) (k : List Form) (y : Symbol) (a : Span) → flat items (for_first word left k y a) ≡ r.for_first word left (flat_forms k) (out_forms items k) y a
for_first_flat items word left k s.Semicolon a = refl
for_first_flat items word left k y a = operand_flat items (InTarget (AsFirst word left) ∷ k) y a

pub for_condition_flat : (items : List Node) (start : ForStart) (k : List Form) (y : Symbol) (a : Span)
    → flat items (for_condition start k y a) ≡ r.for_condition (flat_start start) (flat_forms k) (out_start start (out_forms items k)) y a
for_condition_flat items start k s.Semicolon a = refl
for_condition_flat items start k y a = operand_flat items (InCondition start ∷ k) y a

pub for_step_flat : (items : List Node) (middle : ForMiddle) (k : List Form) (y : Symbol) (a : Span)
    → flat items (for_step middle k y a) ≡ r.for_step (flat_middle middle) (flat_forms k) (out_middle middle (out_forms items k)) y a
for_step_flat items middle k s.RightParenthesis a = refl
for_step_flat items middle k y a = operand_flat items (InTarget (AsStep middle) ∷ k) y a

pub return_word_flat : (items : List Node) (word : Span) (k : List Form) (y : Symbol) (a : Span) → flat items (return_word word k y a) ≡ r.return_word word (flat_forms k) (out_forms items k) y a
return_word_flat items word k s.Semicolon a = finish_flat items (Return word None a) k
return_word_flat items word k y a = operand_flat items (InReturn word ∷ k) y a

pub port_word_flat : (items : List Node) (port : Span) (k : List Form) (y : Symbol) (a : Span) → flat items (port_word port k y a) ≡ r.port_word port (flat_forms k) (out_forms items k) y a
port_word_flat items port k s.Assign a = refl
port_word_flat items port k y a = refl

pub first_argument_flat : (items : List Node) (g : Option CallTarget) (h : Name) (left : Span) (k : List Form) (y : Symbol) (a : Span)
    → flat items (first_argument g h left k y a) ≡ r.first_argument g h left (flat_forms k) (out_forms items k) y a
first_argument_flat items g h left k s.RightParenthesis a = refl
first_argument_flat items g h left k y a = operand_flat items (InArguments g h left [] ∷ k) y a

pub call_by : (b : Arguments) (x : Call) (a : Span) (z : List Node)
    → elim b [ NoArguments ↦ n.CallAlone x.target x.function x.left x.right a ∷ z | Arguments' earlier last ↦ n.Call x.target x.function x.left x.right a ∷ out_expr last (out_earlier earlier z) ]
    ≡ r.ended (elim b [ NoArguments ↦ p.CallAlone x.target x.function x.left x.right | Arguments' earlier last ↦ p.Call x.target x.function x.left x.right ]) a
    ∷ elim b [ NoArguments ↦ z | Arguments' earlier last ↦ out_expr last (out_earlier earlier z) ]
call_by NoArguments x a z = refl
call_by (Arguments' earlier last) x a z = refl

pub ended_flat : (x : Pending) (a : Span) (z : List Node) → out_stmt (ended x a) z ≡ r.ended (flat_pending x) a ∷ out_pending x z
ended_flat (CallPending x) a z = call_by x.arguments x a z
ended_flat x a z = refl

pub statement_end_flat : (items : List Node) (x : Pending) (k : List Form) (y : Symbol) (a : Span) → flat items (statement_end x k y a) ≡ r.statement_end (flat_pending x) (flat_forms k) (out_pending x (out_forms items k)) y a
statement_end_flat items x k s.Semicolon a = finish_flat items (ended x a) k ∙ ap (r.finish (flat_forms k)) (ended_flat x a (out_forms items k))
statement_end_flat items x k y a = refl
