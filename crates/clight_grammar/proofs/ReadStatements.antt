-- What a statement spells is read as that statement.
use Rattle.std.proofs.Common.{◌≡◌, List, [], ◌∷◌, ◌++◌, All, refl, sym, ap, ◌∙◌, append_assoc, append-nil, arith}
use Rattle.std.specs.Prelude.{Option, Some, None, flat_map}
use Rattle.std.proofs.lemmas.List.Elements.{All-head, All-tail}
use Rattle.clight_source.specs.declared.span.Span.{Span}
use Rattle.clight_source.specs.declared.symbol.Symbol.{Symbol}
use Rattle.clight_source.specs.declared.symbol.Symbol.TheVariants as s
use Rattle.clight_source.specs.declared.symbol.Terminal.{Terminal}
use Rattle.clight_source.specs.declared.tree.Name.{Name}
use Rattle.clight_source.specs.declared.tree.PrefixOperator.TheVariants as p
use Rattle.clight_source.specs.declared.tree.CallTarget.{CallTarget}
use Rattle.clight_source.specs.Trees.{Expr, Variable, Number, Parenthesis, Binary, Prefix, Cast, Index, Select, Assignment, Test, EarlierArgument, Arguments, NoArguments, Arguments', Call, ForHead, Stmt, Empty, Block, Assign, ReadPort, WritePort, CallOf, If, IfElse, While, Do, For, Break, Continue, Return, Stmts, NoStmts, Then}
use Rattle.clight_source.specs.Spelling.{terminal, expr_terminals, assignment_terminals, optional, test_terminals, earlier_argument_terminals, arguments_terminals, target_terminals, call_terminals, for_terminals, stmt_terminals, stmts_terminals, HasLevel, IsExpression, IsAssignment, IfThere, AreArguments, IsForHead, EndsClosed, IsStatement, AreStatements}
use Rattle.clight_nodes.specs.Code.Expressions.{binds}
use Rattle.clight_grammar.specs.Code.Parts.{ForStart, ForMiddle, FunctionFront, for_start, for_middle, make_head, call}
use Rattle.clight_grammar.specs.Code.Forms.{Place, AsStatement, AsFirst, AsStep, Form, InTarget, InValue, InPortValue, InArguments, InIfTest, InWhileTest, InDoTest, InCondition, InReturn, InIf, InElse, InWhile, InDo, InFor, InBlock, InLocals, InBody, CallPending, Mode, Operand, Statement, ForFirst, ForCondition, ForStep, ReturnWord, FirstArgument, StatementEnd}
use Rattle.clight_grammar.specs.Code.Expressions.{settle}
use Rattle.clight_grammar.specs.Code.Statements.{act, finish, flush, statement, again, may_else}
use Rattle.clight_grammar.specs.Code.Machine.{next}
use Rattle.clight_grammar.proofs.ReadExpressions.{read, step_after, read_expr, read_closed}

-- ---- where an expression may begin

-- the first terminal of a list is one of these symbols
abbrev pub Heads : (Symbol → Type 0) → List Terminal → Type 0
Heads P [] = ⊥
Heads P (t ∷ l) = P t.symbol

pub heads_append : (P : Symbol → Type 0) (l r : List Terminal) → Heads P l → Heads P (l ++ r)
heads_append P [] r w = absurd w
heads_append P (t ∷ l) r w = w

-- a symbol that an expression begins with
abbrev pub BeginsExpression : Symbol → Type 0
BeginsExpression (s.Name number) = Unit {0}
BeginsExpression (s.Number number) = Unit {0}
BeginsExpression s.LeftParenthesis = Unit {0}
BeginsExpression s.Minus = Unit {0}
BeginsExpression s.Tilde = Unit {0}
BeginsExpression s.Exclamation = Unit {0}
BeginsExpression s.Star = Unit {0}
BeginsExpression s.Ampersand = Unit {0}
BeginsExpression _ = ⊥

pub heads_expr : (e : Expr) → Heads BeginsExpression (expr_terminals e)
heads_expr (Variable name) = tt
heads_expr (Number number a) = tt
heads_expr (Parenthesis left e right) = tt
heads_expr (Binary l operator a e) = heads_append BeginsExpression (expr_terminals l) _ (heads_expr l)
heads_expr (Prefix p.Negate a e) = tt
heads_expr (Prefix operator a e) = tt
heads_expr (Cast left type right e) = tt
heads_expr (Select e operator a member) = heads_append BeginsExpression (expr_terminals e) _ (heads_expr e)
heads_expr (Index e left i right) = heads_append BeginsExpression (expr_terminals e) _ (heads_expr e)

-- two modes that do the same with a list's first terminal do the same with the list
pub enter : (P : Symbol → Type 0) (m n : Mode) → ((y : Symbol) (a : Span) → P y → next m y a ≡ next n y a)
    → (l : List Terminal) → Heads P l → read m l ≡ read n l
enter P m n h [] w = absurd w
enter P m n h (t ∷ l) w = ap (λ x. read x l) (h t.symbol t.span w)

at_statement : (k : List Form) (y : Symbol) (a : Span) → BeginsExpression y → next (Statement k) y a ≡ next (Operand (InTarget AsStatement ∷ k)) y a
at_statement k (s.Name number) a h = refl
at_statement k (s.Number number) a h = refl
at_statement k s.LeftParenthesis a h = refl
at_statement k s.Minus a h = refl
at_statement k s.Tilde a h = refl
at_statement k s.Exclamation a h = refl
at_statement k s.Star a h = refl
at_statement k s.Ampersand a h = refl
at_statement k y a h = absurd h

at_first : (word left : Span) (k : List Form) (y : Symbol) (a : Span) → BeginsExpression y
    → next (ForFirst word left k) y a ≡ next (Operand (InTarget (AsFirst word left) ∷ k)) y a
at_first word left k s.Semicolon a h = absurd h
at_first word left k y a h = refl

at_condition : (start : ForStart) (k : List Form) (y : Symbol) (a : Span) → BeginsExpression y
    → next (ForCondition start k) y a ≡ next (Operand (InCondition start ∷ k)) y a
at_condition start k s.Semicolon a h = absurd h
at_condition start k y a h = refl

at_step : (middle : ForMiddle) (k : List Form) (y : Symbol) (a : Span) → BeginsExpression y
    → next (ForStep middle k) y a ≡ next (Operand (InTarget (AsStep middle) ∷ k)) y a
at_step middle k s.RightParenthesis a h = absurd h
at_step middle k y a h = refl

at_return : (word : Span) (k : List Form) (y : Symbol) (a : Span) → BeginsExpression y
    → next (ReturnWord word k) y a ≡ next (Operand (InReturn word ∷ k)) y a
at_return word k s.Semicolon a h = absurd h
at_return word k y a h = refl

at_argument : (g : Option CallTarget) (f : Name) (left : Span) (k : List Form) (y : Symbol) (a : Span) → BeginsExpression y
    → next (FirstArgument g f left k) y a ≡ next (Operand (InArguments g f left [] ∷ k)) y a
at_argument g f left k s.RightParenthesis a h = absurd h
at_argument g f left k y a h = refl

-- from a mode in which an expression may begin
enter_expr : (m n : Mode) → ((y : Symbol) (a : Span) → BeginsExpression y → next m y a ≡ next n y a)
    → (e : Expr) (r : List Terminal) → read m (expr_terminals e ++ r) ≡ read n (expr_terminals e ++ r)
enter_expr m n h e r = enter BeginsExpression m n h (expr_terminals e ++ r) (heads_append BeginsExpression (expr_terminals e) r (heads_expr e))

-- ---- assignments

-- an assignment up to a token that closes all operators of its value
read_assignment : (x : Assignment) (place : Place) (m : Mode) (k : List Form) (y : Symbol) (a : Span) (r : List Terminal)
    → ((y : Symbol) (a : Span) → BeginsExpression y → next m y a ≡ next (Operand (InTarget place ∷ k)) y a)
    → binds y ≡ 1 → IsAssignment x
    → read m (assignment_terminals x ++ (terminal y a ∷ r)) ≡ read (act y a (settle 1 (InValue place x.target x.equals ∷ k) x.value)) r
read_assignment x place m k y a r h b w =
    let l = expr_terminals x.value ++ (terminal y a ∷ r) in
    ap (read m) (append_assoc (expr_terminals x.target) (terminal s.Assign x.equals ∷ expr_terminals x.value) (terminal y a ∷ r))
    ∙ (enter_expr m (Operand (InTarget place ∷ k)) h x.target (terminal s.Assign x.equals ∷ l)
    ∙ (read_expr x.target 12 (InTarget place ∷ k) (terminal s.Assign x.equals ∷ l) (omega arith) w.0 (omega arith)
    ∙ (ap (λ z. read z l) (step_after x.target (InTarget place ∷ k) s.Assign x.equals w.0)
    ∙ read_closed x.value (InValue place x.target x.equals) k y a r b w.1 tt)))

read_assign : (x : Assignment) (a : Span) (k : List Form) (r : List Terminal) → IsAssignment x
    → read (Statement k) (stmt_terminals (Assign x a) ++ r) ≡ read (finish (Assign x a) k) r
read_assign x a k r w =
    ap (read (Statement k)) (append_assoc (assignment_terminals x) (terminal s.Semicolon a ∷ []) r)
    ∙ read_assignment x AsStatement (Statement k) k s.Semicolon a r (at_statement k) refl w

-- ---- `for (first; condition; step)`

read_first : (first : Option Assignment) (word left a : Span) (k : List Form) (r : List Terminal) → IfThere IsAssignment first
    → read (ForFirst word left k) (optional assignment_terminals first ++ (terminal s.Semicolon a ∷ r)) ≡ read (ForCondition (for_start word left first a) k) r
read_first None word left a k r w = refl
read_first (Some x) word left a k r w = read_assignment x (AsFirst word left) (ForFirst word left k) k s.Semicolon a r (at_first word left k) refl w

read_condition : (condition : Option Expr) (start : ForStart) (a : Span) (k : List Form) (r : List Terminal) → IfThere IsExpression condition
    → read (ForCondition start k) (optional expr_terminals condition ++ (terminal s.Semicolon a ∷ r)) ≡ read (ForStep (for_middle start condition a) k) r
read_condition None start a k r w = refl
read_condition (Some e) start a k r w =
    enter_expr (ForCondition start k) (Operand (InCondition start ∷ k)) (at_condition start k) e (terminal s.Semicolon a ∷ r)
    ∙ read_closed e (InCondition start) k s.Semicolon a r refl w tt

read_step : (step : Option Assignment) (middle : ForMiddle) (a : Span) (k : List Form) (r : List Terminal) → IfThere IsAssignment step
    → read (ForStep middle k) (optional assignment_terminals step ++ (terminal s.RightParenthesis a ∷ r)) ≡ read (Statement (InFor (make_head middle step a) ∷ k)) r
read_step None middle a k r w = refl
read_step (Some x) middle a k r w = read_assignment x (AsStep middle) (ForStep middle k) k s.RightParenthesis a r (at_step middle k) refl w

for_group : (f c p : List Terminal) (m n o : Terminal) (r : List Terminal) → (f ++ (m ∷ (c ++ (n ∷ (p ++ o ∷ []))))) ++ r ≡ f ++ (m ∷ (c ++ (n ∷ (p ++ (o ∷ r)))))
for_group f c p m n o r = simp append_assoc

read_for : (x : ForHead) (k : List Form) (r : List Terminal) → IsForHead x → read (Statement k) (for_terminals x ++ r) ≡ read (Statement (InFor x ∷ k)) r
read_for x k r w =
    let f = optional assignment_terminals x.first in
    let c = optional expr_terminals x.condition in
    let p = optional assignment_terminals x.step in
    let begun = for_start x.keyword x.left x.first x.first_semicolon in
    let middle = for_middle begun x.condition x.second_semicolon in
    ap (read (ForFirst x.keyword x.left k))
    (for_group f c p (terminal s.Semicolon x.first_semicolon) (terminal s.Semicolon x.second_semicolon) (terminal s.RightParenthesis x.right) r)
    ∙ (read_first x.first x.keyword x.left x.first_semicolon k (c ++ (terminal s.Semicolon x.second_semicolon ∷ (p ++ (terminal s.RightParenthesis x.right ∷ r)))) w.0
    ∙ (read_condition x.condition begun x.second_semicolon k (p ++ (terminal s.RightParenthesis x.right ∷ r)) w.1
    ∙ read_step x.step middle x.right k r w.2))

-- ---- calls

read_earlier : (rest : List EarlierArgument) (e : Expr) (done : List EarlierArgument) (g : Option CallTarget) (f : Name) (left : Span) (k : List Form) (r : List Terminal)
    → All (λ x. IsExpression x.value) rest
    → read (Operand (InArguments g f left done ∷ k)) (flat_map earlier_argument_terminals rest ++ (expr_terminals e ++ r))
    ≡ read (Operand (InArguments g f left (done ++ rest) ∷ k)) (expr_terminals e ++ r)
read_earlier [] e done g f left k r w = ap (λ l. read (Operand (InArguments g f left l ∷ k)) (expr_terminals e ++ r)) (sym (append-nil done))
read_earlier (x ∷ rest) e done g f left k r w =
    let l = flat_map earlier_argument_terminals rest ++ (expr_terminals e ++ r) in
    let m = Operand (InArguments g f left done ∷ k) in
    ap (read m) (append_assoc (earlier_argument_terminals x) (flat_map earlier_argument_terminals rest) (expr_terminals e ++ r))
    ∙ (ap (read m) (append_assoc (expr_terminals x.value) (terminal s.Comma x.comma ∷ []) l)
    ∙ (read_closed x.value (InArguments g f left done) k s.Comma x.comma l refl (All-head (λ x. IsExpression x.value) x rest w) tt
    ∙ (read_earlier rest e (done ++ x ∷ []) g f left k r (All-tail (λ x. IsExpression x.value) x rest w)
    ∙ ap (λ l. read (Operand (InArguments g f left l ∷ k)) (expr_terminals e ++ r)) (append_assoc done (x ∷ []) rest))))

enter_arguments : (earlier : List EarlierArgument) (e : Expr) (g : Option CallTarget) (f : Name) (left : Span) (k : List Form) (r : List Terminal)
    → read (FirstArgument g f left k) (flat_map earlier_argument_terminals earlier ++ (expr_terminals e ++ r))
    ≡ read (Operand (InArguments g f left [] ∷ k)) (flat_map earlier_argument_terminals earlier ++ (expr_terminals e ++ r))
enter_arguments [] e g f left k r = enter_expr (FirstArgument g f left k) (Operand (InArguments g f left [] ∷ k)) (at_argument g f left k) e r
enter_arguments (x ∷ rest) e g f left k r =
    enter BeginsExpression (FirstArgument g f left k) (Operand (InArguments g f left [] ∷ k)) (at_argument g f left k) _
    (heads_append BeginsExpression _ (expr_terminals e ++ r)
    (heads_append BeginsExpression _ (flat_map earlier_argument_terminals rest)
    (heads_append BeginsExpression (expr_terminals x.value) (terminal s.Comma x.comma ∷ []) (heads_expr x.value))))

read_arguments : (x : Arguments) (g : Option CallTarget) (f : Name) (left right : Span) (k : List Form) (r : List Terminal) → AreArguments x
    → read (FirstArgument g f left k) (arguments_terminals x ++ (terminal s.RightParenthesis right ∷ r)) ≡ read (StatementEnd (CallPending (call g f left x right)) k) r
read_arguments NoArguments g f left right k r w = refl
read_arguments (Arguments' earlier last) g f left right k r w =
    ap (read (FirstArgument g f left k)) (append_assoc (flat_map earlier_argument_terminals earlier) (expr_terminals last) (terminal s.RightParenthesis right ∷ r))
    ∙ (enter_arguments earlier last g f left k (terminal s.RightParenthesis right ∷ r)
    ∙ (read_earlier earlier last [] g f left k (terminal s.RightParenthesis right ∷ r) w.0
    ∙ read_closed last (InArguments g f left earlier) k s.RightParenthesis right r refl w.1 tt))

read_target : (g : Option CallTarget) (f : Name) (left : Span) (k : List Form) (r : List Terminal)
    → read (Statement k) (optional target_terminals g ++ (terminal (s.Name f.number) f.span ∷ (terminal s.LeftParenthesis left ∷ r))) ≡ read (FirstArgument g f left k) r
read_target None f left k r = refl
read_target (Some g) f left k r = refl

call_group : (g x : List Terminal) (f o c m : Terminal) (r : List Terminal) → ((g ++ (f ∷ (o ∷ (x ++ c ∷ [])))) ++ m ∷ []) ++ r ≡ g ++ (f ∷ (o ∷ (x ++ (c ∷ (m ∷ r)))))
call_group g x f o c m r = simp append_assoc

read_call : (x : Call) (a : Span) (k : List Form) (r : List Terminal) → AreArguments x.arguments
    → read (Statement k) (stmt_terminals (CallOf x a) ++ r) ≡ read (finish (CallOf x a) k) r
read_call x a k r w =
    let l = arguments_terminals x.arguments ++ (terminal s.RightParenthesis x.right ∷ (terminal s.Semicolon a ∷ r)) in
    ap (read (Statement k))
    (call_group (optional target_terminals x.target) (arguments_terminals x.arguments) (terminal (s.Name x.function.number) x.function.span) (terminal s.LeftParenthesis x.left) (terminal s.RightParenthesis x.right) (terminal s.Semicolon a) r)
    ∙ (read_target x.target x.function x.left k l
    ∙ read_arguments x.arguments x.target x.function x.left x.right k (terminal s.Semicolon a ∷ r) w)

-- ---- other simple statements

read_write : (port equals : Span) (e : Expr) (a : Span) (k : List Form) (r : List Terminal) → IsExpression e
    → read (Statement k) (stmt_terminals (WritePort port equals e a) ++ r) ≡ read (finish (WritePort port equals e a) k) r
read_write port equals e a k r w =
    ap (read (Operand (InPortValue port equals ∷ k))) (append_assoc (expr_terminals e) (terminal s.Semicolon a ∷ []) r)
    ∙ read_closed e (InPortValue port equals) k s.Semicolon a r refl w tt

read_in : (e : Expr) (equals port a : Span) (k : List Form) (r : List Terminal) → HasLevel e 12
    → read (Statement k) (stmt_terminals (ReadPort e equals port a) ++ r) ≡ read (finish (ReadPort e equals port a) k) r
read_in e equals port a k r w =
    let l = terminal s.PortOne port ∷ (terminal s.Semicolon a ∷ []) in
    ap (read (Statement k)) (append_assoc (expr_terminals e) (terminal s.Assign equals ∷ l) r)
    ∙ (enter_expr (Statement k) (Operand (InTarget AsStatement ∷ k)) (at_statement k) e (terminal s.Assign equals ∷ (l ++ r))
    ∙ (read_expr e 12 (InTarget AsStatement ∷ k) (terminal s.Assign equals ∷ (l ++ r)) (omega arith) w (omega arith)
    ∙ ap (λ z. read z (l ++ r)) (step_after e (InTarget AsStatement ∷ k) s.Assign equals w)))

read_return : (value : Option Expr) (word a : Span) (k : List Form) (r : List Terminal) → IfThere IsExpression value
    → read (Statement k) (stmt_terminals (Return word value a) ++ r) ≡ read (finish (Return word value a) k) r
read_return None word a k r w = refl
read_return (Some e) word a k r w =
    ap (read (ReturnWord word k)) (append_assoc (expr_terminals e) (terminal s.Semicolon a ∷ []) r)
    ∙ (enter_expr (ReturnWord word k) (Operand (InReturn word ∷ k)) (at_return word k) e (terminal s.Semicolon a ∷ r)
    ∙ read_closed e (InReturn word) k s.Semicolon a r refl w tt)

-- ---- statements in statements

-- the mode once a statement was read in k
abbrev pub after_stmt : Stmt → List Form → Mode
after_stmt (If t x) k = after_stmt x (InIf t ∷ k)
after_stmt (IfElse t x a y) k = after_stmt y (InElse t x a ∷ k)
after_stmt (While t x) k = after_stmt x (InWhile t ∷ k)
after_stmt (For head x) k = after_stmt x (InFor head ∷ k)
after_stmt x k = finish x k

-- what holds a list of statements
pub data Holder : Type 0 where
  OfBlock : (left : Span) → Holder
  OfBody : FunctionFront → Holder

abbrev pub hole : Holder → Stmts → Form
hole (OfBlock left) xs = InBlock left xs
hole (OfBody front) NoStmts = InLocals front
hole (OfBody front) (Then xs x) = InBody front (Then xs x)

abbrev pub after_stmts : Stmts → Holder → List Form → Mode
after_stmts NoStmts h k = Statement (hole h NoStmts ∷ k)
after_stmts (Then xs x) h k = after_stmt x (hole h xs ∷ k)

-- a statement that may not go on with `else` ends what ends with it
after_closed : (x : Stmt) (k : List Form) → EndsClosed x → after_stmt x k ≡ finish x k
after_closed (If t x) k w = absurd w
after_closed (IfElse t x a y) k w = after_closed y (InElse t x a ∷ k) w
after_closed (While t x) k w = after_closed x (InWhile t ∷ k) w
after_closed (For head x) k w = after_closed x (InFor head ∷ k) w
after_closed x k w = refl

abbrev pub NoElse : Symbol → Type 0
NoElse s.Else = ⊥
NoElse _ = Unit {0}

-- after a whole statement any other token sees the same as if no `else` could come
flush_begins : (x : Stmt) (k : List Form) (y : Symbol) (a : Span) → next (flush x k) y a ≡ again (flush x k) y a
flush_begins x [] y a = refl
flush_begins x (InWhile t ∷ k) y a = flush_begins (While t x) k y a
flush_begins x (InFor head ∷ k) y a = flush_begins (For head x) k y a
flush_begins x (InElse t z b ∷ k) y a = flush_begins (IfElse t z b x) k y a
flush_begins x (InIf t ∷ k) y a = flush_begins (If t x) k y a
flush_begins x (f ∷ k) y a = refl

may_else_step : (x : Stmt) (t : Test) (k : List Form) (y : Symbol) (a : Span) → NoElse y → may_else x (InIf t ∷ k) y a ≡ again (flush (If t x) k) y a
may_else_step x t k s.Else a w = absurd w
may_else_step x t k y a w = refl

finish_flush : (x : Stmt) (k : List Form) (y : Symbol) (a : Span) → NoElse y → next (finish x k) y a ≡ next (flush x k) y a
finish_flush x [] y a w = refl
finish_flush x (InWhile t ∷ k) y a w = finish_flush (While t x) k y a w
finish_flush x (InFor head ∷ k) y a w = finish_flush (For head x) k y a w
finish_flush x (InElse t z b ∷ k) y a w = finish_flush (IfElse t z b x) k y a w
finish_flush x (InIf t ∷ k) y a w = may_else_step x t k y a w ∙ sym (flush_begins (If t x) k y a)
finish_flush x (f ∷ k) y a w = refl

after_flush : (x : Stmt) (k : List Form) (y : Symbol) (a : Span) → NoElse y → next (after_stmt x k) y a ≡ next (flush x k) y a
after_flush (If t x) k y a w = after_flush x (InIf t ∷ k) y a w
after_flush (IfElse t x b z) k y a w = after_flush z (InElse t x b ∷ k) y a w
after_flush (While t x) k y a w = after_flush x (InWhile t ∷ k) y a w
after_flush (For head x) k y a w = after_flush x (InFor head ∷ k) y a w
after_flush x k y a w = finish_flush x k y a w

after_stmts_step : (xs : Stmts) (h : Holder) (k : List Form) (y : Symbol) (a : Span) → NoElse y
    → next (after_stmts xs h k) y a ≡ statement (hole h xs ∷ k) y a
after_stmts_step NoStmts h k y a w = refl
after_stmts_step (Then xs x) (OfBlock left) k y a w = after_flush x (InBlock left xs ∷ k) y a w
after_stmts_step (Then NoStmts x) (OfBody front) k y a w = after_flush x (InLocals front ∷ k) y a w
after_stmts_step (Then (Then xs z) x) (OfBody front) k y a w = after_flush x (InBody front (Then xs z) ∷ k) y a w

expression_no_else : (y : Symbol) → BeginsExpression y → NoElse y
expression_no_else s.Else h = h
expression_no_else y h = tt

heads_same : (P Q : Symbol → Type 0) → ((y : Symbol) → P y → Q y) → (l : List Terminal) → Heads P l → Heads Q l
heads_same P Q h [] w = absurd w
heads_same P Q h (t ∷ l) w = h t.symbol w

heads_no_else : (e : Expr) (r : List Terminal) → Heads NoElse (expr_terminals e ++ r)
heads_no_else e r = heads_append NoElse (expr_terminals e) r (heads_same BeginsExpression NoElse expression_no_else (expr_terminals e) (heads_expr e))

heads_call : (g : Option CallTarget) (f : Name) (r : List Terminal) → Heads NoElse (optional target_terminals g ++ (terminal (s.Name f.number) f.span ∷ r))
heads_call None f r = tt
heads_call (Some g) f r = tt

heads_stmt : (x : Stmt) → Heads NoElse (stmt_terminals x)
heads_stmt (Empty a) = tt
heads_stmt (Block left xs right) = tt
heads_stmt (Assign x a) = heads_append NoElse (assignment_terminals x) _ (heads_no_else x.target _)
heads_stmt (ReadPort e equals port a) = heads_no_else e _
heads_stmt (CallOf x a) = heads_append NoElse (call_terminals x) _ (heads_call x.target x.function _)
heads_stmt x = tt

pub at_heads : (xs : Stmts) (h : Holder) (k : List Form) (l : List Terminal) → Heads NoElse l → read (after_stmts xs h k) l ≡ read (Statement (hole h xs ∷ k)) l
at_heads xs h k = enter NoElse (after_stmts xs h k) (Statement (hole h xs ∷ k)) (after_stmts_step xs h k)

read_if : (t : Test) (k : List Form) (l r : List Terminal) → IsExpression t.condition
    → read (Statement k) ((test_terminals s.If t ++ l) ++ r) ≡ read (Statement (InIf t ∷ k)) (l ++ r)
read_if t k l r w =
    ap (read (Statement k)) (append_assoc (test_terminals s.If t) l r)
    ∙ (ap (read (Operand (InIfTest t.keyword t.left ∷ k))) (append_assoc (expr_terminals t.condition) (terminal s.RightParenthesis t.right ∷ []) (l ++ r))
    ∙ read_closed t.condition (InIfTest t.keyword t.left) k s.RightParenthesis t.right (l ++ r) refl w tt)

read_while : (t : Test) (k : List Form) (l r : List Terminal) → IsExpression t.condition
    → read (Statement k) ((test_terminals s.While t ++ l) ++ r) ≡ read (Statement (InWhile t ∷ k)) (l ++ r)
read_while t k l r w =
    ap (read (Statement k)) (append_assoc (test_terminals s.While t) l r)
    ∙ (ap (read (Operand (InWhileTest t.keyword t.left ∷ k))) (append_assoc (expr_terminals t.condition) (terminal s.RightParenthesis t.right ∷ []) (l ++ r))
    ∙ read_closed t.condition (InWhileTest t.keyword t.left) k s.RightParenthesis t.right (l ++ r) refl w tt)

do_group : (e : List Terminal) (c m : Terminal) (r : List Terminal) → ((e ++ c ∷ []) ++ m ∷ []) ++ r ≡ e ++ (c ∷ (m ∷ r))
do_group e c m r = simp append_assoc

-- after the body of `do`
read_do : (word : Span) (x : Stmt) (t : Test) (a : Span) (k : List Form) (r : List Terminal) → IsExpression t.condition
    → read (after_stmt x (InDo word ∷ k)) ((test_terminals s.While t ++ terminal s.Semicolon a ∷ []) ++ r) ≡ read (finish (Do word x t a) k) r
read_do word x t a k r w =
    let e = expr_terminals t.condition in
    let c = terminal s.RightParenthesis t.right in
    ap (λ z. read z (terminal s.LeftParenthesis t.left ∷ (((e ++ c ∷ []) ++ terminal s.Semicolon a ∷ []) ++ r))) (after_flush x (InDo word ∷ k) s.While t.keyword tt)
    ∙ (ap (read (Operand (InDoTest word x t.keyword t.left ∷ k))) (do_group e c (terminal s.Semicolon a) r)
    ∙ read_closed t.condition (InDoTest word x t.keyword t.left) k s.RightParenthesis t.right (terminal s.Semicolon a ∷ r) refl w tt)

mutual
  pub read_stmt : (x : Stmt) (k : List Form) (r : List Terminal) → IsStatement x → read (Statement k) (stmt_terminals x ++ r) ≡ read (after_stmt x k) r
  read_stmt (Empty a) k r w = refl
  read_stmt (Block left xs right) k r w =
      ap (read (Statement (InBlock left NoStmts ∷ k))) (append_assoc (stmts_terminals xs) (terminal s.RightBrace right ∷ []) r)
      ∙ (read_stmts xs (OfBlock left) k (terminal s.RightBrace right ∷ r) w
      ∙ at_heads xs (OfBlock left) k (terminal s.RightBrace right ∷ r) tt)
  read_stmt (Assign x a) k r w = read_assign x a k r w
  read_stmt (ReadPort e equals port a) k r w = read_in e equals port a k r w
  read_stmt (WritePort port equals e a) k r w = read_write port equals e a k r w
  read_stmt (CallOf x a) k r w = read_call x a k r w
  read_stmt (If t x) k r w = read_if t k (stmt_terminals x) r w.0 ∙ read_stmt x (InIf t ∷ k) r w.1
  read_stmt (IfElse t x a y) k r w =
      read_if t k (stmt_terminals x ++ (terminal s.Else a ∷ stmt_terminals y)) r w.0
      ∙ (ap (read (Statement (InIf t ∷ k))) (append_assoc (stmt_terminals x) (terminal s.Else a ∷ stmt_terminals y) r)
      ∙ (read_stmt x (InIf t ∷ k) (terminal s.Else a ∷ (stmt_terminals y ++ r)) w.1
      ∙ (ap (λ z. read (next z s.Else a) (stmt_terminals y ++ r)) (after_closed x (InIf t ∷ k) w.2)
      ∙ read_stmt y (InElse t x a ∷ k) r w.3)))
  read_stmt (While t x) k r w = read_while t k (stmt_terminals x) r w.0 ∙ read_stmt x (InWhile t ∷ k) r w.1
  read_stmt (Do word x t a) k r w =
      let l = test_terminals s.While t ++ terminal s.Semicolon a ∷ [] in
      ap (read (Statement (InDo word ∷ k))) (append_assoc (stmt_terminals x) l r)
      ∙ (read_stmt x (InDo word ∷ k) (l ++ r) w.0 ∙ read_do word x t a k r w.1)
  read_stmt (For head x) k r w =
      ap (read (Statement k)) (append_assoc (for_terminals head) (stmt_terminals x) r)
      ∙ (read_for head k (stmt_terminals x ++ r) w.0 ∙ read_stmt x (InFor head ∷ k) r w.1)
  read_stmt (Break word a) k r w = refl
  read_stmt (Continue word a) k r w = refl
  read_stmt (Return word value a) k r w = read_return value word a k r w

  pub read_stmts : (xs : Stmts) (h : Holder) (k : List Form) (r : List Terminal) → AreStatements xs
      → read (Statement (hole h NoStmts ∷ k)) (stmts_terminals xs ++ r) ≡ read (after_stmts xs h k) r
  read_stmts NoStmts h k r w = refl
  read_stmts (Then xs x) h k r w =
      ap (read (Statement (hole h NoStmts ∷ k))) (append_assoc (stmts_terminals xs) (stmt_terminals x) r)
      ∙ (read_stmts xs h k (stmt_terminals x ++ r) w.0
      ∙ (at_heads xs h k (stmt_terminals x ++ r) (heads_append NoElse (stmt_terminals x) r (heads_stmt x))
      ∙ read_stmt x (hole h xs ∷ k) r w.1))
