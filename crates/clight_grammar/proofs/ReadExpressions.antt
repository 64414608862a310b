-- What an expression spells is read as that expression.
use Rattle.std.proofs.Common.{◌≡◌, ℕ, ◌+◌, ◌≤◌, true, false, List, [], ◌∷◌, ◌++◌, refl, ap, ◌∙◌, append_assoc, arith}
use Rattle.std.specs.Prelude.{nat_le}
use Rattle.std.proofs.lemmas.Bool.Decides.{nat_tests}
use Rattle.clight_source.specs.declared.span.Span.{Span}
use Rattle.clight_source.specs.declared.symbol.Symbol.{Symbol}
use Rattle.clight_source.specs.declared.symbol.Symbol.TheVariants as s
use Rattle.clight_source.specs.declared.symbol.Terminal.{Terminal}
use Rattle.clight_source.specs.declared.tree.BinaryOperator.{BinaryOperator}
use Rattle.clight_source.specs.declared.tree.BinaryOperator.TheVariants as o
use Rattle.clight_source.specs.declared.tree.PrefixOperator.{PrefixOperator}
use Rattle.clight_source.specs.declared.tree.PrefixOperator.TheVariants as p
use Rattle.clight_source.specs.declared.tree.MemberOperator.{MemberOperator}
use Rattle.clight_source.specs.declared.tree.MemberOperator.TheVariants as m
use Rattle.clight_source.specs.declared.tree.Specifiers.{Specifiers}
use Rattle.clight_source.specs.declared.tree.Specifiers.TheVariants as t
use Rattle.clight_source.specs.Trees.{Expr, Variable, Number, Parenthesis, Binary, Prefix, Cast, Index, Select}
use Rattle.clight_source.specs.Spelling.{terminal, name_terminal, binary_symbol, prefix_symbol, member_symbol, type_terminals, expr_terminals, level, HasLevel}
use Rattle.clight_nodes.specs.Code.Expressions.{binds}
use Rattle.clight_grammar.specs.Code.Forms.{Form, InBinary, InPrefix, InCast, InParenthesis, InIndex, InTarget, Mode, Operand, AfterOperand, MemberName}
use Rattle.clight_grammar.specs.Code.Expressions.{Settled, settled, settle, is_target, infix_at, operand}
use Rattle.clight_grammar.specs.Code.Statements.{act}
use Rattle.clight_grammar.specs.Code.Machine.{next}

-- the mode after some terminals
abbrev pub read : Mode → List Terminal → Mode
read m [] = m
read m (t ∷ l) = read (next m t.symbol t.span) l

abbrev pub settled_mode : Settled → Mode
settled_mode x = AfterOperand x.operand x.forms

-- the last operand of an expression that was read in k, and the forms that are open around it
abbrev pub after : Expr → List Form → Settled
after (Binary l operator a r) k = after r (InBinary l operator a ∷ k)
after (Prefix operator a e) k = after e (InPrefix operator a ∷ k)
after (Cast left type right e) k = after e (InCast left type right ∷ k)
after e k = settled e k

-- an expression of level n may be in k: an operator that is open there binds less tightly
abbrev pub Fits : List Form → ℕ → Type 0
Fits (InBinary l operator a ∷ k) n = 1 + level operator ≤ n
Fits (InPrefix operator a ∷ k) n = 12 ≤ n
Fits (InCast left type right ∷ k) n = 12 ≤ n
Fits (InTarget place ∷ k) n = 12 ≤ n
Fits k n = Unit {0}

pub level_low : (operator : BinaryOperator) → 2 ≤ level operator
level_low o.LogicalOr = omega arith
level_low operator = omega arith

pub level_high : (operator : BinaryOperator) → level operator ≤ 11
level_high o.LogicalOr = omega arith
level_high operator = omega arith

pub weaken : (e : Expr) (m n : ℕ) → n ≤ m → HasLevel e m → HasLevel e n
weaken (Binary l operator a r) m n h w = (omega arith, w.1, w.2)
weaken (Prefix operator a e) m n h w = (omega arith, w.1)
weaken (Cast left type right e) m n h w = (omega arith, w.1)
weaken e m n h w = w

test_true : (a b : ℕ) → a ≤ b → nat_le a b ≡ true
test_true a b h = grind (arith, nat_tests)

test_false : (a b : ℕ) → 1 + b ≤ a → nat_le a b ≡ false
test_false a b h = grind (arith, nat_tests)

pub settle_after : (e : Expr) (n : ℕ) (k : List Form) → HasLevel e n → settle n (after e k).forms (after e k).operand ≡ settle n k e
settle_after (Binary l operator a r) n k w =
    settle_after r n (InBinary l operator a ∷ k) (weaken r (1 + level operator) n (omega (arith, w.0)) w.2) ∙ (rw (test_true n (level operator) w.0))
settle_after (Prefix operator a e) n k w = settle_after e n (InPrefix operator a ∷ k) (weaken e 12 n w.0 w.1) ∙ (rw (test_true n 12 w.0))
settle_after (Cast left type right e) n k w = settle_after e n (InCast left type right ∷ k) (weaken e 12 n w.0 w.1) ∙ (rw (test_true n 12 w.0))
settle_after e n k w = refl

-- a token after an expression closes the operators of the expression
pub step_after : (e : Expr) (k : List Form) (y : Symbol) (a : Span) → HasLevel e (binds y)
    → next (settled_mode (after e k)) y a ≡ act y a (settle (binds y) k e)
step_after e k y a w = ap (act y a) (settle_after e (binds y) k w)

settle_stop : (k : List Form) (n : ℕ) (e : Expr) → 1 ≤ n → n ≤ 11 → Fits k n → settle n k e ≡ settled e k
settle_stop [] n e h u f = refl
settle_stop (InBinary l operator a ∷ k) n e h u f = rw (test_false n (level operator) f)
settle_stop (InPrefix operator a ∷ k) n e h u f = absurd (omega arith)
settle_stop (InCast left type right ∷ k) n e h u f = absurd (omega arith)
settle_stop (f ∷ k) n e h u v = rw (test_false n 0 h)

fits_up : (k : List Form) (n m : ℕ) → n ≤ m → Fits k n → Fits k m
fits_up (InBinary l operator a ∷ k) n m h w = omega arith
fits_up (InPrefix operator a ∷ k) n m h w = omega arith
fits_up (InCast left type right ∷ k) n m h w = omega arith
fits_up (InTarget place ∷ k) n m h w = omega arith
fits_up k n m h w = tt

no_target : (k : List Form) (n : ℕ) → n ≤ 11 → Fits k n → is_target k ≡ false
no_target (InTarget place ∷ k) n h w = absurd (omega arith)
no_target k n h w = refl

binds_binary : (operator : BinaryOperator) → binds (binary_symbol operator) ≡ level operator
binds_binary o.LogicalOr = refl
binds_binary operator = refl

act_binary : (operator : BinaryOperator) (a : Span) (x : Settled) → act (binary_symbol operator) a x ≡ infix_at operator a x.operand x.forms
act_binary o.LogicalOr a x = refl
act_binary operator a x = refl

infix_done : (e : Expr) (operator : BinaryOperator) (a : Span) (k : List Form) → is_target k ≡ false
    → infix_at operator a e k ≡ Operand (InBinary e operator a ∷ k)
infix_done e operator a k h = rw h

infix_step : (e : Expr) (operator : BinaryOperator) (a : Span) (k : List Form) → HasLevel e (level operator) → Fits k (level operator)
    → next (settled_mode (after e k)) (binary_symbol operator) a ≡ Operand (InBinary e operator a ∷ k)
infix_step e operator a k w f =
    let b = binds_binary operator in
    step_after e k (binary_symbol operator) a (rw b w)
    ∙ (ap (λ n. act (binary_symbol operator) a (settle n k e)) b
    ∙ (act_binary operator a (settle (level operator) k e)
    ∙ (ap (λ x. infix_at operator a x.operand x.forms) (settle_stop k (level operator) e (omega (arith, level_low operator)) (level_high operator) f)
    ∙ infix_done e operator a k (no_target k (level operator) (level_high operator) f))))

prefix_step : (operator : PrefixOperator) (a : Span) (k : List Form) → operand k (prefix_symbol operator) a ≡ Operand (InPrefix operator a ∷ k)
prefix_step p.Negate a k = refl
prefix_step operator a k = refl

-- an index or a member ends its left side at once
base_after : (e : Expr) (k : List Form) → HasLevel e 13 → after e k ≡ settled e k
base_after (Binary l operator i r) k w = absurd (omega (arith, w.0, level_high operator))
base_after (Prefix operator i e) k w = absurd (omega (arith, w.0))
base_after (Cast left type right e) k w = absurd (omega (arith, w.0))
base_after e k w = refl

pub settle_postfix : (k : List Form) (e : Expr) → settle 13 k e ≡ settled e k
settle_postfix [] e = refl
settle_postfix (InBinary l operator a ∷ k) e = rw (test_false 13 (level operator) (omega (arith, level_high operator)))
settle_postfix (f ∷ k) e = refl

fits_postfix : (k : List Form) → Fits k 13
fits_postfix [] = tt
fits_postfix (InBinary l operator a ∷ k) = omega (arith, level_high operator)
fits_postfix (InPrefix operator a ∷ k) = omega arith
fits_postfix (InCast left type right ∷ k) = omega arith
fits_postfix (InTarget place ∷ k) = omega arith
fits_postfix (f ∷ k) = tt

postfix_step : (e : Expr) (y : Symbol) (a : Span) (k : List Form) → binds y ≡ 13 → HasLevel e 13
    → next (settled_mode (after e k)) y a ≡ act y a (settled e k)
postfix_step e y a k h w = step_after e k y a (rw h w) ∙ (ap (λ n. act y a (settle n k e)) h ∙ ap (act y a) (settle_postfix k e))

index_step : (e : Expr) (a : Span) (k : List Form) → HasLevel e 13 → next (settled_mode (after e k)) s.LeftBracket a ≡ Operand (InIndex e a ∷ k)
index_step e a k w = postfix_step e s.LeftBracket a k refl w

select_step : (e : Expr) (operator : MemberOperator) (a : Span) (k : List Form) → HasLevel e 13
    → next (settled_mode (after e k)) (member_symbol operator) a ≡ MemberName e operator a k
select_step e m.Dot a k w = postfix_step e s.Dot a k refl w
select_step e m.Arrow a k w = postfix_step e s.Arrow a k refl w

read_cast : (type : Specifiers) (left right : Span) (k : List Form) (r : List Terminal)
    → read (Operand (InParenthesis left ∷ k)) (type_terminals type ++ (terminal s.RightParenthesis right ∷ r)) ≡ read (Operand (InCast left type right ∷ k)) r
read_cast (t.Void a) left right k r = refl
read_cast type left right k r = refl

pub read_expr : (e : Expr) (n : ℕ) (k : List Form) (r : List Terminal) → 1 ≤ n → HasLevel e n → Fits k n
    → read (Operand k) (expr_terminals e ++ r) ≡ read (settled_mode (after e k)) r
read_expr (Variable name) n k r h w f = refl
read_expr (Number number a) n k r h w f = refl
read_expr (Parenthesis left e right) n k r h w f =
    ap (read (Operand (InParenthesis left ∷ k))) (append_assoc (expr_terminals e) (terminal s.RightParenthesis right ∷ []) r)
    ∙ (read_expr e 1 (InParenthesis left ∷ k) (terminal s.RightParenthesis right ∷ r) (omega arith) w tt
    ∙ ap (λ x. read x r) (step_after e (InParenthesis left ∷ k) s.RightParenthesis right w))
read_expr (Binary l operator a e) n k r h w f =
    ap (read (Operand k)) (append_assoc (expr_terminals l) (terminal (binary_symbol operator) a ∷ expr_terminals e) r)
    ∙ (read_expr l (level operator) k (terminal (binary_symbol operator) a ∷ (expr_terminals e ++ r)) (omega (arith, level_low operator)) w.1 (fits_up k n (level operator) w.0 f)
    ∙ (ap (λ x. read x (expr_terminals e ++ r)) (infix_step l operator a k w.1 (fits_up k n (level operator) w.0 f))
    ∙ read_expr e (1 + level operator) (InBinary l operator a ∷ k) r (omega arith) w.2 (omega arith)))
read_expr (Prefix operator a e) n k r h w f =
    ap (λ x. read x (expr_terminals e ++ r)) (prefix_step operator a k)
    ∙ read_expr e 12 (InPrefix operator a ∷ k) r (omega arith) w.1 (omega arith)
read_expr (Cast left type right e) n k r h w f =
    ap (read (Operand (InParenthesis left ∷ k))) (append_assoc (type_terminals type) (terminal s.RightParenthesis right ∷ expr_terminals e) r)
    ∙ (read_cast type left right k (expr_terminals e ++ r)
    ∙ read_expr e 12 (InCast left type right ∷ k) r (omega arith) w.1 (omega arith))
read_expr (Select e operator a member) n k r h w f =
    ap (read (Operand k)) (append_assoc (expr_terminals e) (terminal (member_symbol operator) a ∷ name_terminal member ∷ []) r)
    ∙ (read_expr e 13 k (terminal (member_symbol operator) a ∷ name_terminal member ∷ r) (omega arith) w (fits_postfix k)
    ∙ ap (λ x. read x (name_terminal member ∷ r)) (select_step e operator a k w))
read_expr (Index e left i right) n k r h w f =
    let l = expr_terminals i ++ terminal s.RightBracket right ∷ [] in
    ap (read (Operand k)) (append_assoc (expr_terminals e) (terminal s.LeftBracket left ∷ l) r)
    ∙ (read_expr e 13 k (terminal s.LeftBracket left ∷ (l ++ r)) (omega arith) w.0 (fits_postfix k)
    ∙ (ap (λ x. read x (l ++ r)) (index_step e left k w.0)
    ∙ (ap (read (Operand (InIndex e left ∷ k))) (append_assoc (expr_terminals i) (terminal s.RightBracket right ∷ []) r)
    ∙ (read_expr i 1 (InIndex e left ∷ k) (terminal s.RightBracket right ∷ r) (omega arith) w.1 tt
    ∙ ap (λ x. read x r) (step_after i (InIndex e left ∷ k) s.RightBracket right w.1)))))

-- an expression up to a token that closes all its operators
pub read_closed : (e : Expr) (f : Form) (k : List Form) (y : Symbol) (a : Span) (r : List Terminal)
    → binds y ≡ 1 → HasLevel e 1 → Fits (f ∷ k) 1
    → read (Operand (f ∷ k)) (expr_terminals e ++ (terminal y a ∷ r)) ≡ read (act y a (settle 1 (f ∷ k) e)) r
read_closed e f k y a r b w h =
    read_expr e 1 (f ∷ k) (terminal y a ∷ r) (omega arith) w h
    ∙ ap (λ x. read x r) (step_after e (f ∷ k) y a (rw b w) ∙ ap (λ n. act y a (settle n (f ∷ k) e)) b)
