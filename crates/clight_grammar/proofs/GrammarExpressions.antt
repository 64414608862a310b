-- A token inside an expression leads from parts of the grammar to parts of the grammar.
use Rattle.std.proofs.Common.{◌≡◌, ℕ, ◌+◌, ◌≤◌, ◌<◌, Bool, true, false, cond, List, [], ◌∷◌, ◌++◌, All, length, refl, arith}
use Rattle.std.specs.Prelude.{nat_le, Option, Some, None}
use Rattle.std.proofs.lemmas.Bool.Decides.{nat_tests}
use Rattle.std.proofs.lemmas.List.Elements.{All-nil, All-cons, All-append}
use Rattle.clight_source.specs.declared.span.Span.{Span}
use Rattle.clight_source.specs.declared.symbol.Symbol.{Symbol}
use Rattle.clight_source.specs.declared.symbol.Symbol.TheVariants as s
use Rattle.clight_source.specs.declared.tree.Name.{Name}
use Rattle.clight_source.specs.declared.tree.BinaryOperator.{BinaryOperator}
use Rattle.clight_source.specs.declared.tree.MemberOperator.{MemberOperator}
use Rattle.clight_source.specs.declared.tree.Specifiers.{Specifiers}
use Rattle.clight_source.specs.Trees.{Expr, Binary, Prefix, Cast, Stmt, Assign, WritePort, If, IfElse, While, For, Return}
use Rattle.clight_source.specs.Spelling.{level, HasLevel, IsExpression, EndsClosed, IsStatement, IsLocal}
use Rattle.clight_nodes.specs.Code.Expressions.{first_word, next_word, binary_of, mark_level, binds}
use Rattle.clight_grammar.specs.Code.Forms.{AsStatement, AsFirst, AsStep, Form, InBinary, InPrefix, InCast, InParenthesis, InIndex, InTarget, InValue, InPortValue, InArguments, InIfTest, InWhileTest, InDoTest, InCondition, InReturn, InLocalValue, InIf, InElse, InWhile, InDo, InFor, InBlock, InLocals, InBody, Operand, CastWords, Refused}
use Rattle.clight_grammar.specs.Code.Expressions.{close, settle, Settled, settled, strength, is_target, infix_at, cast_words, cast_tag, read_pending, operand, member_name, tag_of_cast, in_cast}
use Rattle.clight_grammar.specs.Code.Statements.{finish, flush, close_parenthesis, close_bracket, next_argument, end_expression, begin_value, begin_call, begin_call_to, call_at, mark, act}
use Rattle.clight_grammar.proofs.ReadExpressions.{weaken, level_low, level_high}
use Rattle.clight_grammar.proofs.OpenForms.{HoldsStatement, HoldsExpression, HoldsOperand, IsGood}

pub All-push : {X : Type 0} (P : X → Type 0) (xs : List X) (x : X) → All P xs → P x → All P (xs ++ x ∷ [])
All-push P xs x h p = All-append P xs (x ∷ []) h (All-cons P x [] p (All-nil P))

pub some_pushed : {X : Type 0} (xs : List X) (x : X) → 0 < length (xs ++ x ∷ [])
some_pushed [] x = omega arith
some_pushed (y ∷ xs) x = omega arith

-- ---- open operators

pub zero_stops : (n : ℕ) → 1 ≤ n → nat_le n 0 ≡ false
zero_stops n h = grind (arith, nat_tests)

pub above : (n m : ℕ) → nat_le n m ≡ false → 1 + m ≤ n
above n m h = grind (arith, nat_tests)

pub within : (n m : ℕ) → nat_le n m ≡ true → n ≤ m
within n m h = grind (arith, nat_tests)

pub at_most : (n : ℕ) → n ≤ n
at_most n = omega arith

-- operand and open forms fit, for a token that binds as n does
abbrev pub Fitting : Settled → ℕ → Type 0
Fitting x n = HasLevel x.operand n × HoldsOperand x.forms n

pub binary_fits : (b : Bool) (n : ℕ) (l : Expr) (operator : BinaryOperator) (a : Span) (k : List Form) (e : Expr) → nat_le n (level operator) ≡ b
    → ((m : ℕ) → n ≤ m → HasLevel (Binary l operator a e) m → HoldsExpression k m → Fitting (settle n k (Binary l operator a e)) n)
    → (m : ℕ) → n ≤ m → HasLevel e m → HoldsExpression (InBinary l operator a ∷ k) m
    → Fitting (cond b (settle n k (Binary l operator a e)) (settled e (InBinary l operator a ∷ k))) n
binary_fits true n l operator a k e h r m b w c = r (level operator) (within n (level operator) h) (at_most (level operator), c.0, weaken e m (1 + level operator) c.1 w) c.2
binary_fits false n l operator a k e h r m b w c = (weaken e m n b w, (c.0, above n (level operator) h, c.2))

pub prefix_fits : (b : Bool) (n : ℕ) (f : Form) (k : List Form) (e g : Expr) → nat_le n 12 ≡ b
    → (HasLevel e 12 → HasLevel g 12)
    → ((m : ℕ) → n ≤ m → HasLevel g m → HoldsExpression k m → Fitting (settle n k g) n)
    → ((m : ℕ) → 12 ≤ m → HoldsExpression k 12 → HoldsOperand (f ∷ k) m)
    → (m : ℕ) → n ≤ m → HasLevel e m → (12 ≤ m) × HoldsExpression k 12
    → Fitting (cond b (settle n k g) (settled e (f ∷ k))) n
prefix_fits true n f k e g h u r v m b w c = r 12 (within n 12 h) (u (weaken e m 12 c.0 w)) c.1
prefix_fits false n f k e g h u r v m b w c = let x = above n 12 h in (weaken e m n b w, v n (omega arith) c.1)

pub stays : (n : ℕ) (f : Form) (k : List Form) (e : Expr) → nat_le n (strength f) ≡ false
    → ((m : ℕ) → HoldsExpression (f ∷ k) m → HoldsOperand (f ∷ k) n)
    → (m : ℕ) → n ≤ m → HasLevel e m → HoldsExpression (f ∷ k) m
    → Fitting (cond (nat_le n (strength f)) (settle n k (close f e)) (settled e (f ∷ k))) n
stays n f k e h g m b w c = rw h (weaken e m n b w, g m c)

pub settle_fits : (n : ℕ) (k : List Form) (e : Expr) → 1 ≤ n → (m : ℕ) → n ≤ m → HasLevel e m → HoldsExpression k m → Fitting (settle n k e) n
settle_fits n [] e h m b w c = absurd c
settle_fits n (InBinary l operator a ∷ k) e h m b w c =
    binary_fits (nat_le n (level operator)) n l operator a k e refl (settle_fits n k (Binary l operator a e) h) m b w c
settle_fits n (InPrefix operator a ∷ k) e h m b w c =
    prefix_fits (nat_le n 12) n (InPrefix operator a) k e (Prefix operator a e) refl (λ x. (at_most 12, x)) (settle_fits n k (Prefix operator a e) h) (λ i x y. (x, y)) m b w c
settle_fits n (InCast left type right ∷ k) e h m b w c =
    prefix_fits (nat_le n 12) n (InCast left type right) k e (Cast left type right e) refl (λ x. (at_most 12, x)) (settle_fits n k (Cast left type right e) h) (λ i x y. (x, y)) m b w c
settle_fits n (InTarget place ∷ k) e h m b w c = stays n (InTarget place) k e (zero_stops n h) (λ i d. (d.1, d.2)) m b w c
settle_fits n (f ∷ k) e h m b w c = stays n f k e (zero_stops n h) (λ i d. d) m b w c

-- ---- statements

pub flush_good : (x : Stmt) (k : List Form) → IsStatement x → HoldsStatement k → IsGood (flush x k)
flush_good x (InWhile t ∷ k) w c = flush_good (While t x) k (c.0, w) c.1
flush_good x (InFor head ∷ k) w c = flush_good (For head x) k (c.0, w) c.1
flush_good x (InElse t y a ∷ k) w c = flush_good (IfElse t y a x) k (c.0, c.1, c.2, w) c.3
flush_good x (InIf t ∷ k) w c = flush_good (If t x) k (c.0, w) c.1
flush_good x (InDo word ∷ k) w c = (w, c)
flush_good x (InBlock left xs ∷ k) w c = ((c.0, w), c.1)
flush_good x (InLocals front ∷ k) w c = (c, (tt, w))
flush_good x (InBody front xs ∷ k) w c = (c.0, (c.1, w))
flush_good x k w c = tt

pub finish_good : (x : Stmt) (k : List Form) → IsStatement x → EndsClosed x → HoldsStatement k → IsGood (finish x k)
finish_good x (InWhile t ∷ k) w v c = finish_good (While t x) k (c.0, w) v c.1
finish_good x (InFor head ∷ k) w v c = finish_good (For head x) k (c.0, w) v c.1
finish_good x (InElse t y a ∷ k) w v c = finish_good (IfElse t y a x) k (c.0, c.1, c.2, w) v c.3
finish_good x (InIf t ∷ k) w v c = (w, v, c)
finish_good x (InDo word ∷ k) w v c = (w, c)
finish_good x (InBlock left xs ∷ k) w v c = ((c.0, w), c.1)
finish_good x (InLocals front ∷ k) w v c = (c, (tt, w))
finish_good x (InBody front xs ∷ k) w v c = (c.0, (c.1, w))
finish_good x k w v c = tt

-- ---- expressions

pub looser : (k : List Form) → HoldsExpression k 13 → HoldsExpression k 12
looser (InBinary l operator a ∷ k) c = (c.0, omega (arith, level_high operator), c.2)
looser (InPrefix operator a ∷ k) c = (omega arith, c.1)
looser (InCast left type right ∷ k) c = (omega arith, c.1)
looser (InTarget place ∷ k) c = (omega arith, c.1, c.2)
looser k c = c

pub cast_words_good : (type : Specifiers) (k : List Form) → HoldsExpression k 13 → IsGood (cast_words type k)
cast_words_good type (InParenthesis left ∷ k) c = c
cast_words_good type k c = tt

pub cast_tag_good : (a : Span) (k : List Form) → HoldsExpression k 13 → IsGood (cast_tag a k)
cast_tag_good a (InParenthesis left ∷ k) c = c
cast_tag_good a k c = tt

pub read_pending_good : (a : Span) (k : List Form) → HoldsExpression k 13 → IsGood (read_pending a k)
read_pending_good a (InValue AsStatement target equals ∷ k) c = (c.0, c.2)
read_pending_good a k c = tt

pub maybe_cast_good : (b : Option Specifiers) (k : List Form) → HoldsExpression k 13 → IsGood (elim b [ None ↦ Refused | Some type ↦ cast_words type k ])
maybe_cast_good None k c = tt
maybe_cast_good (Some type) k c = cast_words_good type k c

pub operand_good : (k : List Form) (y : Symbol) (a : Span) → HoldsExpression k 13 → IsGood (operand k y a)
operand_good k (s.Name number) a c = (tt, c)
operand_good k (s.Number number) a c = (tt, c)
operand_good k s.LeftParenthesis a c = c
operand_good k s.Minus a c = (omega arith, looser k c)
operand_good k s.Tilde a c = (omega arith, looser k c)
operand_good k s.Exclamation a c = (omega arith, looser k c)
operand_good k s.Star a c = (omega arith, looser k c)
operand_good k s.Ampersand a c = (omega arith, looser k c)
operand_good k s.Struct a c = cast_tag_good a k c
operand_good k s.PortOne a c = read_pending_good a k c
operand_good k y a c = maybe_cast_good (first_word y a) k c

pub member_name_good : (e : Expr) (operator : MemberOperator) (i : Span) (k : List Form) (y : Symbol) (a : Span) → HasLevel e 13 × HoldsExpression k 13
    → IsGood (member_name e operator i k y a)
member_name_good e operator i k (s.Name number) a c = c
member_name_good e operator i k y a c = tt

pub tag_of_cast_good : (left word : Span) (k : List Form) (y : Symbol) (a : Span) → HoldsExpression k 13 → IsGood (tag_of_cast left word k y a)
tag_of_cast_good left word k (s.Name number) a c = c
tag_of_cast_good left word k y a c = tt

pub more_cast_good : (b : Option Specifiers) (left : Span) (k : List Form) → HoldsExpression k 13 → IsGood (elim b [ None ↦ Refused | Some longer ↦ CastWords left longer k ])
more_cast_good None left k c = tt
more_cast_good (Some type) left k c = c

pub in_cast_good : (left : Span) (type : Specifiers) (k : List Form) (y : Symbol) (a : Span) → HoldsExpression k 13 → IsGood (in_cast left type k y a)
in_cast_good left type k s.RightParenthesis a c = (omega arith, looser k c)
in_cast_good left type k y a c = more_cast_good (next_word type y a) left k c

pub not_target : (k : List Form) (n : ℕ) → is_target k ≡ false → HoldsOperand k n → HoldsExpression k n
not_target (InTarget place ∷ k) n h c = cc
not_target k n h c = c

pub as_postfix : (k : List Form) → HoldsOperand k 13 → HoldsExpression k 13
as_postfix (InTarget place ∷ k) c = (omega arith, c.0, c.1)
as_postfix k c = c

pub infix_good : (b : Bool) (operator : BinaryOperator) (a : Span) (e : Expr) (k : List Form) → is_target k ≡ b → HasLevel e (level operator) → HoldsOperand k (level operator)
    → IsGood (cond b Refused (Operand (InBinary e operator a ∷ k)))
infix_good true operator a e k h w c = tt
infix_good false operator a e k h w c = (w, omega (arith, level_high operator), not_target k (level operator) h c)

-- ---- a token after an operand

pub close_parenthesis_good : (a : Span) (e : Expr) (k : List Form) → HasLevel e 1 → HoldsOperand k 1 → IsGood (close_parenthesis a e k)
close_parenthesis_good a e (InParenthesis left ∷ k) w c = (w, c)
close_parenthesis_good a e (InIfTest word left ∷ k) w c = (w, c)
close_parenthesis_good a e (InWhileTest word left ∷ k) w c = (w, c)
close_parenthesis_good a e (InDoTest word x while' left ∷ k) w c = ((c.0, w), c.1)
close_parenthesis_good a e (InArguments g f left earlier ∷ k) w c = ((c.0, w), c.1)
close_parenthesis_good a e (InValue (AsStep middle) target equals ∷ k) w c = ((c.1.0, c.1.1, (c.0, w)), c.2)
close_parenthesis_good a e k w c = tt

pub close_bracket_good : (a : Span) (e : Expr) (k : List Form) → HasLevel e 1 → HoldsOperand k 1 → IsGood (close_bracket a e k)
close_bracket_good a e (InIndex base left ∷ k) w c = ((c.0, w), c.1)
close_bracket_good a e k w c = tt

pub next_argument_good : (a : Span) (e : Expr) (k : List Form) → HasLevel e 1 → HoldsOperand k 1 → IsGood (next_argument a e k)
next_argument_good a e (InArguments g f left earlier ∷ k) w c = (All-push (λ x. IsExpression x.value) earlier _ c.0 w, c.1)
next_argument_good a e k w c = tt

pub end_expression_good : (a : Span) (e : Expr) (k : List Form) → HasLevel e 1 → HoldsOperand k 1 → IsGood (end_expression a e k)
end_expression_good a e (InValue AsStatement target equals ∷ k) w c = finish_good (Assign _ a) k (c.0, w) tt c.2
end_expression_good a e (InValue (AsFirst word left) target equals ∷ k) w c = ((c.0, w), c.2)
end_expression_good a e (InPortValue port equals ∷ k) w c = finish_good (WritePort port equals e a) k w tt c
end_expression_good a e (InCondition start ∷ k) w c = ((c.0, w), c.1)
end_expression_good a e (InReturn word ∷ k) w c = finish_good (Return word (Some e) a) k w tt c
end_expression_good a e (InLocalValue front x equals ∷ k) w c = All-push IsLocal front.locals _ c w
end_expression_good a e k w c = tt

pub begin_value_good : (a : Span) (e : Expr) (k : List Form) → HasLevel e 12 → HoldsOperand k 12 → IsGood (begin_value a e k)
begin_value_good a e (InTarget place ∷ k) w c = (w, c.0, c.1)
begin_value_good a e k w c = tt

pub begin_call_good : (f : Option Name) (a : Span) (k : List Form) → HoldsStatement k → IsGood (begin_call f a k)
begin_call_good None a k c = tt
begin_call_good (Some f) a k c = c

pub begin_call_to_good : (g f : Option Name) (equals a : Span) (k : List Form) → HoldsStatement k → IsGood (begin_call_to g f equals a k)
begin_call_to_good None f equals a k c = tt
begin_call_to_good (Some g) None equals a k c = tt
begin_call_to_good (Some g) (Some f) equals a k c = c

pub call_good : (a : Span) (e : Expr) (k : List Form) → HoldsOperand k 13 → IsGood (call_at a e k)
call_good a e (InTarget AsStatement ∷ k) c = begin_call_good _ a k c.1
call_good a e (InValue AsStatement target equals ∷ k) c = begin_call_to_good _ _ equals a k c.2
call_good a e k c = tt

pub mark_good : (y : Symbol) (a : Span) (e : Expr) (k : List Form) → HasLevel e (mark_level y) → HoldsOperand k (mark_level y) → IsGood (mark y a e k)
mark_good s.RightParenthesis a e k w c = close_parenthesis_good a e k w c
mark_good s.RightBracket a e k w c = close_bracket_good a e k w c
mark_good s.Comma a e k w c = next_argument_good a e k w c
mark_good s.Semicolon a e k w c = end_expression_good a e k w c
mark_good s.Assign a e k w c = begin_value_good a e k w c
mark_good s.LeftParenthesis a e k w c = call_good a e k c
mark_good s.LeftBracket a e k w c = (w, as_postfix k c)
mark_good s.Dot a e k w c = (w, as_postfix k c)
mark_good s.Arrow a e k w c = (w, as_postfix k c)
mark_good y a e k w c = tt

pub act_by_good : (b : Option BinaryOperator) (y : Symbol) (a : Span) (e : Expr) (k : List Form)
    → HasLevel e (elim b [ None ↦ mark_level y | Some operator ↦ level operator ])
    → HoldsOperand k (elim b [ None ↦ mark_level y | Some operator ↦ level operator ])
    → IsGood (elim b [ None ↦ mark y a e k | Some operator ↦ infix_at operator a e k ])
act_by_good None y a e k w c = mark_good y a e k w c
act_by_good (Some operator) y a e k w c = infix_good (is_target k) operator a e k refl w c

pub mark_low : (y : Symbol) → 1 ≤ mark_level y
mark_low s.Assign = omega arith
mark_low y = omega arith

pub mark_high : (y : Symbol) → mark_level y ≤ 13
mark_high s.Assign = omega arith
mark_high y = omega arith

pub by_low : (b : Option BinaryOperator) (y : Symbol) → 1 ≤ elim b [ None ↦ mark_level y | Some operator ↦ level operator ]
by_low None y = mark_low y
by_low (Some operator) y = omega (arith, level_low operator)

pub by_high : (b : Option BinaryOperator) (y : Symbol) → elim b [ None ↦ mark_level y | Some operator ↦ level operator ] ≤ 13
by_high None y = mark_high y
by_high (Some operator) y = omega (arith, level_high operator)

pub after_good : (y : Symbol) (a : Span) (e : Expr) (k : List Form) → HasLevel e 13 → HoldsExpression k 13 → IsGood (act y a (settle (binds y) k e))
after_good y a e k w c =
    let x = settle_fits (binds y) k e (by_low (binary_of y) y) 13 (by_high (binary_of y) y) w c in
    act_by_good (binary_of y) y a (settle (binds y) k e).operand (settle (binds y) k e).forms x.0 x.1
