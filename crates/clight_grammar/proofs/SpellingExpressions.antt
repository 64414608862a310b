-- What the machine has read inside an expression is what its open forms and its mode spell.
use Rattle.std.proofs.Common.{◌≡◌, ℕ, ◌≤◌, Bool, true, false, cond, List, [], ◌∷◌, ◌++◌, refl, sym, ap, subst, ◌∙◌, append_assoc, append-nil, arith}
use Rattle.std.specs.Prelude.{nat_le, Option, Some, None, flat_map}
use Rattle.std.proofs.lemmas.Bool.Decides.{nat_tests}
use Rattle.std.proofs.lemmas.Grind.{flat_map-append}
use Rattle.clight_source.specs.declared.span.Span.{Span}
use Rattle.clight_source.specs.declared.symbol.Symbol.{Symbol}
use Rattle.clight_source.specs.declared.symbol.Symbol.TheVariants as s
use Rattle.clight_source.specs.declared.symbol.Terminal.{Terminal}
use Rattle.clight_source.specs.declared.tree.Name.{Name}
use Rattle.clight_source.specs.declared.tree.BinaryOperator.{BinaryOperator}
use Rattle.clight_source.specs.declared.tree.BinaryOperator.TheVariants as o
use Rattle.clight_source.specs.declared.tree.MemberOperator.{MemberOperator}
use Rattle.clight_source.specs.declared.tree.Specifiers.{Specifiers}
use Rattle.clight_source.specs.declared.tree.Specifiers.TheVariants as t
use Rattle.clight_source.specs.Trees.{Expr, Variable, Binary, Prefix, Cast, Assignment, Stmt, Assign, WritePort, If, IfElse, While, For, Return, Local}
use Rattle.clight_source.specs.Spelling.{terminal, name_terminal, binary_symbol, prefix_symbol, member_symbol, type_terminals, expr_terminals, assignment_terminals, optional, test_terminals, earlier_argument_terminals, target_terminals, for_terminals, stmt_terminals, stmts_terminals, declaration_terminals, header_terminals, local_terminals, level}
use Rattle.clight_nodes.specs.Code.Expressions.{first_word, with_char, with_int, with_long, next_word, binary_of, binds, mark_level}
use Rattle.clight_grammar.specs.Code.Parts.{make_head, with_local, ForMiddle, FunctionFront}
use Rattle.clight_grammar.specs.Code.Forms.{AsStatement, AsFirst, AsStep, Form, InBinary, InPrefix, InCast, InParenthesis, InIndex, InTarget, InValue, InPortValue, InArguments, InIfTest, InWhileTest, InDoTest, InCondition, InReturn, InLocalValue, InIf, InElse, InWhile, InDo, InFor, InBlock, InLocals, InBody, Mode, Operand, CastWords, Refused}
use Rattle.clight_grammar.specs.Code.Expressions.{close, settle, Settled, settled, strength, is_target, infix_at, cast_words, cast_tag, read_pending, operand, member_name, tag_of_cast, in_cast}
use Rattle.clight_grammar.specs.Code.Statements.{finish, flush, close_parenthesis, close_bracket, next_argument, end_expression, begin_value, call_at, mark, act}
use Rattle.clight_grammar.specs.Code.Declarations.{longer}
use Rattle.clight_grammar.proofs.OpenForms.{start_terminals, middle_terminals, place_terminals, front_terminals, spell, HasRead}

pub along : (m : Mode) (l r : List Terminal) → l ≡ r → HasRead m l → HasRead m r
along m l r e h = subst (λ z. HasRead m z) e h

pub flat_map-push : {X : Type 0} (f : X → List Terminal) (xs : List X) (x : X) → flat_map f (xs ++ x ∷ []) ≡ flat_map f xs ++ f x
flat_map-push f xs x = flat_map-append f xs (x ∷ []) ∙ ap (λ l. flat_map f xs ++ l) (append-nil (f x))

-- ---- open operators

pub either : {X : Type 0} (P : X → Type 0) (b : Bool) (x y : X) → P x → P y → P (cond b x y)
either P true x y p q = p
either P false x y p q = q

pub zero_stops : (n : ℕ) → 1 ≤ n → nat_le n 0 ≡ false
zero_stops n h = grind (arith, nat_tests)

abbrev pub Same : List Form → Expr → Settled → Type 0
Same k e x = spell x.forms ++ expr_terminals x.operand ≡ spell k ++ expr_terminals e

pub closes : (n : ℕ) (f : Form) (k : List Form) (e g : Expr) (b : Bool) → spell k ++ expr_terminals g ≡ spell (f ∷ k) ++ expr_terminals e → Same k g (settle n k g)
    → Same (f ∷ k) e (cond b (settle n k g) (settled e (f ∷ k)))
closes n f k e g b h r = either (Same (f ∷ k) e) b (settle n k g) (settled e (f ∷ k)) (r ∙ h) refl

pub binary_shape : (k l e : List Terminal) (o : Terminal) → k ++ (l ++ (o ∷ e)) ≡ (k ++ (l ++ o ∷ [])) ++ e
binary_shape k l e o = simp append_assoc

pub cast_shape : (k t e : List Terminal) (o c : Terminal) → k ++ (o ∷ (t ++ (c ∷ e))) ≡ (k ++ (o ∷ (t ++ c ∷ []))) ++ e
cast_shape k t e o c = simp append_assoc

pub stays : (n : ℕ) (f : Form) (k : List Form) (e : Expr) → nat_le n (strength f) ≡ false
    → Same (f ∷ k) e (cond (nat_le n (strength f)) (settle n k (close f e)) (settled e (f ∷ k)))
stays n f k e h = rw h refl

pub settle_same : (n : ℕ) (k : List Form) (e : Expr) → 1 ≤ n → Same k e (settle n k e)
settle_same n [] e h = refl
settle_same n (InBinary l operator a ∷ k) e h =
    closes n (InBinary l operator a) k e (Binary l operator a e) (nat_le n (level operator))
    (binary_shape (spell k) (expr_terminals l) (expr_terminals e) (terminal (binary_symbol operator) a)) (settle_same n k (Binary l operator a e) h)
settle_same n (InPrefix operator a ∷ k) e h =
    closes n (InPrefix operator a) k e (Prefix operator a e) (nat_le n 12)
    (sym (append_assoc (spell k) (terminal (prefix_symbol operator) a ∷ []) (expr_terminals e))) (settle_same n k (Prefix operator a e) h)
settle_same n (InCast left type right ∷ k) e h =
    closes n (InCast left type right) k e (Cast left type right e) (nat_le n 12)
    (cast_shape (spell k) (type_terminals type) (expr_terminals e) (terminal s.LeftParenthesis left) (terminal s.RightParenthesis right)) (settle_same n k (Cast left type right e) h)
settle_same n (f ∷ k) e h = stays n f k e (zero_stops n h)

-- ---- statements

pub else_shape : (k h y : List Terminal) (a : Terminal) (x : List Terminal) → k ++ (h ++ (y ++ (a ∷ x))) ≡ (k ++ (h ++ (y ++ a ∷ []))) ++ x
else_shape k h y a x = simp append_assoc

pub flush_read : (x : Stmt) (k : List Form) → HasRead (flush x k) (spell k ++ stmt_terminals x)
flush_read x [] = tt
flush_read x (InWhile t ∷ k) = along (flush (While t x) k) _ _ (sym (append_assoc (spell k) (test_terminals s.While t) (stmt_terminals x))) (flush_read (While t x) k)
flush_read x (InFor head ∷ k) = along (flush (For head x) k) _ _ (sym (append_assoc (spell k) (for_terminals head) (stmt_terminals x))) (flush_read (For head x) k)
flush_read x (InElse t y a ∷ k) =
    along (flush (IfElse t y a x) k) _ _ (else_shape (spell k) (test_terminals s.If t) (stmt_terminals y) (terminal s.Else a) (stmt_terminals x)) (flush_read (IfElse t y a x) k)
flush_read x (InIf t ∷ k) = along (flush (If t x) k) _ _ (sym (append_assoc (spell k) (test_terminals s.If t) (stmt_terminals x))) (flush_read (If t x) k)
flush_read x (InDo word ∷ k) = sym (append_assoc (spell k) (terminal s.Do word ∷ []) (stmt_terminals x))
flush_read x (InBlock left xs ∷ k) = sym (append_assoc (spell k) (terminal s.LeftBrace left ∷ stmts_terminals xs) (stmt_terminals x))
flush_read x (InLocals front ∷ k) = refl
flush_read x (InBody front xs ∷ k) = sym (append_assoc (front_terminals front) (stmts_terminals xs) (stmt_terminals x))
flush_read x (f ∷ k) = tt

pub finish_read : (x : Stmt) (k : List Form) → HasRead (finish x k) (spell k ++ stmt_terminals x)
finish_read x [] = tt
finish_read x (InWhile t ∷ k) = along (finish (While t x) k) _ _ (sym (append_assoc (spell k) (test_terminals s.While t) (stmt_terminals x))) (finish_read (While t x) k)
finish_read x (InFor head ∷ k) = along (finish (For head x) k) _ _ (sym (append_assoc (spell k) (for_terminals head) (stmt_terminals x))) (finish_read (For head x) k)
finish_read x (InElse t y a ∷ k) =
    along (finish (IfElse t y a x) k) _ _ (else_shape (spell k) (test_terminals s.If t) (stmt_terminals y) (terminal s.Else a) (stmt_terminals x)) (finish_read (IfElse t y a x) k)
finish_read x (InIf t ∷ k) = refl
finish_read x (InDo word ∷ k) = sym (append_assoc (spell k) (terminal s.Do word ∷ []) (stmt_terminals x))
finish_read x (InBlock left xs ∷ k) = sym (append_assoc (spell k) (terminal s.LeftBrace left ∷ stmts_terminals xs) (stmt_terminals x))
finish_read x (InLocals front ∷ k) = refl
finish_read x (InBody front xs ∷ k) = sym (append_assoc (front_terminals front) (stmts_terminals xs) (stmt_terminals x))
finish_read x (f ∷ k) = tt

pub finished : (x : Stmt) (k : List Form) (l : List Terminal) → spell k ++ stmt_terminals x ≡ l → HasRead (finish x k) l
finished x k l h = along (finish x k) _ _ h (finish_read x k)

-- ---- the words of a type

-- the words of a type, or the list where there is no type
abbrev pub words_or : Option Specifiers → List Terminal → List Terminal
words_or None l = l
words_or (Some type) l = type_terminals type

pub first_word_is : (y : Symbol) (a : Span) → words_or (first_word y a) (terminal y a ∷ []) ≡ terminal y a ∷ []
first_word_is s.Void a = refl
first_word_is y a = refl

pub with_char_is : (type : Specifiers) (a : Span) → words_or (with_char type a) (type_terminals type ++ terminal s.Char a ∷ []) ≡ type_terminals type ++ terminal s.Char a ∷ []
with_char_is (t.Signed b) a = refl
with_char_is type a = refl

pub with_int_is : (type : Specifiers) (a : Span) → words_or (with_int type a) (type_terminals type ++ terminal s.Int a ∷ []) ≡ type_terminals type ++ terminal s.Int a ∷ []
with_int_is (t.Signed b) a = refl
with_int_is type a = refl

pub with_long_is : (type : Specifiers) (a : Span) → words_or (with_long type a) (type_terminals type ++ terminal s.Long a ∷ []) ≡ type_terminals type ++ terminal s.Long a ∷ []
with_long_is (t.Signed b) a = refl
with_long_is type a = refl

pub next_word_is : (type : Specifiers) (y : Symbol) (a : Span) → words_or (next_word type y a) (type_terminals type ++ terminal y a ∷ []) ≡ type_terminals type ++ terminal y a ∷ []
next_word_is type s.Char a = with_char_is type a
next_word_is type s.Int a = with_int_is type a
next_word_is type s.Long a = with_long_is type a
next_word_is type y a = refl

-- ---- a token where an operand is due

pub cast_words_read : (type : Specifiers) (x : Terminal) (k : List Form) → type_terminals type ≡ x ∷ [] → HasRead (cast_words type k) (spell k ++ x ∷ [])
cast_words_read type x (InParenthesis left ∷ k) h =
    ap (λ l. spell k ++ (terminal s.LeftParenthesis left ∷ l)) h ∙ sym (append_assoc (spell k) (terminal s.LeftParenthesis left ∷ []) (x ∷ []))
cast_words_read type x k h = tt

pub cast_tag_read : (a : Span) (k : List Form) → HasRead (cast_tag a k) (spell k ++ terminal s.Struct a ∷ [])
cast_tag_read a (InParenthesis left ∷ k) = sym (append_assoc (spell k) (terminal s.LeftParenthesis left ∷ []) (terminal s.Struct a ∷ []))
cast_tag_read a k = tt

pub pair_shape : (k e : List Terminal) (q p : Terminal) → k ++ (e ++ (q ∷ (p ∷ []))) ≡ (k ++ (e ++ q ∷ [])) ++ p ∷ []
pair_shape k e q p = simp append_assoc

pub read_pending_read : (a : Span) (k : List Form) → HasRead (read_pending a k) (spell k ++ terminal s.PortOne a ∷ [])
read_pending_read a (InValue AsStatement target equals ∷ k) = pair_shape (spell k) (expr_terminals target) (terminal s.Assign equals) (terminal s.PortOne a)
read_pending_read a k = tt

pub maybe_cast_read : (b : Option Specifiers) (x : Terminal) (k : List Form) → words_or b (x ∷ []) ≡ x ∷ []
    → HasRead (elim b [ None ↦ Refused | Some type ↦ cast_words type k ]) (spell k ++ x ∷ [])
maybe_cast_read None x k h = tt
maybe_cast_read (Some type) x k h = cast_words_read type x k h

pub operand_read : (k : List Form) (y : Symbol) (a : Span) → HasRead (operand k y a) (spell k ++ terminal y a ∷ [])
operand_read k (s.Name number) a = refl
operand_read k (s.Number number) a = refl
operand_read k s.LeftParenthesis a = refl
operand_read k s.Minus a = refl
operand_read k s.Tilde a = refl
operand_read k s.Exclamation a = refl
operand_read k s.Star a = refl
operand_read k s.Ampersand a = refl
operand_read k s.Struct a = cast_tag_read a k
operand_read k s.PortOne a = read_pending_read a k
operand_read k y a = maybe_cast_read (first_word y a) (terminal y a) k (first_word_is y a)

pub member_name_read : (e : Expr) (operator : MemberOperator) (i : Span) (k : List Form) (y : Symbol) (a : Span)
    → HasRead (member_name e operator i k y a) ((spell k ++ (expr_terminals e ++ terminal (member_symbol operator) i ∷ [])) ++ terminal y a ∷ [])
member_name_read e operator i k (s.Name number) a = pair_shape (spell k) (expr_terminals e) (terminal (member_symbol operator) i) (terminal (s.Name number) a)
member_name_read e operator i k y a = tt

pub tag_of_cast_read : (left word : Span) (k : List Form) (y : Symbol) (a : Span)
    → HasRead (tag_of_cast left word k y a) ((spell k ++ (terminal s.LeftParenthesis left ∷ (terminal s.Struct word ∷ []))) ++ terminal y a ∷ [])
tag_of_cast_read left word k (s.Name number) a = sym (append_assoc (spell k) (terminal s.LeftParenthesis left ∷ (terminal s.Struct word ∷ [])) (terminal (s.Name number) a ∷ []))
tag_of_cast_read left word k y a = tt

pub inner_shape : (k x : List Terminal) (o m : Terminal) → k ++ (o ∷ (x ++ m ∷ [])) ≡ (k ++ (o ∷ x)) ++ m ∷ []
inner_shape k x o m = simp append_assoc

pub more_cast_read : (b : Option Specifiers) (left : Span) (type : Specifiers) (k : List Form) (x : Terminal) → words_or b (type_terminals type ++ x ∷ []) ≡ type_terminals type ++ x ∷ []
    → HasRead (elim b [ None ↦ Refused | Some longer ↦ CastWords left longer k ]) ((spell k ++ (terminal s.LeftParenthesis left ∷ type_terminals type)) ++ x ∷ [])
more_cast_read None left type k x h = tt
more_cast_read (Some more) left type k x h = ap (λ l. spell k ++ (terminal s.LeftParenthesis left ∷ l)) h ∙ inner_shape (spell k) (type_terminals type) (terminal s.LeftParenthesis left) x

pub in_cast_read : (left : Span) (type : Specifiers) (k : List Form) (y : Symbol) (a : Span)
    → HasRead (in_cast left type k y a) ((spell k ++ (terminal s.LeftParenthesis left ∷ type_terminals type)) ++ terminal y a ∷ [])
in_cast_read left type k s.RightParenthesis a = inner_shape (spell k) (type_terminals type) (terminal s.LeftParenthesis left) (terminal s.RightParenthesis a)
in_cast_read left type k y a = more_cast_read (next_word type y a) left type k (terminal y a) (next_word_is type y a)

-- ---- a token after an operand

pub after_shape : (k x : List Terminal) (m : Terminal) → k ++ (x ++ m ∷ []) ≡ (k ++ x) ++ m ∷ []
after_shape k x m = simp append_assoc

pub one_shape : (k : List Terminal) (o : Terminal) (x : List Terminal) (m : Terminal) → k ++ (o ∷ (x ++ m ∷ [])) ≡ ((k ++ o ∷ []) ++ x) ++ m ∷ []
one_shape k o x m = simp append_assoc

pub two_shape : (k : List Terminal) (i o : Terminal) (x : List Terminal) (m : Terminal) → k ++ (i ∷ (o ∷ (x ++ m ∷ []))) ≡ ((k ++ (i ∷ (o ∷ []))) ++ x) ++ m ∷ []
two_shape k i o x m = simp append_assoc

pub do_shape : (k x e : List Terminal) (d w o c : Terminal) → k ++ (d ∷ (x ++ (w ∷ (o ∷ (e ++ c ∷ []))))) ≡ ((k ++ (d ∷ (x ++ (w ∷ (o ∷ []))))) ++ e) ++ c ∷ []
do_shape k x e d w o c = simp append_assoc

pub call_shape : (k g : List Terminal) (i o : Terminal) (y x : List Terminal) (m : Terminal) → k ++ (g ++ (i ∷ (o ∷ ((y ++ x) ++ m ∷ [])))) ≡ ((k ++ (g ++ (i ∷ (o ∷ y)))) ++ x) ++ m ∷ []
call_shape k g i o y x m = simp append_assoc

pub argument_shape : (k g : List Terminal) (i o : Terminal) (y x : List Terminal) (m : Terminal) → k ++ (g ++ (i ∷ (o ∷ (y ++ (x ++ m ∷ []))))) ≡ ((k ++ (g ++ (i ∷ (o ∷ y)))) ++ x) ++ m ∷ []
argument_shape k g i o y x m = simp append_assoc

pub head_shape : (w o : Terminal) (f : List Terminal) (m : Terminal) (c : List Terminal) (n : Terminal) (p : List Terminal)
    → w ∷ (o ∷ (f ++ (m ∷ (c ++ (n ∷ p))))) ≡ ((w ∷ (o ∷ (f ++ m ∷ []))) ++ (c ++ n ∷ [])) ++ p
head_shape w o f m c n p = simp append_assoc

-- a head goes on from its middle
pub head_is : (x : ForMiddle) (step : Option Assignment) (a : Span) → for_terminals (make_head x step a) ≡ middle_terminals x ++ (optional assignment_terminals step ++ terminal s.RightParenthesis a ∷ [])
head_is x step a =
    head_shape (terminal s.For x.start.keyword) (terminal s.LeftParenthesis x.start.left) (optional assignment_terminals x.start.first) (terminal s.Semicolon x.start.semicolon)
    (optional expr_terminals x.condition) (terminal s.Semicolon x.semicolon) (optional assignment_terminals step ++ terminal s.RightParenthesis a ∷ [])

pub step_shape : (k m t e : List Terminal) (q c : Terminal) → k ++ (m ++ ((t ++ (q ∷ e)) ++ c ∷ [])) ≡ ((k ++ (m ++ (t ++ q ∷ []))) ++ e) ++ c ∷ []
step_shape k m t e q c = simp append_assoc

pub close_parenthesis_read : (a : Span) (e : Expr) (k : List Form) → HasRead (close_parenthesis a e k) ((spell k ++ expr_terminals e) ++ terminal s.RightParenthesis a ∷ [])
close_parenthesis_read a e (InParenthesis left ∷ k) = one_shape (spell k) (terminal s.LeftParenthesis left) (expr_terminals e) (terminal s.RightParenthesis a)
close_parenthesis_read a e (InIfTest word left ∷ k) = two_shape (spell k) (terminal s.If word) (terminal s.LeftParenthesis left) (expr_terminals e) (terminal s.RightParenthesis a)
close_parenthesis_read a e (InWhileTest word left ∷ k) = two_shape (spell k) (terminal s.While word) (terminal s.LeftParenthesis left) (expr_terminals e) (terminal s.RightParenthesis a)
close_parenthesis_read a e (InDoTest word x while' left ∷ k) =
    do_shape (spell k) (stmt_terminals x) (expr_terminals e) (terminal s.Do word) (terminal s.While while') (terminal s.LeftParenthesis left) (terminal s.RightParenthesis a)
close_parenthesis_read a e (InArguments g f left earlier ∷ k) =
    call_shape (spell k) (optional target_terminals g) (name_terminal f) (terminal s.LeftParenthesis left) (flat_map earlier_argument_terminals earlier) (expr_terminals e) (terminal s.RightParenthesis a)
close_parenthesis_read a e (InValue (AsStep middle) target equals ∷ k) =
    ap (λ l. spell k ++ l) (head_is middle (Some (record { target = target; equals = equals; value = e })) a)
    ∙ step_shape (spell k) (middle_terminals middle) (expr_terminals target) (expr_terminals e) (terminal s.Assign equals) (terminal s.RightParenthesis a)
close_parenthesis_read a e k = tt

pub index_shape : (k b : List Terminal) (o : Terminal) (x : List Terminal) (m : Terminal) → k ++ (b ++ (o ∷ (x ++ m ∷ []))) ≡ ((k ++ (b ++ o ∷ [])) ++ x) ++ m ∷ []
index_shape k b o x m = simp append_assoc

pub close_bracket_read : (a : Span) (e : Expr) (k : List Form) → HasRead (close_bracket a e k) ((spell k ++ expr_terminals e) ++ terminal s.RightBracket a ∷ [])
close_bracket_read a e (InIndex base left ∷ k) = index_shape (spell k) (expr_terminals base) (terminal s.LeftBracket left) (expr_terminals e) (terminal s.RightBracket a)
close_bracket_read a e k = tt

pub next_argument_read : (a : Span) (e : Expr) (k : List Form) → HasRead (next_argument a e k) ((spell k ++ expr_terminals e) ++ terminal s.Comma a ∷ [])
next_argument_read a e (InArguments g f left earlier ∷ k) =
    ap (λ l. spell k ++ (optional target_terminals g ++ (name_terminal f ∷ (terminal s.LeftParenthesis left ∷ l))))
    (flat_map-push earlier_argument_terminals earlier (record { value = e; comma = a }))
    ∙ argument_shape (spell k) (optional target_terminals g) (name_terminal f) (terminal s.LeftParenthesis left) (flat_map earlier_argument_terminals earlier) (expr_terminals e) (terminal s.Comma a)
next_argument_read a e k = tt

pub assign_shape : (k t e : List Terminal) (q c : Terminal) → k ++ ((t ++ (q ∷ e)) ++ c ∷ []) ≡ ((k ++ (t ++ q ∷ [])) ++ e) ++ c ∷ []
assign_shape k t e q c = simp append_assoc

pub first_shape : (k t e : List Terminal) (w o q c : Terminal) → k ++ (w ∷ (o ∷ ((t ++ (q ∷ e)) ++ c ∷ []))) ≡ ((k ++ (w ∷ (o ∷ (t ++ q ∷ [])))) ++ e) ++ c ∷ []
first_shape k t e w o q c = simp append_assoc

pub condition_shape : (k x e : List Terminal) (m : Terminal) → k ++ (x ++ (e ++ m ∷ [])) ≡ ((k ++ x) ++ e) ++ m ∷ []
condition_shape k x e m = simp append_assoc

-- a local more
pub front_push : (x : FunctionFront) (y : Local) → front_terminals (with_local x y) ≡ front_terminals x ++ local_terminals y
front_push x y =
    ap (λ l. header_terminals x.header ++ (terminal s.LeftBrace x.left ∷ l)) (flat_map-push local_terminals x.locals y)
    ∙ sym (append_assoc (header_terminals x.header) (terminal s.LeftBrace x.left ∷ flat_map local_terminals x.locals) (local_terminals y))

pub end_expression_read : (a : Span) (e : Expr) (k : List Form) → HasRead (end_expression a e k) ((spell k ++ expr_terminals e) ++ terminal s.Semicolon a ∷ [])
end_expression_read a e (InValue AsStatement target equals ∷ k) =
    finished (Assign (record { target = target; equals = equals; value = e }) a) k _
    (assign_shape (spell k) (expr_terminals target) (expr_terminals e) (terminal s.Assign equals) (terminal s.Semicolon a))
end_expression_read a e (InValue (AsFirst word left) target equals ∷ k) =
    first_shape (spell k) (expr_terminals target) (expr_terminals e) (terminal s.For word) (terminal s.LeftParenthesis left) (terminal s.Assign equals) (terminal s.Semicolon a)
end_expression_read a e (InPortValue port equals ∷ k) =
    finished (WritePort port equals e a) k _ (two_shape (spell k) (terminal s.PortOne port) (terminal s.Assign equals) (expr_terminals e) (terminal s.Semicolon a))
end_expression_read a e (InCondition start ∷ k) = condition_shape (spell k) (start_terminals start) (expr_terminals e) (terminal s.Semicolon a)
end_expression_read a e (InReturn word ∷ k) = finished (Return word (Some e) a) k _ (one_shape (spell k) (terminal s.Return word) (expr_terminals e) (terminal s.Semicolon a))
end_expression_read a e (InLocalValue front x equals ∷ k) =
    front_push front _ ∙ index_shape (front_terminals front) (declaration_terminals x) (terminal s.Assign equals) (expr_terminals e) (terminal s.Semicolon a)
end_expression_read a e k = tt

pub begin_value_read : (a : Span) (e : Expr) (k : List Form) → HasRead (begin_value a e k) ((spell k ++ expr_terminals e) ++ terminal s.Assign a ∷ [])
begin_value_read a e (InTarget place ∷ k) = condition_shape (spell k) (place_terminals place) (expr_terminals e) (terminal s.Assign a)
begin_value_read a e k = tt

pub call_target_shape : (k : List Terminal) (n o : Terminal) → k ++ (n ∷ (o ∷ [])) ≡ ((k ++ []) ++ n ∷ []) ++ o ∷ []
call_target_shape k n o = simp (append-nil, append_assoc)

pub call_to_shape : (k : List Terminal) (x q n o : Terminal) → k ++ (x ∷ (q ∷ (n ∷ (o ∷ [])))) ≡ ((k ++ (x ∷ (q ∷ []))) ++ n ∷ []) ++ o ∷ []
call_to_shape k x q n o = simp append_assoc

pub call_target_read : (a : Span) (e : Expr) (k : List Form) → HasRead (call_at a e (InTarget AsStatement ∷ k)) ((spell (InTarget AsStatement ∷ k) ++ expr_terminals e) ++ terminal s.LeftParenthesis a ∷ [])
call_target_read a (Variable f) k = call_target_shape (spell k) (name_terminal f) (terminal s.LeftParenthesis a)
call_target_read a e k = tt

pub call_name_read : (a : Span) (e : Expr) (g : Name) (equals : Span) (k : List Form)
    → HasRead (call_at a e (InValue AsStatement (Variable g) equals ∷ k)) ((spell (InValue AsStatement (Variable g) equals ∷ k) ++ expr_terminals e) ++ terminal s.LeftParenthesis a ∷ [])
call_name_read a (Variable f) g equals k = call_to_shape (spell k) (name_terminal g) (terminal s.Assign equals) (name_terminal f) (terminal s.LeftParenthesis a)
call_name_read a e g equals k = tt

pub call_to_read : (a : Span) (e target : Expr) (equals : Span) (k : List Form)
    → HasRead (call_at a e (InValue AsStatement target equals ∷ k)) ((spell (InValue AsStatement target equals ∷ k) ++ expr_terminals e) ++ terminal s.LeftParenthesis a ∷ [])
call_to_read a e (Variable g) equals k = call_name_read a e g equals k
call_to_read a e target equals k = tt

pub call_read : (a : Span) (e : Expr) (k : List Form) → HasRead (call_at a e k) ((spell k ++ expr_terminals e) ++ terminal s.LeftParenthesis a ∷ [])
call_read a e (InTarget AsStatement ∷ k) = call_target_read a e k
call_read a e (InValue AsStatement target equals ∷ k) = call_to_read a e target equals k
call_read a e k = tt

pub mark_read : (y : Symbol) (a : Span) (e : Expr) (k : List Form) → HasRead (mark y a e k) ((spell k ++ expr_terminals e) ++ terminal y a ∷ [])
mark_read s.RightParenthesis a e k = close_parenthesis_read a e k
mark_read s.RightBracket a e k = close_bracket_read a e k
mark_read s.Comma a e k = next_argument_read a e k
mark_read s.Semicolon a e k = end_expression_read a e k
mark_read s.Assign a e k = begin_value_read a e k
mark_read s.LeftParenthesis a e k = call_read a e k
mark_read s.LeftBracket a e k = after_shape (spell k) (expr_terminals e) (terminal s.LeftBracket a)
mark_read s.Dot a e k = after_shape (spell k) (expr_terminals e) (terminal s.Dot a)
mark_read s.Arrow a e k = after_shape (spell k) (expr_terminals e) (terminal s.Arrow a)
mark_read y a e k = tt

-- the symbol of an operator, or the other one where there is none
abbrev pub symbol_or : Option BinaryOperator → Symbol → Symbol
symbol_or None y = y
symbol_or (Some operator) y = binary_symbol operator

pub binary_is : (y : Symbol) → symbol_or (binary_of y) y ≡ y
binary_is s.Plus = refl
binary_is y = refl

pub infix_read : (b : Bool) (operator : BinaryOperator) (a : Span) (e : Expr) (k : List Form)
    → HasRead (cond b Refused (Operand (InBinary e operator a ∷ k))) ((spell k ++ expr_terminals e) ++ terminal (binary_symbol operator) a ∷ [])
infix_read true operator a e k = tt
infix_read false operator a e k = after_shape (spell k) (expr_terminals e) (terminal (binary_symbol operator) a)

pub act_by_read : (b : Option BinaryOperator) (y : Symbol) (a : Span) (e : Expr) (k : List Form) → symbol_or b y ≡ y
    → HasRead (elim b [ None ↦ mark y a e k | Some operator ↦ infix_at operator a e k ]) ((spell k ++ expr_terminals e) ++ terminal y a ∷ [])
act_by_read None y a e k h = mark_read y a e k
act_by_read (Some operator) y a e k h =
    along (infix_at operator a e k) _ _ (ap (λ z. (spell k ++ expr_terminals e) ++ terminal z a ∷ []) h) (infix_read (is_target k) operator a e k)

pub mark_low : (y : Symbol) → 1 ≤ mark_level y
mark_low s.Assign = omega arith
mark_low y = omega arith

pub level_low : (operator : BinaryOperator) → 1 ≤ level operator
level_low o.LogicalOr = omega arith
level_low operator = omega arith

pub by_low : (b : Option BinaryOperator) (y : Symbol) → 1 ≤ elim b [ None ↦ mark_level y | Some operator ↦ level operator ]
by_low None y = mark_low y
by_low (Some operator) y = level_low operator

pub after_read : (y : Symbol) (a : Span) (e : Expr) (k : List Form) → HasRead (act y a (settle (binds y) k e)) ((spell k ++ expr_terminals e) ++ terminal y a ∷ [])
after_read y a e k =
    let x = settle (binds y) k e in
    along (act y a x) _ _ (ap (λ l. l ++ terminal y a ∷ []) (settle_same (binds y) k e (by_low (binary_of y) y)))
    (act_by_read (binary_of y) y a x.operand x.forms (binary_is y))
