-- The recogniser does with expressions what the machine over trees does.
use Rattle.std.proofs.Common.{◌≡◌, ℕ, Bool, true, false, cond, List, [], ◌∷◌, refl, ◌∙◌}
use Rattle.std.specs.Prelude.{nat_le, Option, Some, None}
use Rattle.clight_source.specs.declared.span.Span.{Span}
use Rattle.clight_source.specs.declared.symbol.Symbol.{Symbol}
use Rattle.clight_source.specs.declared.symbol.Symbol.TheVariants as s
use Rattle.clight_source.specs.declared.tree.BinaryOperator.{BinaryOperator}
use Rattle.clight_source.specs.declared.tree.BinaryOperator.TheVariants as o
use Rattle.clight_source.specs.declared.tree.MemberOperator.{MemberOperator}
use Rattle.clight_source.specs.declared.tree.Specifiers.{Specifiers}
use Rattle.clight_source.specs.Spelling.{level, unary_level}
use Rattle.clight_source.specs.Trees.{Expr, Binary, Prefix, Cast}
use Rattle.clight_nodes.specs.declared.nodes.Node.{Node}
use Rattle.clight_nodes.specs.declared.forms.Form.TheVariants as f
use Rattle.clight_nodes.specs.declared.modes.Mode.TheVariants as m
use Rattle.clight_nodes.specs.Code.States.{at, refused}
use Rattle.clight_nodes.specs.Code.Expressions as r
use Rattle.clight_nodes.specs.Code.Expressions.{first_word, next_word, binary_of, mark_level, binds}
use Rattle.clight_grammar.specs.Code.Forms.{AsStatement, Form, InBinary, InPrefix, InCast, InParenthesis, InTarget, InValue, Operand, CastWords, Refused}
use Rattle.clight_grammar.specs.Code.Expressions.{settle, Settled, is_target, infix_at, cast_words, cast_tag, read_pending, operand, member_name, tag_of_cast, in_cast}
use Rattle.clight_nodes.specs.Code.Postfix.{out_expr}
use Rattle.clight_grammar.specs.Code.Flat.{flat_forms, out_forms, flat_settled, flat}

-- ---- open operators

pub by_test : (items : List Node) (b : Bool) (x y : Settled) (u v : r.Settled) → flat_settled items x ≡ u → flat_settled items y ≡ v → flat_settled items (cond b x y) ≡ cond b u v
by_test items true x y u v h g = h
by_test items false x y u v h g = g

-- a token closes nothing that isn't an operator
pub settle_flat : (items : List Node) (n : ℕ) → nat_le n 0 ≡ false → (k : List Form) (e : Expr) → flat_settled items (settle n k e) ≡ r.settle n (flat_forms k) (out_expr e (out_forms items k))
settle_flat items n h [] e = refl
settle_flat items n h (InBinary l operator a ∷ k) e = by_test items (nat_le n (level operator)) _ _ _ _ (settle_flat items n h k (Binary l operator a e)) refl
settle_flat items n h (InPrefix operator a ∷ k) e = by_test items (nat_le n unary_level) _ _ _ _ (settle_flat items n h k (Prefix operator a e)) refl
settle_flat items n h (InCast left type right ∷ k) e = by_test items (nat_le n unary_level) _ _ _ _ (settle_flat items n h k (Cast left type right e)) refl
settle_flat items n h (g ∷ k) e = rw h refl

pub level_above : (operator : BinaryOperator) → nat_le (level operator) 0 ≡ false
level_above o.LogicalOr = refl
level_above operator = refl

pub mark_above : (y : Symbol) → nat_le (mark_level y) 0 ≡ false
mark_above s.Assign = refl
mark_above y = refl

pub binds_by : (b : Option BinaryOperator) (y : Symbol) → nat_le (elim b [ None ↦ mark_level y | Some operator ↦ level operator ]) 0 ≡ false
binds_by None y = mark_above y
binds_by (Some operator) y = level_above operator

pub binds_above : (y : Symbol) → nat_le (binds y) 0 ≡ false
binds_above y = binds_by (binary_of y) y

pub target_flat : (k : List Form) → r.is_target (flat_forms k) ≡ is_target k
target_flat [] = refl
target_flat (InTarget place ∷ k) = refl
target_flat (g ∷ k) = refl

pub infix_by : (items : List Node) (b : Bool) (operator : BinaryOperator) (a : Span) (e : Expr) (k : List Form)
    → flat items (cond b Refused (Operand (InBinary e operator a ∷ k))) ≡ cond b refused (at m.Operand (f.Binary operator a ∷ flat_forms k) (out_expr e (out_forms items k)))
infix_by items true operator a e k = refl
infix_by items false operator a e k = refl

pub infix_flat : (items : List Node) (operator : BinaryOperator) (a : Span) (e : Expr) (k : List Form) → flat items (infix_at operator a e k) ≡ r.infix_at operator a (flat_forms k) (out_expr e (out_forms items k))
infix_flat items operator a e k = rw (target_flat k) (infix_by items (is_target k) operator a e k)

-- ---- a token where an operand is due

pub cast_words_flat : (items : List Node) (type : Specifiers) (k : List Form) → flat items (cast_words type k) ≡ r.cast_words type (flat_forms k) (out_forms items k)
cast_words_flat items type [] = refl
cast_words_flat items type (InParenthesis left ∷ k) = refl
cast_words_flat items type (g ∷ k) = refl

pub cast_tag_flat : (items : List Node) (a : Span) (k : List Form) → flat items (cast_tag a k) ≡ r.cast_tag a (flat_forms k) (out_forms items k)
cast_tag_flat items a [] = refl
cast_tag_flat items a (InParenthesis left ∷ k) = refl
cast_tag_flat items a (g ∷ k) = refl

pub read_pending_flat : (items : List Node) (a : Span) (k : List Form) → flat items (read_pending a k) ≡ r.read_pending a (flat_forms k) (out_forms items k)
read_pending_flat items a [] = refl
read_pending_flat items a (InValue AsStatement target equals ∷ k) = refl
read_pending_flat items a (InValue place target equals ∷ k) = refl
read_pending_flat items a (g ∷ k) = refl

pub cast_start_by : (items : List Node) (b : Option Specifiers) (k : List Form)
    → flat items (elim b [ None ↦ Refused | Some type ↦ cast_words type k ]) ≡ elim b [ None ↦ refused | Some type ↦ r.cast_words type (flat_forms k) (out_forms items k) ]
cast_start_by items None k = refl
cast_start_by items (Some type) k = cast_words_flat items type k

pub operand_flat : (items : List Node) (k : List Form) (y : Symbol) (a : Span) → flat items (operand k y a) ≡ r.operand (flat_forms k) (out_forms items k) y a
operand_flat items k (s.Name number) a = refl
operand_flat items k (s.Number number) a = refl
operand_flat items k s.LeftParenthesis a = refl
operand_flat items k s.Minus a = refl
operand_flat items k s.Tilde a = refl
operand_flat items k s.Exclamation a = refl
operand_flat items k s.Star a = refl
operand_flat items k s.Ampersand a = refl
operand_flat items k s.Struct a = cast_tag_flat items a k
operand_flat items k s.PortOne a = read_pending_flat items a k
operand_flat items k y a = cast_start_by items (first_word y a) k

pub member_name_flat : (items : List Node) (e : Expr) (operator : MemberOperator) (i : Span) (k : List Form) (y : Symbol) (a : Span)
    → flat items (member_name e operator i k y a) ≡ r.member_name operator i (flat_forms k) (out_expr e (out_forms items k)) y a
member_name_flat items e operator i k (s.Name number) a = refl
member_name_flat items e operator i k y a = refl

pub tag_of_cast_flat : (items : List Node) (left word : Span) (k : List Form) (y : Symbol) (a : Span) → flat items (tag_of_cast left word k y a) ≡ r.tag_of_cast left word (flat_forms k) (out_forms items k) y a
tag_of_cast_flat items left word k (s.Name number) a = refl
tag_of_cast_flat items left word k y a = refl

pub cast_more_by : (items : List Node) (b : Option Specifiers) (left : Span) (k : List Form)
    → flat items (elim b [ None ↦ Refused | Some longer ↦ CastWords left longer k ]) ≡ elim b [ None ↦ refused | Some longer ↦ at (m.CastWords left longer) (flat_forms k) (out_forms items k) ]
cast_more_by items None left k = refl
cast_more_by items (Some longer) left k = refl

pub in_cast_flat : (items : List Node) (left : Span) (type : Specifiers) (k : List Form) (y : Symbol) (a : Span) → flat items (in_cast left type k y a) ≡ r.in_cast left type (flat_forms k) (out_forms items k) y a
in_cast_flat items left type k s.RightParenthesis a = refl
in_cast_flat items left type k y a = cast_more_by items (next_word type y a) left k
