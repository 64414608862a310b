-- How the recogniser reads expressions. A token after an operand first closes each open operator that binds at least as tightly
-- as the token does; so operators join to the left, and the tighter ones first (ISO/IEC 9899:1999, 6.5.1 to 6.5.14, 6.5.16).
use Rattle.std.specs.Prelude.{ℕ, Bool, true, false, cond, nat_le, List, [], ◌∷◌, Option, Some, None}
use Rattle.clight_source.specs.declared.span.Span.{Span}
use Rattle.clight_source.specs.declared.symbol.Symbol.{Symbol}
use Rattle.clight_source.specs.declared.symbol.Symbol.TheVariants as s
use Rattle.clight_source.specs.declared.tree.Name.{Name}
use Rattle.clight_source.specs.declared.tree.BinaryOperator.{BinaryOperator}
use Rattle.clight_source.specs.declared.tree.BinaryOperator.TheVariants as o
use Rattle.clight_source.specs.declared.tree.PrefixOperator.TheVariants as p
use Rattle.clight_source.specs.declared.tree.MemberOperator.{MemberOperator}
use Rattle.clight_source.specs.declared.tree.Specifiers.{Specifiers}
use Rattle.clight_source.specs.declared.tree.Specifiers.TheVariants as t
use Rattle.clight_source.specs.Spelling.{level, unary_level, postfix_level}
use Rattle.clight_nodes.specs.declared.forms.Form.{Form}
use Rattle.clight_nodes.specs.declared.forms.Form.TheVariants as f
use Rattle.clight_nodes.specs.declared.forms.Place.TheVariants as c
use Rattle.clight_nodes.specs.declared.modes.Mode.TheVariants as m
use Rattle.clight_nodes.specs.declared.modes.StatementMode.TheVariants as b
use Rattle.clight_nodes.specs.declared.modes.Pending.TheVariants as e
use Rattle.clight_nodes.specs.declared.nodes.Node.{Node}
use Rattle.clight_nodes.specs.declared.nodes.Node.TheVariants as n
use Rattle.clight_nodes.specs.Code.States.{State, at, refused}

-- ---- the words of a type

-- the type that one word is
abbrev pub first_word : Symbol → Span → Option Specifiers
first_word s.Void a = Some (t.Void a)
first_word s.Char a = Some (t.Char a)
first_word s.Int a = Some (t.Int a)
first_word s.Signed a = Some (t.Signed a)
first_word s.Unsigned a = Some (t.Unsigned a)
first_word s.Long a = Some (t.Long a)
first_word _ a = None

abbrev pub with_char : Specifiers → Span → Option Specifiers
with_char (t.Signed a) c = Some (t.SignedChar a c)
with_char (t.Unsigned a) c = Some (t.UnsignedChar a c)
with_char _ c = None

abbrev pub with_int : Specifiers → Span → Option Specifiers
with_int (t.Signed a) c = Some (t.SignedInt a c)
with_int (t.Unsigned a) c = Some (t.UnsignedInt a c)
with_int (t.Long a) c = Some (t.LongInt a c)
with_int (t.SignedLong a d) c = Some (t.SignedLongInt a d c)
with_int (t.UnsignedLong a d) c = Some (t.UnsignedLongInt a d c)
with_int _ c = None

abbrev pub with_long : Specifiers → Span → Option Specifiers
with_long (t.Signed a) c = Some (t.SignedLong a c)
with_long (t.Unsigned a) c = Some (t.UnsignedLong a c)
with_long _ c = None

-- the type that some words and one more are
abbrev pub next_word : Specifiers → Symbol → Span → Option Specifiers
next_word type s.Char a = with_char type a
next_word type s.Int a = with_int type a
next_word type s.Long a = with_long type a
next_word type _ a = None

-- ---- open operators

-- how tightly an open form binds what comes
abbrev pub strength : Form → ℕ
strength (f.Binary operator a) = level operator
strength (f.Prefix operator a) = unary_level
strength (f.Cast left type right) = unary_level
strength _ = 0

-- an open operator after its last operand
abbrev pub close : Form → List Node → List Node
close (f.Binary operator a) z = n.Binary operator a ∷ z
close (f.Prefix operator a) z = n.Prefix operator a ∷ z
close (f.Cast left type right) z = n.Cast left type right ∷ z
close _ z = z

-- the open forms, and the nodes of what they hold
pub record Settled : Type 0 where
  pub forms : List Form
  pub nodes : List Node

abbrev pub settled : List Form → List Node → Settled
settled k z = record { forms = k; nodes = z }

-- closes the operators that bind at least as tightly as n
abbrev pub settle : ℕ → List Form → List Node → Settled
settle n [] z = settled [] z
settle n (f ∷ k) z = cond (nat_le n (strength f)) (settle n k (close f z)) (settled (f ∷ k) z)

abbrev pub binary_of : Symbol → Option BinaryOperator
binary_of s.OrOr = Some o.LogicalOr
binary_of s.AndAnd = Some o.LogicalAnd
binary_of s.Bar = Some o.BitOr
binary_of s.Caret = Some o.BitXor
binary_of s.Ampersand = Some o.BitAnd
binary_of s.EqualTo = Some o.Equal
binary_of s.NotEqualTo = Some o.NotEqual
binary_of s.Less = Some o.Less
binary_of s.Greater = Some o.Greater
binary_of s.LessOrEqual = Some o.LessOrEqual
binary_of s.GreaterOrEqual = Some o.GreaterOrEqual
binary_of s.ShiftLeft = Some o.ShiftLeft
binary_of s.ShiftRight = Some o.ShiftRight
binary_of s.Plus = Some o.Add
binary_of s.Minus = Some o.Subtract
binary_of s.Star = Some o.Multiply
binary_of s.Slash = Some o.Divide
binary_of s.Percent = Some o.Remainder
binary_of _ = None

-- the least strength of an operator that a token after an operand closes, where the token is no binary operator
abbrev pub mark_level : Symbol → ℕ
mark_level s.Assign = unary_level
mark_level s.LeftBracket = postfix_level
mark_level s.Dot = postfix_level
mark_level s.Arrow = postfix_level
mark_level s.LeftParenthesis = postfix_level
mark_level _ = 1

-- the same of any token
abbrev pub binds : Symbol → ℕ
binds y = elim (binary_of y) [ None ↦ mark_level y | Some operator ↦ level operator ]

-- whether the left side of an assignment is due, which no binary operator is in
abbrev pub is_target : List Form → Bool
is_target (f.Target place ∷ k) = true
is_target _ = false

-- a binary operator after a settled operand
abbrev pub infix_at : BinaryOperator → Span → List Form → List Node → State
infix_at operator a k z = cond (is_target k) refused (at m.Operand (f.Binary operator a ∷ k) z)

-- ---- a token where an operand is due

-- words of a type directly after `(` begin a cast
abbrev pub cast_words : Specifiers → List Form → List Node → State
cast_words type (f.Parenthesis left ∷ k) z = at (m.CastWords left type) k z
cast_words type _ z = refused

abbrev pub cast_tag : Span → List Form → List Node → State
cast_tag a (f.Parenthesis left ∷ k) z = at (m.CastTag left a) k z
cast_tag a _ z = refused

-- `P1` is the whole right side of an assignment that is a statement
abbrev pub read_pending : Span → List Form → List Node → State
read_pending a (f.Value c.AsStatement equals ∷ k) z = at (m.Statement (b.End (e.Read equals a))) k z
read_pending a _ z = refused

-- the first word of a cast
abbrev pub cast_start : List Form → List Node → Symbol → Span → State
cast_start k z y a = elim (first_word y a) [ None ↦ refused | Some type ↦ cast_words type k z ]

abbrev pub make_name : (number : ℕ) → Span → Name
make_name number span = record { number = number; span = span }

abbrev pub operand : List Form → List Node → Symbol → Span → State
operand k z (s.Name number) a = at m.AfterOperand k (n.Name (make_name number a) ∷ z)
operand k z (s.Number number) a = at m.AfterOperand k (n.Number number a ∷ z)
operand k z s.LeftParenthesis a = at m.Operand (f.Parenthesis a ∷ k) z
operand k z s.Minus a = at m.Operand (f.Prefix p.Negate a ∷ k) z
operand k z s.Tilde a = at m.Operand (f.Prefix p.Complement a ∷ k) z
operand k z s.Exclamation a = at m.Operand (f.Prefix p.Not a ∷ k) z
operand k z s.Star a = at m.Operand (f.Prefix p.Dereference a ∷ k) z
operand k z s.Ampersand a = at m.Operand (f.Prefix p.AddressOf a ∷ k) z
operand k z s.Struct a = cast_tag a k z
operand k z s.PortOne a = read_pending a k z
operand k z y a = cast_start k z y a

-- ---- other tokens inside an expression

abbrev pub member_name : MemberOperator → (at : Span) → List Form → List Node → Symbol → Span → State
member_name operator i k z (s.Name number) a = at m.AfterOperand k (n.Select operator i (make_name number a) ∷ z)
member_name operator i k z _ a = refused

abbrev pub tag_of_cast : (left keyword : Span) → List Form → List Node → Symbol → Span → State
tag_of_cast left keyword k z (s.Name number) a = at (m.CastWords left (t.Struct keyword (make_name number a))) k z
tag_of_cast left keyword k z _ a = refused

-- after the words of a cast: another word
abbrev pub cast_more : (left : Span) → Specifiers → List Form → List Node → Symbol → Span → State
cast_more left type k z y a = elim (next_word type y a) [ None ↦ refused | Some longer ↦ at (m.CastWords left longer) k z ]

-- after the words of a cast: another word, or its `)`
abbrev pub in_cast : (left : Span) → Specifiers → List Form → List Node → Symbol → Span → State
in_cast left type k z s.RightParenthesis a = at m.Operand (f.Cast left type a ∷ k) z
in_cast left type k z y a = cast_more left type k z y a
