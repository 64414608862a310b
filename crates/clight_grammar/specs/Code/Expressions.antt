-- How the machine over trees reads expressions. A token after an operand first closes each open operator that binds at least as tightly
-- as the token does; so operators join to the left, and the tighter ones first (ISO/IEC 9899:1999, 6.5.1 to 6.5.14, 6.5.16).
use Rattle.std.specs.Prelude.{ℕ, Bool, true, false, cond, nat_le, List, [], ◌∷◌, Some, None}
use Rattle.clight_source.specs.declared.span.Span.{Span}
use Rattle.clight_source.specs.declared.symbol.Symbol.{Symbol}
use Rattle.clight_source.specs.declared.symbol.Symbol.TheVariants as s
use Rattle.clight_source.specs.declared.tree.BinaryOperator.{BinaryOperator}
use Rattle.clight_source.specs.declared.tree.BinaryOperator.TheVariants as o
use Rattle.clight_source.specs.declared.tree.PrefixOperator.TheVariants as p
use Rattle.clight_source.specs.declared.tree.MemberOperator.{MemberOperator}
use Rattle.clight_source.specs.declared.tree.Specifiers.{Specifiers}
use Rattle.clight_source.specs.declared.tree.Specifiers.TheVariants as t
use Rattle.clight_source.specs.Spelling.{level, unary_level}
use Rattle.clight_nodes.specs.Code.Expressions.{make_name, first_word, next_word}
use Rattle.clight_grammar.specs.Code.Forms.{AsStatement, Form, InBinary, InPrefix, InCast, InParenthesis, InTarget, InValue, Mode, Operand, AfterOperand, CastTag, CastWords, StatementEnd, ReadPending, Refused}
use Rattle.clight_source.specs.Trees.{Expr, Variable, Number, Binary, Prefix, Cast, Select}

-- ---- open operators

-- how tightly an open form binds what comes
abbrev pub strength : Form → ℕ
strength (InBinary e operator a) = level operator
strength (InPrefix operator a) = unary_level
strength (InCast o type c) = unary_level
strength _ = 0

-- an open operator with its last operand
abbrev pub close : Form → Expr → Expr
close (InBinary l operator a) e = Binary l operator a e
close (InPrefix operator a) e = Prefix operator a e
close (InCast o type c) e = Cast o type c e
close _ e = e

-- an operand, and the forms that are open around it
pub record Settled : Type 0 where
  pub operand : Expr
  pub forms : List Form

abbrev pub settled : Expr → List Form → Settled
settled e k = record { operand = e; forms = k }

-- closes the operators that bind at least as tightly as n
abbrev pub settle : ℕ → List Form → Expr → Settled
settle n [] e = settled e []
settle n (f ∷ k) e = cond (nat_le n (strength f)) (settle n k (close f e)) (settled e (f ∷ k))

-- whether the left side of an assignment is due, which no binary operator is in
abbrev pub is_target : List Form → Bool
is_target (InTarget place ∷ k) = true
is_target _ = false

-- a binary operator after a settled operand
abbrev pub infix_at : BinaryOperator → Span → Expr → List Form → Mode
infix_at operator a e k = cond (is_target k) Refused (Operand (InBinary e operator a ∷ k))

-- ---- a token where an operand is due

-- words of a type directly after `(` begin a cast
abbrev pub cast_words : Specifiers → List Form → Mode
cast_words type (InParenthesis left ∷ k) = CastWords left type k
cast_words type _ = Refused

abbrev pub cast_tag : Span → List Form → Mode
cast_tag a (InParenthesis left ∷ k) = CastTag left a k
cast_tag a _ = Refused

-- `P1` is the whole right side of an assignment that is a statement
abbrev pub read_pending : Span → List Form → Mode
read_pending a (InValue AsStatement target equals ∷ k) = StatementEnd (ReadPending target equals a) k
read_pending a _ = Refused

abbrev pub operand : List Form → Symbol → Span → Mode
operand k (s.Name number) a = AfterOperand (Variable (make_name number a)) k
operand k (s.Number number) a = AfterOperand (Number number a) k
operand k s.LeftParenthesis a = Operand (InParenthesis a ∷ k)
operand k s.Minus a = Operand (InPrefix p.Negate a ∷ k)
operand k s.Tilde a = Operand (InPrefix p.Complement a ∷ k)
operand k s.Exclamation a = Operand (InPrefix p.Not a ∷ k)
operand k s.Star a = Operand (InPrefix p.Dereference a ∷ k)
operand k s.Ampersand a = Operand (InPrefix p.AddressOf a ∷ k)
operand k s.Struct a = cast_tag a k
operand k s.PortOne a = read_pending a k
operand k y a = elim (first_word y a) [ None ↦ Refused | Some type ↦ cast_words type k ]

-- ---- other tokens inside an expression

abbrev pub member_name : Expr → MemberOperator → (at : Span) → List Form → Symbol → Span → Mode
member_name e operator at k (s.Name number) a = AfterOperand (Select e operator at (make_name number a)) k
member_name e operator at k _ a = Refused

abbrev pub tag_of_cast : (left keyword : Span) → List Form → Symbol → Span → Mode
tag_of_cast left keyword k (s.Name number) a = CastWords left (t.Struct keyword (make_name number a)) k
tag_of_cast left keyword k _ a = Refused

-- after the words of a cast: another word, or its `)`
abbrev pub in_cast : (left : Span) → Specifiers → List Form → Symbol → Span → Mode
in_cast left type k s.RightParenthesis a = Operand (InCast left type a ∷ k)
in_cast left type k y a = elim (next_word type y a) [ None ↦ Refused | Some longer ↦ CastWords left longer k ]
