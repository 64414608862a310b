-- The machine run over short texts.
use Rattle.std.proofs.Common.{◌≡◌, ◌++◌, ℕ, ◌+◌, Bool, true, false, List, [], ◌∷◌, refl}
use Rattle.std.specs.Prelude.{Option, Some, None, is_some, replicate, option_map}
use Rattle.clight_source.specs.declared.symbol.Radix.TheVariants.{Decimal}
use Rattle.clight_source.specs.declared.symbol.Symbol.{Symbol}
use Rattle.clight_source.specs.declared.symbol.Symbol.TheVariants as s
use Rattle.clight_source.specs.declared.symbol.Terminal.{Terminal}
use Rattle.clight_source.specs.Spelling.{terminal, items_terminals}
use Rattle.clight_grammar.specs.Code.Machine.{run, start, ends}

-- symbols as terminals at the places 0, 1, 2 ..
abbrev from : ℕ → List Symbol → List Terminal
from i [] = []
from i (y ∷ l) = terminal y (record { from = i; to = 1 + i }) ∷ from (1 + i) l

abbrev text : List Symbol → List Terminal
text = from 0

abbrev x : Symbol
x = s.Name 7

abbrev one : Symbol
one = s.Number (record { value = 1; radix = Decimal; unsigned = false })

-- whether the symbols are a program
abbrev accepted : List Symbol → Bool
accepted l = is_some (ends (run start (text l)))

-- what the tree that is read spells
abbrev spelling : List Symbol → Option (List Terminal)
spelling l = option_map items_terminals (ends (run start (text l)))

abbrev body : List Symbol → List Symbol
body l = s.Void ∷ x ∷ s.LeftParenthesis ∷ s.Void ∷ s.RightParenthesis ∷ s.LeftBrace ∷ (l ++ s.RightBrace ∷ [])

no_text : accepted [] ≡ true
no_text = refl

empty_body : spelling (body []) ≡ Some (text (body []))
empty_body = refl

-- if (x) if (x) ; else ; x = 1 + 1 * 1;
abbrev dangling : List Symbol
dangling = s.If ∷ s.LeftParenthesis ∷ x ∷ s.RightParenthesis ∷ s.If ∷ s.LeftParenthesis ∷ x ∷ s.RightParenthesis ∷ s.Semicolon ∷ s.Else ∷ s.Semicolon ∷ x ∷ s.Assign ∷ one ∷ s.Plus ∷ one ∷ s.Star ∷ one ∷ s.Semicolon ∷ []

dangling_else : spelling (body dangling) ≡ Some (text (body dangling))
dangling_else = refl

-- for (x[1] = 1; x; *x = (unsigned char) 1) { } do x = P1; while (-x.x); for (;;) continue;
abbrev loops : List Symbol
loops = s.For ∷ s.LeftParenthesis ∷ x ∷ s.LeftBracket ∷ one ∷ s.RightBracket ∷ s.Assign ∷ one ∷ s.Semicolon ∷ x ∷ s.Semicolon ∷ s.Star ∷ x ∷ s.Assign ∷ s.LeftParenthesis ∷ s.Unsigned ∷ s.Char ∷ s.RightParenthesis ∷ one ∷ s.RightParenthesis ∷ s.LeftBrace ∷ s.RightBrace ∷ s.Do ∷ x ∷ s.Assign ∷ s.PortOne ∷ s.Semicolon ∷ s.While ∷ s.LeftParenthesis ∷ s.Minus ∷ x ∷ s.Dot ∷ x ∷ s.RightParenthesis ∷ s.Semicolon ∷ s.For ∷ s.LeftParenthesis ∷ s.Semicolon ∷ s.Semicolon ∷ s.RightParenthesis ∷ s.Continue ∷ s.Semicolon ∷ []

all_loops : spelling (body loops) ≡ Some (text (body loops))
all_loops = refl

-- struct x * x[1]; int x = 1; P1 = x; x = x(1, x); x(); return x;
abbrev simple : List Symbol
simple = s.Struct ∷ x ∷ s.Star ∷ x ∷ s.LeftBracket ∷ one ∷ s.RightBracket ∷ s.Semicolon ∷ s.Int ∷ x ∷ s.Assign ∷ one ∷ s.Semicolon ∷ s.PortOne ∷ s.Assign ∷ x ∷ s.Semicolon ∷ x ∷ s.Assign ∷ x ∷ s.LeftParenthesis ∷ one ∷ s.Comma ∷ x ∷ s.RightParenthesis ∷ s.Semicolon ∷ x ∷ s.LeftParenthesis ∷ s.RightParenthesis ∷ s.Semicolon ∷ s.Return ∷ x ∷ s.Semicolon ∷ []

simple_statements : spelling (body simple) ≡ Some (text (body simple))
simple_statements = refl

-- struct x { int x; }; long x = -1; char x[1] = {1, -1}; void x(int x, struct x *x); and a function
abbrev outside : List Symbol
outside = s.Struct ∷ x ∷ s.LeftBrace ∷ s.Int ∷ x ∷ s.Semicolon ∷ s.RightBrace ∷ s.Semicolon ∷ s.Long ∷ x ∷ s.Assign ∷ s.Minus ∷ one ∷ s.Semicolon ∷ s.Char ∷ x ∷ s.LeftBracket ∷ one ∷ s.RightBracket ∷ s.Assign ∷ s.LeftBrace ∷ one ∷ s.Comma ∷ s.Minus ∷ one ∷ s.RightBrace ∷ s.Semicolon ∷ s.Void ∷ x ∷ s.LeftParenthesis ∷ s.Int ∷ x ∷ s.Comma ∷ s.Struct ∷ x ∷ s.Star ∷ x ∷ s.RightParenthesis ∷ s.Semicolon ∷ body []

all_items : spelling outside ≡ Some (text outside)
all_items = refl

-- x + 1 = 1;
no_sum_as_target : accepted (body (x ∷ s.Plus ∷ one ∷ s.Assign ∷ one ∷ s.Semicolon ∷ [])) ≡ false
no_sum_as_target = refl

-- (x) = x();
no_call_to_parenthesis : accepted (body (s.LeftParenthesis ∷ x ∷ s.RightParenthesis ∷ s.Assign ∷ x ∷ s.LeftParenthesis ∷ s.RightParenthesis ∷ s.Semicolon ∷ [])) ≡ false
no_call_to_parenthesis = refl

-- ; int x;
no_late_local : accepted (body (s.Semicolon ∷ s.Int ∷ x ∷ s.Semicolon ∷ [])) ≡ false
no_late_local = refl

-- struct x { };
no_empty_struct : accepted (s.Struct ∷ x ∷ s.LeftBrace ∷ s.RightBrace ∷ s.Semicolon ∷ []) ≡ false
no_empty_struct = refl

-- ; else ;
no_lone_else : accepted (body (s.Semicolon ∷ s.Else ∷ s.Semicolon ∷ [])) ≡ false
no_lone_else = refl

-- int x
no_half_item : accepted (s.Int ∷ x ∷ []) ≡ false
no_half_item = refl

-- for (x;;) ;
no_expression_as_first : accepted (body (s.For ∷ s.LeftParenthesis ∷ x ∷ s.Semicolon ∷ s.Semicolon ∷ s.RightParenthesis ∷ s.Semicolon ∷ [])) ≡ false
no_expression_as_first = refl

-- if (x) int x;
no_local_as_arm : accepted (body (s.If ∷ s.LeftParenthesis ∷ x ∷ s.RightParenthesis ∷ s.Int ∷ x ∷ s.Semicolon ∷ [])) ≡ false
no_local_as_arm = refl

-- x = P1 + 1;
no_port_in_sum : accepted (body (x ∷ s.Assign ∷ s.PortOne ∷ s.Plus ∷ one ∷ s.Semicolon ∷ [])) ≡ false
no_port_in_sum = refl

-- x = 1 + x();
no_call_in_sum : accepted (body (x ∷ s.Assign ∷ one ∷ s.Plus ∷ x ∷ s.LeftParenthesis ∷ s.RightParenthesis ∷ s.Semicolon ∷ [])) ≡ false
no_call_in_sum = refl

-- x = (int *) x;
no_star_in_cast : accepted (body (x ∷ s.Assign ∷ s.LeftParenthesis ∷ s.Int ∷ s.Star ∷ s.RightParenthesis ∷ x ∷ s.Semicolon ∷ [])) ≡ false
no_star_in_cast = refl

-- int unsigned x;
no_int_unsigned : accepted (s.Int ∷ s.Unsigned ∷ x ∷ s.Semicolon ∷ []) ≡ false
no_int_unsigned = refl

-- void x(int x[1]);
no_length_of_parameter : accepted (s.Void ∷ x ∷ s.LeftParenthesis ∷ s.Int ∷ x ∷ s.LeftBracket ∷ one ∷ s.RightBracket ∷ s.RightParenthesis ∷ s.Semicolon ∷ []) ≡ false
no_length_of_parameter = refl

-- struct x *x(void);
struct_result : accepted (s.Struct ∷ x ∷ s.Star ∷ x ∷ s.LeftParenthesis ∷ s.Void ∷ s.RightParenthesis ∷ s.Semicolon ∷ []) ≡ true
struct_result = refl

-- unsigned long int x;
long_words : spelling (s.Unsigned ∷ s.Long ∷ s.Int ∷ x ∷ s.Semicolon ∷ []) ≡ Some (text (s.Unsigned ∷ s.Long ∷ s.Int ∷ x ∷ s.Semicolon ∷ []))
long_words = refl
