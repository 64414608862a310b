-- The machine over trees, a token at a time. It has the items that are whole, and the mode of the one that it reads. Each token
-- gives the next mode; one that no program has there gives `Refused`, which lasts.
use Rattle.std.specs.Prelude.{Bool, true, false, List, [], ◌∷◌, ◌++◌, Option, Some, None}
use Rattle.clight_source.specs.declared.span.Span.{Span}
use Rattle.clight_source.specs.declared.symbol.Symbol.{Symbol}
use Rattle.clight_source.specs.declared.symbol.Terminal.{Terminal}
use Rattle.clight_source.specs.Trees.{Item}
use Rattle.clight_nodes.specs.Code.Expressions.{binds}
use Rattle.clight_grammar.specs.Code.Forms.{InIfTest, InWhileTest, InDoTest, InSource, Mode, Operand, AfterOperand, MemberName, CastTag, CastWords, Statement, MayElse, IfWord, WhileWord, DoBody, DoWhile, ForWord, ForFirst, ForCondition, ForStep, ReturnWord, PortWord, FirstArgument, StatementEnd, ItemStart, TypeStart, TagName, Words, Stars, Named, Lengths, LengthNumber, LengthEnd, Members, StructEnd, InitialiserStart, InitialiserNumber, InitialiserEnd, ListStart, ListNumber, ListEnd, HeaderEnd, Finished, Refused}
use Rattle.clight_grammar.specs.Code.Expressions.{settle, operand, member_name, tag_of_cast, in_cast}
use Rattle.clight_grammar.specs.Code.Statements.{act, statement, do_while, may_else, opened, for_word, for_first, for_condition, for_step, return_word, port_word, first_argument, statement_end}
use Rattle.clight_grammar.specs.Code.Declarations.{type_start, tag_name, words, in_stars, named, lengths, length_number, length_end, next_member, struct_end, initialiser_start, initialiser_number, initialiser_end, list_start, list_number, list_end, header_end}

abbrev pub next : Mode → Symbol → Span → Mode
next (Operand k) y a = operand k y a
next (AfterOperand e k) y a = act y a (settle (binds y) k e)
next (MemberName e operator at k) y a = member_name e operator at k y a
next (CastTag left word k) y a = tag_of_cast left word k y a
next (CastWords left type k) y a = in_cast left type k y a
next (Statement k) y a = statement k y a
next (MayElse x k) y a = may_else x k y a
next (IfWord word k) y a = opened (InIfTest word a) k y
next (WhileWord word k) y a = opened (InWhileTest word a) k y
next (DoBody word x k) y a = do_while word x k y a
next (DoWhile word x while' k) y a = opened (InDoTest word x while' a) k y
next (ForWord word k) y a = for_word word k y a
next (ForFirst word left k) y a = for_first word left k y a
next (ForCondition start k) y a = for_condition start k y a
next (ForStep middle k) y a = for_step middle k y a
next (ReturnWord word k) y a = return_word word k y a
next (PortWord port k) y a = port_word port k y a
next (FirstArgument target function left k) y a = first_argument target function left k y a
next (StatementEnd x k) y a = statement_end x k y a
next ItemStart y a = type_start InSource y a
next (TypeStart owner) y a = type_start owner y a
next (TagName owner word) y a = tag_name owner word y a
next (Words owner type) y a = words owner type y a
next (Stars owner type stars) y a = in_stars owner type stars y a
next (Named owner x) y a = named owner x y a
next (Lengths owner x) y a = lengths owner x y a
next (LengthNumber owner x left) y a = length_number owner x left y a
next (LengthEnd owner x left number span) y a = length_end owner x left number span y a
next (Members front members) y a = next_member front members y a
next (StructEnd front members right) y a = struct_end front members right y a
next (InitialiserStart x equals) y a = initialiser_start x equals y a
next (InitialiserNumber x equals minus) y a = initialiser_number x equals minus y a
next (InitialiserEnd x initialiser) y a = initialiser_end x initialiser y a
next (ListStart l) y a = list_start l y a
next (ListNumber l minus) y a = list_number l minus y a
next (ListEnd l number) y a = list_end l number y a
next (HeaderEnd x) y a = header_end x y a
next (Finished x) y a = Refused
next Refused y a = Refused

pub record State : Type 0 where
  pub items : List Item
  pub mode : Mode

abbrev pub state : List Item → Mode → State
state items mode = record { items = items; mode = mode }

-- an item that is whole joins the others
abbrev pub gather : List Item → Mode → State
gather items (Finished x) = state (items ++ x ∷ []) ItemStart
gather items mode = state items mode

-- one token
abbrev pub step : State → Terminal → State
step x t = gather x.items (next x.mode t.symbol t.span)

abbrev pub run : State → List Terminal → State
run x [] = x
run x (t ∷ l) = run (step x t) l

abbrev pub start : State
start = state [] ItemStart

-- the items, where the text may end
abbrev pub ends_in : List Item → Mode → Option (List Item)
ends_in items ItemStart = Some items
ends_in items _ = None

abbrev pub ends : State → Option (List Item)
ends x = ends_in x.items x.mode

abbrev pub refused : Mode → Bool
refused Refused = true
refused _ = false
