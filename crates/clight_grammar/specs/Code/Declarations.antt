-- How the machine over trees reads declarations: structs, globals, prototypes, the heads of functions, and locals up to their values
-- (ISO/IEC 9899:1999, 6.7 and 6.9).
use Rattle.std.specs.Prelude.{List, [], ◌∷◌, ◌++◌, Some, None}
use Rattle.clight_source.specs.declared.span.Span.{Span}
use Rattle.clight_source.specs.declared.symbol.Literal.{Literal}
use Rattle.clight_source.specs.declared.symbol.Symbol.{Symbol}
use Rattle.clight_source.specs.declared.symbol.Symbol.TheVariants as s
use Rattle.clight_source.specs.declared.tree.Specifiers.{Specifiers}
use Rattle.clight_source.specs.declared.tree.Specifiers.TheVariants as t
use Rattle.clight_source.specs.declared.tree.Length.{Length}
use Rattle.clight_source.specs.declared.tree.SignedNumber.{SignedNumber}
use Rattle.clight_source.specs.Trees.{Declared, Declaration, Member, Initialiser, NoInitialiser, Single, Listed, Header, NoParameters, Parameters', NoValue}
use Rattle.clight_nodes.specs.Code.Expressions.{make_name, first_word, next_word}
use Rattle.clight_nodes.specs.declared.modes.StructFront.{StructFront}
use Rattle.clight_grammar.specs.Code.Parts.{make_declared, more_members, struct_item, global_item, header, prototype_item, no_locals, make_local, with_local}
use Rattle.clight_grammar.specs.Code.Forms.{InLocalValue, InLocals, Owner, InSource, InStruct, InFirstParameter, InLaterParameter, InFunction, NumberList, Mode, Operand, Statement, TypeStart, TagName, Words, Stars, Named, Lengths, LengthNumber, LengthEnd, Members, StructEnd, InitialiserStart, InitialiserNumber, InitialiserEnd, ListStart, ListNumber, ListEnd, HeaderEnd, Finished, Refused}
use Rattle.clight_nodes.specs.Code.Declarations.{make_length, signed}

-- ---- the type and the name

abbrev pub type_start : Owner → Symbol → Span → Mode
type_start owner s.Struct a = TagName owner a
type_start owner y a = elim (first_word y a) [ None ↦ Refused | Some type ↦ Words owner type ]

abbrev pub tag_name : Owner → (keyword : Span) → Symbol → Span → Mode
tag_name owner word (s.Name number) a = Words owner (t.Struct word (make_name number a))
tag_name owner word _ a = Refused

-- `void` alone between the parentheses of a function
abbrev pub void_only : Owner → Specifiers → Span → Mode
void_only (InFirstParameter function left) (t.Void void) a = HeaderEnd (header function left (NoParameters void) a)
void_only _ _ a = Refused

-- `struct tag {`
abbrev pub struct_start : Owner → Specifiers → Span → Mode
struct_start InSource (t.Struct word tag) a = TypeStart (InStruct (record { keyword = word; tag = tag; left = a }) [])
struct_start _ _ a = Refused

abbrev pub words : Owner → Specifiers → Symbol → Span → Mode
words owner type s.Star a = Stars owner type (a ∷ [])
words owner type (s.Name number) a = Named owner (make_declared type [] (make_name number a))
words owner type s.RightParenthesis a = void_only owner type a
words owner type s.LeftBrace a = struct_start owner type a
words owner type y a = elim (next_word type y a) [ None ↦ Refused | Some longer ↦ Words owner longer ]

abbrev pub in_stars : Owner → Specifiers → List Span → Symbol → Span → Mode
in_stars owner type stars s.Star a = Stars owner type (stars ++ a ∷ [])
in_stars owner type stars (s.Name number) a = Named owner (make_declared type stars (make_name number a))
in_stars owner type stars _ a = Refused

-- ---- after the name

abbrev pub open_parameters : Owner → Declared → Span → Mode
open_parameters InSource x a = TypeStart (InFirstParameter x a)
open_parameters _ x a = Refused

-- a parameter has no lengths
abbrev pub open_length : Owner → Declaration → Span → Mode
open_length (InFirstParameter function left) x a = Refused
open_length (InLaterParameter function left earlier) x a = Refused
open_length owner x a = LengthNumber owner x a

abbrev pub end_declaration : Owner → Declaration → Span → Mode
end_declaration InSource x a = Finished (global_item x NoInitialiser a)
end_declaration (InStruct front members) x a = Members front (more_members members x a)
end_declaration (InFunction front) x a = Statement (InLocals (with_local front (make_local x NoValue a)) ∷ [])
end_declaration _ x a = Refused

abbrev pub begin_initialiser : Owner → Declaration → Span → Mode
begin_initialiser InSource x a = InitialiserStart x a
begin_initialiser (InFunction front) x a = Operand (InLocalValue front x a ∷ [])
begin_initialiser _ x a = Refused

abbrev pub next_parameter : Owner → Declared → Span → Mode
next_parameter (InFirstParameter function left) x a = TypeStart (InLaterParameter function left (record { parameter = x; comma = a } ∷ []))
next_parameter (InLaterParameter function left earlier) x a = TypeStart (InLaterParameter function left (earlier ++ record { parameter = x; comma = a } ∷ []))
next_parameter _ x a = Refused

abbrev pub end_parameters : Owner → Declared → Span → Mode
end_parameters (InFirstParameter function left) x a = HeaderEnd (header function left (Parameters' [] x) a)
end_parameters (InLaterParameter function left earlier) x a = HeaderEnd (header function left (Parameters' earlier x) a)
end_parameters _ x a = Refused

abbrev pub without_lengths : Declared → Declaration
without_lengths x = record { declared = x; lengths = [] }

abbrev pub named : Owner → Declared → Symbol → Span → Mode
named owner x s.LeftParenthesis a = open_parameters owner x a
named owner x s.LeftBracket a = open_length owner (without_lengths x) a
named owner x s.Semicolon a = end_declaration owner (without_lengths x) a
named owner x s.Assign a = begin_initialiser owner (without_lengths x) a
named owner x s.Comma a = next_parameter owner x a
named owner x s.RightParenthesis a = end_parameters owner x a
named owner x _ a = Refused

-- ---- lengths

abbrev pub lengths : Owner → Declaration → Symbol → Span → Mode
lengths owner x s.LeftBracket a = open_length owner x a
lengths owner x s.Semicolon a = end_declaration owner x a
lengths owner x s.Assign a = begin_initialiser owner x a
lengths owner x _ a = Refused

abbrev pub length_number : Owner → Declaration → (left : Span) → Symbol → Span → Mode
length_number owner x left (s.Number number) a = LengthEnd owner x left number a
length_number owner x left _ a = Refused

abbrev pub longer : Declaration → Length → Declaration
longer x y = record { declared = x.declared; lengths = x.lengths ++ y ∷ [] }

abbrev pub length_end : Owner → Declaration → (left : Span) → Literal → Span → Symbol → Span → Mode
length_end owner x left number span s.RightBracket a = Lengths owner (longer x (make_length left number span a))
length_end owner x left number span _ a = Refused

-- ---- structs

abbrev pub next_member : StructFront → List Member → Symbol → Span → Mode
next_member front members s.RightBrace a = StructEnd front members a
next_member front members y a = type_start (InStruct front members) y a

abbrev pub struct_end : StructFront → List Member → (right : Span) → Symbol → Span → Mode
struct_end front members right s.Semicolon a = Finished (struct_item front members right a)
struct_end front members right _ a = Refused

-- ---- the initialiser of a global

abbrev pub make_list : Declaration → (equals left : Span) → NumberList
make_list x equals left = record { declaration = x; equals = equals; left = left; earlier = [] }

abbrev pub more_numbers : NumberList → SignedNumber → (comma : Span) → NumberList
more_numbers l number comma =
    record { declaration = l.declaration; equals = l.equals; left = l.left; earlier = l.earlier ++ record { number = number; comma = comma } ∷ [] }

abbrev pub initialiser_start : Declaration → (equals : Span) → Symbol → Span → Mode
initialiser_start x equals s.Minus a = InitialiserNumber x equals a
initialiser_start x equals (s.Number number) a = InitialiserEnd x (Single equals (signed None number a))
initialiser_start x equals s.LeftBrace a = ListStart (make_list x equals a)
initialiser_start x equals _ a = Refused

abbrev pub initialiser_number : Declaration → (equals minus : Span) → Symbol → Span → Mode
initialiser_number x equals minus (s.Number number) a = InitialiserEnd x (Single equals (signed (Some minus) number a))
initialiser_number x equals minus _ a = Refused

abbrev pub initialiser_end : Declaration → Initialiser → Symbol → Span → Mode
initialiser_end x i s.Semicolon a = Finished (global_item x i a)
initialiser_end x i _ a = Refused

abbrev pub list_start : NumberList → Symbol → Span → Mode
list_start l s.Minus a = ListNumber l a
list_start l (s.Number number) a = ListEnd l (signed None number a)
list_start l _ a = Refused

abbrev pub list_number : NumberList → (minus : Span) → Symbol → Span → Mode
list_number l minus (s.Number number) a = ListEnd l (signed (Some minus) number a)
list_number l minus _ a = Refused

abbrev pub list_end : NumberList → SignedNumber → Symbol → Span → Mode
list_end l number s.Comma a = ListStart (more_numbers l number a)
list_end l number s.RightBrace a = InitialiserEnd l.declaration (Listed l.equals l.left l.earlier number a)
list_end l number _ a = Refused

-- ---- functions

abbrev pub header_end : Header → Symbol → Span → Mode
header_end x s.Semicolon a = Finished (prototype_item x a)
header_end x s.LeftBrace a = Statement (InLocals (no_locals x a) ∷ [])
header_end x _ a = Refused
