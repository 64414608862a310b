-- How the recogniser reads declarations: structs, globals, prototypes, the heads of functions, and locals up to their values
-- (ISO/IEC 9899:1999, 6.7 and 6.9). No form is open there.
use Rattle.std.specs.Prelude.{List, [], ◌∷◌, Option, Some, None}
use Rattle.clight_source.specs.declared.span.Span.{Span}
use Rattle.clight_source.specs.declared.symbol.Literal.{Literal}
use Rattle.clight_source.specs.declared.symbol.Symbol.{Symbol}
use Rattle.clight_source.specs.declared.symbol.Symbol.TheVariants as s
use Rattle.clight_source.specs.declared.tree.Name.{Name}
use Rattle.clight_source.specs.declared.tree.Specifiers.{Specifiers}
use Rattle.clight_source.specs.declared.tree.Specifiers.TheVariants as t
use Rattle.clight_source.specs.declared.tree.Length.{Length}
use Rattle.clight_source.specs.declared.tree.SignedNumber.{SignedNumber}
use Rattle.clight_nodes.specs.declared.forms.Form.TheVariants as f
use Rattle.clight_nodes.specs.declared.modes.Mode.TheVariants as m
use Rattle.clight_nodes.specs.declared.modes.DeclarationMode.{DeclarationMode}
use Rattle.clight_nodes.specs.declared.modes.DeclarationMode.TheVariants as d
use Rattle.clight_nodes.specs.declared.modes.InitialiserMode.{InitialiserMode}
use Rattle.clight_nodes.specs.declared.modes.InitialiserMode.TheVariants as i
use Rattle.clight_nodes.specs.declared.modes.Owner.{Owner}
use Rattle.clight_nodes.specs.declared.modes.Owner.TheVariants as w
use Rattle.clight_nodes.specs.declared.modes.StructFront.{StructFront}
use Rattle.clight_nodes.specs.declared.nodes.Node.{Node}
use Rattle.clight_nodes.specs.declared.nodes.Node.TheVariants as n
use Rattle.clight_nodes.specs.Code.States.{State, at, refused}
use Rattle.clight_nodes.specs.Code.Expressions.{first_word, next_word, make_name}
use Rattle.clight_nodes.specs.Code.Statements.{begin}

abbrev pub declare : DeclarationMode → List Node → State
declare mode z = at (m.Declaration mode) [] z

-- an item is whole
abbrev pub whole : List Node → State
whole z = at m.Finished [] z

-- ---- the type and the name

abbrev pub type_words : Owner → List Node → Symbol → Span → State
type_words owner z y a = elim (first_word y a) [ None ↦ refused | Some type ↦ declare (d.Words owner type) z ]

abbrev pub type_start : Owner → List Node → Symbol → Span → State
type_start owner z s.Struct a = declare (d.TagName owner a) z
type_start owner z y a = type_words owner z y a

abbrev pub tag_name : Owner → (keyword : Span) → List Node → Symbol → Span → State
tag_name owner word z (s.Name number) a = declare (d.Words owner (t.Struct word (make_name number a))) z
tag_name owner word z _ a = refused

-- `void` alone between the parentheses of a function
abbrev pub void_only : Owner → Specifiers → List Node → Span → State
void_only (w.InFirstParameter left) (t.Void void) z a = declare d.HeaderEnd (n.VoidHeader left void a ∷ z)
void_only _ _ z a = refused

abbrev pub make_front : (keyword : Span) → (tag : Name) → (left : Span) → StructFront
make_front keyword tag left = record { keyword = keyword; tag = tag; left = left }

-- `struct tag {`
abbrev pub struct_start : Owner → Specifiers → List Node → Span → State
struct_start w.InSource (t.Struct word tag) z a = declare (d.TypeStart (w.InStruct (make_front word tag a))) (n.NoMembers ∷ z)
struct_start _ _ z a = refused

abbrev pub more_words : Owner → Specifiers → List Node → Symbol → Span → State
more_words owner type z y a = elim (next_word type y a) [ None ↦ refused | Some longer ↦ declare (d.Words owner longer) z ]

abbrev pub words : Owner → Specifiers → List Node → Symbol → Span → State
words owner type z s.Star a = declare (d.Stars owner type) (n.Star a ∷ (n.NoStars ∷ z))
words owner type z (s.Name number) a = declare (d.Named owner) (n.Declared type (make_name number a) ∷ (n.NoStars ∷ z))
words owner type z s.RightParenthesis a = void_only owner type z a
words owner type z s.LeftBrace a = struct_start owner type z a
words owner type z y a = more_words owner type z y a

abbrev pub in_stars : Owner → Specifiers → List Node → Symbol → Span → State
in_stars owner type z s.Star a = declare (d.Stars owner type) (n.Star a ∷ z)
in_stars owner type z (s.Name number) a = declare (d.Named owner) (n.Declared type (make_name number a) ∷ z)
in_stars owner type z _ a = refused

-- ---- after the name

abbrev pub open_parameters : Owner → List Node → Span → State
open_parameters w.InSource z a = declare (d.TypeStart (w.InFirstParameter a)) (n.NoParameters ∷ z)
open_parameters _ z a = refused

-- a parameter has no lengths
abbrev pub open_length : Owner → List Node → Span → State
open_length (w.InFirstParameter left) z a = refused
open_length (w.InLaterParameter left) z a = refused
open_length owner z a = declare (d.LengthNumber owner a) z

abbrev pub end_declaration : Owner → List Node → Span → State
end_declaration w.InSource z a = whole (n.Global a ∷ (n.NoInitialiser ∷ z))
end_declaration (w.InStruct front) z a = declare (d.Members front) (n.Member a ∷ z)
end_declaration (w.InFunction left) z a = begin (f.Locals left ∷ []) (n.Local a ∷ z)
end_declaration _ z a = refused

abbrev pub begin_initialiser : Owner → List Node → Span → State
begin_initialiser w.InSource z a = declare (d.Initialiser (i.Start a)) z
begin_initialiser (w.InFunction left) z a = at m.Operand (f.LocalValue left a ∷ []) z
begin_initialiser _ z a = refused

abbrev pub next_parameter : Owner → List Node → Span → State
next_parameter (w.InFirstParameter left) z a = declare (d.TypeStart (w.InLaterParameter left)) (n.Parameter a ∷ z)
next_parameter (w.InLaterParameter left) z a = declare (d.TypeStart (w.InLaterParameter left)) (n.Parameter a ∷ z)
next_parameter _ z a = refused

abbrev pub end_parameters : Owner → List Node → Span → State
end_parameters (w.InFirstParameter left) z a = declare d.HeaderEnd (n.Header left a ∷ z)
end_parameters (w.InLaterParameter left) z a = declare d.HeaderEnd (n.Header left a ∷ z)
end_parameters _ z a = refused

-- after a declaration: a length, its end, or a first value
abbrev pub lengths : Owner → List Node → Symbol → Span → State
lengths owner z s.LeftBracket a = open_length owner z a
lengths owner z s.Semicolon a = end_declaration owner z a
lengths owner z s.Assign a = begin_initialiser owner z a
lengths owner z _ a = refused

abbrev pub named : Owner → List Node → Symbol → Span → State
named owner z s.LeftParenthesis a = open_parameters owner z a
named owner z s.Comma a = next_parameter owner z a
named owner z s.RightParenthesis a = end_parameters owner z a
named owner z y a = lengths owner (n.NoLengths ∷ z) y a

-- ---- lengths

abbrev pub length_number : Owner → (left : Span) → List Node → Symbol → Span → State
length_number owner left z (s.Number number) a = declare (d.LengthEnd owner left number a) z
length_number owner left z _ a = refused

abbrev pub make_length : (left : Span) → Literal → (span right : Span) → Length
make_length left number span right = record { left = left; number = number; span = span; right = right }

abbrev pub length_end : Owner → (left : Span) → Literal → Span → List Node → Symbol → Span → State
length_end owner left number span z s.RightBracket a = declare (d.Lengths owner) (n.Length (make_length left number span a) ∷ z)
length_end owner left number span z _ a = refused

-- ---- structs

abbrev pub next_member : StructFront → List Node → Symbol → Span → State
next_member front z s.RightBrace a = declare (d.StructEnd front a) z
next_member front z y a = type_start (w.InStruct front) z y a

abbrev pub struct_end : StructFront → (right : Span) → List Node → Symbol → Span → State
struct_end front right z s.Semicolon a = whole (n.Struct front right a ∷ z)
struct_end front right z _ a = refused

-- ---- the initialiser of a global

abbrev pub signed : Option Span → Literal → Span → SignedNumber
signed minus number span = record { minus = minus; number = number; span = span }

abbrev pub initialise : InitialiserMode → List Node → State
initialise mode z = declare (d.Initialiser mode) z

abbrev pub initialiser_start : (equals : Span) → List Node → Symbol → Span → State
initialiser_start equals z s.Minus a = initialise (i.Number equals a) z
initialiser_start equals z (s.Number number) a = initialise i.End (n.Single equals (signed None number a) ∷ z)
initialiser_start equals z s.LeftBrace a = initialise (i.ListStart equals a) (n.NoNumbers ∷ z)
initialiser_start equals z _ a = refused

abbrev pub initialiser_number : (equals minus : Span) → List Node → Symbol → Span → State
initialiser_number equals minus z (s.Number number) a = initialise i.End (n.Single equals (signed (Some minus) number a) ∷ z)
initialiser_number equals minus z _ a = refused

abbrev pub initialiser_end : List Node → Symbol → Span → State
initialiser_end z s.Semicolon a = whole (n.Global a ∷ z)
initialiser_end z _ a = refused

abbrev pub list_start : (equals left : Span) → List Node → Symbol → Span → State
list_start equals left z s.Minus a = initialise (i.ListNumber equals left a) z
list_start equals left z (s.Number number) a = initialise (i.ListEnd equals left (signed None number a)) z
list_start equals left z _ a = refused

abbrev pub list_number : (equals left minus : Span) → List Node → Symbol → Span → State
list_number equals left minus z (s.Number number) a = initialise (i.ListEnd equals left (signed (Some minus) number a)) z
list_number equals left minus z _ a = refused

abbrev pub list_end : (equals left : Span) → SignedNumber → List Node → Symbol → Span → State
list_end equals left number z s.Comma a = initialise (i.ListStart equals left) (n.EarlierNumber number a ∷ z)
list_end equals left number z s.RightBrace a = initialise i.End (n.Listed equals left number a ∷ z)
list_end equals left number z _ a = refused

abbrev pub in_initialiser : InitialiserMode → List Node → Symbol → Span → State
in_initialiser (i.Start equals) z y a = initialiser_start equals z y a
in_initialiser (i.Number equals minus) z y a = initialiser_number equals minus z y a
in_initialiser i.End z y a = initialiser_end z y a
in_initialiser (i.ListStart equals left) z y a = list_start equals left z y a
in_initialiser (i.ListNumber equals left minus) z y a = list_number equals left minus z y a
in_initialiser (i.ListEnd equals left number) z y a = list_end equals left number z y a

-- ---- functions

abbrev pub header_end : List Node → Symbol → Span → State
header_end z s.Semicolon a = whole (n.Prototype a ∷ z)
header_end z s.LeftBrace a = begin (f.Locals a ∷ []) (n.NoStatements ∷ (n.NoLocals ∷ z))
header_end z _ a = refused

-- ---- any token in a declaration

abbrev pub in_declaration : DeclarationMode → List Node → Symbol → Span → State
in_declaration d.ItemStart z y a = type_start w.InSource z y a
in_declaration (d.TypeStart owner) z y a = type_start owner z y a
in_declaration (d.TagName owner word) z y a = tag_name owner word z y a
in_declaration (d.Words owner type) z y a = words owner type z y a
in_declaration (d.Stars owner type) z y a = in_stars owner type z y a
in_declaration (d.Named owner) z y a = named owner z y a
in_declaration (d.Lengths owner) z y a = lengths owner z y a
in_declaration (d.LengthNumber owner left) z y a = length_number owner left z y a
in_declaration (d.LengthEnd owner left number span) z y a = length_end owner left number span z y a
in_declaration (d.Members front) z y a = next_member front z y a
in_declaration (d.StructEnd front right) z y a = struct_end front right z y a
in_declaration (d.Initialiser mode) z y a = in_initialiser mode z y a
in_declaration d.HeaderEnd z y a = header_end z y a
