-- The recogniser does with declarations what the machine over trees does.
use Rattle.std.proofs.Common.{◌≡◌, List, [], ◌∷◌, refl, ap}
use Rattle.std.specs.Prelude.{Option, Some, None}
use Rattle.clight_source.specs.declared.span.Span.{Span}
use Rattle.clight_source.specs.declared.symbol.Literal.{Literal}
use Rattle.clight_source.specs.declared.symbol.Symbol.{Symbol}
use Rattle.clight_source.specs.declared.symbol.Symbol.TheVariants as s
use Rattle.clight_source.specs.declared.tree.Specifiers.{Specifiers}
use Rattle.clight_source.specs.declared.tree.Specifiers.TheVariants as t
use Rattle.clight_source.specs.declared.tree.SignedNumber.{SignedNumber}
use Rattle.clight_source.specs.Trees.{Declared, Declaration, Member, Initialiser, NoValue, Header}
use Rattle.clight_nodes.specs.declared.forms.Form.TheVariants as f
use Rattle.clight_nodes.specs.declared.modes.Owner.TheVariants as w
use Rattle.clight_nodes.specs.declared.modes.DeclarationMode.TheVariants as d
use Rattle.clight_nodes.specs.declared.modes.InitialiserMode.TheVariants as i
use Rattle.clight_nodes.specs.declared.modes.StructFront.{StructFront}
use Rattle.clight_nodes.specs.declared.nodes.Node.{Node}
use Rattle.clight_nodes.specs.declared.nodes.Node.TheVariants as n
use Rattle.clight_nodes.specs.Code.States.{refused}
use Rattle.clight_nodes.specs.Code.Expressions.{first_word, next_word}
use Rattle.clight_nodes.specs.Code.Statements.{begin}
use Rattle.clight_nodes.specs.Code.Declarations as r
use Rattle.clight_nodes.specs.Code.Declarations.{declare, initialise, make_length}
use Rattle.clight_nodes.specs.Code.Postfix.{onto, add_star, out_declared, add_length, out_declaration, add_member, out_members, add_number, out_numbers, out_initialiser, add_parameter, out_header, add_local}
use Rattle.clight_grammar.specs.Code.Parts.{make_local}
use Rattle.clight_grammar.specs.Code.Forms.{Owner, InSource, InStruct, InFirstParameter, InLaterParameter, InFunction, NumberList, Words, Refused}
use Rattle.clight_grammar.specs.Code.Declarations.{type_start, tag_name, void_only, struct_start, words, in_stars, open_parameters, open_length, end_declaration, begin_initialiser, next_parameter, end_parameters, without_lengths, named, lengths, length_number, length_end, next_member, struct_end, initialiser_start, initialiser_number, initialiser_end, list_start, list_number, list_end, header_end}
use Rattle.clight_grammar.specs.Code.Flat.{flat_owner, out_owner, flat}
use Rattle.clight_grammar.proofs.Lists.{onto-push}

pub words_by : (items : List Node) (b : Option Specifiers) (owner : Owner)
    → flat items (elim b [ None ↦ Refused | Some type ↦ Words owner type ]) ≡ elim b [ None ↦ refused | Some type ↦ declare (d.Words (flat_owner owner) type) (out_owner items owner) ]
words_by items None owner = refl
words_by items (Some type) owner = refl

pub type_start_flat : (items : List Node) (owner : Owner) (y : Symbol) (a : Span) → flat items (type_start owner y a) ≡ r.type_start (flat_owner owner) (out_owner items owner) y a
type_start_flat items owner s.Struct a = refl
type_start_flat items owner y a = words_by items (first_word y a) owner

pub tag_name_flat : (items : List Node) (owner : Owner) (word : Span) (y : Symbol) (a : Span) → flat items (tag_name owner word y a) ≡ r.tag_name (flat_owner owner) word (out_owner items owner) y a
tag_name_flat items owner word (s.Name number) a = refl
tag_name_flat items owner word y a = refl

pub void_flat : (items : List Node) (owner : Owner) (type : Specifiers) (a : Span) → flat items (void_only owner type a) ≡ r.void_only (flat_owner owner) type (out_owner items owner) a
void_flat items (InFirstParameter x left) (t.Void void) a = refl
void_flat items (InFirstParameter x left) type a = refl
void_flat items owner type a = refl

pub struct_start_flat : (items : List Node) (owner : Owner) (type : Specifiers) (a : Span) → flat items (struct_start owner type a) ≡ r.struct_start (flat_owner owner) type (out_owner items owner) a
struct_start_flat items InSource (t.Struct word tag) a = refl
struct_start_flat items InSource type a = refl
struct_start_flat items owner type a = refl

pub words_flat : (items : List Node) (owner : Owner) (type : Specifiers) (y : Symbol) (a : Span) → flat items (words owner type y a) ≡ r.words (flat_owner owner) type (out_owner items owner) y a
words_flat items owner type s.Star a = refl
words_flat items owner type (s.Name number) a = refl
words_flat items owner type s.RightParenthesis a = void_flat items owner type a
words_flat items owner type s.LeftBrace a = struct_start_flat items owner type a
words_flat items owner type y a = words_by items (next_word type y a) owner

pub stars_flat : (items : List Node) (owner : Owner) (type : Specifiers) (stars : List Span) (y : Symbol) (a : Span)
    → flat items (in_stars owner type stars y a) ≡ r.in_stars (flat_owner owner) type (onto add_star (n.NoStars ∷ out_owner items owner) stars) y a
stars_flat items owner type stars s.Star a = ap (declare (d.Stars (flat_owner owner) type)) (onto-push add_star _ stars a)
stars_flat items owner type stars (s.Name number) a = refl
stars_flat items owner type stars y a = refl

pub open_parameters_flat : (items : List Node) (owner : Owner) (x : Declared) (a : Span) → flat items (open_parameters owner x a) ≡ r.open_parameters (flat_owner owner) (out_declared x (out_owner items owner)) a
open_parameters_flat items InSource x a = refl
open_parameters_flat items owner x a = refl

pub open_length_flat : (items : List Node) (owner : Owner) (x : Declaration) (a : Span) → flat items (open_length owner x a) ≡ r.open_length (flat_owner owner) (out_declaration x (out_owner items owner)) a
open_length_flat items InSource x a = refl
open_length_flat items owner x a = refl

pub end_declaration_flat : (items : List Node) (owner : Owner) (x : Declaration) (a : Span) → flat items (end_declaration owner x a) ≡ r.end_declaration (flat_owner owner) (out_declaration x (out_owner items owner)) a
end_declaration_flat items InSource x a = refl
end_declaration_flat items (InStruct front members) x a = ap (declare (d.Members front)) (onto-push add_member _ members (record { declaration = x; semicolon = a }))
end_declaration_flat items (InFunction front) x a = ap (begin (f.Locals front.left ∷ [])) (onto-push add_local _ front.locals (make_local x NoValue a))
end_declaration_flat items owner x a = refl

pub begin_initialiser_flat : (items : List Node) (owner : Owner) (x : Declaration) (a : Span)
    → flat items (begin_initialiser owner x a) ≡ r.begin_initialiser (flat_owner owner) (out_declaration x (out_owner items owner)) a
begin_initialiser_flat items InSource x a = refl
begin_initialiser_flat items owner x a = refl

pub next_parameter_flat : (items : List Node) (owner : Owner) (x : Declared) (a : Span) → flat items (next_parameter owner x a) ≡ r.next_parameter (flat_owner owner) (out_declared x (out_owner items owner)) a
next_parameter_flat items (InLaterParameter y left earlier) x a =
    ap (declare (d.TypeStart (w.InLaterParameter left))) (onto-push add_parameter _ earlier (record { parameter = x; comma = a }))
next_parameter_flat items owner x a = refl

pub end_parameters_flat : (items : List Node) (owner : Owner) (x : Declared) (a : Span) → flat items (end_parameters owner x a) ≡ r.end_parameters (flat_owner owner) (out_declared x (out_owner items owner)) a
end_parameters_flat items InSource x a = refl
end_parameters_flat items owner x a = refl

pub lengths_flat : (items : List Node) (owner : Owner) (x : Declaration) (y : Symbol) (a : Span) → flat items (lengths owner x y a) ≡ r.lengths (flat_owner owner) (out_declaration x (out_owner items owner)) y a
lengths_flat items owner x s.LeftBracket a = open_length_flat items owner x a
lengths_flat items owner x s.Semicolon a = end_declaration_flat items owner x a
lengths_flat items owner x s.Assign a = begin_initialiser_flat items owner x a
lengths_flat items owner x y a = refl

pub named_flat : (items : List Node) (owner : Owner) (x : Declared) (y : Symbol) (a : Span) → flat items (named owner x y a) ≡ r.named (flat_owner owner) (out_declared x (out_owner items owner)) y a
named_flat items owner x s.LeftParenthesis a = open_parameters_flat items owner x a
named_flat items owner x s.LeftBracket a = open_length_flat items owner (without_lengths x) a
named_flat items owner x s.Semicolon a = end_declaration_flat items owner (without_lengths x) a
named_flat items owner x s.Assign a = begin_initialiser_flat items owner (without_lengths x) a
named_flat items owner x s.Comma a = next_parameter_flat items owner x a
named_flat items owner x s.RightParenthesis a = end_parameters_flat items owner x a
named_flat items owner x y a = refl

pub length_number_flat : (items : List Node) (owner : Owner) (x : Declaration) (left : Span) (y : Symbol) (a : Span)
    → flat items (length_number owner x left y a) ≡ r.length_number (flat_owner owner) left (out_declaration x (out_owner items owner)) y a
length_number_flat items owner x left (s.Number number) a = refl
length_number_flat items owner x left y a = refl

pub length_end_flat : (items : List Node) (owner : Owner) (x : Declaration) (left : Span) (number : Literal) (span : Span) (y : Symbol) (a : Span)
    → flat items (length_end owner x left number span y a) ≡ r.length_end (flat_owner owner) left number span (out_declaration x (out_owner items owner)) y a
length_end_flat items owner x left number span s.RightBracket a = ap (declare (d.Lengths (flat_owner owner))) (onto-push add_length _ x.lengths (make_length left number span a))
length_end_flat items owner x left number span y a = refl

pub next_member_flat : (items : List Node) (front : StructFront) (members : List Member) (y : Symbol) (a : Span)
    → flat items (next_member front members y a) ≡ r.next_member front (out_members members items) y a
next_member_flat items front members s.RightBrace a = refl
next_member_flat items front members y a = type_start_flat items (InStruct front members) y a

pub struct_end_flat : (items : List Node) (front : StructFront) (members : List Member) (right : Span) (y : Symbol) (a : Span)
    → flat items (struct_end front members right y a) ≡ r.struct_end front right (out_members members items) y a
struct_end_flat items front members right s.Semicolon a = refl
struct_end_flat items front members right y a = refl

-- ---- the initialiser of a global

pub initialiser_start_flat : (items : List Node) (x : Declaration) (equals : Span) (y : Symbol) (a : Span) → flat items (initialiser_start x equals y a) ≡ r.initialiser_start equals (out_declaration x items) y a
initialiser_start_flat items x equals s.Minus a = refl
initialiser_start_flat items x equals (s.Number number) a = refl
initialiser_start_flat items x equals y a = refl

pub initialiser_number_flat : (items : List Node) (x : Declaration) (equals minus : Span) (y : Symbol) (a : Span)
    → flat items (initialiser_number x equals minus y a) ≡ r.initialiser_number equals minus (out_declaration x items) y a
initialiser_number_flat items x equals minus (s.Number number) a = refl
initialiser_number_flat items x equals minus y a = refl

pub initialiser_end_flat : (items : List Node) (x : Declaration) (first : Initialiser) (y : Symbol) (a : Span)
    → flat items (initialiser_end x first y a) ≡ r.initialiser_end (out_initialiser first (out_declaration x items)) y a
initialiser_end_flat items x first s.Semicolon a = refl
initialiser_end_flat items x first y a = refl

abbrev pub numbers : List Node → NumberList → List Node
numbers items l = out_numbers l.earlier (out_declaration l.declaration items)

pub list_start_flat : (items : List Node) (l : NumberList) (y : Symbol) (a : Span) → flat items (list_start l y a) ≡ r.list_start l.equals l.left (numbers items l) y a
list_start_flat items l s.Minus a = refl
list_start_flat items l (s.Number number) a = refl
list_start_flat items l y a = refl

pub list_number_flat : (items : List Node) (l : NumberList) (minus : Span) (y : Symbol) (a : Span) → flat items (list_number l minus y a) ≡ r.list_number l.equals l.left minus (numbers items l) y a
list_number_flat items l minus (s.Number number) a = refl
list_number_flat items l minus y a = refl

pub list_end_flat : (items : List Node) (l : NumberList) (number : SignedNumber) (y : Symbol) (a : Span) → flat items (list_end l number y a) ≡ r.list_end l.equals l.left number (numbers items l) y a
list_end_flat items l number s.Comma a = ap (initialise (i.ListStart l.equals l.left)) (onto-push add_number _ l.earlier (record { number = number; comma = a }))
list_end_flat items l number y a = refl

-- ---- functions

pub header_end_flat : (items : List Node) (x : Header) (y : Symbol) (a : Span) → flat items (header_end x y a) ≡ r.header_end (out_header x items) y a
header_end_flat items x s.Semicolon a = refl
header_end_flat items x y a = refl
