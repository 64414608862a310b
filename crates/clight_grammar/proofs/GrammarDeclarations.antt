-- A token inside a declaration leads from parts of the grammar to parts of the grammar.
use Rattle.std.proofs.Common.{◌<◌, List, length}
use Rattle.std.specs.Prelude.{Option, Some, None}
use Rattle.std.proofs.lemmas.List.Elements.{All-nil}
use Rattle.clight_source.specs.declared.span.Span.{Span}
use Rattle.clight_source.specs.declared.symbol.Literal.{Literal}
use Rattle.clight_source.specs.declared.symbol.Symbol.{Symbol}
use Rattle.clight_source.specs.declared.symbol.Symbol.TheVariants as s
use Rattle.clight_source.specs.declared.tree.Specifiers.{Specifiers}
use Rattle.clight_source.specs.declared.tree.Specifiers.TheVariants as t
use Rattle.clight_source.specs.declared.tree.SignedNumber.{SignedNumber}
use Rattle.clight_source.specs.Trees.{Declared, Declaration, Initialiser, Header, Member}
use Rattle.clight_source.specs.Spelling.{IsLocal}
use Rattle.clight_nodes.specs.Code.Expressions.{first_word, next_word}
use Rattle.clight_nodes.specs.declared.modes.StructFront.{StructFront}
use Rattle.clight_grammar.specs.Code.Forms.{Owner, InSource, InStruct, InFirstParameter, InLaterParameter, InFunction, NumberList, Words, Refused}
use Rattle.clight_grammar.specs.Code.Declarations.{type_start, tag_name, void_only, struct_start, words, in_stars, open_parameters, open_length, end_declaration, begin_initialiser, next_parameter, end_parameters, without_lengths, named, lengths, length_number, length_end, next_member, struct_end, initialiser_start, initialiser_number, initialiser_end, list_start, list_number, list_end, header_end}
use Rattle.clight_grammar.proofs.ReadItems.{MayHaveLengths}
use Rattle.clight_grammar.proofs.OpenForms.{IsOwner, IsGood}
use Rattle.clight_grammar.proofs.GrammarExpressions.{All-push, some_pushed}

-- ---- declarations

pub maybe_words_good : (b : Option Specifiers) (owner : Owner) → IsOwner owner → IsGood (elim b [ None ↦ Refused | Some type ↦ Words owner type ])
maybe_words_good None owner c = tt
maybe_words_good (Some type) owner c = c

pub type_start_good : (owner : Owner) (y : Symbol) (a : Span) → IsOwner owner → IsGood (type_start owner y a)
type_start_good owner s.Struct a c = c
type_start_good owner y a c = maybe_words_good (first_word y a) owner c

pub tag_name_good : (owner : Owner) (word : Span) (y : Symbol) (a : Span) → IsOwner owner → IsGood (tag_name owner word y a)
tag_name_good owner word (s.Name number) a c = c
tag_name_good owner word y a c = tt

pub void_good : (owner : Owner) (type : Specifiers) (a : Span) → IsGood (void_only owner type a)
void_good (InFirstParameter f left) (t.Void void) a = tt
void_good owner type a = tt

pub struct_start_good : (owner : Owner) (type : Specifiers) (a : Span) → IsGood (struct_start owner type a)
struct_start_good InSource (t.Struct word tag) a = tt
struct_start_good owner type a = tt

pub words_good : (owner : Owner) (type : Specifiers) (y : Symbol) (a : Span) → IsOwner owner → IsGood (words owner type y a)
words_good owner type s.Star a c = c
words_good owner type (s.Name number) a c = c
words_good owner type s.RightParenthesis a c = void_good owner type a
words_good owner type s.LeftBrace a c = struct_start_good owner type a
words_good owner type y a c = maybe_words_good (next_word type y a) owner c

pub stars_good : (owner : Owner) (type : Specifiers) (stars : List Span) (y : Symbol) (a : Span) → IsOwner owner → IsGood (in_stars owner type stars y a)
stars_good owner type stars s.Star a c = c
stars_good owner type stars (s.Name number) a c = c
stars_good owner type stars y a c = tt

pub open_parameters_good : (owner : Owner) (x : Declared) (a : Span) → IsGood (open_parameters owner x a)
open_parameters_good InSource x a = tt
open_parameters_good owner x a = tt

pub open_length_good : (owner : Owner) (x : Declaration) (a : Span) → IsOwner owner → IsGood (open_length owner x a)
open_length_good (InFirstParameter f left) x a c = tt
open_length_good (InLaterParameter f left earlier) x a c = tt
open_length_good owner x a c = (c, tt)

pub end_declaration_good : (owner : Owner) (x : Declaration) (a : Span) → IsOwner owner → IsGood (end_declaration owner x a)
end_declaration_good InSource x a c = tt
end_declaration_good (InStruct front members) x a c = some_pushed members _
end_declaration_good (InFunction front) x a c = All-push IsLocal front.locals _ c tt
end_declaration_good owner x a c = tt

pub begin_initialiser_good : (owner : Owner) (x : Declaration) (a : Span) → IsOwner owner → IsGood (begin_initialiser owner x a)
begin_initialiser_good InSource x a c = tt
begin_initialiser_good (InFunction front) x a c = c
begin_initialiser_good owner x a c = tt

pub next_parameter_good : (owner : Owner) (x : Declared) (a : Span) → IsGood (next_parameter owner x a)
next_parameter_good (InFirstParameter f left) x a = tt
next_parameter_good (InLaterParameter f left earlier) x a = tt
next_parameter_good owner x a = tt

pub end_parameters_good : (owner : Owner) (x : Declared) (a : Span) → IsGood (end_parameters owner x a)
end_parameters_good (InFirstParameter f left) x a = tt
end_parameters_good (InLaterParameter f left earlier) x a = tt
end_parameters_good owner x a = tt

pub named_good : (owner : Owner) (x : Declared) (y : Symbol) (a : Span) → IsOwner owner → IsGood (named owner x y a)
named_good owner x s.LeftParenthesis a c = open_parameters_good owner x a
named_good owner x s.LeftBracket a c = open_length_good owner (without_lengths x) a c
named_good owner x s.Semicolon a c = end_declaration_good owner (without_lengths x) a c
named_good owner x s.Assign a c = begin_initialiser_good owner (without_lengths x) a c
named_good owner x s.Comma a c = next_parameter_good owner x a
named_good owner x s.RightParenthesis a c = end_parameters_good owner x a
named_good owner x y a c = tt

pub lengths_good : (owner : Owner) (x : Declaration) (y : Symbol) (a : Span) → IsOwner owner → IsGood (lengths owner x y a)
lengths_good owner x s.LeftBracket a c = open_length_good owner x a c
lengths_good owner x s.Semicolon a c = end_declaration_good owner x a c
lengths_good owner x s.Assign a c = begin_initialiser_good owner x a c
lengths_good owner x y a c = tt

pub length_number_good : (owner : Owner) (x : Declaration) (left : Span) (y : Symbol) (a : Span) → IsOwner owner × MayHaveLengths owner → IsGood (length_number owner x left y a)
length_number_good owner x left (s.Number number) a c = c
length_number_good owner x left y a c = tt

pub length_end_good : (owner : Owner) (x : Declaration) (left : Span) (n : Literal) (i : Span) (y : Symbol) (a : Span) → IsOwner owner × MayHaveLengths owner
    → IsGood (length_end owner x left n i y a)
length_end_good owner x left n i s.RightBracket a c = c
length_end_good owner x left n i y a c = tt

pub next_member_good : (front : StructFront) (members : List Member) (y : Symbol) (a : Span) → 0 < length members → IsGood (next_member front members y a)
next_member_good front members s.RightBrace a c = c
next_member_good front members y a c = type_start_good (InStruct front members) y a tt

pub struct_end_good : (front : StructFront) (members : List Member) (right : Span) (y : Symbol) (a : Span) → 0 < length members → IsGood (struct_end front members right y a)
struct_end_good front members right s.Semicolon a c = c
struct_end_good front members right y a c = tt

pub initialiser_start_good : (x : Declaration) (equals : Span) (y : Symbol) (a : Span) → IsGood (initialiser_start x equals y a)
initialiser_start_good x equals s.Minus a = tt
initialiser_start_good x equals (s.Number number) a = tt
initialiser_start_good x equals s.LeftBrace a = tt
initialiser_start_good x equals y a = tt

pub initialiser_number_good : (x : Declaration) (equals minus : Span) (y : Symbol) (a : Span) → IsGood (initialiser_number x equals minus y a)
initialiser_number_good x equals minus (s.Number number) a = tt
initialiser_number_good x equals minus y a = tt

pub initialiser_end_good : (x : Declaration) (i : Initialiser) (y : Symbol) (a : Span) → IsGood (initialiser_end x i y a)
initialiser_end_good x i s.Semicolon a = tt
initialiser_end_good x i y a = tt

pub list_start_good : (l : NumberList) (y : Symbol) (a : Span) → IsGood (list_start l y a)
list_start_good l s.Minus a = tt
list_start_good l (s.Number number) a = tt
list_start_good l y a = tt

pub list_number_good : (l : NumberList) (minus : Span) (y : Symbol) (a : Span) → IsGood (list_number l minus y a)
list_number_good l minus (s.Number number) a = tt
list_number_good l minus y a = tt

pub list_end_good : (l : NumberList) (n : SignedNumber) (y : Symbol) (a : Span) → IsGood (list_end l n y a)
list_end_good l n s.Comma a = tt
list_end_good l n s.RightBrace a = tt
list_end_good l n y a = tt

pub header_end_good : (x : Header) (y : Symbol) (a : Span) → IsGood (header_end x y a)
header_end_good x s.Semicolon a = tt
header_end_good x s.LeftBrace a = All-nil IsLocal
header_end_good x y a = tt
