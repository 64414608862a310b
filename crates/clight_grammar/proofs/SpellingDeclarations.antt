-- What the machine has read inside a declaration is what its mode spells.
use Rattle.std.proofs.Common.{◌≡◌, List, [], ◌∷◌, ◌++◌, refl, sym, ap, ◌∙◌, append_assoc, append-nil}
use Rattle.std.specs.Prelude.{Option, Some, None, map, flat_map}
use Rattle.clight_source.specs.declared.span.Span.{Span}
use Rattle.clight_source.specs.declared.symbol.Literal.{Literal}
use Rattle.clight_source.specs.declared.symbol.Symbol.{Symbol}
use Rattle.clight_source.specs.declared.symbol.Symbol.TheVariants as s
use Rattle.clight_source.specs.declared.symbol.Terminal.{Terminal}
use Rattle.clight_source.specs.declared.tree.Specifiers.{Specifiers}
use Rattle.clight_source.specs.declared.tree.Specifiers.TheVariants as t
use Rattle.clight_source.specs.declared.tree.SignedNumber.{SignedNumber}
use Rattle.clight_source.specs.Trees.{Declared, Declaration, Initialiser, Header, Member}
use Rattle.clight_source.specs.Spelling.{terminal, type_terminals, length_terminals, declared_terminals, declaration_terminals, member_terminals, number_terminals, earlier_number_terminals, initialiser_terminals, earlier_parameter_terminals, header_terminals}
use Rattle.clight_nodes.specs.Code.Declarations.{make_length}
use Rattle.clight_nodes.specs.Code.Expressions.{first_word, next_word}
use Rattle.clight_nodes.specs.declared.modes.StructFront.{StructFront}
use Rattle.clight_grammar.specs.Code.Forms.{Owner, InSource, InStruct, InFirstParameter, InLaterParameter, InFunction, NumberList, Words, Refused}
use Rattle.clight_grammar.specs.Code.Declarations.{type_start, tag_name, void_only, struct_start, words, in_stars, open_parameters, open_length, end_declaration, begin_initialiser, next_parameter, end_parameters, without_lengths, named, lengths, length_number, longer, length_end, next_member, struct_end, initialiser_start, initialiser_number, initialiser_end, list_start, list_number, list_end, header_end}
use Rattle.clight_grammar.proofs.OpenForms.{front_terminals, struct_terminals, owner_terminals, list_terminals, HasRead}
use Rattle.clight_grammar.proofs.SpellingExpressions.{along, flat_map-push, words_or, first_word_is, next_word_is, pair_shape, after_shape, condition_shape, front_push}

-- ---- declarations

pub maybe_words_read : (b : Option Specifiers) (owner : Owner) (l : List Terminal) → words_or b l ≡ l
    → HasRead (elim b [ None ↦ Refused | Some type ↦ Words owner type ]) (owner_terminals owner ++ l)
maybe_words_read None owner l h = tt
maybe_words_read (Some type) owner l h = ap (λ z. owner_terminals owner ++ z) h

pub type_start_read : (owner : Owner) (y : Symbol) (a : Span) → HasRead (type_start owner y a) (owner_terminals owner ++ terminal y a ∷ [])
type_start_read owner s.Struct a = refl
type_start_read owner y a = maybe_words_read (first_word y a) owner (terminal y a ∷ []) (first_word_is y a)

pub tag_name_read : (owner : Owner) (word : Span) (y : Symbol) (a : Span) → HasRead (tag_name owner word y a) ((owner_terminals owner ++ terminal s.Struct word ∷ []) ++ terminal y a ∷ [])
tag_name_read owner word (s.Name number) a = sym (append_assoc (owner_terminals owner) (terminal s.Struct word ∷ []) (terminal (s.Name number) a ∷ []))
tag_name_read owner word y a = tt

pub void_shape : (d : List Terminal) (o v c : Terminal) → d ++ (o ∷ (v ∷ (c ∷ []))) ≡ ((d ++ o ∷ []) ++ v ∷ []) ++ c ∷ []
void_shape d o v c = simp append_assoc

pub void_read : (owner : Owner) (type : Specifiers) (a : Span) → HasRead (void_only owner type a) ((owner_terminals owner ++ type_terminals type) ++ terminal s.RightParenthesis a ∷ [])
void_read (InFirstParameter f left) (t.Void void) a = void_shape (declared_terminals f) (terminal s.LeftParenthesis left) (terminal s.Void void) (terminal s.RightParenthesis a)
void_read owner type a = tt

pub struct_start_read : (owner : Owner) (type : Specifiers) (a : Span) → HasRead (struct_start owner type a) ((owner_terminals owner ++ type_terminals type) ++ terminal s.LeftBrace a ∷ [])
struct_start_read InSource (t.Struct word tag) a = refl
struct_start_read owner type a = tt

pub more_words_read : (b : Option Specifiers) (owner : Owner) (type : Specifiers) (x : Terminal) → words_or b (type_terminals type ++ x ∷ []) ≡ type_terminals type ++ x ∷ []
    → HasRead (elim b [ None ↦ Refused | Some longer ↦ Words owner longer ]) ((owner_terminals owner ++ type_terminals type) ++ x ∷ [])
more_words_read None owner type x h = tt
more_words_read (Some more) owner type x h = ap (λ l. owner_terminals owner ++ l) h ∙ sym (append_assoc (owner_terminals owner) (type_terminals type) (x ∷ []))

pub words_read : (owner : Owner) (type : Specifiers) (y : Symbol) (a : Span) → HasRead (words owner type y a) ((owner_terminals owner ++ type_terminals type) ++ terminal y a ∷ [])
words_read owner type s.Star a = sym (append_assoc (owner_terminals owner) (type_terminals type) (terminal s.Star a ∷ []))
words_read owner type (s.Name number) a = sym (append_assoc (owner_terminals owner) (type_terminals type) (terminal (s.Name number) a ∷ []))
words_read owner type s.RightParenthesis a = void_read owner type a
words_read owner type s.LeftBrace a = struct_start_read owner type a
words_read owner type y a = more_words_read (next_word type y a) owner type (terminal y a) (next_word_is type y a)

pub stars_push : (stars : List Span) (a : Span) → map (terminal s.Star) (stars ++ a ∷ []) ≡ map (terminal s.Star) stars ++ terminal s.Star a ∷ []
stars_push [] a = refl
stars_push (x ∷ stars) a = ap (λ l. terminal s.Star x ∷ l) (stars_push stars a)

pub stars_shape : (o t x : List Terminal) (m : Terminal) → o ++ (t ++ (x ++ m ∷ [])) ≡ (o ++ (t ++ x)) ++ m ∷ []
stars_shape o t x m = simp append_assoc

pub stars_read : (owner : Owner) (type : Specifiers) (stars : List Span) (y : Symbol) (a : Span)
    → HasRead (in_stars owner type stars y a) ((owner_terminals owner ++ (type_terminals type ++ map (terminal s.Star) stars)) ++ terminal y a ∷ [])
stars_read owner type stars s.Star a =
    ap (λ l. owner_terminals owner ++ (type_terminals type ++ l)) (stars_push stars a)
    ∙ stars_shape (owner_terminals owner) (type_terminals type) (map (terminal s.Star) stars) (terminal s.Star a)
stars_read owner type stars (s.Name number) a = stars_shape (owner_terminals owner) (type_terminals type) (map (terminal s.Star) stars) (terminal (s.Name number) a)
stars_read owner type stars y a = tt

pub open_parameters_read : (owner : Owner) (x : Declared) (a : Span) → HasRead (open_parameters owner x a) ((owner_terminals owner ++ declared_terminals x) ++ terminal s.LeftParenthesis a ∷ [])
open_parameters_read InSource x a = refl
open_parameters_read owner x a = tt

pub open_length_read : (owner : Owner) (x : Declaration) (a : Span) → HasRead (open_length owner x a) ((owner_terminals owner ++ declaration_terminals x) ++ terminal s.LeftBracket a ∷ [])
open_length_read (InFirstParameter f left) x a = tt
open_length_read (InLaterParameter f left earlier) x a = tt
open_length_read owner x a = after_shape (owner_terminals owner) (declaration_terminals x) (terminal s.LeftBracket a)

pub end_declaration_read : (owner : Owner) (x : Declaration) (a : Span) → HasRead (end_declaration owner x a) ((owner_terminals owner ++ declaration_terminals x) ++ terminal s.Semicolon a ∷ [])
end_declaration_read InSource x a = refl
end_declaration_read (InStruct front members) x a =
    ap (λ l. struct_terminals front ++ l) (flat_map-push member_terminals members (record { declaration = x; semicolon = a }))
    ∙ condition_shape (struct_terminals front) (flat_map member_terminals members) (declaration_terminals x) (terminal s.Semicolon a)
end_declaration_read (InFunction front) x a = front_push front _ ∙ after_shape (front_terminals front) (declaration_terminals x) (terminal s.Semicolon a)
end_declaration_read owner x a = tt

pub begin_initialiser_read : (owner : Owner) (x : Declaration) (a : Span) → HasRead (begin_initialiser owner x a) ((owner_terminals owner ++ declaration_terminals x) ++ terminal s.Assign a ∷ [])
begin_initialiser_read InSource x a = refl
begin_initialiser_read (InFunction front) x a = after_shape (front_terminals front) (declaration_terminals x) (terminal s.Assign a)
begin_initialiser_read owner x a = tt

pub first_parameter_shape : (d p : List Terminal) (o c : Terminal) → d ++ (o ∷ ((p ++ c ∷ []) ++ [])) ≡ ((d ++ o ∷ []) ++ p) ++ c ∷ []
first_parameter_shape d p o c = simp (append-nil, append_assoc)

pub parameter_shape : (d e p : List Terminal) (o c : Terminal) → d ++ (o ∷ (e ++ (p ++ c ∷ []))) ≡ ((d ++ (o ∷ e)) ++ p) ++ c ∷ []
parameter_shape d e p o c = simp append_assoc

pub next_parameter_read : (owner : Owner) (x : Declared) (a : Span) → HasRead (next_parameter owner x a) ((owner_terminals owner ++ declared_terminals x) ++ terminal s.Comma a ∷ [])
next_parameter_read (InFirstParameter f left) x a = first_parameter_shape (declared_terminals f) (declared_terminals x) (terminal s.LeftParenthesis left) (terminal s.Comma a)
next_parameter_read (InLaterParameter f left earlier) x a =
    ap (λ l. declared_terminals f ++ (terminal s.LeftParenthesis left ∷ l)) (flat_map-push earlier_parameter_terminals earlier (record { parameter = x; comma = a }))
    ∙ parameter_shape (declared_terminals f) (flat_map earlier_parameter_terminals earlier) (declared_terminals x) (terminal s.LeftParenthesis left) (terminal s.Comma a)
next_parameter_read owner x a = tt

pub last_parameter_shape : (d e p : List Terminal) (o c : Terminal) → d ++ (o ∷ ((e ++ p) ++ c ∷ [])) ≡ ((d ++ (o ∷ e)) ++ p) ++ c ∷ []
last_parameter_shape d e p o c = simp append_assoc

pub end_parameters_read : (owner : Owner) (x : Declared) (a : Span) → HasRead (end_parameters owner x a) ((owner_terminals owner ++ declared_terminals x) ++ terminal s.RightParenthesis a ∷ [])
end_parameters_read (InFirstParameter f left) x a = last_parameter_shape (declared_terminals f) [] (declared_terminals x) (terminal s.LeftParenthesis left) (terminal s.RightParenthesis a)
end_parameters_read (InLaterParameter f left earlier) x a =
    last_parameter_shape (declared_terminals f) (flat_map earlier_parameter_terminals earlier) (declared_terminals x) (terminal s.LeftParenthesis left) (terminal s.RightParenthesis a)
end_parameters_read owner x a = tt

pub bare : (owner : Owner) (x : Declared) (m : Terminal) → (owner_terminals owner ++ declaration_terminals (without_lengths x)) ++ m ∷ [] ≡ (owner_terminals owner ++ declared_terminals x) ++ m ∷ []
bare owner x m = ap (λ l. (owner_terminals owner ++ l) ++ m ∷ []) (append-nil (declared_terminals x))

pub named_read : (owner : Owner) (x : Declared) (y : Symbol) (a : Span) → HasRead (named owner x y a) ((owner_terminals owner ++ declared_terminals x) ++ terminal y a ∷ [])
named_read owner x s.LeftParenthesis a = open_parameters_read owner x a
named_read owner x s.LeftBracket a = along (open_length owner (without_lengths x) a) _ _ (bare owner x (terminal s.LeftBracket a)) (open_length_read owner (without_lengths x) a)
named_read owner x s.Semicolon a = along (end_declaration owner (without_lengths x) a) _ _ (bare owner x (terminal s.Semicolon a)) (end_declaration_read owner (without_lengths x) a)
named_read owner x s.Assign a = along (begin_initialiser owner (without_lengths x) a) _ _ (bare owner x (terminal s.Assign a)) (begin_initialiser_read owner (without_lengths x) a)
named_read owner x s.Comma a = next_parameter_read owner x a
named_read owner x s.RightParenthesis a = end_parameters_read owner x a
named_read owner x y a = tt

pub lengths_read : (owner : Owner) (x : Declaration) (y : Symbol) (a : Span) → HasRead (lengths owner x y a) ((owner_terminals owner ++ declaration_terminals x) ++ terminal y a ∷ [])
lengths_read owner x s.LeftBracket a = open_length_read owner x a
lengths_read owner x s.Semicolon a = end_declaration_read owner x a
lengths_read owner x s.Assign a = begin_initialiser_read owner x a
lengths_read owner x y a = tt

pub length_number_read : (owner : Owner) (x : Declaration) (left : Span) (y : Symbol) (a : Span)
    → HasRead (length_number owner x left y a) ((owner_terminals owner ++ (declaration_terminals x ++ terminal s.LeftBracket left ∷ [])) ++ terminal y a ∷ [])
length_number_read owner x left (s.Number number) a = pair_shape (owner_terminals owner) (declaration_terminals x) (terminal s.LeftBracket left) (terminal (s.Number number) a)
length_number_read owner x left y a = tt

pub length_shape : (o d l : List Terminal) (b n c : Terminal) → o ++ (d ++ (l ++ (b ∷ (n ∷ (c ∷ []))))) ≡ (o ++ ((d ++ l) ++ (b ∷ (n ∷ [])))) ++ c ∷ []
length_shape o d l b n c = simp append_assoc

-- a length more
pub longer_is : (o : List Terminal) (x : Declaration) (left : Span) (n : Literal) (i a : Span)
    → o ++ declaration_terminals (longer x (make_length left n i a))
    ≡ (o ++ (declaration_terminals x ++ (terminal s.LeftBracket left ∷ (terminal (s.Number n) i ∷ [])))) ++ terminal s.RightBracket a ∷ []
longer_is o x left n i a =
    ap (λ l. o ++ (declared_terminals x.declared ++ l)) (flat_map-push length_terminals x.lengths (make_length left n i a))
    ∙ length_shape o (declared_terminals x.declared) (flat_map length_terminals x.lengths) (terminal s.LeftBracket left) (terminal (s.Number n) i) (terminal s.RightBracket a)

pub length_end_read : (owner : Owner) (x : Declaration) (left : Span) (n : Literal) (i : Span) (y : Symbol) (a : Span)
    → HasRead (length_end owner x left n i y a) ((owner_terminals owner ++ (declaration_terminals x ++ (terminal s.LeftBracket left ∷ (terminal (s.Number n) i ∷ [])))) ++ terminal y a ∷ [])
length_end_read owner x left n i s.RightBracket a = longer_is (owner_terminals owner) x left n i a
length_end_read owner x left n i y a = tt

pub next_member_read : (front : StructFront) (members : List Member) (y : Symbol) (a : Span)
    → HasRead (next_member front members y a) ((struct_terminals front ++ flat_map member_terminals members) ++ terminal y a ∷ [])
next_member_read front members s.RightBrace a = refl
next_member_read front members y a = type_start_read (InStruct front members) y a

pub struct_shape : (f l : List Terminal) (c m : Terminal) → f ++ (l ++ (c ∷ (m ∷ []))) ≡ ((f ++ l) ++ c ∷ []) ++ m ∷ []
struct_shape f l c m = simp append_assoc

pub struct_end_read : (front : StructFront) (members : List Member) (right : Span) (y : Symbol) (a : Span)
    → HasRead (struct_end front members right y a) (((struct_terminals front ++ flat_map member_terminals members) ++ terminal s.RightBrace right ∷ []) ++ terminal y a ∷ [])
struct_end_read front members right s.Semicolon a = struct_shape (struct_terminals front) (flat_map member_terminals members) (terminal s.RightBrace right) (terminal s.Semicolon a)
struct_end_read front members right y a = tt

pub initialiser_start_read : (x : Declaration) (equals : Span) (y : Symbol) (a : Span) → HasRead (initialiser_start x equals y a) ((declaration_terminals x ++ terminal s.Assign equals ∷ []) ++ terminal y a ∷ [])
initialiser_start_read x equals s.Minus a = sym (append_assoc (declaration_terminals x) (terminal s.Assign equals ∷ []) (terminal s.Minus a ∷ []))
initialiser_start_read x equals (s.Number number) a = sym (append_assoc (declaration_terminals x) (terminal s.Assign equals ∷ []) (terminal (s.Number number) a ∷ []))
initialiser_start_read x equals s.LeftBrace a = sym (append_assoc (declaration_terminals x) (terminal s.Assign equals ∷ []) (terminal s.LeftBrace a ∷ []))
initialiser_start_read x equals y a = tt

pub initialiser_number_read : (x : Declaration) (equals minus : Span) (y : Symbol) (a : Span)
    → HasRead (initialiser_number x equals minus y a) ((declaration_terminals x ++ (terminal s.Assign equals ∷ (terminal s.Minus minus ∷ []))) ++ terminal y a ∷ [])
initialiser_number_read x equals minus (s.Number number) a =
    sym (append_assoc (declaration_terminals x) (terminal s.Assign equals ∷ (terminal s.Minus minus ∷ [])) (terminal (s.Number number) a ∷ []))
initialiser_number_read x equals minus y a = tt

pub initialiser_end_read : (x : Declaration) (i : Initialiser) (y : Symbol) (a : Span) → HasRead (initialiser_end x i y a) ((declaration_terminals x ++ initialiser_terminals i) ++ terminal y a ∷ [])
initialiser_end_read x i s.Semicolon a = after_shape (declaration_terminals x) (initialiser_terminals i) (terminal s.Semicolon a)
initialiser_end_read x i y a = tt

pub list_start_read : (l : NumberList) (y : Symbol) (a : Span) → HasRead (list_start l y a) (list_terminals l ++ terminal y a ∷ [])
list_start_read l s.Minus a = refl
list_start_read l (s.Number number) a = refl
list_start_read l y a = tt

pub list_number_read : (l : NumberList) (minus : Span) (y : Symbol) (a : Span) → HasRead (list_number l minus y a) ((list_terminals l ++ terminal s.Minus minus ∷ []) ++ terminal y a ∷ [])
list_number_read l minus (s.Number number) a = sym (append_assoc (list_terminals l) (terminal s.Minus minus ∷ []) (terminal (s.Number number) a ∷ []))
list_number_read l minus y a = tt

pub list_shape : (d e n : List Terminal) (q o c : Terminal) → d ++ (q ∷ (o ∷ (e ++ (n ++ c ∷ [])))) ≡ ((d ++ (q ∷ (o ∷ e))) ++ n) ++ c ∷ []
list_shape d e n q o c = simp append_assoc

pub list_end_read : (l : NumberList) (n : SignedNumber) (y : Symbol) (a : Span) → HasRead (list_end l n y a) ((list_terminals l ++ number_terminals n) ++ terminal y a ∷ [])
list_end_read l n s.Comma a =
    ap (λ z. declaration_terminals l.declaration ++ (terminal s.Assign l.equals ∷ (terminal s.LeftBrace l.left ∷ z))) (flat_map-push earlier_number_terminals l.earlier (record { number = n; comma = a }))
    ∙ list_shape (declaration_terminals l.declaration) (flat_map earlier_number_terminals l.earlier) (number_terminals n) (terminal s.Assign l.equals) (terminal s.LeftBrace l.left) (terminal s.Comma a)
list_end_read l n s.RightBrace a =
    list_shape (declaration_terminals l.declaration) (flat_map earlier_number_terminals l.earlier) (number_terminals n) (terminal s.Assign l.equals) (terminal s.LeftBrace l.left) (terminal s.RightBrace a)
list_end_read l n y a = tt

pub header_end_read : (x : Header) (y : Symbol) (a : Span) → HasRead (header_end x y a) (header_terminals x ++ terminal y a ∷ [])
header_end_read x s.Semicolon a = refl
header_end_read x s.LeftBrace a = refl
header_end_read x y a = tt
