-- A declaration is let through exactly where it obeys its rule.
use Rattle.std.proofs.Common.{◌≡◌, ◌∙◌, ℕ, suc, Bool, true, false, ◌&&◌, ◌||◌, IsTrue, List, [], ◌∷◌, map, length, Option, Some, None, Result, Ok, Err, refl, sym, ap, subst}
use Rattle.std.proofs.Math.Bool.{and_assoc}
use Rattle.std.specs.Prelude.{IfOk, if◌then◌else◌, not}
use Rattle.std.proofs.lemmas.Bool.{and_parts, and_from}
use Rattle.cerco_base.specs.declared.reasons.TypeKind.{TypeKind}
use Rattle.cerco_base.specs.declared.reasons.TypeKind.TheVariants as k
use Rattle.clight_source.specs.declared.tree.Specifiers.{Specifiers}
use Rattle.clight_source.specs.declared.tree.SignedNumber.{SignedNumber}
use Rattle.clight_source.specs.declared.tree.EarlierNumber.{EarlierNumber}
use Rattle.clight_source.specs.Depth.{declared_start}
use Rattle.clight_source.specs.Trees as s
use Rattle.c_types.specs.declared.integers.Size.TheVariants.{One, Two, Four}
use Rattle.c_types.specs.declared.integers.Size.{Size}
use Rattle.c_types.specs.Types.{CType, Void, Integer, Pointer, Array, Struct, StructType, size_of}
use Rattle.c_types.specs.Kinds.{is_scalar, is_four_bytes}
use Rattle.clight_types.specs.Declarations.{named_type, declared_type, declaration_type, parameters_of, signature_of, is_size, struct_type}
use Rattle.clight_typing.specs.Functions.{is_void, is_object_words, is_result_words, is_declaration, are_members, is_struct, is_number, are_numbers, has_numbers, takes_initialiser, is_global, is_parameter, are_parameters, is_result, has_few_parameters, is_header}
use Rattle.clight_types.specs.TypedExpressions.{Checked, fault, ◌>>=◌, object_words, words_start}
use Rattle.clight_typing.specs.TypedPrograms.{asked, checked_declaration, checked_members, checked_struct, checked_number, checked_numbers, checked_initialiser, checked_global, result_words, checked_result, checked_parameter, checked_parameters, checked_types, few_parameters, checked_prototype}
use Rattle.clight_typing.proofs.Checks.{then_holds, if_true, if_false}
use Rattle.clight_typing.proofs.CompleteExpressions.{goes}

-- ---- one question

pub asked_right : (b : Bool) (at : ℕ) (kind : TypeKind) → IfOk (asked b at kind) (λ _. IsTrue b)
asked_right true at kind = refl
asked_right false at kind = tt

pub asked_given : (b : Bool) (at : ℕ) (kind : TypeKind) → IsTrue b → asked b at kind ≡ Ok tt
asked_given true at kind h = refl
asked_given false at kind h = absurd cc

-- two steps, each of which has its question
pub and_right : {A B : Type 0} (b c : Bool) (x : Checked A) (next : A → Checked B) → IfOk x (λ _. IsTrue b) → ((a : A) → IfOk (next a) (λ _. IsTrue c)) →
    IfOk (x >>= next) (λ _. IsTrue (b && c))
and_right {B = B} b c x next h f = then_holds (λ _. IsTrue b) (λ _. IsTrue (b && c)) x next h (λ a is. weaken (next a) (f a) is)
  where
    weaken : (y : Checked B) → IfOk y (λ _. IsTrue c) → IsTrue b → IfOk y (λ _. IsTrue (b && c))
    weaken (Ok d) g is = and_from b c is g
    weaken (Err e) g is = tt

-- ---- declarations

short_right : (type : CType) (at : ℕ) → is_void type ≡ false → IfOk (if is_four_bytes type then fault at k.Long else Ok type) (λ _. IsTrue (is_object_words type))
short_right type at void = short (is_four_bytes type) refl
  where
    short : (b : Bool) → is_four_bytes type ≡ b → IfOk (if b then fault at k.Long else Ok type) (λ _. IsTrue (is_object_words type))
    short true is = tt
    short false is = and_from (not (is_four_bytes type)) (not (is_void type)) (rw is refl) (rw void refl)

pub object_words_right : (type : CType) (words : Specifiers) → IfOk (object_words type words) (λ _. IsTrue (is_object_words type))
object_words_right Void words = tt
object_words_right (Integer size signed) words = short_right (Integer size signed) (words_start words) refl
object_words_right (Pointer target) words = short_right (Pointer target) (words_start words) refl
object_words_right (Array element count) words = short_right (Array element count) (words_start words) refl
object_words_right (Struct number) words = short_right (Struct number) (words_start words) refl

pub object_words_given : (type : CType) (words : Specifiers) → IsTrue (is_object_words type) → object_words type words ≡ Ok type
object_words_given Void words h = absurd cc
object_words_given (Integer One signed) words h = refl
object_words_given (Integer Two signed) words h = refl
object_words_given (Integer Four signed) words h = absurd cc
object_words_given (Pointer target) words h = refl
object_words_given (Array element count) words h = refl
object_words_given (Struct number) words h = refl

pub declaration_right : (structs : List StructType) (x : s.Declaration) → IfOk (checked_declaration structs x) (λ _. IsTrue (is_declaration structs x))
declaration_right structs x =
    and_right _ _ (object_words (named_type structs x.declared.specifiers) x.declared.specifiers) _ (object_words_right (named_type structs x.declared.specifiers) x.declared.specifiers)
    (λ words. then_holds (λ _. IsTrue (is_size (size_of structs (declaration_type structs x)))) _ (asked (is_size (size_of structs (declaration_type structs x))) (declared_start x.declared) k.Size) _
    (asked_right _ _ _) (λ size h. h))

pub declaration_given : (structs : List StructType) (x : s.Declaration) → IsTrue (is_declaration structs x) → checked_declaration structs x ≡ Ok (declaration_type structs x)
declaration_given structs x h =
    let parts = and_parts (is_object_words (named_type structs x.declared.specifiers)) (is_size (size_of structs (declaration_type structs x))) h in
    goes (object_words (named_type structs x.declared.specifiers) x.declared.specifiers) (named_type structs x.declared.specifiers) _
    (object_words_given (named_type structs x.declared.specifiers) x.declared.specifiers parts.0)
    ∙ goes (asked (is_size (size_of structs (declaration_type structs x))) (declared_start x.declared) k.Size) tt (λ _. Ok (declaration_type structs x)) (asked_given _ _ _ parts.1)

members_right : (structs : List StructType) (xs : List s.Member) → IfOk (checked_members structs xs) (λ _. IsTrue (are_members structs xs))
members_right structs [] = refl
members_right structs (x ∷ rest) = and_right _ _ (checked_declaration structs x.declaration) _ (declaration_right structs x.declaration) (λ type. members_right structs rest)

members_given : (structs : List StructType) (xs : List s.Member) → IsTrue (are_members structs xs) → checked_members structs xs ≡ Ok tt
members_given structs [] h = refl
members_given structs (x ∷ rest) h =
    let parts = and_parts (is_declaration structs x.declaration) (are_members structs rest) h in
    goes (checked_declaration structs x.declaration) (declaration_type structs x.declaration) (λ _. checked_members structs rest) (declaration_given structs x.declaration parts.0)
    ∙ members_given structs rest parts.1

pub struct_right : (structs : List StructType) (x : s.Struct) → IfOk (checked_struct structs x) (λ _. IsTrue (is_struct structs x))
struct_right structs x = and_right _ _ (checked_members structs x.members) _ (members_right structs x.members) (λ _. asked_right _ _ _)

pub struct_given : (structs : List StructType) (x : s.Struct) → IsTrue (is_struct structs x) → checked_struct structs x ≡ Ok tt
struct_given structs x h =
    let parts = and_parts (are_members structs x.members) (is_size (struct_type structs x).size) h in
    goes (checked_members structs x.members) tt _ (members_given structs x.members parts.0) ∙ asked_given _ _ _ parts.1

-- ---- globals

numbers_right : (xs : List EarlierNumber) → IfOk (checked_numbers xs) (λ _. IsTrue (are_numbers xs))
numbers_right [] = refl
numbers_right (x ∷ rest) = and_right _ _ (checked_number x.number) _ (asked_right _ _ _) (λ _. numbers_right rest)

numbers_given : (xs : List EarlierNumber) → IsTrue (are_numbers xs) → checked_numbers xs ≡ Ok tt
numbers_given [] h = refl
numbers_given (x ∷ rest) h =
    let parts = and_parts (is_number x.number) (are_numbers rest) h in
    goes (checked_number x.number) tt (λ _. checked_numbers rest) (asked_given _ _ _ parts.0) ∙ numbers_given rest parts.1

initialiser_right : (type : CType) (x : s.Initialiser) → IfOk (checked_initialiser type x) (λ _. IsTrue (has_numbers x && takes_initialiser type x))
initialiser_right type s.NoInitialiser = refl
initialiser_right type (s.Single equals number) = and_right _ _ (checked_number number) _ (asked_right _ _ _) (λ _. asked_right _ _ _)
initialiser_right type (s.Listed equals left earlier last right) =
    let P : Bool → Type 0 = λ b. IfOk (checked_initialiser type (s.Listed equals left earlier last right)) (λ _. IsTrue b) in
    subst P (sym (and_assoc (are_numbers earlier) (is_number last) (takes_initialiser type (s.Listed equals left earlier last right))))
    (and_right (are_numbers earlier) (is_number last && takes_initialiser type (s.Listed equals left earlier last right)) (checked_numbers earlier) _ (numbers_right earlier)
    (λ _. and_right _ _ (checked_number last) _ (asked_right _ _ _) (λ _. asked_right _ _ _)))

initialiser_given : (type : CType) (x : s.Initialiser) → IsTrue (has_numbers x) → IsTrue (takes_initialiser type x) → checked_initialiser type x ≡ Ok tt
initialiser_given type s.NoInitialiser h g = refl
initialiser_given type (s.Single equals number) h g = goes (checked_number number) tt _ (asked_given _ _ _ h) ∙ asked_given _ _ _ g
initialiser_given type (s.Listed equals left earlier last right) h g =
    let parts = and_parts (are_numbers earlier) (is_number last) h in
    goes (checked_numbers earlier) tt _ (numbers_given earlier parts.0) ∙ (goes (checked_number last) tt _ (asked_given _ _ _ parts.1) ∙ asked_given _ _ _ g)

pub declared_right : (structs : List StructType) (x : s.Declaration) →
    IfOk (checked_declaration structs x) (λ type. IsTrue (is_declaration structs x) × (type ≡ declaration_type structs x))
declared_right structs x =
    let Words : CType → Type 0 = λ _. IsTrue (is_object_words (named_type structs x.declared.specifiers)) in
    let Sized : Unit {0} → Type 0 = λ _. IsTrue (is_size (size_of structs (declaration_type structs x))) in
    let Goal : CType → Type 0 = λ type. IsTrue (is_declaration structs x) × (type ≡ declaration_type structs x) in
    then_holds Words Goal (object_words (named_type structs x.declared.specifiers) x.declared.specifiers) _
    (object_words_right (named_type structs x.declared.specifiers) x.declared.specifiers)
    (λ words h. then_holds Sized Goal (asked (is_size (size_of structs (declaration_type structs x))) (declared_start x.declared) k.Size) (λ _. Ok (declaration_type structs x))
    (asked_right _ _ _) (λ size g. (and_from _ _ h g, refl)))

pub global_right : (structs : List StructType) (x : s.Global) → IfOk (checked_global structs x) (λ _. IsTrue (is_global structs x))
global_right structs x =
    let Declared : CType → Type 0 = λ type. IsTrue (is_declaration structs x.declaration) × (type ≡ declaration_type structs x.declaration) in
    let Goal : Unit {0} → Type 0 = λ _. IsTrue (is_global structs x) in
    then_holds Declared Goal (checked_declaration structs x.declaration) (λ type. checked_initialiser type x.initialiser) (declared_right structs x.declaration)
    (λ type h. at_type type h.0 (sym h.1) (initialiser_right (declaration_type structs x.declaration) x.initialiser))
  where
    weaken : IsTrue (is_declaration structs x.declaration) → (y : Checked (Unit {0})) →
        IfOk y (λ _. IsTrue (has_numbers x.initialiser && takes_initialiser (declaration_type structs x.declaration) x.initialiser)) → IfOk y (λ _. IsTrue (is_global structs x))
    weaken is (Ok a) h = and_from _ _ is h
    weaken is (Err e) h = tt

    at_type : (type : CType) → IsTrue (is_declaration structs x.declaration) → declaration_type structs x.declaration ≡ type →
        IfOk (checked_initialiser (declaration_type structs x.declaration) x.initialiser) (λ _. IsTrue (has_numbers x.initialiser && takes_initialiser (declaration_type structs x.declaration) x.initialiser)) →
        IfOk (checked_initialiser type x.initialiser) (λ _. IsTrue (is_global structs x))
    at_type type is same h =
        let P : CType → Type 0 = λ type. IfOk (checked_initialiser type x.initialiser) (λ _. IsTrue (is_global structs x)) in
        subst P same (weaken is (checked_initialiser (declaration_type structs x.declaration) x.initialiser) h)

pub global_given : (structs : List StructType) (x : s.Global) → IsTrue (is_global structs x) → checked_global structs x ≡ Ok tt
global_given structs x h =
    let parts = and_parts (is_declaration structs x.declaration) (has_numbers x.initialiser && takes_initialiser (declaration_type structs x.declaration) x.initialiser) h in
    let rest = and_parts (has_numbers x.initialiser) (takes_initialiser (declaration_type structs x.declaration) x.initialiser) parts.1 in
    goes (checked_declaration structs x.declaration) (declaration_type structs x.declaration) _ (declaration_given structs x.declaration parts.0)
    ∙ initialiser_given (declaration_type structs x.declaration) x.initialiser rest.0 rest.1

-- ---- headers

result_words_right : {A : Type 0} (type : CType) (stars : List A) (words : Specifiers) → IfOk (result_words type stars words) (λ _. IsTrue (is_result_words type stars))
result_words_right type [] words = asked_right _ _ _
result_words_right type (star ∷ stars) words =
    then_holds (λ _. IsTrue (is_object_words type)) (λ _. IsTrue (is_object_words type)) (object_words type words) (λ _. Ok tt) (object_words_right type words) (λ a h. h)

result_words_given : {A : Type 0} (type : CType) (stars : List A) (words : Specifiers) → IsTrue (is_result_words type stars) → result_words type stars words ≡ Ok tt
result_words_given type [] words h = asked_given _ _ _ h
result_words_given type (star ∷ stars) words h = goes (object_words type words) type (λ _. Ok tt) (object_words_given type words h)

result_right : (structs : List StructType) (x : s.Declared) → IfOk (checked_result structs x) (λ _. IsTrue (is_result structs x))
result_right structs x =
    and_right _ _ (result_words (named_type structs x.specifiers) x.stars x.specifiers) _ (result_words_right (named_type structs x.specifiers) x.stars x.specifiers) (λ _. asked_right _ _ _)

result_given : (structs : List StructType) (x : s.Declared) → IsTrue (is_result structs x) → checked_result structs x ≡ Ok tt
result_given structs x h =
    let parts = and_parts (is_result_words (named_type structs x.specifiers) x.stars) (is_scalar (declared_type structs x) || is_void (declared_type structs x)) h in
    goes (result_words (named_type structs x.specifiers) x.stars x.specifiers) tt _ (result_words_given (named_type structs x.specifiers) x.stars x.specifiers parts.0) ∙ asked_given _ _ _ parts.1

parameter_right : (structs : List StructType) (x : s.Declared) → IfOk (checked_parameter structs x) (λ _. IsTrue (is_parameter structs x))
parameter_right structs x =
    and_right _ _ (object_words (named_type structs x.specifiers) x.specifiers) _ (object_words_right (named_type structs x.specifiers) x.specifiers) (λ _. asked_right _ _ _)

parameter_given : (structs : List StructType) (x : s.Declared) → IsTrue (is_parameter structs x) → checked_parameter structs x ≡ Ok tt
parameter_given structs x h =
    let parts = and_parts (is_object_words (named_type structs x.specifiers)) (is_scalar (declared_type structs x)) h in
    goes (object_words (named_type structs x.specifiers) x.specifiers) (named_type structs x.specifiers) _ (object_words_given (named_type structs x.specifiers) x.specifiers parts.0)
    ∙ asked_given _ _ _ parts.1

parameters_right : (structs : List StructType) (xs : List s.Declared) → IfOk (checked_parameters structs xs) (λ _. IsTrue (are_parameters structs xs))
parameters_right structs [] = refl
parameters_right structs (x ∷ rest) = and_right _ _ (checked_parameter structs x) _ (parameter_right structs x) (λ _. parameters_right structs rest)

parameters_given : (structs : List StructType) (xs : List s.Declared) → IsTrue (are_parameters structs xs) → checked_parameters structs xs ≡ Ok tt
parameters_given structs [] h = refl
parameters_given structs (x ∷ rest) h =
    let parts = and_parts (is_parameter structs x) (are_parameters structs rest) h in
    goes (checked_parameter structs x) tt (λ _. checked_parameters structs rest) (parameter_given structs x parts.0) ∙ parameters_given structs rest parts.1

-- the result and the parameters of a header
abbrev pub are_types : List StructType → s.Header → Bool
are_types structs x = is_result structs x.declared && are_parameters structs (parameters_of x.parameters)

pub types_right : (structs : List StructType) (x : s.Header) → IfOk (checked_types structs x) (λ _. IsTrue (are_types structs x))
types_right structs x = and_right _ _ (checked_result structs x.declared) _ (result_right structs x.declared) (λ _. parameters_right structs (parameters_of x.parameters))

pub types_given : (structs : List StructType) (x : s.Header) → IsTrue (are_types structs x) → checked_types structs x ≡ Ok tt
types_given structs x h =
    let parts = and_parts (is_result structs x.declared) (are_parameters structs (parameters_of x.parameters)) h in
    goes (checked_result structs x.declared) tt (λ _. checked_parameters structs (parameters_of x.parameters)) (result_given structs x.declared parts.0)
    ∙ parameters_given structs (parameters_of x.parameters) parts.1

pub header_from : (structs : List StructType) (x : s.Header) → IsTrue (are_types structs x) → IsTrue (has_few_parameters structs (signature_of structs x)) → IsTrue (is_header structs x)
header_from structs x h g =
    let parts = and_parts (is_result structs x.declared) (are_parameters structs (parameters_of x.parameters)) h in
    and_from _ _ parts.0 (and_from _ _ parts.1 g)

pub header_parts : (structs : List StructType) (x : s.Header) → IsTrue (is_header structs x) → IsTrue (are_types structs x) × IsTrue (has_few_parameters structs (signature_of structs x))
header_parts structs x h =
    let parts = and_parts (is_result structs x.declared) (are_parameters structs (parameters_of x.parameters) && has_few_parameters structs (signature_of structs x)) h in
    let rest = and_parts (are_parameters structs (parameters_of x.parameters)) (has_few_parameters structs (signature_of structs x)) parts.1 in
    (and_from _ _ parts.0 rest.0, rest.1)

pub prototype_right : (structs : List StructType) (x : s.Header) → IfOk (checked_prototype structs x) (λ _. IsTrue (is_header structs x))
prototype_right structs x =
    then_holds (λ _. IsTrue (are_types structs x)) (λ _. IsTrue (is_header structs x)) (checked_types structs x) (λ _. few_parameters structs x) (types_right structs x)
    (λ _ h. weaken h (few_parameters structs x) (asked_right _ _ _))
  where
    weaken : IsTrue (are_types structs x) → (y : Checked (Unit {0})) → IfOk y (λ _. IsTrue (has_few_parameters structs (signature_of structs x))) → IfOk y (λ _. IsTrue (is_header structs x))
    weaken h (Ok a) g = header_from structs x h g
    weaken h (Err e) g = tt

pub prototype_given : (structs : List StructType) (x : s.Header) → IsTrue (is_header structs x) → checked_prototype structs x ≡ Ok tt
prototype_given structs x h =
    let parts = header_parts structs x h in
    goes (checked_types structs x) tt (λ _. few_parameters structs x) (types_given structs x parts.0) ∙ asked_given _ _ _ parts.1
