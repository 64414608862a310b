-- What a name means in a function: one of its own variables, or what it meant before.
use Rattle.std.proofs.Common.{◌≡◌, ℕ, zero, suc, ◌+◌, ◌≤◌, ◌⊎◌, Bool, true, false, IsTrue, List, [], ◌∷◌, ◌++◌, length, map, Some, refl, sym, ap, subst, ◌∙◌, inl, inr, arith}
use Rattle.std.specs.Prelude.{slice_get, nat_eq, if◌then◌else◌}
use Rattle.std.proofs.lemmas.Bool.{false≢true, and_parts}
use Rattle.std.proofs.lemmas.Option.{none-some, same_Some}
use Rattle.clight_source.specs.Trees.{Declared}
use Rattle.c_types.specs.declared.integers.Size.TheVariants.{One, Two, Four}
use Rattle.c_types.specs.Types.{CType, Void, Integer, Pointer, Array, Struct, StructType, size_of}
use Rattle.c_types.specs.Kinds.{is_scalar}
use Rattle.clight_syntax.specs.TypedTrees.{Local}
use Rattle.clight_types.specs.Scopes.{Meaning, Object, Meanings, declare}
use Rattle.clight_types.specs.Declarations.{named_type, declared_type}
use Rattle.clight_typing.specs.Functions.{object, with_parameters, with_local, with_locals, Own, parameter_own, local_own, is_object_words, is_parameter, are_parameters, AreLocals}
use Rattle.checked_programs.specs.Named.{AreKnownTags, locals_declared}
use Rattle.checked_programs.proofs.KnownTypes.{is_known}
use Rattle.checked_programs.proofs.Structs.{named_known, pointers_known, declaration_known}

-- own variables, whose numbers begin here, before other declarations
abbrev pub with_owns : ℕ → List Own → Meanings → Meanings
with_owns n [] names = names
with_owns n (x ∷ xs) names = with_owns (suc n) xs (declare (object x.name n x.type) names)

pub parameters_are_owns : (structs : List StructType) (n : ℕ) (ds : List Declared) (names : Meanings) → with_parameters structs n ds names ≡ with_owns n (map (parameter_own structs) ds) names
parameters_are_owns structs n [] names = refl
parameters_are_owns structs n (x ∷ ds) names = parameters_are_owns structs (suc n) ds (declare (object x.name n (declared_type structs x)) names)

pub locals_are_owns : (structs : List StructType) (n : ℕ) (ls : List Local) (names : Meanings) → with_locals structs n ls names ≡ with_owns n (map (local_own structs) ls) names
locals_are_owns structs n [] names = refl
locals_are_owns structs n (x ∷ ls) names = locals_are_owns structs (suc n) ls (with_local structs n x.declaration names)

pub owns_append : (n : ℕ) (xs ys : List Own) (names : Meanings) → with_owns n (xs ++ ys) names ≡ with_owns (n + length xs) ys (with_owns n xs names)
owns_append n [] ys names = let e : n ≡ n + 0 = omega arith in ap (λ k. with_owns k ys names) e
owns_append n (x ∷ xs) ys names =
    let e : suc n + length xs ≡ n + suc (length xs) = omega arith in
    let names' : Meanings = declare (object x.name n x.type) names in
    owns_append (suc n) xs ys names' ∙ ap (λ k. with_owns k ys (with_owns (suc n) xs names')) e

-- a name means an own variable, or what it meant
pub found_own : (n : ℕ) (xs : List Own) (names : Meanings) (name : ℕ) (m : Meaning) → with_owns n xs names name ≡ Some m
    → ((i : ℕ) × (o : Own) × (slice_get xs i ≡ Some o) × (m ≡ Object (n + i) o.type)) ⊎ (names name ≡ Some m)
found_own n [] names name m is = inr is
found_own n (x ∷ xs) names name m is = later (found_own (suc n) xs (declare (object x.name n x.type) names) name m is)
  where
    here : (b : Bool) → (if b then Some (Object n x.type) else names name) ≡ Some m → ((i : ℕ) × (o : Own) × (slice_get (x ∷ xs) i ≡ Some o) × (m ≡ Object (n + i) o.type)) ⊎ (names name ≡ Some m)
    here true e = let z : n ≡ n + 0 = omega arith in inl (0, x, refl, sym (same_Some _ _ e) ∙ ap (λ k. Object k x.type) z)
    here false e = inr e

    later : ((i : ℕ) × (o : Own) × (slice_get xs i ≡ Some o) × (m ≡ Object (suc n + i) o.type)) ⊎ (declare (object x.name n x.type) names name ≡ Some m)
        → ((i : ℕ) × (o : Own) × (slice_get (x ∷ xs) i ≡ Some o) × (m ≡ Object (n + i) o.type)) ⊎ (names name ≡ Some m)
    later (inl (i, o, at, e)) = let z : suc n + i ≡ n + suc i = omega arith in inl (suc i, o, at, e ∙ ap (λ k. Object k o.type) z)
    later (inr e) = here (nat_eq x.name.number name) e

-- ---- own variables are objects

abbrev pub AreObjects : List StructType → ℕ → List Own → Type 0
AreObjects structs n [] = Unit {0}
AreObjects structs n (x ∷ xs) = IsTrue (is_known n x.type) × (1 ≤ size_of structs x.type) × AreObjects structs n xs

pub objects_append : (structs : List StructType) (n : ℕ) (xs ys : List Own) → AreObjects structs n xs → AreObjects structs n ys → AreObjects structs n (xs ++ ys)
objects_append structs n [] ys a b = b
objects_append structs n (x ∷ xs) ys a b = (a.0, a.1, objects_append structs n xs ys a.2 b)

pub object_at : (structs : List StructType) (n : ℕ) (xs : List Own) → AreObjects structs n xs → (i : ℕ) (o : Own) → slice_get xs i ≡ Some o → IsTrue (is_known n o.type) × (1 ≤ size_of structs o.type)
object_at structs n [] a i o is = absurd (none-some o is)
object_at structs n (x ∷ xs) a zero o is = subst (λ (q : Own). IsTrue (is_known n q.type) × (1 ≤ size_of structs q.type)) (same_Some _ _ is) (a.0, a.1)
object_at structs n (x ∷ xs) a (suc i) o is = object_at structs n xs a.2 i o is

scalar_size : (structs : List StructType) (n : ℕ) (T : CType) → IsTrue (is_known n T) → IsTrue (is_scalar T) → 1 ≤ size_of structs T
scalar_size structs n Void k i = absurd (false≢true i)
scalar_size structs n (Integer One g) k i = omega arith
scalar_size structs n (Integer Two g) k i = omega arith
scalar_size structs n (Integer Four g) k i = omega arith
scalar_size structs n (Pointer T) k i = omega arith
scalar_size structs n (Array T c) k i = absurd (false≢true i)
scalar_size structs n (Struct number) k i = absurd (false≢true i)

pub parameters_are_objects : (structs : List StructType) (n : ℕ) (ds : List Declared) → AreKnownTags structs n ds → IsTrue (are_parameters structs ds) → AreObjects structs n (map (parameter_own structs) ds)
parameters_are_objects structs n [] tags is = tt
parameters_are_objects structs n (x ∷ ds) tags is =
    let parts = and_parts (is_parameter structs x) (are_parameters structs ds) is in
    let one = and_parts (is_object_words (named_type structs x.specifiers)) (is_scalar (declared_type structs x)) parts.0 in
    let known = pointers_known n x.stars (named_type structs x.specifiers) (named_known structs n x.specifiers tags.0 one.0) in
    (known, scalar_size structs n (declared_type structs x) known one.1, parameters_are_objects structs n ds tags.1 parts.1)

pub locals_are_objects : (structs : List StructType) (n variable : ℕ) (names : Meanings) (ls : List Local) → AreKnownTags structs n (locals_declared ls) → AreLocals structs variable names ls → AreObjects structs n (map (local_own structs) ls)
locals_are_objects structs n variable names [] tags are = tt
locals_are_objects structs n variable names (x ∷ ls) tags are =
    let known = declaration_known structs n x.declaration tags.0 are.0 in
    (known.0, known.1, locals_are_objects structs n (suc variable) (with_local structs variable x.declaration names) ls tags.1 are.2)

-- the first so many of them are scalars
abbrev pub BeginWithScalars : ℕ → List Own → Type 0
BeginWithScalars zero xs = Unit {0}
BeginWithScalars (suc m) [] = ⊥
BeginWithScalars (suc m) (x ∷ xs) = IsTrue (is_scalar x.type) × BeginWithScalars m xs

pub parameters_are_scalars : (structs : List StructType) (ds : List Declared) (more : List Own) → IsTrue (are_parameters structs ds) → BeginWithScalars (length ds) (map (parameter_own structs) ds ++ more)
parameters_are_scalars structs [] more is = tt
parameters_are_scalars structs (x ∷ ds) more is =
    let parts = and_parts (is_parameter structs x) (are_parameters structs ds) is in
    ((and_parts (is_object_words (named_type structs x.specifiers)) (is_scalar (declared_type structs x)) parts.0).1, parameters_are_scalars structs ds more parts.1)
