-- Structs that follow one another without gaps have as many bytes in memory as layouts count.
use Rattle.std.proofs.Common.{◌≡◌, ℕ, zero, suc, ◌+◌, ◌*◌, ◌<◌, ◌≤◌, ◌⊎◌, Bool, true, false, IsTrue, List, [], ◌∷◌, ◌++◌, length, Option, Some, None, refl, sym, ap, ap₂, subst, ◌∙◌, inl, inr, arith, length-append}
use Rattle.std.specs.Prelude.{slice_get, nat_eq, nat_le, nat_lt, if◌then◌else◌}
use Rattle.std.proofs.lemmas.Bool.{and_parts, lt-ltb, ltb-true, leb-true, cases_lt}
use Rattle.std.proofs.lemmas.Option.{none-some, same_Some, slice_get_within}
use Rattle.clight_source.specs.declared.tree.Specifiers.{Specifiers}
use Rattle.clight_source.specs.declared.tree.Specifiers.TheVariants as w
use Rattle.clight_source.specs.declared.tree.Length.{Length}
use Rattle.clight_source.specs.Trees as tree
use Rattle.c_types.specs.declared.integers.Size.TheVariants.{One, Two, Four}
use Rattle.c_types.specs.Types.{CType, Void, Integer, Pointer, Array, Struct, Member, StructType, size_of, struct_size}
use Rattle.clight_types.specs.Declarations.{struct_number, named_type, pointers_to, arrays_of, declared_type, declaration_type, members_from, size_of_members, struct_type, is_size}
use Rattle.clight_types.specs.Scopes.{member_in, member_of}
use Rattle.clight_typing.specs.Functions.{is_object_words, is_declaration, are_members, is_struct}
use Rattle.clight_values.specs.Memory.{Kinds, repeated, kinds_by, kinds_of_members, kinds_of_struct, nested_kinds}
use Rattle.clight_programs.specs.Scopes.{bytes_of}
use Rattle.checked_programs.specs.Named.{IsKnownTag}
use Rattle.checked_programs.proofs.KnownTypes.{is_known, known_later}

-- ---- lists

pub get_front : {A : Type 0} (xs ys : List A) (i : ℕ) → i < length xs → slice_get (xs ++ ys) i ≡ slice_get xs i
get_front [] ys i lt = absurd (omega arith)
get_front (x ∷ xs) ys zero lt = refl
get_front (x ∷ xs) ys (suc i) lt = get_front xs ys i (omega arith)

pub get_last : {A : Type 0} (xs : List A) (y : A) → slice_get (xs ++ y ∷ []) (length xs) ≡ Some y
get_last [] y = refl
get_last (x ∷ xs) y = get_last xs y

-- ---- structs in a type

-- a struct within it, if there is one, has a number below this one
abbrev pub contains_earlier : ℕ → CType → Bool
contains_earlier n (Array element count) = contains_earlier n element
contains_earlier n (Struct number) = nat_lt number n
contains_earlier n T = true

pub known_contains : (n : ℕ) (T : CType) → IsTrue (is_known n T) → IsTrue (contains_earlier n T)
known_contains n Void k = refl
known_contains n (Integer s g) k = refl
known_contains n (Pointer T) k = refl
known_contains n (Array T c) k = known_contains n T k
known_contains n (Struct number) k = k

pub contains_later : (n m : ℕ) → n ≤ m → (T : CType) → IsTrue (contains_earlier n T) → IsTrue (contains_earlier m T)
contains_later n m le Void k = k
contains_later n m le (Integer s g) k = k
contains_later n m le (Pointer T) k = k
contains_later n m le (Array T c) k = contains_later n m le T k
contains_later n m le (Struct number) k = let lt = ltb-true number n k in lt-ltb number m (omega arith)

-- structs grow at their end: sizes stay
pub size_stays : (structs more : List StructType) (T : CType) → IsTrue (contains_earlier (length structs) T) → size_of (structs ++ more) T ≡ size_of structs T
size_stays structs more Void k = refl
size_stays structs more (Integer s g) k = refl
size_stays structs more (Pointer T) k = refl
size_stays structs more (Array T c) k = ap (λ n. c * n) (size_stays structs more T k)
size_stays structs more (Struct number) k = ap struct_size (get_front structs more number (ltb-true number (length structs) k))

-- what has a byte is made of structs that are there
pub sized_contains : (structs : List StructType) (T : CType) → 1 ≤ size_of structs T → IsTrue (contains_earlier (length structs) T)
sized_contains structs Void some = refl
sized_contains structs (Integer s g) some = refl
sized_contains structs (Pointer T) some = refl
sized_contains structs (Array T c) some = sized_contains structs T (factor c (size_of structs T) some)
  where
    factor : (c n : ℕ) → 1 ≤ c * n → 1 ≤ n
    factor c zero le = absurd (grind arith)
    factor c (suc n) le = omega arith
sized_contains structs (Struct number) some = by (slice_get structs number) refl
  where
    by : (s : Option StructType) → slice_get structs number ≡ s → IsTrue (nat_lt number (length structs))
    by (Some s) e = lt-ltb number (length structs) (slice_get_within structs number s e)
    by None e = absurd (let none : struct_size (slice_get structs number) ≡ 0 = ap struct_size e in omega arith)

-- ---- members

-- the bytes of members
abbrev pub bytes_of_members : List StructType → List Member → ℕ
bytes_of_members structs [] = 0
bytes_of_members structs (m ∷ ms) = size_of structs m.type + bytes_of_members structs ms

-- those of a struct with this number
abbrev pub AreParts : ℕ → List Member → Type 0
AreParts number [] = Unit {0}
AreParts number (m ∷ ms) = IsTrue (is_known (suc number) m.type) × IsTrue (contains_earlier number m.type) × AreParts number ms

pub record IsLaidStruct (structs : List StructType) (number : ℕ) (s : StructType) : Type 0 where
  pub parts : AreParts number s.members
  pub size : s.size ≡ bytes_of_members structs s.members

abbrev pub AreLaidStructs : List StructType → Type 0
AreLaidStructs structs = (number : ℕ) (s : StructType) → slice_get structs number ≡ Some s → IsLaidStruct structs number s

bytes_stay : (structs more : List StructType) (number : ℕ) (ms : List Member) → number ≤ length structs → AreParts number ms → bytes_of_members (structs ++ more) ms ≡ bytes_of_members structs ms
bytes_stay structs more number [] le k = refl
bytes_stay structs more number (m ∷ ms) le k =
    ap₂ (λ a b. a + b) (size_stays structs more m.type (contains_later number (length structs) le m.type k.1)) (bytes_stay structs more number ms le k.2)

pub one_struct_more : (structs : List StructType) (s : StructType) → AreLaidStructs structs → IsLaidStruct structs (length structs) s → AreLaidStructs (structs ++ s ∷ [])
one_struct_more structs s are new number t is = by (cases_lt number (length structs))
  where
    stays : (n : ℕ) (u : StructType) → n ≤ length structs → IsLaidStruct structs n u → IsLaidStruct (structs ++ s ∷ []) n u
    stays n u le l = record { parts = l.parts; size = l.size ∙ sym (bytes_stay structs (s ∷ []) n u.members le l.parts) }

    by : (number < length structs) ⊎ (length structs ≤ number) → IsLaidStruct (structs ++ s ∷ []) number t
    by (inl lt) = stays number t (omega arith) (are number t (sym (get_front structs (s ∷ []) number lt) ∙ is))
    by (inr le) =
        let w = slice_get_within (structs ++ s ∷ []) number t is in
        let size = length-append structs (s ∷ []) in
        let at : length structs ≡ number = omega arith in
        let same = same_Some _ _ (sym (get_last structs s) ∙ ap (slice_get (structs ++ s ∷ [])) at ∙ is) in
        subst (λ n. IsLaidStruct (structs ++ s ∷ []) n t) at (subst (IsLaidStruct (structs ++ s ∷ []) (length structs)) same (stays (length structs) s (omega arith) new))

-- a member that is found has a known type
pub member_known : (structs : List StructType) → AreLaidStructs structs → (T : CType) (name : ℕ) (m : Member) → member_of structs T name ≡ Some m → IsTrue (is_known (length structs) m.type)
member_known structs are Void name m is = absurd (none-some m is)
member_known structs are (Integer s g) name m is = absurd (none-some m is)
member_known structs are (Pointer T) name m is = absurd (none-some m is)
member_known structs are (Array T c) name m is = absurd (none-some m is)
member_known structs are (Struct number) name m is = by (slice_get structs number) refl is
  where
    found : (n : ℕ) (ms : List Member) → AreParts n ms → member_in ms name ≡ Some m → IsTrue (is_known (suc n) m.type)
    found n [] k e = absurd (none-some m e)
    found n (x ∷ xs) k e = at (nat_eq x.name name) e (found n xs k.2)
      where
        at : (b : Bool) → (if b then Some x else member_in xs name) ≡ Some m → (member_in xs name ≡ Some m → IsTrue (is_known (suc n) m.type)) → IsTrue (is_known (suc n) m.type)
        at true e rest = subst (λ (y : Member). IsTrue (is_known (suc n) y.type)) (same_Some _ _ e) k.0
        at false e rest = rest e

    by : (s : Option StructType) → slice_get structs number ≡ s → (elim s [ Some s ↦ member_in s.members name | None ↦ None ]) ≡ Some m → IsTrue (is_known (length structs) m.type)
    by (Some s) e is =
        let lt = slice_get_within structs number s e in
        known_later (suc number) (length structs) (omega arith) m.type (found number s.members (are number s e).parts is)
    by None e is = absurd (none-some m is)

-- ---- declared types

number_within : (structs : List StructType) (tag : ℕ) → struct_number structs tag ≤ length structs
number_within [] tag = omega arith
number_within (s ∷ rest) tag = by (nat_eq s.tag tag) (number_within rest tag)
  where
    by : (b : Bool) → struct_number rest tag ≤ length rest → (if b then 0 else 1 + struct_number rest tag) ≤ suc (length rest)
    by true le = omega arith
    by false le = omega arith

own_tag : (structs : List StructType) (words : Specifiers) → IsKnownTag structs (suc (length structs)) words
own_tag structs (w.Void a) = tt
own_tag structs (w.Struct a tag) = let le = number_within structs tag.number in omega arith
own_tag structs (w.Char a) = tt
own_tag structs (w.SignedChar a c) = tt
own_tag structs (w.UnsignedChar a c) = tt
own_tag structs (w.Int a) = tt
own_tag structs (w.Signed a) = tt
own_tag structs (w.SignedInt a c) = tt
own_tag structs (w.Unsigned a) = tt
own_tag structs (w.UnsignedInt a c) = tt
own_tag structs (w.Long a) = tt
own_tag structs (w.LongInt a c) = tt
own_tag structs (w.SignedLong a c) = tt
own_tag structs (w.SignedLongInt a c d) = tt
own_tag structs (w.UnsignedLong a c) = tt
own_tag structs (w.UnsignedLongInt a c d) = tt

-- the words of an object's type name a known one
pub named_known : (structs : List StructType) (n : ℕ) (words : Specifiers) → IsKnownTag structs n words → IsTrue (is_object_words (named_type structs words)) → IsTrue (is_known n (named_type structs words))
named_known structs n (w.Void a) k i = i
named_known structs n (w.Struct a tag) k i = lt-ltb (struct_number structs tag.number) n k
named_known structs n (w.Char a) k i = refl
named_known structs n (w.SignedChar a c) k i = refl
named_known structs n (w.UnsignedChar a c) k i = refl
named_known structs n (w.Int a) k i = refl
named_known structs n (w.Signed a) k i = refl
named_known structs n (w.SignedInt a c) k i = refl
named_known structs n (w.Unsigned a) k i = refl
named_known structs n (w.UnsignedInt a c) k i = refl
named_known structs n (w.Long a) k i = i
named_known structs n (w.LongInt a c) k i = i
named_known structs n (w.SignedLong a c) k i = i
named_known structs n (w.SignedLongInt a c d) k i = i
named_known structs n (w.UnsignedLong a c) k i = i
named_known structs n (w.UnsignedLongInt a c d) k i = i

pub pointers_known : {A : Type 0} (n : ℕ) (stars : List A) (T : CType) → IsTrue (is_known n T) → IsTrue (is_known n (pointers_to stars T))
pointers_known n [] T k = k
pointers_known n (star ∷ stars) T k = pointers_known n stars T k

pub arrays_known : (n : ℕ) (lengths : List Length) (T : CType) → IsTrue (is_known n T) → IsTrue (is_known n (arrays_of lengths T))
arrays_known n [] T k = k
arrays_known n (x ∷ lengths) T k = arrays_known n lengths T k

pub declaration_known : (structs : List StructType) (n : ℕ) (x : tree.Declaration) → IsKnownTag structs n x.declared.specifiers → IsTrue (is_declaration structs x)
    → IsTrue (is_known n (declaration_type structs x)) × (1 ≤ size_of structs (declaration_type structs x))
declaration_known structs n x k is =
    let parts = and_parts (is_object_words (named_type structs x.declared.specifiers)) (is_size (size_of structs (declaration_type structs x))) is in
    let size = and_parts (nat_le 1 (size_of structs (declaration_type structs x))) (nat_le (size_of structs (declaration_type structs x)) 65534) parts.1 in (
      arrays_known n x.lengths (declared_type structs x.declared) (pointers_known n x.declared.stars (named_type structs x.declared.specifiers) (named_known structs n x.declared.specifiers k parts.0)),
      leb-true 1 (size_of structs (declaration_type structs x)) size.0,
    )

-- ---- a struct that is declared

members_are_parts : (structs : List StructType) (offset : ℕ) (ms : List tree.Member) → IsTrue (are_members structs ms) → AreParts (length structs) (members_from structs offset ms)
members_are_parts structs offset [] is = tt
members_are_parts structs offset (x ∷ ms) is =
    let parts = and_parts (is_declaration structs x.declaration) (are_members structs ms) is in
    let known = declaration_known structs (suc (length structs)) x.declaration (own_tag structs x.declaration.declared.specifiers) parts.0 in (
      known.0,
      sized_contains structs (declaration_type structs x.declaration) known.1,
      members_are_parts structs (offset + size_of structs (declaration_type structs x.declaration)) ms parts.1,
    )

same_bytes : (structs : List StructType) (offset : ℕ) (ms : List tree.Member) → size_of_members structs ms ≡ bytes_of_members structs (members_from structs offset ms)
same_bytes structs offset [] = refl
same_bytes structs offset (x ∷ ms) = ap (λ n. size_of structs (declaration_type structs x.declaration) + n) (same_bytes structs (offset + size_of structs (declaration_type structs x.declaration)) ms)

pub struct_laid : (structs : List StructType) (x : tree.Struct) → IsTrue (is_struct structs x) → IsLaidStruct structs (length structs) (struct_type structs x)
struct_laid structs x is = record {
  parts = members_are_parts structs 0 x.members (and_parts (are_members structs x.members) (is_size (struct_type structs x).size) is).0;
  size = same_bytes structs 0 x.members;
}

-- ---- one size

length_repeated : {A : Type 0} (n : ℕ) (xs : List A) → length (repeated n xs) ≡ n * length xs
length_repeated zero xs = omega arith
length_repeated (suc n) xs = length-append xs (repeated n xs) ∙ ap (λ k. length xs + k) (length_repeated n xs) ∙ more n (length xs)
  where
    more : (n k : ℕ) → k + n * k ≡ suc n * k
    more n k = grind arith

-- each struct with a number below this one has its bytes
abbrev HasBytes : List StructType → ℕ → (ℕ → Kinds) → Type 0
HasBytes structs n kinds = (number : ℕ) → number < n → length (kinds number) ≡ struct_size (slice_get structs number)

length_kinds : (structs : List StructType) (n : ℕ) (kinds : ℕ → Kinds) → HasBytes structs n kinds → (T : CType) → IsTrue (contains_earlier n T) → length (kinds_by kinds T) ≡ size_of structs T
length_kinds structs n kinds has Void k = refl
length_kinds structs n kinds has (Integer One g) k = refl
length_kinds structs n kinds has (Integer Two g) k = refl
length_kinds structs n kinds has (Integer Four g) k = refl
length_kinds structs n kinds has (Pointer T) k = refl
length_kinds structs n kinds has (Array T c) k = length_repeated c (kinds_by kinds T) ∙ ap (λ m. c * m) (length_kinds structs n kinds has T k)
length_kinds structs n kinds has (Struct number) k = has number (ltb-true number n k)

length_members : (structs : List StructType) (n number : ℕ) (kinds : ℕ → Kinds) → number ≤ n → HasBytes structs n kinds → (ms : List Member) → AreParts number ms → length (kinds_of_members kinds ms) ≡ bytes_of_members structs ms
length_members structs n number kinds le has [] k = refl
length_members structs n number kinds le has (m ∷ ms) k =
    length-append (kinds_by kinds m.type) (kinds_of_members kinds ms)
    ∙ ap₂ (λ a b. a + b) (length_kinds structs n kinds has m.type (contains_later number n le m.type k.1)) (length_members structs n number kinds le has ms k.2)

nested_bytes : (structs : List StructType) → AreLaidStructs structs → (depth : ℕ) → HasBytes structs depth (nested_kinds structs depth)
nested_bytes structs are zero number lt = absurd (omega arith)
nested_bytes structs are (suc depth) number lt = by (slice_get structs number) refl (nested_bytes structs are depth)
  where
    by : (s : Option StructType) → slice_get structs number ≡ s → HasBytes structs depth (nested_kinds structs depth) → length (kinds_of_struct (nested_kinds structs depth) s) ≡ struct_size s
    by None e has = refl
    by (Some s) e has = let laid = are number s e in length_members structs depth number (nested_kinds structs depth) (omega arith) has s.members laid.parts ∙ sym laid.size

-- what memory has of a known type is as many bytes as layouts count
pub one_size : (structs : List StructType) → AreLaidStructs structs → (T : CType) → IsTrue (is_known (length structs) T) → bytes_of structs T ≡ size_of structs T
one_size structs are T k = length_kinds structs (length structs) (nested_kinds structs (length structs)) (nested_bytes structs are (length structs)) T (known_contains (length structs) T k)
