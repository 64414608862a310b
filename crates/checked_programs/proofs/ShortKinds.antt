-- The scalars of known types are short ones.
use Rattle.std.proofs.Common.{◌≡◌, ℕ, zero, suc, ◌<◌, ◌≤◌, IsTrue, List, [], ◌∷◌, ◌++◌, length, Option, Some, None, refl, subst, arith}
use Rattle.std.specs.Prelude.{slice_get}
use Rattle.std.proofs.lemmas.Bool.{false≢true, ltb-true}
use Rattle.std.proofs.lemmas.Option.{none-some, same_Some}
use Rattle.c_types.specs.declared.integers.Size.TheVariants.{One, Two, Four}
use Rattle.c_types.specs.Types.{CType, Void, Integer, Pointer, Array, Struct, Member, StructType}
use Rattle.clight_values.specs.Memory.{Kinds, repeated, kinds_by, kinds_of_members, kinds_of_struct, nested_kinds, kinds_of}
use Rattle.clight_programs.specs.Scopes.{IsShortScalar, HasShortScalars}
use Rattle.checked_programs.proofs.KnownTypes.{is_known}
use Rattle.checked_programs.proofs.Structs.{AreParts, AreLaidStructs, contains_earlier, known_contains, contains_later}

abbrev AreShort : Kinds → Type 0
AreShort [] = Unit {0}
AreShort (None ∷ ks) = AreShort ks
AreShort (Some T ∷ ks) = IsShortScalar T × AreShort ks

short_at : (ks : Kinds) → AreShort ks → (i : ℕ) (T : CType) → slice_get ks i ≡ Some (Some T) → IsShortScalar T
short_at [] are i T is = absurd (none-some (Some T) is)
short_at (None ∷ ks) are zero T is = absurd (none-some T (same_Some _ _ is))
short_at (None ∷ ks) are (suc i) T is = short_at ks are i T is
short_at (Some S ∷ ks) are zero T is = subst IsShortScalar (same_Some _ _ (same_Some _ _ is)) are.0
short_at (Some S ∷ ks) are (suc i) T is = short_at ks are.1 i T is

short_append : (ks js : Kinds) → AreShort ks → AreShort js → AreShort (ks ++ js)
short_append [] js a b = b
short_append (None ∷ ks) js a b = short_append ks js a b
short_append (Some T ∷ ks) js a b = (a.0, short_append ks js a.1 b)

short_repeated : (n : ℕ) (ks : Kinds) → AreShort ks → AreShort (repeated n ks)
short_repeated zero ks a = tt
short_repeated (suc n) ks a = short_append ks (repeated n ks) a (short_repeated n ks a)

-- those of a type whose structs have numbers below this one are short
short_kinds : (k n : ℕ) (kinds : ℕ → Kinds) → ((number : ℕ) → number < n → AreShort (kinds number)) → (T : CType) → IsTrue (is_known k T) → IsTrue (contains_earlier n T) → AreShort (kinds_by kinds T)
short_kinds k n kinds have Void known c = tt
short_kinds k n kinds have (Integer One g) known c = (tt, tt)
short_kinds k n kinds have (Integer Two g) known c = (tt, tt)
short_kinds k n kinds have (Integer Four g) known c = absurd (false≢true known)
short_kinds k n kinds have (Pointer T) known c = (tt, tt)
short_kinds k n kinds have (Array T count) known c = short_repeated count (kinds_by kinds T) (short_kinds k n kinds have T known c)
short_kinds k n kinds have (Struct number) known c = have number (ltb-true number n c)

short_members : (n number : ℕ) (kinds : ℕ → Kinds) → number ≤ n → ((m : ℕ) → m < n → AreShort (kinds m)) → (ms : List Member) → AreParts number ms → AreShort (kinds_of_members kinds ms)
short_members n number kinds le have [] parts = tt
short_members n number kinds le have (m ∷ ms) parts =
    short_append (kinds_by kinds m.type) (kinds_of_members kinds ms) (short_kinds (suc number) n kinds have m.type parts.0 (contains_later number n le m.type parts.1)) (short_members n number kinds le have ms parts.2)

nested_short : (structs : List StructType) → AreLaidStructs structs → (depth number : ℕ) → number < depth → AreShort (nested_kinds structs depth number)
nested_short structs are zero number lt = absurd (omega arith)
nested_short structs are (suc depth) number lt = by (slice_get structs number) refl (nested_short structs are depth)
  where
    by : (s : Option StructType) → slice_get structs number ≡ s → ((n : ℕ) → n < depth → AreShort (nested_kinds structs depth n)) → AreShort (kinds_of_struct (nested_kinds structs depth) s)
    by None e have = tt
    by (Some s) e have = short_members depth number (nested_kinds structs depth) (omega arith) have s.members (are number s e).parts

pub has_short : (structs : List StructType) → AreLaidStructs structs → (T : CType) → IsTrue (is_known (length structs) T) → HasShortScalars structs T
has_short structs are T known i U is =
    short_at (kinds_of structs T) (short_kinds (length structs) (length structs) (nested_kinds structs (length structs)) (nested_short structs are (length structs)) T known (known_contains (length structs) T known)) i U is
