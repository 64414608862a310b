-- The blocks of a function's variables, where they come into memory at a call.
use Rattle.std.proofs.Common.{◌≡◌, ℕ, zero, suc, ◌+◌, ◌-◌, ◌≤◌, List, [], ◌∷◌, ◌++◌, length, map, Option, Some, None, Bool, refl, sym, ap, ◌∙◌, subst, arith}
use Rattle.std.specs.Prelude.{slice_get, replicate}
use Rattle.std.proofs.lemmas.Option.{slice_get_within, none-some, same_Some}
use Rattle.c_types.specs.declared.integers.Size.{Size}
use Rattle.c_types.specs.declared.integers.Size.TheVariants.{One, Two, Four}
use Rattle.c_types.specs.Types.{CType, Void, Integer, Pointer, Array, Struct, StructType, Member, bytes}
use Rattle.clight_syntax.specs.declared.typed.Home.{Home}
use Rattle.clight_syntax.specs.declared.typed.Home.TheVariants as h
use Rattle.clight_syntax.specs.TypedTrees.{Variable'}
use Rattle.clight_values.specs.declared.value.Value.{Value}
use Rattle.clight_values.specs.Memory.{Cell, Kinds, repeated, kinds_by, kinds_of_members, kinds_of_struct, nested_kinds, kinds_of, unset, block_in, own_blocks}
use Rattle.clight_programs.specs.Scopes.{block_addresses, address_in, IsBetween, AreBetween}
use Rattle.flat_memory.proofs.Lists.{get_front}
use Rattle.flat_memory.proofs.Shapes.{Shape, IsWide, Holds}
use Rattle.flat_memory.proofs.Blocks.{kind_at, IsBlock, Placed, cells_of, Rising, AllStart}

-- ---- where scalars begin

-- behind the first byte of a scalar of two bytes no scalar begins
abbrev pub AreKinds : Kinds → Type 0
AreKinds ks = (i : ℕ) (T : CType) → slice_get ks i ≡ Some (Some T) → IsWide T → slice_get ks (suc i) ≡ Some None

no_kinds : AreKinds []
no_kinds i T is wide = absurd (none-some (Some T) is)

kinds_append : (ks ls : Kinds) → AreKinds ks → AreKinds ls → AreKinds (ks ++ ls)
kinds_append [] ls a b i T is wide = b i T is wide
kinds_append (k ∷ ks) ls a b zero T is wide = let q = a zero T is wide in get_front ks ls zero (slice_get_within ks zero None q) ∙ q
kinds_append (k ∷ ks) ls a b (suc i) T is wide = kinds_append ks ls (λ j. a (suc j)) b i T is wide

kinds_repeated : (n : ℕ) (ks : Kinds) → AreKinds ks → AreKinds (repeated n ks)
kinds_repeated zero ks a = no_kinds
kinds_repeated (suc n) ks a = kinds_append ks (repeated n ks) a (kinds_repeated n ks a)

abbrev nones : ℕ → Kinds
nones n = replicate n None

none_begins : (n i : ℕ) (T : CType) → slice_get (nones n) i ≡ Some (Some T) → ⊥
none_begins zero i T is = none-some (Some T) is
none_begins (suc n) zero T is = none-some T (same_Some _ _ is)
none_begins (suc n) (suc i) T is = none_begins n i T is

integer_kinds : (s : Size) (g : Bool) → AreKinds (Some (Integer s g) ∷ replicate (bytes s - 1) None)
integer_kinds One g zero T is wide = absurd (subst IsWide (sym (same_Some _ _ (same_Some _ _ is))) wide)
integer_kinds Two g zero T is wide = refl
integer_kinds Four g zero T is wide = refl
integer_kinds s g (suc i) T is wide = absurd (none_begins (bytes s - 1) i T is)

pointer_kinds : (T : CType) → AreKinds (Some (Pointer T) ∷ None ∷ [])
pointer_kinds T zero U is wide = refl
pointer_kinds T (suc i) U is wide = absurd (none_begins 1 i U is)

kinds_by_are : (struct : ℕ → Kinds) → ((n : ℕ) → AreKinds (struct n)) → (T : CType) → AreKinds (kinds_by struct T)
kinds_by_are struct a Void = no_kinds
kinds_by_are struct a (Integer s g) = integer_kinds s g
kinds_by_are struct a (Pointer T) = pointer_kinds T
kinds_by_are struct a (Array T n) = kinds_repeated n (kinds_by struct T) (kinds_by_are struct a T)
kinds_by_are struct a (Struct n) = a n

members_are : (struct : ℕ → Kinds) → ((n : ℕ) → AreKinds (struct n)) → (ms : List Member) → AreKinds (kinds_of_members struct ms)
members_are struct a [] = no_kinds
members_are struct a (m ∷ ms) = kinds_append (kinds_by struct m.type) (kinds_of_members struct ms) (kinds_by_are struct a m.type) (members_are struct a ms)

struct_is : (struct : ℕ → Kinds) → ((n : ℕ) → AreKinds (struct n)) → (o : Option StructType) → AreKinds (kinds_of_struct struct o)
struct_is struct a None = no_kinds
struct_is struct a (Some s) = members_are struct a s.members

nested_are : (structs : List StructType) (depth n : ℕ) → AreKinds (nested_kinds structs depth n)
nested_are structs zero n = no_kinds
nested_are structs (suc depth) n = struct_is (nested_kinds structs depth) (nested_are structs depth) (slice_get structs n)

pub kinds_are : (structs : List StructType) (T : CType) → AreKinds (kinds_of structs T)
kinds_are structs = kinds_by_are (nested_kinds structs (length structs)) (nested_are structs (length structs))

-- ---- a block of cells of these kinds

abbrev pub kind_in : Option (Option CType) → Option CType
kind_in None = None
kind_in (Some k) = k

some_kind : (o : Option (Option CType)) (T : CType) → kind_in o ≡ Some T → o ≡ Some (Some T)
some_kind None T is = absurd (none-some T is)
some_kind (Some k) T is = ap Some is

pub block_of : (ks : Kinds) (cells : List Cell) → length cells ≡ length ks → ((i : ℕ) → kind_at (slice_get cells i) ≡ kind_in (slice_get ks i)) → AreKinds ks → 1 ≤ length ks → IsBlock cells
block_of ks cells many kinds are some = record {
  some = omega arith;
  wide = λ i T is wide.
      let q = are i T (some_kind (slice_get ks i) T (sym (kinds i) ∙ is)) wide in
      let lt = slice_get_within ks (suc i) None q in
      (omega arith, kinds (suc i) ∙ ap kind_in q);
}

-- ---- unset blocks

length_unset : (ks : Kinds) → length (map unset ks) ≡ length ks
length_unset [] = refl
length_unset (k ∷ ks) = let q = length_unset ks in omega arith

unset_kinds : (ks : Kinds) (i : ℕ) → kind_at (slice_get (map unset ks) i) ≡ kind_in (slice_get ks i)
unset_kinds [] i = refl
unset_kinds (k ∷ ks) zero = refl
unset_kinds (k ∷ ks) (suc i) = unset_kinds ks i

unset_value : (ks : Kinds) (i : ℕ) (c : Cell) → slice_get (map unset ks) i ≡ Some c → c.value ≡ None
unset_value [] i c is = absurd (none-some c is)
unset_value (k ∷ ks) zero c is = ap (λ (z : Cell). z.value) (sym (same_Some _ _ is))
unset_value (k ∷ ks) (suc i) c is = unset_value ks i c is

unset_holds : (S : Shape) (made : ℕ) (ram : ℕ → ℕ) (a : ℕ) (k : Option CType) (w : Option Value) → w ≡ None → Holds S made ram a k w
unset_holds S made ram a None w e = tt
unset_holds S made ram a (Some T) None e = tt
unset_holds S made ram a (Some T) (Some w) e = absurd (none-some w (sym e))

abbrev pub placed_in : Home → Placed → List Placed → List Placed
placed_in (h.Block b) x more = x ∷ more
placed_in (h.Global b) x more = more
placed_in (h.Scalar n) x more = more

abbrev pub placed : List StructType → List Variable' → List Placed
placed structs [] = []
placed structs (x ∷ xs) = placed_in x.home (record { cells = map unset (kinds_of structs x.type); at = x.address }) (placed structs xs)

pub placed_cells : (structs : List StructType) (xs : List Variable') → cells_of (placed structs xs) ≡ own_blocks structs xs
placed_cells structs [] = refl
placed_cells structs (x ∷ xs) = by x.home (placed_cells structs xs)
  where
    by : (q : Home) → cells_of (placed structs xs) ≡ own_blocks structs xs
        → cells_of (placed_in q (record { cells = map unset (kinds_of structs x.type); at = x.address }) (placed structs xs)) ≡ block_in q (map unset (kinds_of structs x.type)) (own_blocks structs xs)
    by (h.Block b) ih = ap (λ l. map unset (kinds_of structs x.type) ∷ l) ih
    by (h.Global b) ih = ih
    by (h.Scalar n) ih = ih

pub placed_at : (structs : List StructType) (xs : List Variable') (b a : ℕ) → slice_get (block_addresses xs) b ≡ Some a → (y : Placed) × (slice_get (placed structs xs) b ≡ Some y) × (y.at ≡ a)
placed_at structs [] b a is = absurd (none-some a is)
placed_at structs (x ∷ xs) b a is = by x.home b (placed_at structs xs) is
  where
    by : (q : Home) (b : ℕ) → ((b a : ℕ) → slice_get (block_addresses xs) b ≡ Some a → (y : Placed) × (slice_get (placed structs xs) b ≡ Some y) × (y.at ≡ a)) → slice_get (address_in q x.address (block_addresses xs)) b ≡ Some a
        → (y : Placed) × (slice_get (placed_in q (record { cells = map unset (kinds_of structs x.type); at = x.address }) (placed structs xs)) b ≡ Some y) × (y.at ≡ a)
    by (h.Block i) zero ih is = (record { cells = map unset (kinds_of structs x.type); at = x.address }, refl, same_Some _ _ is)
    by (h.Block i) (suc b) ih is = ih b a is
    by (h.Global i) b ih is = ih b a is
    by (h.Scalar i) b ih is = ih b a is

pub placed_rise : (structs : List StructType) (xs : List Variable') (from to : ℕ) → AreBetween structs from xs to → Rising from (placed structs xs) to
placed_rise structs [] from to between = between
placed_rise structs (x ∷ xs) from to between = by x.home (λ from. placed_rise structs xs from to) between
  where
    by : (q : Home) → ((from : ℕ) → AreBetween structs from xs to → Rising from (placed structs xs) to) → IsBetween structs q x from (λ next. AreBetween structs next xs to)
        → Rising from (placed_in q (record { cells = map unset (kinds_of structs x.type); at = x.address }) (placed structs xs)) to
    by (h.Block b) ih between =
        let ks = kinds_of structs x.type in
        (between.0, block_of ks (map unset ks) (length_unset ks) (unset_kinds ks) (kinds_are structs x.type) between.1, subst (λ n. Rising (x.address + n) (placed structs xs) to) (sym (length_unset ks)) (ih (x.address + length ks) between.2))
    by (h.Global b) ih between = ih from between
    by (h.Scalar n) ih between = ih from between

pub placed_start : (ram : ℕ → ℕ) (structs : List StructType) (xs : List Variable') → AllStart ram (placed structs xs)
placed_start ram structs [] = tt
placed_start ram structs (x ∷ xs) = by x.home (placed_start ram structs xs)
  where
    by : (q : Home) → AllStart ram (placed structs xs) → AllStart ram (placed_in q (record { cells = map unset (kinds_of structs x.type); at = x.address }) (placed structs xs))
    by (h.Block b) ih = (λ S made i c is. unset_holds S made ram (x.address + i) c.kind c.value (unset_value (kinds_of structs x.type) i c is), ih)
    by (h.Global b) ih = ih
    by (h.Scalar n) ih = ih

pub rising_lower : (low from : ℕ) (bs : List Placed) (to : ℕ) → low ≤ from → Rising from bs to → Rising low bs to
rising_lower low from [] to le rise = omega arith
rising_lower low from (b ∷ bs) to le rise = let first = rise.0 in (omega arith, rise.1, rise.2)
