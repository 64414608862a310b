-- Where the variables of a function live: numbered in order, they are found by their numbers.
use Rattle.std.proofs.Common.{◌≡◌, ℕ, zero, suc, ◌+◌, Bool, true, false, not, IsTrue, ◌||◌, List, [], ◌∷◌, map, Some, refl, sym, ap, ap₂, subst, ◌∙◌, arith}
use Rattle.std.specs.Prelude.{slice_get, if◌then◌else◌}
use Rattle.std.proofs.lemmas.Bool.{false≢true}
use Rattle.std.proofs.lemmas.Option.{none-some, same_Some}
use Rattle.clight_syntax.specs.declared.typed.Home.{Home}
use Rattle.clight_syntax.specs.declared.typed.Home.TheVariants as h
use Rattle.c_types.specs.Types.{CType, StructType}
use Rattle.c_types.specs.Kinds.{is_scalar}
use Rattle.clight_syntax.specs.TypedTrees.{Variable'}
use Rattle.clight_layout.specs.declared.sizes.Area.{Area}
use Rattle.clight_layout.specs.declared.sizes.Area.TheVariants.{Frame}
use Rattle.clight_layout.specs.Frames.{lies_in, room_of, at_address, placed}
use Rattle.clight_typing.specs.Functions.{Own, home_of, has_block, own_variable, variables_from, counted}
use Rattle.clight_typing.specs.Programs.{without_address}
use Rattle.clight_programs.specs.Scopes.{scalar_types, address_in, block_addresses}

-- the next block of its call, or the next scalar, which lives in no block
abbrev pub IsHome : (blocks scalars : ℕ) → CType → Home → Type 0
IsHome blocks scalars T (h.Block b) = b ≡ blocks
IsHome blocks scalars T (h.Scalar n) = (n ≡ scalars) × IsTrue (is_scalar T)
IsHome blocks scalars T (h.Global b) = ⊥

abbrev pub AreHomes : (blocks scalars : ℕ) → List Variable' → Type 0
AreHomes blocks scalars [] = Unit {0}
AreHomes blocks scalars (x ∷ xs) =
    IsHome blocks scalars x.type x.home × AreHomes (counted (lies_in Frame x.home) blocks) (counted (is_scalar x.type) scalars) xs

-- the home of a variable, by numbers that begin at 0
abbrev pub Found : List Variable' → (blocks scalars : ℕ) → Home → CType → ℕ → Type 0
Found xs blocks scalars (h.Block b) T a = (k : ℕ) × (b ≡ blocks + k) × (slice_get (block_addresses xs) k ≡ Some a)
Found xs blocks scalars (h.Scalar n) T a = (k : ℕ) × (n ≡ scalars + k) × (slice_get (scalar_types xs) k ≡ Some T)
Found xs blocks scalars (h.Global b) T a = ⊥

-- one variable more before
found_later : (x : Variable') (xs : List Variable') (blocks scalars : ℕ) → (home : Home) (T : CType) (a : ℕ)
    → Found xs (counted (lies_in Frame x.home) blocks) (counted (is_scalar x.type) scalars) home T a → Found (x ∷ xs) blocks scalars home T a
found_later x xs blocks scalars (h.Global b) T a f = f
found_later x xs blocks scalars (h.Block b) T a f = by x.home f
  where
    by : (home : Home) → (k : ℕ) × (b ≡ counted (lies_in Frame home) blocks + k) × (slice_get (block_addresses xs) k ≡ Some a)
        → (k : ℕ) × (b ≡ blocks + k) × (slice_get (address_in home x.address (block_addresses xs)) k ≡ Some a)
    by (h.Block n) (k, e, is) = (suc k, (let e' : b ≡ blocks + suc k = omega arith in e'), is)
    by (h.Global n) f = f
    by (h.Scalar n) f = f
found_later x xs blocks scalars (h.Scalar n) T a f = by (is_scalar x.type) f
  where
    by : (s : Bool) → (k : ℕ) × (n ≡ counted s scalars + k) × (slice_get (scalar_types xs) k ≡ Some T)
        → (k : ℕ) × (n ≡ scalars + k) × (slice_get (if s then x.type ∷ scalar_types xs else scalar_types xs) k ≡ Some T)
    by true (k, e, is) = (suc k, (let e' : n ≡ scalars + suc k = omega arith in e'), is)
    by false f = f

found_here : (x : Variable') (xs : List Variable') (blocks scalars : ℕ) → IsHome blocks scalars x.type x.home → Found (x ∷ xs) blocks scalars x.home x.type x.address
found_here x xs blocks scalars is = by x.home refl is
  where
    of_scalar : (n : ℕ) (s : Bool) → n ≡ scalars → IsTrue s → (k : ℕ) × (n ≡ scalars + k) × (slice_get (if s then x.type ∷ scalar_types xs else scalar_types xs) k ≡ Some x.type)
    of_scalar n true e i = (0, (let e' : n ≡ scalars + 0 = omega arith in e'), refl)
    of_scalar n false e i = absurd (false≢true i)

    by : (home : Home) → x.home ≡ home → IsHome blocks scalars x.type home → Found (x ∷ xs) blocks scalars home x.type x.address
    by (h.Block b) same e = (0, (let e' : b ≡ blocks + 0 = omega arith in e'), ap (λ o. slice_get (address_in o x.address (block_addresses xs)) 0) same)
    by (h.Scalar n) same e = of_scalar n (is_scalar x.type) e.0 e.1
    by (h.Global b) same e = absurd e

pub find_home : (xs : List Variable') (blocks scalars : ℕ) → AreHomes blocks scalars xs → (i : ℕ) (x : Variable') → slice_get xs i ≡ Some x → Found xs blocks scalars x.home x.type x.address
find_home [] blocks scalars are i x is = absurd (none-some x is)
find_home (y ∷ xs) blocks scalars are zero x is =
    subst (λ (z : Variable'). Found (y ∷ xs) blocks scalars z.home z.type z.address) (same_Some _ _ is) (found_here y xs blocks scalars are.0)
find_home (y ∷ xs) blocks scalars are (suc i) x is =
    found_later y xs blocks scalars x.home x.type x.address (find_home xs (counted (lies_in Frame y.home) blocks) (counted (is_scalar y.type) scalars) are.1 i x is)

-- ---- homes as they are given

given_home : (b : Bool) (blocks scalars : ℕ) (T : CType) → (b ≡ false → IsTrue (is_scalar T)) → IsHome blocks scalars T (home_of b blocks scalars)
given_home true blocks scalars T s = refl
given_home false blocks scalars T s = (refl, s refl)

block_given : (b : Bool) (blocks scalars : ℕ) → lies_in Frame (home_of b blocks scalars) ≡ b
block_given true blocks scalars = refl
block_given false blocks scalars = refl

in_no_block : (addressed : ℕ → Bool) (n : ℕ) (T : CType) → has_block addressed n T ≡ false → IsTrue (is_scalar T)
in_no_block addressed n T e = by (is_scalar T) e
  where
    by : (s : Bool) → (not s || addressed n) ≡ false → IsTrue s
    by true e = refl
    by false e = sym e

-- variables that are the given ones but for addresses have their homes in order
pub homes_given : (addressed : ℕ → Bool) (n blocks scalars : ℕ) (owns : List Own) (xs : List Variable') → map without_address xs ≡ variables_from addressed n blocks scalars owns → AreHomes blocks scalars xs
homes_given addressed n blocks scalars [] [] is = tt
homes_given addressed n blocks scalars [] (x ∷ xs) is = absurd cc
homes_given addressed n blocks scalars (o ∷ owns) [] is = absurd cc
homes_given addressed n blocks scalars (o ∷ owns) (x ∷ xs) is =
    let b = has_block addressed n o.type in
    let here : without_address x ≡ own_variable addressed n blocks scalars o = cc in
    let rest : map without_address xs ≡ variables_from addressed (suc n) (counted (has_block addressed n o.type) blocks) (counted (is_scalar o.type) scalars) owns = cc in
    let type : x.type ≡ o.type = ap (λ (v : Variable'). v.type) here in
    let home : x.home ≡ home_of (has_block addressed n o.type) blocks scalars = ap (λ (v : Variable'). v.home) here in
    let lies : lies_in Frame x.home ≡ has_block addressed n o.type = ap (lies_in Frame) home ∙ block_given (has_block addressed n o.type) blocks scalars in (
      subst (λ (T : CType). IsHome blocks scalars T x.home) (sym type)
          (subst (IsHome blocks scalars o.type) (sym home) (given_home (has_block addressed n o.type) blocks scalars o.type (in_no_block addressed n o.type))),
      subst (λ (c : Bool). AreHomes (counted c blocks) (counted (is_scalar x.type) scalars) xs) (sym lies)
          (subst (λ (T : CType). AreHomes (counted (has_block addressed n o.type) blocks) (counted (is_scalar T) scalars) xs) (sym type)
          (homes_given addressed (suc n) (counted (has_block addressed n o.type) blocks) (counted (is_scalar o.type) scalars) owns xs rest)),
    )

-- the types are the given ones
pub type_given : (addressed : ℕ → Bool) (n blocks scalars : ℕ) (owns : List Own) (xs : List Variable') → map without_address xs ≡ variables_from addressed n blocks scalars owns → (i : ℕ) (o : Own) → slice_get owns i ≡ Some o
    → (x : Variable') × (slice_get xs i ≡ Some x) × (x.type ≡ o.type) × (IsTrue (not (has_block addressed (n + i) o.type)) → (k : ℕ) × (x.home ≡ h.Scalar k))
    × (IsTrue (has_block addressed (n + i) o.type) → (k : ℕ) × (x.home ≡ h.Block k))
type_given addressed n blocks scalars [] xs is i o at = absurd (none-some o at)
type_given addressed n blocks scalars (p ∷ owns) [] is i o at = absurd cc
type_given addressed n blocks scalars (p ∷ owns) (x ∷ xs) is zero o at =
    let here : without_address x ≡ own_variable addressed n blocks scalars p = cc in
    let same = same_Some _ _ at in
    let z : n + 0 ≡ n = omega arith in (
      x,
      refl,
      ap (λ (v : Variable'). v.type) here ∙ ap (λ (q : Own). q.type) same,
      λ free.
          let no_block : IsTrue (not (has_block addressed n p.type)) = subst (λ (m : ℕ). IsTrue (not (has_block addressed m p.type))) z (subst (λ (q : Own). IsTrue (not (has_block addressed (n + 0) q.type))) (sym same) free) in
          (scalars, ap (λ (v : Variable'). v.home) here ∙ scalar_home (has_block addressed n p.type) no_block),
      λ held.
          let block : IsTrue (has_block addressed n p.type) = subst (λ (m : ℕ). IsTrue (has_block addressed m p.type)) z (subst (λ (q : Own). IsTrue (has_block addressed (n + 0) q.type)) (sym same) held) in
          (blocks, ap (λ (v : Variable'). v.home) here ∙ block_home (has_block addressed n p.type) block),
    )
  where
    scalar_home : (b : Bool) → IsTrue (not b) → home_of b blocks scalars ≡ h.Scalar scalars
    scalar_home true i = absurd (false≢true i)
    scalar_home false i = refl

    block_home : (b : Bool) → IsTrue b → home_of b blocks scalars ≡ h.Block blocks
    block_home true i = refl
    block_home false i = absurd (false≢true i)
type_given addressed n blocks scalars (p ∷ owns) (x ∷ xs) is (suc i) o at =
    let rest : map without_address xs ≡ variables_from addressed (suc n) (counted (has_block addressed n p.type) blocks) (counted (is_scalar p.type) scalars) owns = cc in
    let later = type_given addressed (suc n) (counted (has_block addressed n p.type) blocks) (counted (is_scalar p.type) scalars) owns xs rest i o at in
    let e : suc n + i ≡ n + suc i = omega arith in
    (later.0, later.1, later.2, subst (λ (m : ℕ). IsTrue (not (has_block addressed m o.type)) → (k : ℕ) × (later.0.home ≡ h.Scalar k)) e later.3, subst (λ (m : ℕ). IsTrue (has_block addressed m o.type) → (k : ℕ) × (later.0.home ≡ h.Block k)) e later.4)

-- ---- addresses

-- the variables that lie in an area lie there one after the other, from an address on
abbrev pub AreLaid : Area → List StructType → ℕ → List Variable' → Type 0
AreLaid area structs at [] = Unit {0}
AreLaid area structs at (x ∷ xs) = (IsTrue (lies_in area x.home) → x.address ≡ at) × AreLaid area structs (at + room_of area structs x) xs

pub placed_laid : (area : Area) (structs : List StructType) (at : ℕ) (xs : List Variable') → AreLaid area structs at (placed area structs at xs)
placed_laid area structs at [] = tt
placed_laid area structs at (x ∷ xs) = by (lies_in area x.home) refl (placed_laid area structs (at + room_of area structs x) xs)
  where
    same_room : (b : Bool) → room_of area structs (if b then at_address at x else x) ≡ room_of area structs x
    same_room true = refl
    same_room false = refl

    by : (b : Bool) → lies_in area x.home ≡ b → AreLaid area structs (at + room_of area structs x) (placed area structs (at + room_of area structs x) xs)
        → AreLaid area structs at ((if b then at_address at x else x) ∷ placed area structs (at + room_of area structs x) xs)
    by true e rest = (λ _. refl, rest)
    by false e rest = (λ lies. absurd (false≢true (sym e ∙ lies)), rest)

-- those of another area keep their addresses, and all their homes and types
pub placed_same : (area : Area) (structs : List StructType) (at : ℕ) (xs : List Variable') → map without_address (placed area structs at xs) ≡ map without_address xs
placed_same area structs at [] = refl
placed_same area structs at (x ∷ xs) = ap₂ (λ y ys. y ∷ ys) (by (lies_in area x.home)) (placed_same area structs (at + room_of area structs x) xs)
  where
    by : (b : Bool) → without_address (if b then at_address at x else x) ≡ without_address x
    by true = refl
    by false = refl
