-- The first values of globals in external RAM.
use Rattle.std.proofs.Common.{◌≡◌, ℕ, zero, suc, ◌+◌, ◌*◌, ◌/◌, ◌%◌, ◌<◌, ◌≤◌, List, [], ◌∷◌, ◌++◌, length, Option, Some, None, Bool, true, false, refl, sym, ap, ◌∙◌, subst, arith}
use Rattle.std.specs.Prelude.{slice_get, if◌then◌else◌}
use Rattle.std.proofs.lemmas.Option.{slice_get_within, none-some, same_Some}
use Rattle.cerco_base.specs.declared.events.Label.{Label}
use Rattle.cerco_traces.specs.Worlds.{update, started_from}
use Rattle.cerco_traces.proofs.WorldLaws.{update_same, update_other}
use Rattle.c_types.specs.declared.integers.Size.{Size}
use Rattle.c_types.specs.declared.integers.Size.TheVariants.{One, Two, Four}
use Rattle.c_types.specs.declared.integers.IntegerType.{IntegerType}
use Rattle.c_types.specs.Types.{CType, Void, Integer, Pointer, Array, Struct, StructType}
use Rattle.c_types.specs.Conversions.{count}
use Rattle.cerco_middle.specs.Operators.{read_from}
use Rattle.clight_source.specs.declared.tree.SignedNumber.{SignedNumber}
use Rattle.clight_source.specs.Trees.{Initialiser, NoInitialiser, Single, Listed}
use Rattle.clight_syntax.specs.Bounds.{is_initialised}
use Rattle.clight_syntax.specs.TypedTrees.{Item, StructItem, GlobalItem, PrototypeItem, FunctionItem, TypedProgram, address_at}
use Rattle.clight_values.specs.declared.value.Value.TheVariants as v
use Rattle.clight_values.specs.Memory.{Cell, Kinds, repeated, kinds_of, initial}
use Rattle.clight_values.specs.Globals.{filled, numbers_of, first_value}
use Rattle.clight_meaning.specs.Meaning.{variable_type, global_cells, global_blocks}
use Rattle.clight_programs.specs.Scopes.{IsShortScalar, HasShortScalars, global_addresses, bytes_of}
use Rattle.clight_programs.specs.Programs.{GlobalsAreBetween, GlobalsFit, TakesInitialiser}
use Rattle.flat_memory.specs.HeldTypes.{held_of}
use Rattle.flat_memory.proofs.Ram.{in_ram}
use Rattle.flat_memory.proofs.Shapes.{Shape, Reps, Holds, IsWide}
use Rattle.flat_memory.proofs.Blocks.{kind_at, StartsAt, Placed, cells_of, Rising, AllStart}
use Rattle.cminor_gen.specs.Translation.Start.{first_bits, integers_from, global_bytes, item_bytes, items_bytes}
use Rattle.cminor_gen.proofs.Entry.{AreKinds, kinds_are, kind_in, block_of}

-- ---- bytes that are written at the start

-- all of them at addresses from lo to before hi
abbrev pub AllIn : ℕ → ℕ → List (ℕ × ℕ) → Type 0
AllIn lo hi [] = Unit {0}
AllIn lo hi (x ∷ xs) = (lo ≤ x.0) × (x.0 < hi) × AllIn lo hi xs

all_append : (lo hi : ℕ) (xs ys : List (ℕ × ℕ)) → AllIn lo hi xs → AllIn lo hi ys → AllIn lo hi (xs ++ ys)
all_append lo hi [] ys a b = b
all_append lo hi (x ∷ xs) ys a b = (a.0, a.1, all_append lo hi xs ys a.2 b)

all_wider : (lo hi lo' hi' : ℕ) → lo' ≤ lo → hi ≤ hi' → (xs : List (ℕ × ℕ)) → AllIn lo hi xs → AllIn lo' hi' xs
all_wider lo hi lo' hi' le ge [] a = tt
all_wider lo hi lo' hi' le ge (x ∷ xs) a = let a0 = a.0 in let a1 = a.1 in (omega arith, omega arith, all_wider lo hi lo' hi' le ge xs a.2)

started_append : (xs ys : List (ℕ × ℕ)) (ram : ℕ → ℕ) → started_from (xs ++ ys) ram ≡ started_from ys (started_from xs ram)
started_append [] ys ram = refl
started_append (x ∷ xs) ys ram = started_append xs ys (update ram x.0 x.1)

-- elsewhere nothing is written
before : (lo hi : ℕ) (xs : List (ℕ × ℕ)) (ram : ℕ → ℕ) (a : ℕ) → AllIn lo hi xs → a < lo → started_from xs ram a ≡ ram a
before lo hi [] ram a all lt = refl
before lo hi (x ∷ xs) ram a all lt = let a0 = all.0 in before lo hi xs (update ram x.0 x.1) a all.2 lt ∙ update_other ram x.0 a x.1 (λ e. omega arith)

behind : (lo hi : ℕ) (xs : List (ℕ × ℕ)) (ram : ℕ → ℕ) (a : ℕ) → AllIn lo hi xs → hi ≤ a → started_from xs ram a ≡ ram a
behind lo hi [] ram a all le = refl
behind lo hi (x ∷ xs) ram a all le = let a1 = all.1 in behind lo hi xs (update ram x.0 x.1) a all.2 le ∙ update_other ram x.0 a x.1 (λ e. omega arith)

-- ---- words in external RAM

one_held : (g : Bool) (ram : ℕ → ℕ) (a x : ℕ) → ram a ≡ x → in_ram (held_of (Integer One g)) ram a ≡ read_from (held_of (Integer One g)) x
unfolding in_ram
one_held true ram a x is = let e : ram a + 256 * 0 ≡ x = omega arith in ap (read_from (held_of (Integer One true))) e
one_held false ram a x is = let e : ram a + 256 * 0 ≡ x = omega arith in e

two_bytes : (low high x : ℕ) → low ≡ x % 256 → high ≡ x / 256 % 256 → x < 65536 → low + 256 * (high + 256 * 0) ≡ x
two_bytes low high x l h lt = omega arith

two_held : (g : Bool) (ram : ℕ → ℕ) (a x : ℕ) → a + 1 < 65536 → ram a ≡ x % 256 → ram (a + 1) ≡ x / 256 % 256 → x < 65536 → in_ram (held_of (Integer Two g)) ram a ≡ x
unfolding in_ram
two_held g ram a x fit low high lt = let z : (a + 1) % 65536 ≡ a + 1 = omega arith in two_bytes (ram a) (ram ((a + 1) % 65536)) x low (ap ram z ∙ high) lt

-- no initialiser: all is 0
zero_reps : (S : Shape) (made : ℕ) (ram : ℕ → ℕ) (a : ℕ) (T : CType) → IsShortScalar T → a + 1 < 65536 → ram a ≡ 0 → (IsWide T → ram (a + 1) ≡ 0) → Reps S made T (initial T) (in_ram (held_of T) ram a)
zero_reps S made ram a Void short fit low high = absurd short
zero_reps S made ram a (Integer One g) short fit low high = (omega arith, one_held g ram a 0 low)
zero_reps S made ram a (Integer Two g) short fit low high = (omega arith, two_held g ram a 0 fit low (high tt) (omega arith))
zero_reps S made ram a (Integer Four g) short fit low high = absurd short
zero_reps S made ram a (Pointer T) short fit low high = two_held false ram a 0 fit low (high tt) (omega arith)
zero_reps S made ram a (Array T i) short fit low high = absurd short
zero_reps S made ram a (Struct i) short fit low high = absurd short

-- ---- cells

pub length_filled : (ks : Kinds) (ns : List SignedNumber) (i : ℕ) → length (filled ks ns i) ≡ length ks
length_filled [] ns i = refl
length_filled (None ∷ ks) ns i = let q = length_filled ks ns i in omega arith
length_filled (Some T ∷ ks) ns i = let q = length_filled ks ns (suc i) in omega arith

pub filled_kinds : (ks : Kinds) (ns : List SignedNumber) (i k : ℕ) → kind_at (slice_get (filled ks ns i) k) ≡ kind_in (slice_get ks k)
filled_kinds [] ns i k = refl
filled_kinds (None ∷ ks) ns i zero = refl
filled_kinds (Some T ∷ ks) ns i zero = refl
filled_kinds (None ∷ ks) ns i (suc k) = filled_kinds ks ns i k
filled_kinds (Some T ∷ ks) ns i (suc k) = filled_kinds ks ns (suc i) k

ShortKinds : Kinds → Type 0
ShortKinds ks = (i : ℕ) (T : CType) → slice_get ks i ≡ Some (Some T) → IsShortScalar T

zero_start : (ks : Kinds) (n a : ℕ) → AreKinds ks → ((i : ℕ) (T : CType) → slice_get ks i ≡ Some (Some T) → IsShortScalar T) → a + length ks < 65536 → (ram : ℕ → ℕ) → ((b : ℕ) → a ≤ b → b < a + length ks → ram b ≡ 0) → StartsAt ram a (filled ks [] n)
zero_start [] n a are short fit ram zeros S made i c is = absurd (none-some c is)
zero_start (None ∷ ks) n a are short fit ram zeros S made zero c is = subst (λ (z : Cell). Holds S made ram (a + 0) z.kind z.value) (same_Some _ _ is) tt
zero_start (Some T ∷ ks) n a are short fit ram zeros S made zero c is =
    subst (λ (z : Cell). Holds S made ram (a + 0) z.kind z.value) (same_Some _ _ is)
    (zero_reps S made ram (a + 0) T (short 0 T refl) (omega arith) (zeros (a + 0) (omega arith) (omega arith)) (λ wide.
    let lt = slice_get_within ks 0 None (are 0 T refl wide) in
    zeros (a + 0 + 1) (omega arith) (omega arith)))
zero_start (None ∷ ks) n a are short fit ram zeros S made (suc i) c is =
    let z : suc a + i ≡ a + suc i = omega arith in
    subst (λ b. Holds S made ram b c.kind c.value) z
    (zero_start ks n (suc a) (λ j. are (suc j)) (λ j. short (suc j)) (omega arith) ram (λ b le lt. zeros b (omega arith) (omega arith)) S made i c is)
zero_start (Some T ∷ ks) n a are short fit ram zeros S made (suc i) c is =
    let z : suc a + i ≡ a + suc i = omega arith in
    subst (λ b. Holds S made ram b c.kind c.value) z
    (zero_start ks (suc n) (suc a) (λ j. are (suc j)) (λ j. short (suc j)) (omega arith) ram (λ b le lt. zeros b (omega arith) (omega arith)) S made i c is)

-- ---- integers with numbers

integer : Size → Bool → IntegerType
integer s g = record { size = s; signed = g }

value_is : (s : Size) (g : Bool) (o : Option SignedNumber) → first_value (Integer s g) o ≡ v.Integer (first_bits (record { size = s; signed = g }) o)
value_is s g None = refl
value_is s g (Some n) = refl

bits_low : (s : Size) (g : Bool) (o : Option SignedNumber) → first_bits (record { size = s; signed = g }) o < count s
bits_low One g None = omega arith
bits_low Two g None = omega arith
bits_low Four g None = omega arith
bits_low One g (Some n) = low_in _
  where
    low_in : (x : ℕ) → x % 256 < 256
    low_in x = omega arith
bits_low Two g (Some n) = low_in _
  where
    low_in : (x : ℕ) → x % 65536 < 65536
    low_in x = omega arith
bits_low Four g (Some n) = low_in _
  where
    low_in : (x : ℕ) → x % 4294967296 < 4294967296
    low_in x = omega arith

-- so many integers in bytes from an address on
one_in : (g : Bool) (ns : List SignedNumber) (count n a lo hi : ℕ) → lo ≤ a → a + count ≤ hi → hi < 65536 → AllIn lo hi (integers_from (record { size = One; signed = g }) ns count n a)
one_in g ns zero n a lo hi le ge fit = tt
one_in g ns (suc count) n a lo hi le ge fit =
    let z : a + 1 ≡ (a + 1) % 65536 = omega arith in
    (le, omega arith, subst (λ b. AllIn lo hi (integers_from (record { size = One; signed = g }) ns count (n + 1) b)) z (one_in g ns count (n + 1) (a + 1) lo hi (omega arith) (omega arith) fit))

two_in : (g : Bool) (ns : List SignedNumber) (count n a lo hi : ℕ) → lo ≤ a → a + 2 * count ≤ hi → hi < 65536 → AllIn lo hi (integers_from (record { size = Two; signed = g }) ns count n a)
two_in g ns zero n a lo hi le ge fit = tt
two_in g ns (suc count) n a lo hi le ge fit =
    let z : a + 2 ≡ (a + 2) % 65536 = omega arith in
    (le, omega arith, (omega arith, omega arith, subst (λ b. AllIn lo hi (integers_from (record { size = Two; signed = g }) ns count (n + 1) b)) z (two_in g ns count (n + 1) (a + 2) lo hi (omega arith) (omega arith) fit)))

one_start : (g : Bool) (ns : List SignedNumber) (count n a : ℕ) → a + count < 65536 → (old ram : ℕ → ℕ) → ((b : ℕ) → a ≤ b → b < a + count → ram b ≡ started_from (integers_from (record { size = One; signed = g }) ns count n a) old b)
    → StartsAt ram a (filled (repeated count (Some (Integer One g) ∷ [])) ns n)
one_start g ns zero n a fit old ram same S made i c is = absurd (none-some c is)
one_start g ns (suc count) n a fit old ram same S made zero c is =
    let o = slice_get ns n in
    let x = first_bits (record { size = One; signed = g }) o in
    let z : a + 1 ≡ (a + 1) % 65536 = omega arith in
    let low = bits_low One g o in
    let whole : x % 256 ≡ x = omega arith in
    let rest = one_in g ns count (n + 1) (a + 1) (a + 1) (a + 1 + count) (omega arith) (omega arith) (omega arith) in
    let rest' = subst (λ b. AllIn (a + 1) (a + 1 + count) (integers_from (record { size = One; signed = g }) ns count (n + 1) b)) z rest in
    let at : ram a ≡ x = same a (omega arith) (omega arith) ∙ before (a + 1) (a + 1 + count) _ (update old a (x % 256)) a rest' (omega arith) ∙ update_same old a a (x % 256) refl ∙ whole in
    let y : a ≡ a + 0 = omega arith in
    subst (λ (q : Cell). Holds S made ram (a + 0) q.kind q.value) (same_Some _ _ is)
    (subst (λ b. Reps S made (Integer One g) (first_value (Integer One g) o) (in_ram (held_of (Integer One g)) ram b)) y
    (subst (λ u. Reps S made (Integer One g) u (in_ram (held_of (Integer One g)) ram a)) (sym (value_is One g o)) (low, one_held g ram a x at)))
one_start g ns (suc count) n a fit old ram same S made (suc i) c is =
    let z : (a + 1) % 65536 ≡ a + 1 = omega arith in
    let y : a + 1 + i ≡ a + suc i = omega arith in
    let m : suc n ≡ n + 1 = omega arith in
    let x = first_bits (record { size = One; signed = g }) (slice_get ns n) in
    subst (λ b. Holds S made ram b c.kind c.value) y
    (one_start g ns count (n + 1) (a + 1) (omega arith) (update old a (x % 256)) ram
    (λ b le lt. same b (omega arith) (omega arith) ∙ ap (λ q. started_from (integers_from (record { size = One; signed = g }) ns count (n + 1) q) (update old a (x % 256)) b) z)
    S made i c (subst (λ k. slice_get (filled (repeated count (Some (Integer One g) ∷ [])) ns k) i ≡ Some c) m is))

two_start : (g : Bool) (ns : List SignedNumber) (count n a : ℕ) → a + 2 * count < 65536 → (old ram : ℕ → ℕ) → ((b : ℕ) → a ≤ b → b < a + 2 * count → ram b ≡ started_from (integers_from (record { size = Two; signed = g }) ns count n a) old b)
    → StartsAt ram a (filled (repeated count (Some (Integer Two g) ∷ None ∷ [])) ns n)
two_start g ns zero n a fit old ram same S made i c is = absurd (none-some c is)
two_start g ns (suc count) n a fit old ram same S made zero c is =
    let o = slice_get ns n in
    let x = first_bits (record { size = Two; signed = g }) o in
    let z : a + 2 ≡ (a + 2) % 65536 = omega arith in
    let z1 : (a + 1) % 65536 ≡ a + 1 = omega arith in
    let low = bits_low Two g o in
    let rest = two_in g ns count (n + 1) (a + 2) (a + 2) (a + 2 + 2 * count) (omega arith) (omega arith) (omega arith) in
    let rest' = subst (λ b. AllIn (a + 2) (a + 2 + 2 * count) (integers_from (record { size = Two; signed = g }) ns count (n + 1) b)) z rest in
    let old1 = update old a (x % 256) in
    let old2 = update old1 ((a + 1) % 65536) (x / 256 % 256) in
    let at : ram a ≡ x % 256 = same a (omega arith) (omega arith) ∙ before (a + 2) (a + 2 + 2 * count) _ old2 a rest' (omega arith) ∙ update_other old1 ((a + 1) % 65536) a (x / 256 % 256) (λ e. omega arith) ∙ update_same old a a (x % 256) refl in
    let at1 : ram (a + 1) ≡ x / 256 % 256 = same (a + 1) (omega arith) (omega arith) ∙ before (a + 2) (a + 2 + 2 * count) _ old2 (a + 1) rest' (omega arith) ∙ update_same old1 ((a + 1) % 65536) (a + 1) (x / 256 % 256) (sym z1) in
    let y : a ≡ a + 0 = omega arith in
    subst (λ (q : Cell). Holds S made ram (a + 0) q.kind q.value) (same_Some _ _ is)
    (subst (λ b. Reps S made (Integer Two g) (first_value (Integer Two g) o) (in_ram (held_of (Integer Two g)) ram b)) y
    (subst (λ u. Reps S made (Integer Two g) u (in_ram (held_of (Integer Two g)) ram a)) (sym (value_is Two g o)) (low, two_held g ram a x (omega arith) at at1 low)))
two_start g ns (suc count) n a fit old ram same S made (suc zero) c is =
    subst (λ (q : Cell). Holds S made ram (a + 1) q.kind q.value) (same_Some _ _ is) tt
two_start g ns (suc count) n a fit old ram same S made (suc (suc i)) c is =
    let z : (a + 2) % 65536 ≡ a + 2 = omega arith in
    let y : a + 2 + i ≡ a + suc (suc i) = omega arith in
    let m : suc n ≡ n + 1 = omega arith in
    let x = first_bits (record { size = Two; signed = g }) (slice_get ns n) in
    let old2 = update (update old a (x % 256)) ((a + 1) % 65536) (x / 256 % 256) in
    subst (λ b. Holds S made ram b c.kind c.value) y
    (two_start g ns count (n + 1) (a + 2) (omega arith) old2 ram
    (λ b le lt. same b (omega arith) (omega arith) ∙ ap (λ q. started_from (integers_from (record { size = Two; signed = g }) ns count (n + 1) q) old2 b) z)
    S made i c (subst (λ k. slice_get (filled (repeated count (Some (Integer Two g) ∷ None ∷ [])) ns k) i ≡ Some c) m is))

-- ---- one global

abbrev bytes_by : CType → Initialiser → ℕ → List (ℕ × ℕ)
bytes_by T i a = if is_initialised i then global_bytes T (numbers_of i) a else []

length_one : (n : ℕ) (k : Option CType) → length (repeated n (k ∷ [])) ≡ n
length_one zero k = refl
length_one (suc n) k = let q = length_one n k in omega arith

length_two : (n : ℕ) (k l : Option CType) → length (repeated n (k ∷ l ∷ [])) ≡ 2 * n
length_two zero k l = refl
length_two (suc n) k l = let q = length_two n k l in omega arith

four_none : (structs : List StructType) (g : Bool) (n : ℕ) → HasShortScalars structs (Array (Integer Four g) n) → 1 ≤ length (kinds_of structs (Array (Integer Four g) n)) → ⊥
four_none structs g zero short some = omega arith
four_none structs g (suc n) short some = short 0 (Integer Four g) refl

global_in : (structs : List StructType) (T : CType) (i : Initialiser) → HasShortScalars structs T → TakesInitialiser T i → (a : ℕ) → 1 ≤ length (kinds_of structs T) → a + length (kinds_of structs T) < 65536 → AllIn a (a + length (kinds_of structs T)) (bytes_by T i a)
global_in structs T NoInitialiser short takes a some fit = tt
global_in structs (Integer One g) (Single equals number) short takes a some fit = one_in g (number ∷ []) 1 0 a a (a + 1) (omega arith) (omega arith) fit
global_in structs (Integer Two g) (Single equals number) short takes a some fit = two_in g (number ∷ []) 1 0 a a (a + 2) (omega arith) (omega arith) fit
global_in structs (Integer Four g) (Single equals number) short takes a some fit = absurd (short 0 (Integer Four g) refl)
global_in structs Void (Single equals number) short takes a some fit = absurd takes
global_in structs (Pointer T) (Single equals number) short takes a some fit = absurd takes
global_in structs (Array T n) (Single equals number) short takes a some fit = absurd takes
global_in structs (Struct n) (Single equals number) short takes a some fit = absurd takes
global_in structs (Array (Integer One g) n) (Listed equals lf earlier last rt) short takes a some fit =
    let many = length_one n (Some (Integer One g)) in
    one_in g (numbers_of (Listed equals lf earlier last rt)) n 0 a a (a + length (kinds_of structs (Array (Integer One g) n))) (omega arith) (omega arith) fit
global_in structs (Array (Integer Two g) n) (Listed equals lf earlier last rt) short takes a some fit =
    let many = length_two n (Some (Integer Two g)) None in
    two_in g (numbers_of (Listed equals lf earlier last rt)) n 0 a a (a + length (kinds_of structs (Array (Integer Two g) n))) (omega arith) (omega arith) fit
global_in structs (Array (Integer Four g) n) (Listed equals lf earlier last rt) short takes a some fit = absurd (four_none structs g n short some)
global_in structs (Array Void n) (Listed equals lf earlier last rt) short takes a some fit = absurd takes
global_in structs (Array (Pointer T) n) (Listed equals lf earlier last rt) short takes a some fit = absurd takes
global_in structs (Array (Array T k) n) (Listed equals lf earlier last rt) short takes a some fit = absurd takes
global_in structs (Array (Struct k) n) (Listed equals lf earlier last rt) short takes a some fit = absurd takes
global_in structs Void (Listed equals lf earlier last rt) short takes a some fit = absurd takes
global_in structs (Integer s g) (Listed equals lf earlier last rt) short takes a some fit = absurd takes
global_in structs (Pointer T) (Listed equals lf earlier last rt) short takes a some fit = absurd takes
global_in structs (Struct n) (Listed equals lf earlier last rt) short takes a some fit = absurd takes

global_start : (structs : List StructType) (T : CType) (i : Initialiser) → HasShortScalars structs T → TakesInitialiser T i → (a : ℕ) → 1 ≤ length (kinds_of structs T) → a + length (kinds_of structs T) < 65536 → (old ram : ℕ → ℕ) → ((b : ℕ) → a ≤ b → old b ≡ 0)
    → ((b : ℕ) → a ≤ b → b < a + length (kinds_of structs T) → ram b ≡ started_from (bytes_by T i a) old b) → StartsAt ram a (filled (kinds_of structs T) (numbers_of i) 0)
global_start structs T NoInitialiser short takes a some fit old ram zeros same = zero_start (kinds_of structs T) 0 a (kinds_are structs T) short fit ram (λ b le lt. same b le lt ∙ zeros b le)
global_start structs (Integer One g) (Single equals number) short takes a some fit old ram zeros same = one_start g (number ∷ []) 1 0 a fit old ram same
global_start structs (Integer Two g) (Single equals number) short takes a some fit old ram zeros same = two_start g (number ∷ []) 1 0 a fit old ram same
global_start structs (Integer Four g) (Single equals number) short takes a some fit old ram zeros same = absurd (short 0 (Integer Four g) refl)
global_start structs Void (Single equals number) short takes a some fit old ram zeros same = absurd takes
global_start structs (Pointer T) (Single equals number) short takes a some fit old ram zeros same = absurd takes
global_start structs (Array T n) (Single equals number) short takes a some fit old ram zeros same = absurd takes
global_start structs (Struct n) (Single equals number) short takes a some fit old ram zeros same = absurd takes
global_start structs (Array (Integer One g) n) (Listed equals lf earlier last rt) short takes a some fit old ram zeros same =
    let many = length_one n (Some (Integer One g)) in
    one_start g (numbers_of (Listed equals lf earlier last rt)) n 0 a (omega arith) old ram (λ b le lt. same b le (omega arith))
global_start structs (Array (Integer Two g) n) (Listed equals lf earlier last rt) short takes a some fit old ram zeros same =
    let many = length_two n (Some (Integer Two g)) None in
    two_start g (numbers_of (Listed equals lf earlier last rt)) n 0 a (omega arith) old ram (λ b le lt. same b le (omega arith))
global_start structs (Array (Integer Four g) n) (Listed equals lf earlier last rt) short takes a some fit old ram zeros same = absurd (four_none structs g n short some)
global_start structs (Array Void n) (Listed equals lf earlier last rt) short takes a some fit old ram zeros same = absurd takes
global_start structs (Array (Pointer T) n) (Listed equals lf earlier last rt) short takes a some fit old ram zeros same = absurd takes
global_start structs (Array (Array T k) n) (Listed equals lf earlier last rt) short takes a some fit old ram zeros same = absurd takes
global_start structs (Array (Struct k) n) (Listed equals lf earlier last rt) short takes a some fit old ram zeros same = absurd takes
global_start structs Void (Listed equals lf earlier last rt) short takes a some fit old ram zeros same = absurd takes
global_start structs (Integer s g) (Listed equals lf earlier last rt) short takes a some fit old ram zeros same = absurd takes
global_start structs (Pointer T) (Listed equals lf earlier last rt) short takes a some fit old ram zeros same = absurd takes
global_start structs (Struct n) (Listed equals lf earlier last rt) short takes a some fit old ram zeros same = absurd takes

-- ---- all globals

module _ (p : TypedProgram Label) where
  abbrev pub global_placed : List Item → List Placed
  global_placed [] = []
  global_placed (GlobalItem g n ∷ items) = record { cells = global_cells p g n; at = address_at p n } ∷ global_placed items
  global_placed (StructItem s ∷ items) = global_placed items
  global_placed (PrototypeItem q ∷ items) = global_placed items
  global_placed (FunctionItem f ∷ items) = global_placed items

  pub global_placed_cells : (items : List Item) → cells_of (global_placed items) ≡ global_blocks p items
  global_placed_cells [] = refl
  global_placed_cells (GlobalItem g n ∷ items) = ap (λ l. global_cells p g n ∷ l) (global_placed_cells items)
  global_placed_cells (StructItem s ∷ items) = global_placed_cells items
  global_placed_cells (PrototypeItem q ∷ items) = global_placed_cells items
  global_placed_cells (FunctionItem f ∷ items) = global_placed_cells items

  pub global_placed_at : (items : List Item) (b a : ℕ) → slice_get (global_addresses p items) b ≡ Some a → (y : Placed) × (slice_get (global_placed items) b ≡ Some y) × (y.at ≡ a)
  global_placed_at [] b a is = absurd (none-some a is)
  global_placed_at (GlobalItem g n ∷ items) zero a is = (record { cells = global_cells p g n; at = address_at p n }, refl, same_Some _ _ is)
  global_placed_at (GlobalItem g n ∷ items) (suc b) a is = global_placed_at items b a is
  global_placed_at (StructItem s ∷ items) b a is = global_placed_at items b a is
  global_placed_at (PrototypeItem q ∷ items) b a is = global_placed_at items b a is
  global_placed_at (FunctionItem f ∷ items) b a is = global_placed_at items b a is

  between_ends : (items : List Item) (from to : ℕ) → GlobalsAreBetween p from items to → from ≤ to
  between_ends [] from to between = between
  between_ends (GlobalItem g n ∷ items) from to between =
      let first = between.0 in
      let rest = between_ends items (address_at p n + bytes_of p.structs (variable_type p n)) to between.2 in
      omega arith
  between_ends (StructItem s ∷ items) from to between = between_ends items from to between
  between_ends (PrototypeItem q ∷ items) from to between = between_ends items from to between
  between_ends (FunctionItem f ∷ items) from to between = between_ends items from to between

  pub global_placed_rise : (items : List Item) (from to : ℕ) → GlobalsAreBetween p from items to → Rising from (global_placed items) to
  global_placed_rise [] from to between = between
  global_placed_rise (GlobalItem g n ∷ items) from to between =
      let ks = kinds_of p.structs (variable_type p n) in
      let ns = numbers_of g.initialiser in
      let many = length_filled ks ns 0 in
      (between.0, block_of ks (filled ks ns 0) many (filled_kinds ks ns 0) (kinds_are p.structs (variable_type p n)) between.1, subst (λ k. Rising (address_at p n + k) (global_placed items) to) (sym many) (global_placed_rise items (address_at p n + length ks) to between.2))
  global_placed_rise (StructItem s ∷ items) from to between = global_placed_rise items from to between
  global_placed_rise (PrototypeItem q ∷ items) from to between = global_placed_rise items from to between
  global_placed_rise (FunctionItem f ∷ items) from to between = global_placed_rise items from to between

  pub global_placed_start : (items : List Item) (from to : ℕ) → GlobalsAreBetween p from items to → GlobalsFit p items → to < 65536 → (old : ℕ → ℕ) → ((b : ℕ) → from ≤ b → old b ≡ 0)
      → AllStart (started_from (items_bytes p items) old) (global_placed items) × AllIn from to (items_bytes p items)
  global_placed_start [] from to between fit lt old zeros = (tt, tt)
  global_placed_start (GlobalItem g n ∷ items) from to between fit lt old zeros =
      let T = variable_type p n in
      let a = address_at p n in
      let size = length (kinds_of p.structs T) in
      let first = between.0 in
      let some = between.1 in
      let rest = between_ends items (a + size) to between.2 in
      let xs = item_bytes p (GlobalItem g n) in
      let ys = items_bytes p items in
      let inside = global_in p.structs T g.initialiser fit.0 fit.1 a some (omega arith) in
      let ih = global_placed_start items (a + size) to between.2 fit.2 lt (started_from xs old) (λ b le. behind a (a + size) xs old b inside le ∙ zeros b (omega arith)) in (
        subst (λ ram. AllStart ram (global_placed (GlobalItem g n ∷ items))) (sym (started_append xs ys old))
            (global_start p.structs T g.initialiser fit.0 fit.1 a some (omega arith) old (started_from ys (started_from xs old)) (λ b le. zeros b (omega arith)) (λ b le lt'. before (a + size) to ys (started_from xs old) b ih.1 lt'), ih.0),
        all_append from to xs ys (all_wider a (a + size) from to (omega arith) (omega arith) xs inside) (all_wider (a + size) to from to (omega arith) (omega arith) ys ih.1),
      )
  global_placed_start (StructItem s ∷ items) from to between fit lt old zeros = global_placed_start items from to between fit lt old zeros
  global_placed_start (PrototypeItem q ∷ items) from to between fit lt old zeros = global_placed_start items from to between fit lt old zeros
  global_placed_start (FunctionItem f ∷ items) from to between fit lt old zeros = global_placed_start items from to between fit lt old zeros
