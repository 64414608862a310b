-- How C's memory is held in flat memory. All of a memory but its values is the same from a call's entry to its return: its shape.
use Rattle.std.proofs.Common.{◌≡◌, ◌≢◌, ℕ, zero, suc, ◌+◌, ◌-◌, ◌<◌, ◌≤◌, List, [], ◌∷◌, length, Option, Some, None, Result, Ok, Err, Bool, true, false, refl, sym, ap, ◌∙◌, subst, arith, ◌⊎◌, inl, inr}
use Rattle.std.specs.Prelude.{slice_get}
use Rattle.cerco_base.specs.declared.events.FaultKind.{FaultKind}
use Rattle.cerco_traces.specs.Systems.{EachWithin}
use Rattle.c_types.specs.declared.integers.Size.{Size}
use Rattle.c_types.specs.declared.integers.Size.TheVariants.{One, Two, Four}
use Rattle.c_types.specs.Types.{CType, Void, Integer, Pointer, Array, Struct}
use Rattle.cerco_middle.specs.Operators.{read_from, kept}
use Rattle.clight_values.specs.declared.value.Value.{Value}
use Rattle.clight_values.specs.declared.value.Value.TheVariants as v
use Rattle.clight_values.specs.declared.value.Block.{Block}
use Rattle.clight_values.specs.declared.value.Place.{Place}
use Rattle.clight_values.specs.Memory.{Answer, Cell, Memory}
use Rattle.flat_memory.specs.HeldTypes.{held_of}
use Rattle.flat_memory.proofs.Ram.{in_ram}

-- `kind i` is the type of the scalar that begins at cell i, `address i` the external address of that cell, all below `top`.
pub record Shape : Type 0 where
  pub kind : ℕ → Option CType
  pub count : ℕ
  pub blocks : List Block
  pub address : ℕ → ℕ
  pub top : ℕ

-- the word of a pointer. One into a dead block is any number; the call of its block is an older one.
abbrev pub Points : Shape → ℕ → Value → ℕ → Type 0
Points S made (v.Integer x) n = ⊥
Points S made v.Null n = n ≡ 0
Points S made (v.Pointer at) n =
    (at.call < made) × ((b : Block) → slice_get S.blocks at.slot ≡ Some b → b.call ≡ at.call → (at.offset ≤ b.size) × (n ≡ S.address b.begin + at.offset))

-- the word of an integer
abbrev pub Counts : Size → Bool → Value → ℕ → Type 0
Counts One g (v.Integer x) n = (x < 256) × (n ≡ read_from (held_of (Integer One g)) x)
Counts One g v.Null n = ⊥
Counts One g (v.Pointer at) n = ⊥
Counts Two g (v.Integer x) n = (x < 65536) × (n ≡ x)
Counts Two g v.Null n = ⊥
Counts Two g (v.Pointer at) n = ⊥
Counts Four g w n = ⊥

-- a value of a type, and its word, where so many calls were made
abbrev pub Reps : Shape → ℕ → CType → Value → ℕ → Type 0
Reps S made Void w n = ⊥
Reps S made (Integer s g) w n = Counts s g w n
Reps S made (Pointer T) w n = Points S made w n
Reps S made (Array T k) w n = ⊥
Reps S made (Struct k) w n = ⊥

-- a scalar of this type has a second byte
abbrev pub IsWide : CType → Type 0
IsWide (Integer One g) = ⊥
IsWide T = Unit {0}

-- a block is somewhere
pub record IsIn (S : Shape) (b : Block) : Type 0 where
  pub some : 1 ≤ b.size
  pub ends : b.begin + b.size ≤ S.count
  pub follow : (o : ℕ) → o < b.size → S.address (b.begin + o) ≡ S.address b.begin + o

-- all addresses are from 1 to d, which is no greatest number, and no two cells have one
pub record Fits (d : ℕ) (S : Shape) : Type 0 where
  pub low : (i : ℕ) → i < S.count → 1 ≤ S.address i
  pub high : (i : ℕ) → i < S.count → S.address i < S.top
  pub apart : (i j : ℕ) → i < S.count → j < S.count → S.address i ≡ S.address j → i ≡ j
  pub first : 1 ≤ S.top
  pub bound : S.top ≤ suc d
  pub small : suc d < 65536
  pub wide : (i : ℕ) (T : CType) → i < S.count → S.kind i ≡ Some T → IsWide T → (suc i < S.count) × (S.address (suc i) ≡ suc (S.address i)) × (S.kind (suc i) ≡ None)
  pub block : (s : ℕ) (b : Block) → slice_get S.blocks s ≡ Some b → IsIn S b
  pub others : (s s' : ℕ) (b b' : Block) → s ≢ s' → slice_get S.blocks s ≡ Some b → slice_get S.blocks s' ≡ Some b' → (o o' : ℕ) → o < b.size → o' < b'.size → b.begin + o ≢ b'.begin + o'

-- a cell's value is what is held at its address
abbrev pub Holds : Shape → ℕ → (ℕ → ℕ) → ℕ → Option CType → Option Value → Type 0
Holds S made ram a None w = Unit {0}
Holds S made ram a (Some T) None = Unit {0}
Holds S made ram a (Some T) (Some w) = Reps S made T w (in_ram (held_of T) ram a)

pub record Keeps (S : Shape) (made : ℕ) (m : Memory) (ram : ℕ → ℕ) : Type 0 where
  pub blocks : m.blocks ≡ S.blocks
  pub count : length m.cells ≡ S.count
  pub cell : (i : ℕ) (c : Cell) → slice_get m.cells i ≡ Some c → (c.kind ≡ S.kind i) × Holds S made ram (S.address i) c.kind c.value

-- what is owed for a value: nothing at a fault, else its word, and that only addresses from 1 to d are read
abbrev pub Means : Shape → ℕ → ℕ → CType → Answer → ℕ → List ℕ → Type 0
Means S made d T (Err k) n rs = Unit {0}
Means S made d T (Ok w) n rs = Reps S made T w n × EachWithin d rs

-- ---- where the number of calls is greater

pub points_later : (S : Shape) (made made' : ℕ) → made ≤ made' → (w : Value) (n : ℕ) → Points S made w n → Points S made' w n
points_later S made made' le (v.Integer x) n h = h
points_later S made made' le v.Null n h = h
points_later S made made' le (v.Pointer at) n h = let h0 = h.0 in (omega arith, h.1)

pub reps_later : (S : Shape) (made made' : ℕ) → made ≤ made' → (T : CType) (w : Value) (n : ℕ) → Reps S made T w n → Reps S made' T w n
reps_later S made made' le Void w n h = absurd h
reps_later S made made' le (Integer s g) w n h = h
reps_later S made made' le (Pointer T) w n h = points_later S made made' le w n h
reps_later S made made' le (Array T k) w n h = absurd h
reps_later S made made' le (Struct k) w n h = absurd h

pub holds_later : (S : Shape) (made made' : ℕ) → made ≤ made' → (ram : ℕ → ℕ) (a : ℕ) (k : Option CType) (w : Option Value) → Holds S made ram a k w → Holds S made' ram a k w
holds_later S made made' le ram a None w h = tt
holds_later S made made' le ram a (Some T) None h = tt
holds_later S made made' le ram a (Some T) (Some w) h = reps_later S made made' le T w _ h

pub keeps_later : (S : Shape) (made made' : ℕ) → made ≤ made' → (m : Memory) (ram : ℕ → ℕ) → Keeps S made m ram → Keeps S made' m ram
keeps_later S made made' le m ram k = record {
  blocks = k.blocks;
  count = k.count;
  cell = λ i c e. let q = k.cell i c e in (q.0, holds_later S made made' le ram _ c.kind c.value q.1);
}

-- ---- words

-- the end of a block is no greatest number either
pub block_ends : (d : ℕ) (S : Shape) → Fits d S → (s : ℕ) (b : Block) → slice_get S.blocks s ≡ Some b → (1 ≤ S.address b.begin) × (S.address b.begin + b.size < 65536)
block_ends d S fits s b is =
    let w = fits.block s b is in
    let some = w.some in
    let ends = w.ends in
    let lt : b.size - 1 < b.size = omega arith in
    let at = w.follow (b.size - 1) lt in
    let in_count : b.begin + (b.size - 1) < S.count = omega arith in
    let in_count' : b.begin < S.count = omega arith in
    let hi = fits.high (b.begin + (b.size - 1)) in_count in
    let lo = fits.low b.begin in_count' in
    let bd = fits.bound in
    let sm = fits.small in
    (lo, omega arith)

-- what is kept of a value of a type is all
pub kept_counts : (s : Size) (g : Bool) (w : Value) (n : ℕ) → Counts s g w n → Counts s g w (kept (held_of (Integer s g)) n)
unfolding kept
kept_counts One true (v.Integer x) n h = let h0 = h.0 in let h1 = h.1 in (h.0, grind arith)
kept_counts One false (v.Integer x) n h = let h0 = h.0 in let h1 = h.1 in (h.0, grind arith)
kept_counts One g v.Null n h = absurd h
kept_counts One g (v.Pointer at) n h = absurd h
kept_counts Two g (v.Integer x) n h = let h0 = h.0 in let h1 = h.1 in (h.0, omega arith)
kept_counts Two g v.Null n h = absurd h
kept_counts Two g (v.Pointer at) n h = absurd h
kept_counts Four g w n h = absurd h

pub kept_points : (d : ℕ) (S : Shape) → Fits d S → (made : ℕ) (T : CType) (w : Value) (n : ℕ) → Points S made w n → Points S made w (kept (held_of (Pointer T)) n)
unfolding kept
kept_points d S fits made T (v.Integer x) n h = absurd h
kept_points d S fits made T v.Null n h = omega arith
kept_points d S fits made T (v.Pointer at) n h = (
  h.0,
  λ b is same.
      let k = h.1 b is same in
      let k0 = k.0 in
      let k1 = k.1 in
      let e = (block_ends d S fits at.slot b is).1 in
      (k.0, omega arith),
)

pub kept_reps : (d : ℕ) (S : Shape) → Fits d S → (made : ℕ) (T : CType) (w : Value) (n : ℕ) → Reps S made T w n → Reps S made T w (kept (held_of T) n)
kept_reps d S fits made Void w n h = absurd h
kept_reps d S fits made (Integer s g) w n h = kept_counts s g w n h
kept_reps d S fits made (Pointer T) w n h = kept_points d S fits made T w n h
kept_reps d S fits made (Array T k) w n h = absurd h
kept_reps d S fits made (Struct k) w n h = absurd h
