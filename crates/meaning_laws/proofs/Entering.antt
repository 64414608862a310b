-- The fresh variables of a call stand in blocks of their own, so that each gets its first value.
use Rattle.std.proofs.Common.{◌≡◌, ℕ, zero, suc, ◌+◌, ◌<◌, ◌≤◌, List, [], ◌∷◌, length, map, Option, Some, None, Result, Ok, Err, Bool, true, false, refl, sym, ap, ◌∙◌, subst, arith}
use Rattle.std.specs.Prelude.{slice_get, slice_set, nat_eq, nat_lt, if◌then◌else◌, ◌&&◌}
use Rattle.std.proofs.lemmas.Option.{slice_get_within, none-some, same_Some}
use Rattle.std.proofs.lemmas.List.{length-append}
use Rattle.cerco_base.specs.declared.events.Label.{Label}
use Rattle.cerco_base.specs.declared.events.FaultKind.{FaultKind}
use Rattle.cerco_base.specs.declared.events.FaultKind.TheVariants.{Dead, Outside}
use Rattle.c_types.specs.Types.{CType, Void, Integer, Pointer, Array, Struct, StructType, type_eq}
use Rattle.c_types.specs.declared.integers.Size.TheVariants.{One, Two, Four}
use Rattle.c_types.specs.Kinds.{is_scalar}
use Rattle.clight_syntax.specs.declared.typed.Home.{Home}
use Rattle.clight_syntax.specs.declared.typed.Home.TheVariants as h
use Rattle.clight_syntax.specs.TypedTrees.{Variable', Function, TypedProgram, own_variables}
use Rattle.clight_values.specs.declared.value.Value.{Value}
use Rattle.clight_values.specs.declared.value.Value.TheVariants as v
use Rattle.clight_values.specs.declared.value.Block.{Block}
use Rattle.clight_values.specs.declared.value.Place.{Place}
use Rattle.clight_values.specs.Memory.{Cell, Memory, Frame, State, kinds_of, live_in, cell_in, is_kind, accessed, accessed_in, begins, stored_at, stored, put, unset, with_block, with_blocks, block_in, own_blocks}
use Rattle.clight_meaning.specs.Expressions.{stored_in, home_position, with_memory}
use Rattle.clight_meaning.specs.Meaning.{then_state, homed_in, homed, entered}
use Rattle.clight_programs.specs.Scopes.{address_in, block_addresses, IsBetween, AreBetween, IsAtHome}
use Rattle.flat_memory.proofs.Lists.{get_front, get_back, get_set_same, get_set_other, same_number, not_same, by_test}
use Rattle.meaning_laws.specs.Faultless.{CallsAreEntered}

-- ---- blocks of a call, one after the other

kept_block : (call : ℕ) (more : List (List Cell)) (m : Memory) (slot : ℕ) (b : Block) → slice_get m.blocks slot ≡ Some b → slice_get (with_blocks call more m).blocks slot ≡ Some b
kept_block call [] m slot b is = is
kept_block call (cells ∷ more) m slot b is =
    kept_block call more (with_block call cells m) slot b (get_front m.blocks _ slot (slice_get_within m.blocks slot b is) ∙ is)

kept_cell : (call : ℕ) (more : List (List Cell)) (m : Memory) (i : ℕ) (c : Cell) → slice_get m.cells i ≡ Some c → slice_get (with_blocks call more m).cells i ≡ Some c
kept_cell call [] m i c is = is
kept_cell call (cells ∷ more) m i c is =
    kept_cell call more (with_block call cells m) i c (get_front m.cells cells i (slice_get_within m.cells i c is) ∙ is)

-- in this slot there is a block of the call, with these first cells
record Stands (m : Memory) (call slot : ℕ) (cell : Cell) : Type 0 where
  begin : ℕ
  size : ℕ
  block : slice_get m.blocks slot ≡ Some (record { call = call; begin = begin; size = size })
  some : 0 < size
  first : slice_get m.cells (begin + 0) ≡ Some cell

stands_at : (call : ℕ) (blocks : List (List Cell)) (m : Memory) (k : ℕ) (cell : Cell) (rest : List Cell) → slice_get blocks k ≡ Some (cell ∷ rest) → Stands (with_blocks call blocks m) call (length m.blocks + k) cell
stands_at call [] m k cell rest is = absurd (none-some (cell ∷ rest) is)
stands_at call (cells ∷ more) m zero cell rest is =
    let e : cells ≡ cell ∷ rest = same_Some _ _ is in
    record {
      begin = length m.cells;
      size = length cells;
      block = kept_block call more (with_block call cells m) (length m.blocks + 0) _ (get_back m.blocks _ 0);
      some = let size = ap length e in omega arith;
      first = kept_cell call more (with_block call cells m) (length m.cells + 0) cell (get_back m.cells cells 0 ∙ ap (λ cs. slice_get cs 0) e);
    }
stands_at call (cells ∷ more) m (suc k) cell rest is =
    let size = length-append m.blocks ((record { call = call; begin = length m.cells; size = length cells }) ∷ []) in
    let same : length (with_block call cells m).blocks + k ≡ length m.blocks + suc k = omega arith in
    subst (λ slot. Stands (with_blocks call (cells ∷ more) m) call slot cell) same (stands_at call more (with_block call cells m) k cell rest is)

-- ---- the block of a variable

-- with another variable before them
one_before : (home : Home) (a : ℕ) (cells : List Cell) (addresses : List ℕ) (blocks : List (List Cell)) (k address : ℕ) (block : List Cell) → slice_get addresses k ≡ Some address → slice_get blocks k ≡ Some block
    → (j : ℕ) × (slice_get (address_in home a addresses) j ≡ Some address) × (slice_get (block_in home cells blocks) j ≡ Some block)
one_before (h.Block b) a cells addresses blocks k address block is block_is = (suc k, is, block_is)
one_before (h.Global b) a cells addresses blocks k address block is block_is = (k, is, block_is)
one_before (h.Scalar n) a cells addresses blocks k address block is block_is = (k, is, block_is)

abbrev Block_found : List StructType → List Variable' → Variable' → Type 0
Block_found structs xs x = (k : ℕ) × (slice_get (block_addresses xs) k ≡ Some x.address) × (slice_get (own_blocks structs xs) k ≡ Some (map unset (kinds_of structs x.type)))

first_one : (home : Home) (a : ℕ) (cells : List Cell) (addresses : List ℕ) (blocks : List (List Cell)) (b : ℕ) → home ≡ h.Block b
    → (slice_get (address_in home a addresses) 0 ≡ Some a) × (slice_get (block_in home cells blocks) 0 ≡ Some cells)
first_one (h.Block c) a cells addresses blocks b is = (refl, refl)
first_one (h.Global c) a cells addresses blocks b is = absurd cc
first_one (h.Scalar c) a cells addresses blocks b is = absurd cc

block_found : (structs : List StructType) (xs : List Variable') (i : ℕ) (x : Variable') → slice_get xs i ≡ Some x → (b : ℕ) → x.home ≡ h.Block b → Block_found structs xs x
block_found structs [] i x is b at = absurd (none-some x is)
block_found structs (y ∷ xs) zero x is b at =
    let e : y ≡ x = same_Some _ _ is in
    let q = first_one y.home y.address (map unset (kinds_of structs y.type)) (block_addresses xs) (own_blocks structs xs) b (ap (λ (z : Variable'). z.home) e ∙ at) in
    (0, q.0 ∙ ap (λ (z : Variable'). Some z.address) e, q.1 ∙ ap (λ (z : Variable'). Some (map unset (kinds_of structs z.type))) e)
block_found structs (y ∷ xs) (suc i) x is b at =
    let q = block_found structs xs i x is b at in
    one_before y.home y.address (map unset (kinds_of structs y.type)) (block_addresses xs) (own_blocks structs xs) q.0 x.address _ q.1 q.2

-- ---- blocks have different addresses

abbrev AreFrom : ℕ → List ℕ → Type 0
AreFrom from addresses = (k a : ℕ) → slice_get addresses k ≡ Some a → from ≤ a

from_with : (home : Home) (x : Variable') (structs : List StructType) (xs : List Variable') (from to : ℕ) → ((next : ℕ) → AreBetween structs next xs to → AreFrom next (block_addresses xs))
    → IsBetween structs home x from (λ next. AreBetween structs next xs to) → AreFrom from (address_in home x.address (block_addresses xs))
from_with (h.Block b) x structs xs from to later r zero a is = let e = same_Some _ _ is in let le = r.0 in omega arith
from_with (h.Block b) x structs xs from to later r (suc k) a is = let le = r.0 in let q = later _ r.2 k a is in omega arith
from_with (h.Global b) x structs xs from to later r k a is = later from r k a is
from_with (h.Scalar n) x structs xs from to later r k a is = later from r k a is

are_from : (structs : List StructType) (xs : List Variable') (from to : ℕ) → AreBetween structs from xs to → AreFrom from (block_addresses xs)
are_from structs [] from to r = λ k a is. absurd (none-some a is)
are_from structs (x ∷ xs) from to r = from_with x.home x structs xs from to (λ next. are_from structs xs next to) r

abbrev AreApart : List ℕ → Type 0
AreApart addresses = (j k a : ℕ) → slice_get addresses j ≡ Some a → slice_get addresses k ≡ Some a → j ≡ k

apart_with : (home : Home) (x : Variable') (structs : List StructType) (xs : List Variable') (from to : ℕ) → ((next : ℕ) → AreBetween structs next xs to → AreApart (block_addresses xs))
    → IsBetween structs home x from (λ next. AreBetween structs next xs to) → AreApart (address_in home x.address (block_addresses xs))
apart_with (h.Block b) x structs xs from to later r zero zero a is is' = refl
apart_with (h.Block b) x structs xs from to later r zero (suc k) a is is' =
    let e = same_Some _ _ is in let some = r.1 in let q = are_from structs xs _ to r.2 k a is' in absurd (omega arith)
apart_with (h.Block b) x structs xs from to later r (suc j) zero a is is' =
    let e = same_Some _ _ is' in let some = r.1 in let q = are_from structs xs _ to r.2 j a is in absurd (omega arith)
apart_with (h.Block b) x structs xs from to later r (suc j) (suc k) a is is' = ap suc (later _ r.2 j k a is is')
apart_with (h.Global b) x structs xs from to later r j k a is is' = later from r j k a is is'
apart_with (h.Scalar n) x structs xs from to later r j k a is is' = later from r j k a is is'

are_apart : (structs : List StructType) (xs : List Variable') (from to : ℕ) → AreBetween structs from xs to → AreApart (block_addresses xs)
are_apart structs [] from to r = λ j k a is is'. absurd (none-some a is)
are_apart structs (x ∷ xs) from to r = apart_with x.home x structs xs from to (λ next. are_apart structs xs next to) r

-- ---- a scalar's first cell

type_same : (T : CType) → type_eq T T ≡ true
type_same Void = refl
type_same (Integer One true) = refl
type_same (Integer One false) = refl
type_same (Integer Two true) = refl
type_same (Integer Two false) = refl
type_same (Integer Four true) = refl
type_same (Integer Four false) = refl
type_same (Pointer T) = type_same T
type_same (Array T n) = let q : nat_eq n n ≡ true = grind arith in ap (λ b. b && nat_eq n n) (type_same T) ∙ q
type_same (Struct n) = grind arith

-- the cells of a scalar begin with one of its type
starts_scalar : (structs : List StructType) (T : CType) → is_scalar T ≡ true → (rest : List Cell) × (map unset (kinds_of structs T) ≡ unset (Some T) ∷ rest)
starts_scalar structs Void s = absurd cc
starts_scalar structs (Integer size signed) s = (_, refl)
starts_scalar structs (Pointer T) s = (_, refl)
starts_scalar structs (Array T n) s = absurd cc
starts_scalar structs (Struct n) s = absurd cc

-- ---- stores

-- the blocks and the types of the cells are those of the older memory
record KeepsForm (m m' : Memory) : Type 0 where
  blocks : m'.blocks ≡ m.blocks
  kinds : (i : ℕ) (c : Cell) → slice_get m.cells i ≡ Some c → (c' : Cell) × (slice_get m'.cells i ≡ Some c') × (c'.kind ≡ c.kind)

put_keeps : (m : Memory) (i : ℕ) (o : Option Cell) (w : Value) → slice_get m.cells i ≡ o → KeepsForm m (put m i o w)
put_keeps m i None w is = record { blocks = refl; kinds = λ j c at. (c, at, refl) }
put_keeps m i (Some d) w is = record { blocks = refl; kinds = λ j c at. by_place j c at (nat_eq j i) refl }
  where
    by_place : (j : ℕ) (c : Cell) → slice_get m.cells j ≡ Some c → (t : Bool) → nat_eq j i ≡ t
        → (c' : Cell) × (slice_get (slice_set m.cells i (record d { value = Some w })) j ≡ Some c') × (c'.kind ≡ c.kind)
    by_place j c at true e =
        let same = same_number j i e in (
          record d { value = Some w },
          ap (slice_get (slice_set m.cells i (record d { value = Some w }))) same ∙ get_set_same m.cells i _ (slice_get_within m.cells i d is),
          ap (λ (z : Cell). z.kind) (same_Some d c (sym is ∙ ap (slice_get m.cells) (sym same) ∙ at)),
        )
    by_place j c at false e = (c, get_set_other m.cells i j _ (not_same j i e) ∙ at, refl)

keeps_on : (m m' m'' : Memory) → KeepsForm m m' → KeepsForm m' m'' → KeepsForm m m''
keeps_on m m' m'' a b = record {
  blocks = b.blocks ∙ a.blocks;
  kinds = λ i c is. let q = a.kinds i c is in let r = b.kinds i q.0 q.1 in (r.0, r.1, r.2 ∙ q.2);
}

module _ (m m' : Memory) (keeps : KeepsForm m m') (T : CType) (call slot : ℕ) (stands : Stands m call slot (unset (Some T))) where
  abbrev place : Place
  place = record { slot = slot; call = call; offset = 0 }

  abbrev the_block : Block
  the_block = record { call = call; begin = stands.begin; size = stands.size }

  it_lives : live_in (slice_get m'.blocks slot) call ≡ Ok the_block
  it_lives =
      let own : nat_eq call call ≡ true = grind arith in
      ap (λ bs. live_in (slice_get bs slot) call) keeps.blocks ∙ ap (λ o. live_in o call) stands.block ∙ ap (λ (t : Bool). if t then Ok the_block else Err Dead) own

  it_is_in : cell_in (live_in (slice_get m'.blocks slot) call) 0 ≡ Ok (stands.begin + 0)
  it_is_in =
      let some = stands.some in
      let within : nat_lt 0 stands.size ≡ true = grind arith in
      ap (λ b. cell_in b 0) it_lives ∙ ap (λ (t : Bool). if t then Ok (stands.begin + 0) else Err Outside) within

  it_begins : begins (slice_get m'.cells (stands.begin + 0)) T ≡ true
  it_begins =
      let q = keeps.kinds (stands.begin + 0) (unset (Some T)) stands.first in
      ap (λ o. begins o T) q.1 ∙ ap (λ k. is_kind k T) q.2 ∙ type_same T

  it_is_accessed : accessed m' T place ≡ Ok (stands.begin + 0)
  it_is_accessed =
      ap (λ i. accessed_in m' i T) it_is_in ∙ ap (λ (t : Bool). if t then Ok (stands.begin + 0) else Err Outside) it_begins

  it_is_stored : (w : Value) → (m'' : Memory) × (stored m' T (v.Pointer place) w ≡ Ok m'') × KeepsForm m m''
  it_is_stored w = (
    put m' (stands.begin + 0) (slice_get m'.cells (stands.begin + 0)) w,
    ap (λ i. stored_at m' i w) it_is_accessed,
    keeps_on m m' _ keeps (put_keeps m' (stands.begin + 0) (slice_get m'.cells (stands.begin + 0)) w refl),
  )

-- ---- first values

-- a variable's block stands for a scalar of its type
abbrev HasBlock : Memory → Frame → Home → CType → Type 0
HasBlock m frame (h.Block b) T = Stands m frame.call (frame.blocks + b) (unset (Some T))
HasBlock m frame (h.Global b) T = Unit {0}
HasBlock m frame (h.Scalar n) T = Unit {0}

-- a state with this frame whose memory has the form of this one
record IsLike (m : Memory) (frame : Frame) (st : State) : Type 0 where
  form : KeepsForm m st.memory
  frame_is : st.frame ≡ frame

abbrev Comes : Memory → Frame → Result State FaultKind → Type 0
Comes m frame r = (st : State) × (r ≡ Ok st) × IsLike m frame st

homed_one : (m : Memory) (frame : Frame) (home : Home) (T : CType) (o : Option Value) (st : State) → HasBlock m frame home T → IsLike m frame st → Comes m frame (homed_in home T o st)
homed_one m frame (h.Global b) T o st has like = (st, refl, like)
homed_one m frame (h.Scalar n) T o st has like = (st, refl, like)
homed_one m frame (h.Block b) T None st has like = (st, refl, like)
homed_one m frame (h.Block b) T (Some w) st has like =
    let q = it_is_stored m st.memory like.form T frame.call (frame.blocks + b) has w in (
      record st { memory = q.0 },
      ap (λ (f : Frame). stored_in T (home_position (h.Block b) f) w st) like.frame_is ∙ ap (λ r. with_memory r st) q.1,
      record { form = q.2; frame_is = like.frame_is },
    )

homed_all : (m : Memory) (frame : Frame) (xs : List Variable') (n : ℕ) (st : State) → ((i : ℕ) (x : Variable') → slice_get xs i ≡ Some x → is_scalar x.type ≡ true → HasBlock m frame x.home x.type)
    → IsLike m frame st → Comes m frame (homed xs n st)
homed_all m frame [] n st has like = (st, refl, like)
homed_all m frame (x ∷ xs) n st has like =
    by_test (Comes m frame) (is_scalar x.type) _ _
    (λ scalar.
    let q = homed_one m frame x.home x.type (slice_get st.frame.scalars n) st (has 0 x refl scalar) like in
    let r = homed_all m frame xs (suc n) q.0 (λ i. has (suc i)) q.2 in
    (r.0, ap (λ o. then_state o (homed xs (suc n))) q.1 ∙ r.1, r.2))
    (λ other. homed_all m frame xs n st (λ i. has (suc i)) like)

-- ---- calls

module _ (p : TypedProgram Label) (f : Function Label) (begin end : ℕ) (between : AreBetween p.structs begin (own_variables f p.variables) end)
    (homes : (i : ℕ) (x : Variable') → slice_get (own_variables f p.variables) i ≡ Some x → IsAtHome p f x.home x.type x.address) (ws : List Value) (st : State) where
  abbrev own : List Variable'
  own = own_variables f p.variables

  abbrev fresh : State
  fresh = entered p f ws st

  has_block : (x : Variable') (i : ℕ) → slice_get own i ≡ Some x → is_scalar x.type ≡ true → (home : Home) → x.home ≡ home → IsAtHome p f home x.type x.address → HasBlock fresh.memory fresh.frame home x.type
  has_block x i is scalar (h.Global b) home_is at = tt
  has_block x i is scalar (h.Scalar n) home_is at = tt
  has_block x i is scalar (h.Block b) home_is at =
      let q = block_found p.structs own i x is b home_is in
      let same : q.0 ≡ b = are_apart p.structs own begin end between q.0 b x.address q.1 at in
      let s = starts_scalar p.structs x.type scalar in
      subst (λ k. Stands fresh.memory st.made (length st.memory.blocks + k) (unset (Some x.type))) same
      (stands_at st.made (own_blocks p.structs own) st.memory q.0 (unset (Some x.type)) s.0 (q.2 ∙ ap Some s.1))

  call_is_entered : (begun : State) × (homed own 0 fresh ≡ Ok begun)
  call_is_entered =
      let q = homed_all fresh.memory fresh.frame own 0 fresh (λ i x is scalar. has_block x i is scalar x.home refl (homes i x is))
      (record { form = record { blocks = refl; kinds = λ i c at. (c, at, refl) }; frame_is = refl }) in
      (q.0, q.1)

pub calls_are_entered : CallsAreEntered
calls_are_entered p ok h f is ws st =
    let fits = ok.functions h f is in
    call_is_entered p f (ok.paths.begin h) (ok.paths.end h) fits.frame fits.homes ws st
