-- The memory of a run: live blocks and pointers into them (ISO/IEC 9899:1999, 6.2.4 and 6.5.6, with faults where the standard leaves
-- the behaviour undefined). A block is a variable, with the call that made it. Blocks form a stack, and each of their bytes is a
-- cell: it has the scalar type that begins at this byte, if one does, and its value, if it is set.
use Rattle.std.specs.Prelude.{ℕ, zero, suc, ◌+◌, ◌-◌, ◌*◌, Bool, true, false, not, ◌&&◌, ◌||◌, nat_eq, nat_lt, List, [], ◌∷◌, ◌++◌, length, take, replicate, map, Option, Some, None, Result, Ok, Err, if◌then◌else◌, slice_get, slice_set}
use Rattle.cerco_base.specs.declared.events.FaultKind.{FaultKind}
use Rattle.cerco_base.specs.declared.events.FaultKind.TheVariants.{Unset, Outside, Dead, Compare}
use Rattle.c_types.specs.Types.{bytes, type_eq, bool_eq, CType, Void, Integer, Pointer, Array, Struct, Member, StructType}
use Rattle.clight_syntax.specs.TypedTrees.{Variable'}
use Rattle.clight_syntax.specs.declared.typed.Home.{Home}
use Rattle.clight_syntax.specs.declared.typed.Home.TheVariants as home
use Rattle.c_types.specs.declared.integers.IntegerType.{IntegerType}
use Rattle.clight_values.specs.Values.{is_negative, magnitude}
use Rattle.clight_values.specs.declared.value.Place.{Place}
use Rattle.clight_values.specs.declared.value.Block.{Block}
use Rattle.clight_values.specs.declared.value.Value.{Value}
use Rattle.clight_values.specs.declared.value.Value.TheVariants as v

-- the value, or the first fault
abbrev pub Answer : Type 0
Answer = Result Value FaultKind

pub record Cell : Type 0 where
  pub kind : Option CType
  pub value : Option Value

pub record Memory : Type 0 where
  pub cells : List Cell
  pub blocks : List Block

-- ---- the bytes of a type

-- the scalar type that begins at each byte of something
abbrev pub Kinds : Type 0
Kinds = List (Option CType)

abbrev pub repeated : {A : Type 0} → ℕ → List A → List A
repeated zero xs = []
repeated (suc n) xs = xs ++ repeated n xs

-- the bytes of a type, where those of a struct are these: the parts of a type follow each other without gaps
abbrev pub kinds_by : (ℕ → Kinds) → CType → Kinds
kinds_by struct Void = []
kinds_by struct (Integer size signed) = Some (Integer size signed) ∷ replicate (bytes size - 1) None
kinds_by struct (Pointer target) = Some (Pointer target) ∷ None ∷ []
kinds_by struct (Array element n) = repeated n (kinds_by struct element)
kinds_by struct (Struct number) = struct number

abbrev pub kinds_of_members : (ℕ → Kinds) → List Member → Kinds
kinds_of_members struct [] = []
kinds_of_members struct (m ∷ ms) = kinds_by struct m.type ++ kinds_of_members struct ms

abbrev pub kinds_of_struct : (ℕ → Kinds) → Option StructType → Kinds
kinds_of_struct struct None = []
kinds_of_struct struct (Some s) = kinds_of_members struct s.members

-- the bytes of a struct, in which at most so many structs stand within one another
abbrev pub nested_kinds : List StructType → ℕ → ℕ → Kinds
nested_kinds structs zero number = []
nested_kinds structs (suc depth) number = kinds_of_struct (nested_kinds structs depth) (slice_get structs number)

-- No struct stands within itself, so at most all of them do within one another.
abbrev pub kinds_of : List StructType → CType → Kinds
kinds_of structs = kinds_by (nested_kinds structs (length structs))

-- ---- first values

-- the value with which a scalar of this type begins
abbrev pub initial : CType → Value
initial (Pointer target) = v.Null
initial _ = v.Integer 0

-- ---- places

-- the block, where it is one of this call's
abbrev pub live_in : Option Block → ℕ → Result Block FaultKind
live_in None call = Err Dead
live_in (Some b) call = if nat_eq b.call call then Ok b else Err Dead

-- the block of a place, if it lives
abbrev pub live : Memory → Place → Result Block FaultKind
live m at = live_in (slice_get m.blocks at.slot) at.call

abbrev pub cell_in : Result Block FaultKind → ℕ → Result ℕ FaultKind
cell_in (Err k) offset = Err k
cell_in (Ok b) offset = if nat_lt offset b.size then Ok (b.begin + offset) else Err Outside

-- the number of the cell at a place
abbrev pub cell_of : Memory → Place → Result ℕ FaultKind
cell_of m at = cell_in (live m at) at.offset

-- ---- access

abbrev pub is_kind : Option CType → CType → Bool
is_kind None T = false
is_kind (Some S) T = type_eq S T

-- whether a scalar of exactly this type begins in a cell
abbrev pub begins : Option Cell → CType → Bool
begins None T = false
begins (Some c) T = is_kind c.kind T

abbrev pub accessed_in : Memory → Result ℕ FaultKind → CType → Result ℕ FaultKind
accessed_in m (Err k) T = Err k
accessed_in m (Ok i) T = if begins (slice_get m.cells i) T then Ok i else Err Outside

-- the number of the cell in which a scalar of this type begins at a place
abbrev pub accessed : Memory → CType → Place → Result ℕ FaultKind
accessed m T at = accessed_in m (cell_of m at) T

abbrev pub value_set : Option Value → Answer
value_set None = Err Unset
value_set (Some w) = Ok w

abbrev pub value_in : Option Cell → Answer
value_in None = Err Outside
value_in (Some c) = value_set c.value

abbrev pub loaded_at : Memory → Result ℕ FaultKind → Answer
loaded_at m (Err k) = Err k
loaded_at m (Ok i) = value_in (slice_get m.cells i)

-- the scalar of this type that a pointer points to
abbrev pub load : Memory → CType → Value → Answer
load m T (v.Pointer at) = loaded_at m (accessed m T at)
load m T v.Null = Err Outside
load m T (v.Integer n) = Err Outside

abbrev pub put : Memory → ℕ → Option Cell → Value → Memory
put m i None w = m
put m i (Some c) w = record m { cells = slice_set m.cells i (record c { value = Some w }) }

abbrev pub stored_at : Memory → Result ℕ FaultKind → Value → Result Memory FaultKind
stored_at m (Err k) w = Err k
stored_at m (Ok i) w = Ok (put m i (slice_get m.cells i) w)

-- the memory once the value is stored where the pointer points
abbrev pub stored : Memory → CType → Value → Value → Result Memory FaultKind
stored m T (v.Pointer at) w = stored_at m (accessed m T at) w
stored m T v.Null w = Err Outside
stored m T (v.Integer n) w = Err Outside

-- ---- pointers

-- a pointer so many bytes further on or back, not past the block's end or before its begin
abbrev pub moved_in : Result Block FaultKind → Place → Bool → ℕ → Answer
moved_in (Err k) at back by = Err k
moved_in (Ok b) at true by = if nat_lt at.offset by then Err Outside else Ok (v.Pointer (record at { offset = at.offset - by }))
moved_in (Ok b) at false by = if nat_lt b.size (at.offset + by) then Err Outside else Ok (v.Pointer (record at { offset = at.offset + by }))

abbrev pub moved : Memory → Value → Bool → ℕ → Answer
moved m (v.Pointer at) back by = moved_in (live m at) at back by
moved m v.Null back by = Err Outside
moved m (v.Integer n) back by = Err Outside

-- a pointer steps by an integer over elements of so many bytes, or back
abbrev pub stepped : Memory → ℕ → Bool → Value → IntegerType → Value → Answer
stepped m size back p T (v.Integer n) = moved m p (not (bool_eq back (is_negative T n))) (magnitude T n * size)
stepped m size back p T v.Null = Err Outside
stepped m size back p T (v.Pointer at) = Err Outside

-- a live pointer isn't null
abbrev pub not_null : Result Block FaultKind → Result Bool FaultKind
not_null (Err k) = Err k
not_null (Ok b) = Ok true

-- whether a pointer or an integer counts as true
abbrev pub is_true : Memory → Value → Result Bool FaultKind
is_true m (v.Integer n) = Ok (not (nat_eq n 0))
is_true m v.Null = Ok false
is_true m (v.Pointer at) = not_null (live m at)

-- two places in one block are equal where the offsets are; of two blocks neither place may be the end of its block
abbrev pub equal_in : Result Block FaultKind → Result Block FaultKind → Place → Place → Result Bool FaultKind
equal_in (Err k) r p q = Err k
equal_in (Ok a) (Err k) p q = Err k
equal_in (Ok a) (Ok b) p q =
    if nat_eq p.slot q.slot then Ok (nat_eq p.offset q.offset) else (if nat_eq p.offset a.size || nat_eq q.offset b.size then Err Compare else Ok false)

abbrev pub differs_from_null : Result Block FaultKind → Result Bool FaultKind
differs_from_null (Err k) = Err k
differs_from_null (Ok b) = Ok false

-- whether two pointers are equal; the number 0 is a null pointer
abbrev pub equal : Memory → Value → Value → Result Bool FaultKind
equal m (v.Pointer p) (v.Pointer q) = equal_in (live m p) (live m q) p q
equal m (v.Pointer p) _ = differs_from_null (live m p)
equal m _ (v.Pointer q) = differs_from_null (live m q)
equal m _ _ = Ok true

abbrev pub less_in : Result Block FaultKind → Result Block FaultKind → Place → Place → Result Bool FaultKind
less_in (Err k) r p q = Err k
less_in (Ok a) (Err k) p q = Err k
less_in (Ok a) (Ok b) p q = if nat_eq p.slot q.slot then Ok (nat_lt p.offset q.offset) else Err Compare

abbrev pub without_order : Result Block FaultKind → Result Bool FaultKind
without_order (Err k) = Err k
without_order (Ok b) = Err Compare

-- whether the first of two pointers stands before the second: only in one block
abbrev pub less : Memory → Value → Value → Result Bool FaultKind
less m (v.Pointer p) (v.Pointer q) = less_in (live m p) (live m q) p q
less m (v.Pointer p) _ = without_order (live m p)
less m _ (v.Pointer q) = without_order (live m q)
less m _ _ = Err Compare

-- ---- blocks

abbrev pub with_block : ℕ → List Cell → Memory → Memory
with_block call cells m = record { cells = m.cells ++ cells; blocks = m.blocks ++ record { call = call; begin = length m.cells; size = length cells } ∷ [] }

-- blocks of a call, one after the other
abbrev pub with_blocks : ℕ → List (List Cell) → Memory → Memory
with_blocks call [] m = m
with_blocks call (cells ∷ more) m = with_blocks call more (with_block call cells m)

abbrev pub unset : Option CType → Cell
unset kind = record { kind = kind; value = None }

-- only the first so many blocks and cells live on
abbrev pub left : ℕ → ℕ → Memory → Memory
left blocks cells m = record { cells = take cells m.cells; blocks = take blocks m.blocks }

-- ---- variables

-- with these cells as a block before more, for a variable that lives in a block of its call
abbrev pub block_in : Home → List Cell → List (List Cell) → List (List Cell)
block_in (home.Block b) cells more = cells ∷ more
block_in (home.Global b) cells more = more
block_in (home.Scalar n) cells more = more

-- the blocks of those variables that live in one, unset
abbrev pub own_blocks : List StructType → List Variable' → List (List Cell)
own_blocks structs [] = []
own_blocks structs (x ∷ xs) = block_in x.home (map unset (kinds_of structs x.type)) (own_blocks structs xs)

-- ---- the state of a run

-- what the running call has for itself
pub record Frame : Type 0 where
  -- how many blocks and cells there were before its own
  pub blocks : ℕ
  pub cells : ℕ
  -- its number
  pub call : ℕ
  -- how many calls are open, this one included
  pub depth : ℕ
  -- the type of its result
  pub result : CType
  -- its scalars that live in no block, by their numbers
  pub scalars : List Value

pub record State : Type 0 where
  pub memory : Memory
  -- the number of the next call
  pub made : ℕ
  pub frame : Frame
  -- what port readings take in turn
  pub script : List ℕ
