-- The table of byte operations: what each reads, what it writes, and what it does. Locations are numbers here. The operations are
-- those of the back end of CerCo (deliverable 4.2, RTL to LIN), as the processor makes them (Intel, MCS-51 family: ADD, ADDC, SUBB,
-- ANL, ORL, XRL, MUL, DIV, RLC, RRC, MOVX). A division by 0 leaves the dividend as quotient and the divisor as remainder (own).
use Rattle.std.specs.Prelude.{ℕ, zero, suc, ◌+◌, ◌*◌, ◌/◌, ◌%◌, ◌-◌, List, [], ◌∷◌, ◌++◌, length, map, Bool, true, false, nat_eq, bit_and, bit_or, bit_xor}
use Rattle.cerco_base.specs.declared.events.Port.TheVariants.{P1}
use Rattle.cerco_base.specs.declared.events.Event.TheVariants.{Write}
use Rattle.cerco_base.specs.Bytes.{bit_value, sum_byte, carries, difference_byte, borrows}
use Rattle.cerco_base.specs.Events.{next_reading}
use Rattle.cerco_traces.specs.Worlds.{World, update, shown, after_reading, next_address, addresses_from}
use Rattle.rtl.specs.declared.operations.Src.{Src}
use Rattle.rtl.specs.declared.operations.Src.TheVariants.{At, Byte}
use Rattle.rtl.specs.declared.operations.Arith.{Arith}
use Rattle.rtl.specs.declared.operations.Arith.TheVariants.{Add, Addc, Subb, And, Or, Xor}
use Rattle.rtl.specs.Operations.{ByteOp}
use Rattle.rtl.specs.Operations.{Const, Move, Op, Mul, Div, Rem, Rlc, Rrc, Top, ClearCarry, SetCarry, FlipCarry, FromCarry, Load, Store, ReadPort, WritePort}

-- What holds a value: a location by its number, or the carry.
pub data Storage : Type 0 where
  Loc : (number : ℕ) → Storage
  Carry : Storage

unfoldable pub same_storage : Storage → Storage → Bool
same_storage (Loc v) (Loc w) = nat_eq v w
same_storage Carry Carry = true
same_storage _ _ = false

-- ---- what an operation reads and writes

abbrev pub operand_reads : Src ℕ → List Storage
operand_reads (At v) = Loc v ∷ []
operand_reads (Byte n) = []

abbrev pub arith_reads : Arith → List Storage
arith_reads Addc = Carry ∷ []
arith_reads Subb = Carry ∷ []
arith_reads _ = []

abbrev pub arith_writes : Arith → List Storage
arith_writes Add = Carry ∷ []
arith_writes Addc = Carry ∷ []
arith_writes Subb = Carry ∷ []
arith_writes _ = []

abbrev pub reads : ByteOp ℕ → List Storage
reads (Const d n) = []
reads (Move d s) = Loc s ∷ []
reads (Op o d a b) = arith_reads o ++ (operand_reads a ++ operand_reads b)
reads (Mul l h a b) = operand_reads a ++ operand_reads b
reads (Div d a b) = Loc a ∷ Loc b ∷ []
reads (Rem d a b) = Loc a ∷ Loc b ∷ []
reads (Rlc d a) = Carry ∷ Loc a ∷ []
reads (Rrc d a) = Carry ∷ Loc a ∷ []
reads (Top a) = Loc a ∷ []
reads ClearCarry = []
reads SetCarry = []
reads FlipCarry = Carry ∷ []
reads (FromCarry d) = Carry ∷ []
reads (Load ds l h) = Loc l ∷ Loc h ∷ []
reads (Store l h ss) = Loc l ∷ Loc h ∷ map Loc ss
reads (ReadPort d) = []
reads (WritePort s) = Loc s ∷ []

abbrev pub writes : ByteOp ℕ → List Storage
writes (Const d n) = Loc d ∷ []
writes (Move d s) = Loc d ∷ []
writes (Op o d a b) = Loc d ∷ arith_writes o
writes (Mul l h a b) = Loc l ∷ Loc h ∷ Carry ∷ []
writes (Div d a b) = Loc d ∷ Carry ∷ []
writes (Rem d a b) = Loc d ∷ Carry ∷ []
writes (Rlc d a) = Loc d ∷ Carry ∷ []
writes (Rrc d a) = Loc d ∷ Carry ∷ []
writes (Top a) = Carry ∷ []
writes ClearCarry = Carry ∷ []
writes SetCarry = Carry ∷ []
writes FlipCarry = Carry ∷ []
writes (FromCarry d) = Loc d ∷ Carry ∷ []
writes (Load ds l h) = map Loc ds
writes (Store l h ss) = []
writes (ReadPort d) = Loc d ∷ []
writes (WritePort s) = []

-- ---- what an operation does

-- A value for what is written.
pub record Assignment : Type 0 where
  pub to : Storage
  pub value : ℕ

-- What an operation does: values for what it writes, of which the last one at a location counts, the world after it, and the
-- addresses of external RAM that it reads or writes.
pub record Effect : Type 0 where
  pub sets : List Assignment
  pub world : World
  pub touched : List ℕ

abbrev pub set : Storage → ℕ → Assignment
set s value = record { to = s; value = value }

-- values alone
abbrev pub only_sets : List Assignment → World → Effect
only_sets sets w = record { sets = sets; world = w; touched = [] }

-- the carry as a bit: only 0 is clear
abbrev pub is_set : ℕ → Bool
is_set zero = false
is_set (suc n) = true

abbrev pub operand : Src ℕ → (Storage → ℕ) → ℕ
operand (At v) see = see (Loc v)
operand (Byte n) see = n

-- the carry that an operation on two bytes uses
abbrev pub carry_into : Arith → (Storage → ℕ) → Bool
carry_into Addc see = is_set (see Carry)
carry_into Subb see = is_set (see Carry)
carry_into _ see = false

-- the byte that an operation on two bytes and a carry gives, and the carry that it sets
abbrev pub arith_byte : Arith → ℕ → ℕ → Bool → ℕ
arith_byte Add a b carry = sum_byte a b carry
arith_byte Addc a b carry = sum_byte a b carry
arith_byte Subb a b carry = difference_byte a b carry
arith_byte And a b carry = bit_and a b
arith_byte Or a b carry = bit_or a b
arith_byte Xor a b carry = bit_xor a b

abbrev pub arith_carry : Arith → ℕ → ℕ → Bool → List Assignment
arith_carry Add a b carry = set Carry (bit_value (carries 256 a b carry)) ∷ []
arith_carry Addc a b carry = set Carry (bit_value (carries 256 a b carry)) ∷ []
arith_carry Subb a b carry = set Carry (bit_value (borrows 256 a b carry)) ∷ []
arith_carry _ a b carry = []

abbrev pub arith_sets : Arith → ℕ → ℕ → ℕ → Bool → List Assignment
arith_sets o d a b carry = set (Loc d) (arith_byte o a b carry) ∷ arith_carry o a b carry

abbrev pub quotient : ℕ → ℕ → ℕ
quotient a zero = a
quotient a (suc b) = a / suc b

abbrev pub remainder : ℕ → ℕ → ℕ
remainder a zero = 0
remainder a (suc b) = a % suc b

-- a byte turned by one bit, the carry as a ninth bit, and the bit that is turned out
abbrev pub turned_left : ℕ → Bool → ℕ
turned_left a carry = a * 2 % 256 + bit_value carry

abbrev pub turned_right : ℕ → Bool → ℕ
turned_right a carry = a / 2 + 128 * bit_value carry

abbrev pub top_bit : ℕ → ℕ
top_bit a = a / 128 % 2

-- the address whose low and high byte are at these locations
abbrev pub pointer : ℕ → ℕ → (Storage → ℕ) → ℕ
pointer l h see = see (Loc l) + 256 * see (Loc h)

-- the bytes of external RAM from an address on, for these locations
abbrev pub load_sets : List ℕ → (ℕ → ℕ) → ℕ → List Assignment
load_sets [] xram a = []
load_sets (d ∷ ds) xram a = set (Loc d) (xram a) ∷ load_sets ds xram (next_address a)

-- external RAM with these bytes from an address on
abbrev pub with_bytes : List ℕ → (ℕ → ℕ) → ℕ → (ℕ → ℕ)
with_bytes [] xram a = xram
with_bytes (b ∷ bs) xram a = with_bytes bs (update xram a b) (next_address a)

abbrev pub effect : ByteOp ℕ → (Storage → ℕ) → World → Effect
effect (Const d n) see w = only_sets (set (Loc d) n ∷ []) w
effect (Move d s) see w = only_sets (set (Loc d) (see (Loc s)) ∷ []) w
effect (Op o d a b) see w = only_sets (arith_sets o d (operand a see) (operand b see) (carry_into o see)) w
effect (Mul l h a b) see w = only_sets (set (Loc l) (operand a see * operand b see % 256) ∷ set (Loc h) (operand a see * operand b see / 256) ∷ set Carry 0 ∷ []) w
effect (Div d a b) see w = only_sets (set (Loc d) (quotient (see (Loc a)) (see (Loc b))) ∷ set Carry 0 ∷ []) w
effect (Rem d a b) see w = only_sets (set (Loc d) (remainder (see (Loc a)) (see (Loc b))) ∷ set Carry 0 ∷ []) w
effect (Rlc d a) see w = only_sets (set (Loc d) (turned_left (see (Loc a)) (is_set (see Carry))) ∷ set Carry (top_bit (see (Loc a))) ∷ []) w
effect (Rrc d a) see w = only_sets (set (Loc d) (turned_right (see (Loc a)) (is_set (see Carry))) ∷ set Carry (see (Loc a) % 2) ∷ []) w
effect (Top a) see w = only_sets (set Carry (top_bit (see (Loc a))) ∷ []) w
effect ClearCarry see w = only_sets (set Carry 0 ∷ []) w
effect SetCarry see w = only_sets (set Carry 1 ∷ []) w
effect FlipCarry see w = only_sets (set Carry (1 - bit_value (is_set (see Carry))) ∷ []) w
effect (FromCarry d) see w = only_sets (set (Loc d) (bit_value (is_set (see Carry))) ∷ set Carry 0 ∷ []) w
effect (Load ds l h) see w = record { sets = load_sets ds w.xram (pointer l h see); world = w; touched = addresses_from (length ds) (pointer l h see) }
effect (Store l h ss) see w = record { sets = []; world = record w { xram = with_bytes (map (λ s. see (Loc s)) ss) w.xram (pointer l h see) }; touched = addresses_from (length ss) (pointer l h see) }
effect (ReadPort d) see w = only_sets (set (Loc d) (next_reading w.script) ∷ []) (after_reading w)
effect (WritePort s) see w = only_sets [] (shown (Write P1 (see (Loc s))) w)

-- nothing but writes of locations and the carry: without it a run differs in these alone
abbrev pub IsQuiet : ByteOp ℕ → Type 0
IsQuiet (Store l h ss) = ⊥
IsQuiet (ReadPort d) = ⊥
IsQuiet (WritePort s) = ⊥
IsQuiet _ = Unit {0}
