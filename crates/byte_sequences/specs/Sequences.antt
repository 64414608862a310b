-- The sequences of byte operations that do what an operation on values does, over the locations of the bytes of each value, the low
-- one first (Intel, MCS-51 family: arithmetic of several bytes by ADDC and SUBB; CerCo, deliverable 4.2: from RTLabs to RTL). They
-- are stated over any number of bytes.
use Rattle.std.specs.Prelude.{ℕ, zero, suc, ◌/◌, ◌%◌, List, [], ◌∷◌, ◌++◌, take, Bool, true, false}
use Rattle.cerco_middle.specs.declared.operators.Held.{Held}
use Rattle.cerco_middle.specs.declared.operators.Held.TheVariants.{U8, I8}
use Rattle.cerco_middle.specs.Operators.{held_bytes}
use Rattle.rtl.specs.declared.operations.Src.{Src}
use Rattle.rtl.specs.declared.operations.Src.TheVariants.{At, Byte}
use Rattle.rtl.specs.declared.operations.Arith.{Arith}
use Rattle.rtl.specs.declared.operations.Arith.TheVariants.{Add, Addc, Subb, Or}
use Rattle.rtl.specs.Operations.{ByteOp, Const, Move, Op, Mul, Div, Rem, Rrc, Top, ClearCarry, FlipCarry, FromCarry, Load, Store, ReadPort, WritePort}

-- ---- operands

abbrev pub ats : {L : Type 0} → List L → List (Src L)
ats [] = []
ats (t ∷ ts) = At t ∷ ats ts

-- the byte, as often as there are locations
abbrev pub literals : {L : Type 0} → ℕ → List L → List (Src L)
literals b [] = []
literals b (t ∷ ts) = Byte b ∷ literals b ts

-- the locations that hold a scalar
abbrev pub held_part : {L : Type 0} → Held → List L → List L
held_part h ts = take (held_bytes h) ts

-- the location of the last byte, the highest one
abbrev pub top : {L : Type 0} → L → List L → L
top t [] = t
top t (u ∷ us) = top u us

abbrev pub with_top : {L : Type 0} → L → List L → List L
with_top s [] = []
with_top s (u ∷ []) = s ∷ []
with_top s (u ∷ (v ∷ us)) = u ∷ with_top s (v ∷ us)

-- ---- moves

abbrev pub constants : {L : Type 0} → List L → ℕ → List (ByteOp L)
constants [] number = []
constants (d ∷ ds) number = Const d (number % 256) ∷ constants ds (number / 256)

abbrev pub zeros : {L : Type 0} → List L → List (ByteOp L)
zeros [] = []
zeros (d ∷ ds) = Const d 0 ∷ zeros ds

abbrev pub moves : {L : Type 0} → List L → List L → List (ByteOp L)
moves [] ss = []
moves (d ∷ ds) [] = []
moves (d ∷ ds) (s ∷ ss) = Move d s ∷ moves ds ss

abbrev pub copies : {L : Type 0} → L → List L → List (ByteOp L)
copies s [] = []
copies s (d ∷ ds) = Move d s ∷ copies s ds

-- the bytes above a become its sign
abbrev pub signs : {L : Type 0} → L → List L → List (ByteOp L)
signs a [] = []
signs a (d ∷ ds) = Top a ∷ Op Subb d (At a) (At a) ∷ copies d ds

-- the bytes above those of a scalar become its extension
abbrev pub extension : {L : Type 0} → Held → List L → List (ByteOp L)
extension U8 (t ∷ ts) = zeros ts
extension I8 (t ∷ ts) = signs t ts
extension _ ts = []

-- a value becomes the scalar that these locations hold
abbrev pub reading : {L : Type 0} → Held → List L → List L → List (ByteOp L)
reading h ts ss = moves (held_part h ts) (held_part h ss) ++ extension h ts

-- a value becomes the scalar at its address
abbrev pub load : {L : Type 0} → Held → List L → List (ByteOp L)
load h (l ∷ (m ∷ ts)) = Load (held_part h (l ∷ m ∷ ts)) l m ∷ extension h (l ∷ m ∷ ts)
load h _ = []

abbrev pub store : {L : Type 0} → Held → List L → List L → List (ByteOp L)
store h (l ∷ (m ∷ ts)) us = Store l m (held_part h us) ∷ []
store h _ us = []

abbrev pub port_reading : {L : Type 0} → List L → List (ByteOp L)
port_reading [] = []
port_reading (t ∷ ts) = ReadPort t ∷ zeros ts

abbrev pub port_writing : {L : Type 0} → List L → List (ByteOp L)
port_writing [] = []
port_writing (t ∷ ts) = WritePort t ∷ []

-- ---- arithmetic

-- the operation on the bytes of two operands in turn
abbrev pub chain : {L : Type 0} → Arith → List L → List (Src L) → List (Src L) → List (ByteOp L)
chain o (t ∷ ts) (x ∷ xs) (y ∷ ys) = Op o t x y ∷ chain o ts xs ys
chain o _ _ _ = []

-- the first sum needs no carry
abbrev pub sum : {L : Type 0} → List L → List L → List (ByteOp L)
sum (t ∷ ts) (u ∷ us) = Op Add t (At t) (At u) ∷ chain Addc ts (ats ts) (ats us)
sum _ _ = []

abbrev pub difference : {L : Type 0} → List L → List (Src L) → List (Src L) → List (ByteOp L)
difference ts xs ys = ClearCarry ∷ chain Subb ts xs ys

abbrev pub product : {L : Type 0} → List L → List L → List (ByteOp L)
product (t ∷ (t' ∷ ts)) (u ∷ us) = Mul t t' (At t) (At u) ∷ zeros ts
product _ _ = []

abbrev pub quotient : {L : Type 0} → List L → List L → List (ByteOp L)
quotient (t ∷ ts) (u ∷ us) = Div t t u ∷ zeros ts
quotient _ _ = []

abbrev pub remainder : {L : Type 0} → List L → List L → List (ByteOp L)
remainder (t ∷ ts) (u ∷ us) = Rem t t u ∷ zeros ts
remainder _ _ = []

-- ---- comparisons

abbrev pub turn : {L : Type 0} → Bool → List (ByteOp L)
turn true = FlipCarry ∷ []
turn false = []

-- a value becomes the carry, or what the carry isn't
abbrev pub flag : {L : Type 0} → Bool → List L → List (ByteOp L)
flag is_turned [] = []
flag is_turned (t ∷ ts) = turn is_turned ++ (FromCarry t ∷ zeros ts)

-- whether the difference borrows, or whether it doesn't
abbrev pub order : {L : Type 0} → Bool → List L → List (Src L) → List (Src L) → List (ByteOp L)
order is_turned ts xs ys = difference ts xs ys ++ flag is_turned ts

-- what t and these have of bits
abbrev pub joins : {L : Type 0} → L → List L → List (ByteOp L)
joins t [] = []
joins t (u ∷ us) = Op Or t (At t) (At u) ∷ joins t us

-- whether the difference isn't 0, or whether it is: its bytes are joined, and the sum with FFH has a carry where they aren't 0
abbrev pub inequality : {L : Type 0} → Bool → List L → List L → List (ByteOp L)
inequality is_turned [] us = []
inequality is_turned (t ∷ ts) us = difference (t ∷ ts) (ats (t ∷ ts)) (ats us) ++ (joins t ts ++ (Op Add t (At t) (Byte 255) ∷ flag is_turned (t ∷ ts)))

-- the top bytes of both are moved on by half of all bytes, the second one into s
abbrev pub moved_tops : {L : Type 0} → L → List L → List L → List (ByteOp L)
moved_tops s (t ∷ ts) (u ∷ us) = Op Add s (At (top u us)) (Byte 128) ∷ Op Add (top t ts) (At (top t ts)) (Byte 128) ∷ []
moved_tops s _ _ = []

abbrev pub signed_less : {L : Type 0} → L → List L → List L → List (ByteOp L)
signed_less s ts us = moved_tops s ts us ++ order false ts (ats ts) (ats (with_top s us))

abbrev pub signed_up_to : {L : Type 0} → L → List L → List L → List (ByteOp L)
signed_up_to s ts us = moved_tops s ts us ++ order true ts (ats (with_top s us)) (ats ts)

-- s becomes 0 where a value is
abbrev pub joined : {L : Type 0} → L → List L → List (ByteOp L)
joined s (t ∷ (u ∷ us)) = Op Or s (At t) (At u) ∷ joins s us
joined s (t ∷ []) = Move s t ∷ []
joined s [] = []

-- ---- shifts

abbrev pub repeated : {L : Type 0} → ℕ → List (ByteOp L) → List (ByteOp L)
repeated zero ops = []
repeated (suc k) ops = ops ++ repeated k ops

abbrev pub shift_left : {L : Type 0} → ℕ → List L → List (ByteOp L)
shift_left k ts = repeated k (sum ts ts)

-- the carry becomes the sign, or 0
abbrev pub shifted_in : {L : Type 0} → Bool → List L → List (ByteOp L)
shifted_in keeps_sign [] = []
shifted_in true (t ∷ ts) = Top (top t ts) ∷ []
shifted_in false (t ∷ ts) = ClearCarry ∷ []

-- from the top byte down
abbrev pub turned_right : {L : Type 0} → List L → List (ByteOp L)
turned_right [] = []
turned_right (t ∷ ts) = turned_right ts ++ Rrc t t ∷ []

abbrev pub half : {L : Type 0} → Bool → List L → List (ByteOp L)
half keeps_sign ts = shifted_in keeps_sign ts ++ turned_right ts

abbrev pub shift_right : {L : Type 0} → ℕ → Bool → List L → List (ByteOp L)
shift_right k keeps_sign ts = repeated k (half keeps_sign ts)
