-- Decoding and encoding are inverse.
use Rattle.std.proofs.Common.{◌≡◌, ℕ, zero, suc, ◌+◌, ◌*◌, ◌/◌, ◌%◌, ◌<◌, List, [], ◌∷◌, ◌++◌, get_or, length, take, Option, Some, None, refl, ap, ap₂, arith, subst, sym, ◌∙◌}
use Rattle.mcs51_isa.specs.declared.instr.Instr.{Instr}
use Rattle.mcs51_isa.specs.declared.instr.Instr.TheVariants.{Nop, Ajmp, Acall, Long, Ret, RotateAcc, StepAcc, StepDirect, StepIndirect, StepRegister, BranchBit, BranchFlag, Sjmp, ArithImmediate, ArithDirect, ArithIndirect, ArithRegister, LogicDirectAcc, LogicDirectImmediate, LogicImmediate, LogicDirect, LogicIndirect, LogicRegister, CarryLogic, JmpIndirect, MovAccImmediate, MovDirectImmediate, MovIndirectImmediate, MovRegisterImmediate, Movc, Multiplier, MovDirectDirect, MovDirectIndirect, MovDirectRegister, MovDptr, MovBitCarry, MovCarryBit, IncDptr, MovIndirectDirect, MovRegisterDirect, ChangeBit, ChangeCarry, CjneImmediate, CjneDirect, CjneIndirect, CjneRegister, Stack, Adjust, XchDirect, XchIndirect, XchRegister, Xchd, DjnzDirect, DjnzRegister, MovxDptr, MovxIndirect, WholeAcc, MovDirect, MovIndirect, MovRegister}
use Rattle.mcs51_isa.specs.declared.instr.LongJump.TheVariants.{Ljmp, Lcall}
use Rattle.mcs51_isa.specs.declared.instr.ReturnKind.TheVariants.{FromCall, FromInterrupt}
use Rattle.mcs51_isa.specs.declared.instr.Rotate.TheVariants.{Rr, Rrc, Rl, Rlc}
use Rattle.mcs51_isa.specs.declared.instr.ByOne.TheVariants.{Inc, Dec}
use Rattle.mcs51_isa.specs.declared.instr.BitTest.TheVariants.{Jbc, Jb, Jnb}
use Rattle.mcs51_isa.specs.declared.instr.FlagTest.TheVariants.{Jc, Jnc, Jz, Jnz}
use Rattle.mcs51_isa.specs.declared.instr.SumOp.TheVariants.{Add, Addc, Subb}
use Rattle.mcs51_isa.specs.declared.instr.Logic.TheVariants.{Orl, Anl, Xrl}
use Rattle.mcs51_isa.specs.declared.instr.CarryOp.TheVariants.{OrlBit, AnlBit, OrlNotBit, AnlNotBit}
use Rattle.mcs51_isa.specs.declared.instr.TableBase.TheVariants.{Pc, Dptr}
use Rattle.mcs51_isa.specs.declared.instr.MulDiv.TheVariants.{DivAb, MulAb}
use Rattle.mcs51_isa.specs.declared.instr.BitChange.TheVariants.{Cpl, Clr, Setb}
use Rattle.mcs51_isa.specs.declared.instr.StackOp.TheVariants.{Push, Pop}
use Rattle.mcs51_isa.specs.declared.instr.Adjustment.TheVariants.{Swap, Da}
use Rattle.mcs51_isa.specs.declared.instr.Move.TheVariants.{IntoAcc, FromAcc}
use Rattle.mcs51_isa.specs.declared.instr.Whole.TheVariants.{ClearAcc, ComplementAcc}
use Rattle.mcs51_isa.specs.declared.operands.Addr11.{Addr11}
use Rattle.mcs51_isa.specs.Table.{encode_of}
use Rattle.mcs51_isa.specs.Decoding.{decode_of, decoded, with_length}
use Rattle.mcs51_isa.proofs.Cases.{each_reg, each_ind, each_page, each_digit}

-- decoding an instruction's bytes gives it back, whichever bytes stand behind them
abbrev DecodesBack : Instr → ℕ → ℕ → Type 0
DecodesBack i x y = decode_of (get_or (encode_of i) 0 0) (get_or (encode_of i) 1 x) (get_or (encode_of i) 2 y) ≡ Some i

word_parts : (w : ℕ) → 256 * (w / 256) + w % 256 ≡ w
word_parts w = omega arith

pub decode_encode : (i : Instr) (x y : ℕ) → decode_of (get_or (encode_of i) 0 0) (get_or (encode_of i) 1 x) (get_or (encode_of i) 2 y) ≡ Some i
unfolding decode_of
decode_encode Nop x y = refl
decode_encode (Ajmp a) x y =
    each_page (λ q. let at : Addr11 = record { page = q; low = a.low } in DecodesBack (Ajmp at) x y)
    refl refl refl refl refl refl refl refl a.page
decode_encode (Acall a) x y =
    each_page (λ q. let at : Addr11 = record { page = q; low = a.low } in DecodesBack (Acall at) x y)
    refl refl refl refl refl refl refl refl a.page
decode_encode (Long Ljmp w) x y = ap (λ q. Some (Long Ljmp q)) (word_parts w)
decode_encode (Long Lcall w) x y = ap (λ q. Some (Long Lcall q)) (word_parts w)
decode_encode (Ret FromCall) x y = refl
decode_encode (Ret FromInterrupt) x y = refl
decode_encode (RotateAcc Rr) x y = refl
decode_encode (RotateAcc Rrc) x y = refl
decode_encode (RotateAcc Rl) x y = refl
decode_encode (RotateAcc Rlc) x y = refl
decode_encode (StepAcc Inc) x y = refl
decode_encode (StepAcc Dec) x y = refl
decode_encode (StepDirect Inc d) x y = refl
decode_encode (StepDirect Dec d) x y = refl
decode_encode (StepIndirect Inc i) x y = each_ind (λ q. DecodesBack (StepIndirect Inc q) x y) refl refl i
decode_encode (StepIndirect Dec i) x y = each_ind (λ q. DecodesBack (StepIndirect Dec q) x y) refl refl i
decode_encode (StepRegister Inc n) x y = each_reg (λ q. DecodesBack (StepRegister Inc q) x y) refl refl refl refl refl refl refl refl n
decode_encode (StepRegister Dec n) x y = each_reg (λ q. DecodesBack (StepRegister Dec q) x y) refl refl refl refl refl refl refl refl n
decode_encode (BranchBit Jbc b r) x y = refl
decode_encode (BranchBit Jb b r) x y = refl
decode_encode (BranchBit Jnb b r) x y = refl
decode_encode (BranchFlag Jc r) x y = refl
decode_encode (BranchFlag Jnc r) x y = refl
decode_encode (BranchFlag Jz r) x y = refl
decode_encode (BranchFlag Jnz r) x y = refl
decode_encode (Sjmp r) x y = refl
decode_encode (ArithImmediate Add k) x y = refl
decode_encode (ArithImmediate Addc k) x y = refl
decode_encode (ArithImmediate Subb k) x y = refl
decode_encode (ArithDirect Add d) x y = refl
decode_encode (ArithDirect Addc d) x y = refl
decode_encode (ArithDirect Subb d) x y = refl
decode_encode (ArithIndirect Add i) x y = each_ind (λ q. DecodesBack (ArithIndirect Add q) x y) refl refl i
decode_encode (ArithIndirect Addc i) x y = each_ind (λ q. DecodesBack (ArithIndirect Addc q) x y) refl refl i
decode_encode (ArithIndirect Subb i) x y = each_ind (λ q. DecodesBack (ArithIndirect Subb q) x y) refl refl i
decode_encode (ArithRegister Add n) x y = each_reg (λ q. DecodesBack (ArithRegister Add q) x y) refl refl refl refl refl refl refl refl n
decode_encode (ArithRegister Addc n) x y = each_reg (λ q. DecodesBack (ArithRegister Addc q) x y) refl refl refl refl refl refl refl refl n
decode_encode (ArithRegister Subb n) x y = each_reg (λ q. DecodesBack (ArithRegister Subb q) x y) refl refl refl refl refl refl refl refl n
decode_encode (LogicDirectAcc Orl d) x y = refl
decode_encode (LogicDirectAcc Anl d) x y = refl
decode_encode (LogicDirectAcc Xrl d) x y = refl
decode_encode (LogicDirectImmediate Orl d k) x y = refl
decode_encode (LogicDirectImmediate Anl d k) x y = refl
decode_encode (LogicDirectImmediate Xrl d k) x y = refl
decode_encode (LogicImmediate Orl k) x y = refl
decode_encode (LogicImmediate Anl k) x y = refl
decode_encode (LogicImmediate Xrl k) x y = refl
decode_encode (LogicDirect Orl d) x y = refl
decode_encode (LogicDirect Anl d) x y = refl
decode_encode (LogicDirect Xrl d) x y = refl
decode_encode (LogicIndirect Orl i) x y = each_ind (λ q. DecodesBack (LogicIndirect Orl q) x y) refl refl i
decode_encode (LogicIndirect Anl i) x y = each_ind (λ q. DecodesBack (LogicIndirect Anl q) x y) refl refl i
decode_encode (LogicIndirect Xrl i) x y = each_ind (λ q. DecodesBack (LogicIndirect Xrl q) x y) refl refl i
decode_encode (LogicRegister Orl n) x y = each_reg (λ q. DecodesBack (LogicRegister Orl q) x y) refl refl refl refl refl refl refl refl n
decode_encode (LogicRegister Anl n) x y = each_reg (λ q. DecodesBack (LogicRegister Anl q) x y) refl refl refl refl refl refl refl refl n
decode_encode (LogicRegister Xrl n) x y = each_reg (λ q. DecodesBack (LogicRegister Xrl q) x y) refl refl refl refl refl refl refl refl n
decode_encode (CarryLogic OrlBit b) x y = refl
decode_encode (CarryLogic AnlBit b) x y = refl
decode_encode (CarryLogic OrlNotBit b) x y = refl
decode_encode (CarryLogic AnlNotBit b) x y = refl
decode_encode JmpIndirect x y = refl
decode_encode (MovAccImmediate k) x y = refl
decode_encode (MovDirectImmediate d k) x y = refl
decode_encode (MovIndirectImmediate i k) x y = each_ind (λ q. DecodesBack (MovIndirectImmediate q k) x y) refl refl i
decode_encode (MovRegisterImmediate n k) x y = each_reg (λ q. DecodesBack (MovRegisterImmediate q k) x y) refl refl refl refl refl refl refl refl n
decode_encode (Movc Pc) x y = refl
decode_encode (Movc Dptr) x y = refl
decode_encode (Multiplier DivAb) x y = refl
decode_encode (Multiplier MulAb) x y = refl
decode_encode (MovDirectDirect s t) x y = refl
decode_encode (MovDirectIndirect d i) x y = each_ind (λ q. DecodesBack (MovDirectIndirect d q) x y) refl refl i
decode_encode (MovDirectRegister d n) x y = each_reg (λ q. DecodesBack (MovDirectRegister d q) x y) refl refl refl refl refl refl refl refl n
decode_encode (MovDptr w) x y = ap (λ q. Some (MovDptr q)) (word_parts w)
decode_encode (MovBitCarry b) x y = refl
decode_encode (MovCarryBit b) x y = refl
decode_encode IncDptr x y = refl
decode_encode (MovIndirectDirect i d) x y = each_ind (λ q. DecodesBack (MovIndirectDirect q d) x y) refl refl i
decode_encode (MovRegisterDirect n d) x y = each_reg (λ q. DecodesBack (MovRegisterDirect q d) x y) refl refl refl refl refl refl refl refl n
decode_encode (ChangeBit Cpl b) x y = refl
decode_encode (ChangeBit Clr b) x y = refl
decode_encode (ChangeBit Setb b) x y = refl
decode_encode (ChangeCarry Cpl) x y = refl
decode_encode (ChangeCarry Clr) x y = refl
decode_encode (ChangeCarry Setb) x y = refl
decode_encode (CjneImmediate k r) x y = refl
decode_encode (CjneDirect d r) x y = refl
decode_encode (CjneIndirect i k r) x y = each_ind (λ q. DecodesBack (CjneIndirect q k r) x y) refl refl i
decode_encode (CjneRegister n k r) x y = each_reg (λ q. DecodesBack (CjneRegister q k r) x y) refl refl refl refl refl refl refl refl n
decode_encode (Stack Push d) x y = refl
decode_encode (Stack Pop d) x y = refl
decode_encode (Adjust Swap) x y = refl
decode_encode (Adjust Da) x y = refl
decode_encode (XchDirect d) x y = refl
decode_encode (XchIndirect i) x y = each_ind (λ q. DecodesBack (XchIndirect q) x y) refl refl i
decode_encode (XchRegister n) x y = each_reg (λ q. DecodesBack (XchRegister q) x y) refl refl refl refl refl refl refl refl n
decode_encode (Xchd i) x y = each_ind (λ q. DecodesBack (Xchd q) x y) refl refl i
decode_encode (DjnzDirect d r) x y = refl
decode_encode (DjnzRegister n r) x y = each_reg (λ q. DecodesBack (DjnzRegister q r) x y) refl refl refl refl refl refl refl refl n
decode_encode (MovxDptr IntoAcc) x y = refl
decode_encode (MovxDptr FromAcc) x y = refl
decode_encode (MovxIndirect IntoAcc i) x y = each_ind (λ q. DecodesBack (MovxIndirect IntoAcc q) x y) refl refl i
decode_encode (MovxIndirect FromAcc i) x y = each_ind (λ q. DecodesBack (MovxIndirect FromAcc q) x y) refl refl i
decode_encode (WholeAcc ClearAcc) x y = refl
decode_encode (WholeAcc ComplementAcc) x y = refl
decode_encode (MovDirect IntoAcc d) x y = refl
decode_encode (MovDirect FromAcc d) x y = refl
decode_encode (MovIndirect IntoAcc i) x y = each_ind (λ q. DecodesBack (MovIndirect IntoAcc q) x y) refl refl i
decode_encode (MovIndirect FromAcc i) x y = each_ind (λ q. DecodesBack (MovIndirect FromAcc q) x y) refl refl i
decode_encode (MovRegister IntoAcc n) x y = each_reg (λ q. DecodesBack (MovRegister IntoAcc q) x y) refl refl refl refl refl refl refl refl n
decode_encode (MovRegister FromAcc n) x y = each_reg (λ q. DecodesBack (MovRegister FromAcc q) x y) refl refl refl refl refl refl refl refl n

-- the bytes of what was decoded are the bytes that were read
abbrev pub EncodesBack : ℕ → ℕ → ℕ → Option Instr → Type 0
EncodesBack opcode x y None = opcode ≡ 0xA5
EncodesBack opcode x y (Some i) = encode_of i ≡ take (length (encode_of i)) (opcode ∷ x ∷ y ∷ [])

word_bytes : (opcode x y : ℕ) → x < 256 → y < 256 → ◌≡◌ {A = List ℕ} (opcode ∷ ((256 * x + y) / 256) ∷ ((256 * x + y) % 256) ∷ []) (opcode ∷ x ∷ y ∷ [])
word_bytes opcode x y hx hy =
    let high : (256 * x + y) / 256 ≡ x = omega arith in
    let low : (256 * x + y) % 256 ≡ y = omega arith in
    ap₂ (λ p q. opcode ∷ p ∷ q ∷ []) high low

-- the opcodes of a row of the opcode map
abbrev RowEncodesBack : ℕ → ℕ → ℕ → Type 0
RowEncodesBack row x y = (digit : ℕ) → digit < 16 → EncodesBack (row * 16 + digit) x y (decode_of (row * 16 + digit) x y)

row_0 : (x y : ℕ) → x < 256 → y < 256 → RowEncodesBack 0 x y
unfolding decode_of
row_0 x y hx hy =
    each_digit (λ digit. EncodesBack (0 * 16 + digit) x y (decode_of (0 * 16 + digit) x y))
    refl refl (word_bytes 0x02 x y hx hy) refl refl refl refl refl refl refl refl refl refl refl refl refl

row_1 : (x y : ℕ) → x < 256 → y < 256 → RowEncodesBack 1 x y
unfolding decode_of
row_1 x y hx hy =
    each_digit (λ digit. EncodesBack (1 * 16 + digit) x y (decode_of (1 * 16 + digit) x y))
    refl refl (word_bytes 0x12 x y hx hy) refl refl refl refl refl refl refl refl refl refl refl refl refl

row_2 : (x y : ℕ) → x < 256 → y < 256 → RowEncodesBack 2 x y
unfolding decode_of
row_2 x y hx hy =
    each_digit (λ digit. EncodesBack (2 * 16 + digit) x y (decode_of (2 * 16 + digit) x y))
    refl refl refl refl refl refl refl refl refl refl refl refl refl refl refl refl

row_3 : (x y : ℕ) → x < 256 → y < 256 → RowEncodesBack 3 x y
unfolding decode_of
row_3 x y hx hy =
    each_digit (λ digit. EncodesBack (3 * 16 + digit) x y (decode_of (3 * 16 + digit) x y))
    refl refl refl refl refl refl refl refl refl refl refl refl refl refl refl refl

row_4 : (x y : ℕ) → x < 256 → y < 256 → RowEncodesBack 4 x y
unfolding decode_of
row_4 x y hx hy =
    each_digit (λ digit. EncodesBack (4 * 16 + digit) x y (decode_of (4 * 16 + digit) x y))
    refl refl refl refl refl refl refl refl refl refl refl refl refl refl refl refl

row_5 : (x y : ℕ) → x < 256 → y < 256 → RowEncodesBack 5 x y
unfolding decode_of
row_5 x y hx hy =
    each_digit (λ digit. EncodesBack (5 * 16 + digit) x y (decode_of (5 * 16 + digit) x y))
    refl refl refl refl refl refl refl refl refl refl refl refl refl refl refl refl

row_6 : (x y : ℕ) → x < 256 → y < 256 → RowEncodesBack 6 x y
unfolding decode_of
row_6 x y hx hy =
    each_digit (λ digit. EncodesBack (6 * 16 + digit) x y (decode_of (6 * 16 + digit) x y))
    refl refl refl refl refl refl refl refl refl refl refl refl refl refl refl refl

row_7 : (x y : ℕ) → x < 256 → y < 256 → RowEncodesBack 7 x y
unfolding decode_of
row_7 x y hx hy =
    each_digit (λ digit. EncodesBack (7 * 16 + digit) x y (decode_of (7 * 16 + digit) x y))
    refl refl refl refl refl refl refl refl refl refl refl refl refl refl refl refl

row_8 : (x y : ℕ) → x < 256 → y < 256 → RowEncodesBack 8 x y
unfolding decode_of
row_8 x y hx hy =
    each_digit (λ digit. EncodesBack (8 * 16 + digit) x y (decode_of (8 * 16 + digit) x y))
    refl refl refl refl refl refl refl refl refl refl refl refl refl refl refl refl

row_9 : (x y : ℕ) → x < 256 → y < 256 → RowEncodesBack 9 x y
unfolding decode_of
row_9 x y hx hy =
    each_digit (λ digit. EncodesBack (9 * 16 + digit) x y (decode_of (9 * 16 + digit) x y))
    (word_bytes 0x90 x y hx hy) refl refl refl refl refl refl refl refl refl refl refl refl refl refl refl

row_A : (x y : ℕ) → x < 256 → y < 256 → RowEncodesBack 10 x y
unfolding decode_of
row_A x y hx hy =
    each_digit (λ digit. EncodesBack (10 * 16 + digit) x y (decode_of (10 * 16 + digit) x y))
    refl refl refl refl refl refl refl refl refl refl refl refl refl refl refl refl

row_B : (x y : ℕ) → x < 256 → y < 256 → RowEncodesBack 11 x y
unfolding decode_of
row_B x y hx hy =
    each_digit (λ digit. EncodesBack (11 * 16 + digit) x y (decode_of (11 * 16 + digit) x y))
    refl refl refl refl refl refl refl refl refl refl refl refl refl refl refl refl

row_C : (x y : ℕ) → x < 256 → y < 256 → RowEncodesBack 12 x y
unfolding decode_of
row_C x y hx hy =
    each_digit (λ digit. EncodesBack (12 * 16 + digit) x y (decode_of (12 * 16 + digit) x y))
    refl refl refl refl refl refl refl refl refl refl refl refl refl refl refl refl

row_D : (x y : ℕ) → x < 256 → y < 256 → RowEncodesBack 13 x y
unfolding decode_of
row_D x y hx hy =
    each_digit (λ digit. EncodesBack (13 * 16 + digit) x y (decode_of (13 * 16 + digit) x y))
    refl refl refl refl refl refl refl refl refl refl refl refl refl refl refl refl

row_E : (x y : ℕ) → x < 256 → y < 256 → RowEncodesBack 14 x y
unfolding decode_of
row_E x y hx hy =
    each_digit (λ digit. EncodesBack (14 * 16 + digit) x y (decode_of (14 * 16 + digit) x y))
    refl refl refl refl refl refl refl refl refl refl refl refl refl refl refl refl

row_F : (x y : ℕ) → x < 256 → y < 256 → RowEncodesBack 15 x y
unfolding decode_of
row_F x y hx hy =
    each_digit (λ digit. EncodesBack (15 * 16 + digit) x y (decode_of (15 * 16 + digit) x y))
    refl refl refl refl refl refl refl refl refl refl refl refl refl refl refl refl

pub encode_decode : (opcode x y : ℕ) → opcode < 256 → x < 256 → y < 256 → EncodesBack opcode x y (decode_of opcode x y)
encode_decode opcode x y ho hx hy =
    let rows : (row : ℕ) → row < 16 → RowEncodesBack row x y =
    each_digit (λ row. RowEncodesBack row x y)
    (row_0 x y hx hy) (row_1 x y hx hy) (row_2 x y hx hy) (row_3 x y hx hy) (row_4 x y hx hy) (row_5 x y hx hy) (row_6 x y hx hy) (row_7 x y hx hy)
    (row_8 x y hx hy) (row_9 x y hx hy) (row_A x y hx hy) (row_B x y hx hy) (row_C x y hx hy) (row_D x y hx hy) (row_E x y hx hy) (row_F x y hx hy) in
    let parts : opcode / 16 * 16 + opcode % 16 ≡ opcode = omega arith in
    subst (λ q. EncodesBack q x y (decode_of q x y)) parts (rows (opcode / 16) (omega arith) (opcode % 16) (omega arith))

-- a place of a list keeps its element where the list goes on
get_or-append_front : (xs ys : List ℕ) (k d : ℕ) → get_or (xs ++ ys) k d ≡ get_or xs k (get_or (xs ++ ys) k d)
get_or-append_front [] ys k d = refl
get_or-append_front (x ∷ xs) ys zero d = refl
get_or-append_front (x ∷ xs) ys (suc k) d = get_or-append_front xs ys k d

first_byte : (i : Instr) (behind : List ℕ) → get_or (encode_of i ++ behind) 0 0 ≡ get_or (encode_of i) 0 0
first_byte Nop behind = refl
first_byte _ behind = refl

pub decoded-encode : (i : Instr) (behind : List ℕ) → decoded (encode_of i ++ behind) ≡ Some (i, length (encode_of i))
decoded-encode i behind =
    let bytes = encode_of i ++ behind in
    let one = get_or-append_front (encode_of i) behind 1 0 in
    let two = get_or-append_front (encode_of i) behind 2 0 in
    let e : decode_of (get_or bytes 0 0) (get_or bytes 1 0) (get_or bytes 2 0) ≡ Some i =
    rw (first_byte i behind, one, two) (decode_encode i (get_or bytes 1 0) (get_or bytes 2 0)) in
    ap with_length e

-- the reserved opcode stands for nothing, and no other does
pub decode_of-reserved : (opcode x y : ℕ) → opcode ≡ 0xA5 → decode_of opcode x y ≡ None
unfolding decode_of
decode_of-reserved opcode x y e = rw e refl

pub decode_of-None : (opcode x y : ℕ) → opcode < 256 → x < 256 → y < 256 → decode_of opcode x y ≡ None → opcode ≡ 0xA5
decode_of-None opcode x y ho hx hy e = subst (EncodesBack opcode x y) e (encode_decode opcode x y ho hx hy)

three_elements : (bytes : List ℕ) → length bytes ≡ 3 → bytes ≡ get_or bytes 0 0 ∷ get_or bytes 1 0 ∷ get_or bytes 2 0 ∷ []
three_elements [] e = absurd (omega (arith, e))
three_elements (b ∷ []) e = absurd (omega (arith, e))
three_elements (b ∷ x ∷ []) e = absurd (omega (arith, e))
three_elements (b ∷ x ∷ y ∷ []) e = refl
three_elements (b ∷ x ∷ y ∷ z ∷ zs) e = absurd (omega (arith, e))

-- what was decoded has the bytes that were read
pub encode_of-decoded : (bytes : List ℕ) (i : Instr) → length bytes ≡ 3 → get_or bytes 0 0 < 256 → get_or bytes 1 0 < 256 → get_or bytes 2 0 < 256 → decode_of (get_or bytes 0 0) (get_or bytes 1 0) (get_or bytes 2 0) ≡ Some i → encode_of i ≡ take (length (encode_of i)) bytes
encode_of-decoded bytes i three ho hx hy e =
    let P : Option Instr → Type 0 = EncodesBack (get_or bytes 0 0) (get_or bytes 1 0) (get_or bytes 2 0) in
    let read = subst P e (encode_decode (get_or bytes 0 0) (get_or bytes 1 0) (get_or bytes 2 0) ho hx hy) in
    read ∙ ap (λ l. take (length (encode_of i)) l) (sym (three_elements bytes three))
