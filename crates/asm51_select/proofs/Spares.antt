-- The instructions of byte operations are straight-line code that spares the stack.
use Rattle.std.proofs.Common.{◌≢◌, ℕ, List, [], ◌∷◌, ◌++◌, Bool, true, false, arith}
use Rattle.std.specs.Prelude.{nat_eq, if◌then◌else◌, ◌&&◌}
use Rattle.std.specs.List.{AllByRecursion}
use Rattle.mcs51_isa.specs.declared.instr.Instr.{Instr}
use Rattle.mcs51_isa.specs.declared.instr.Instr.TheVariants as Instruction
use Rattle.mcs51_isa.specs.declared.instr.SumOp.{SumOp}
use Rattle.mcs51_isa.specs.declared.instr.Logic.{Logic}
use Rattle.sim51.specs.Straight.{IsStraight, AreStraight}
use Rattle.sim51.specs.StackApart.{SparesStack}
use Rattle.rtl.specs.declared.locations.Place.{Place}
use Rattle.rtl.specs.declared.locations.Place.TheVariants.{Reg, Arg, Cell}
use Rattle.rtl.specs.declared.operations.Src.{Src}
use Rattle.rtl.specs.declared.operations.Src.TheVariants.{At, Byte}
use Rattle.rtl.specs.declared.operations.Arith.{Arith}
use Rattle.rtl.specs.declared.operations.Arith.TheVariants.{Add, Addc, Subb, And, Or, Xor}
use Rattle.rtl.specs.Operations.{ByteOp}
use Rattle.rtl.specs.Operations.{Const, Move, Op, Mul, Div, Rem, Rlc, Rrc, Top, ClearCarry, SetCarry, FlipCarry, FromCarry, Load, Store, ReadPort, WritePort}
use Rattle.rtl.specs.Locations.{place_number}
use Rattle.rtl.specs.WellFormed.{IsPlace, operand_locations, op_locations, gathered}
use Rattle.asm51.specs.Selected.{IsSelectable}
use Rattle.asm51_select.specs.Translation.{direct_address, is_reg, take_code, give_code, special_code, give_b_code, sum_code, logic_code, arith_code, constant_code, copy_code, move_code, loads_code, stores_code, pointer_code, op_code, byte_code}
use Rattle.asm51_select.proofs.Held.{address_below, direct_is}
use Rattle.asm51_select.proofs.Reaching.{IsOperand}
use Rattle.asm51_select.proofs.Does.{first_operand, other_operand, only_operand}

-- straight-line code that spares the stack
abbrev pub IsSpare : Instr → Type 0
IsSpare i = IsStraight i × SparesStack i

abbrev pub AreSpare : List Instr → Type 0
AreSpare is = AllByRecursion IsSpare is

pub spare_is_selectable : (i : Instr) → IsSpare i → IsSelectable i
spare_is_selectable (Instruction.Ret kind) h = tt
spare_is_selectable (Instruction.Sjmp offset) h = absurd h.0
spare_is_selectable i h = h

pub spare_is_straight : (is : List Instr) → AreSpare is → AreStraight is
spare_is_straight [] h = tt
spare_is_straight (i ∷ is) h = (h.0.0, spare_is_straight is h.1)

both_spare : (is js : List Instr) → AreSpare is → AreSpare js → AreSpare (is ++ js)
both_spare [] js h k = k
both_spare (i ∷ is) js h k = (h.0, both_spare is js h.1 k)

not_sp : (p : Place) → IsPlace p → direct_address p ≢ 0x81
not_sp p ok e =
    let below = address_below p ok in
    let is = direct_is p ok in
    omega arith

take_spares : (a : Src Place) → IsOperand a → IsSpare (take_code a)
take_spares (At (Reg n)) ok = (tt, tt)
take_spares (At (Arg n)) ok = (tt, not_sp (Arg n) ok)
take_spares (At (Cell n)) ok = (tt, not_sp (Cell n) ok)
take_spares (Byte n) ok = (tt, tt)

give_spares : (d : Place) → IsPlace d → IsSpare (give_code d)
give_spares (Reg n) ok = (tt, tt)
give_spares (Arg n) ok = (tt, not_sp (Arg n) ok)
give_spares (Cell n) ok = (tt, not_sp (Cell n) ok)

special_spares : (x : ℕ) → x ≢ 0x81 → (a : Src Place) → IsOperand a → IsSpare (special_code x a)
special_spares x other (At (Reg n)) ok = (tt, other)
special_spares x other (At (Arg n)) ok = (tt, (not_sp (Arg n) ok, other))
special_spares x other (At (Cell n)) ok = (tt, (not_sp (Cell n) ok, other))
special_spares x other (Byte n) ok = (tt, other)

b_is_other : ◌≢◌ {A = ℕ} 0xF0 0x81
b_is_other e = omega arith

dpl_is_other : ◌≢◌ {A = ℕ} 0x82 0x81
dpl_is_other e = omega arith

dph_is_other : ◌≢◌ {A = ℕ} 0x83 0x81
dph_is_other e = omega arith

port_is_other : ◌≢◌ {A = ℕ} 0x90 0x81
port_is_other e = omega arith

give_b_spares : (d : Place) → IsPlace d → IsSpare (give_b_code d)
give_b_spares (Reg n) ok = (tt, b_is_other)
give_b_spares (Arg n) ok = (tt, (b_is_other, not_sp (Arg n) ok))
give_b_spares (Cell n) ok = (tt, (b_is_other, not_sp (Cell n) ok))

sum_spares : (op : SumOp) (a : Src Place) → IsOperand a → IsSpare (sum_code op a)
sum_spares op (At (Reg n)) ok = (tt, tt)
sum_spares op (At (Arg n)) ok = (tt, not_sp (Arg n) ok)
sum_spares op (At (Cell n)) ok = (tt, not_sp (Cell n) ok)
sum_spares op (Byte n) ok = (tt, tt)

logic_spares : (op : Logic) (a : Src Place) → IsOperand a → IsSpare (logic_code op a)
logic_spares op (At (Reg n)) ok = (tt, tt)
logic_spares op (At (Arg n)) ok = (tt, not_sp (Arg n) ok)
logic_spares op (At (Cell n)) ok = (tt, not_sp (Cell n) ok)
logic_spares op (Byte n) ok = (tt, tt)

arith_spares : (o : Arith) (a : Src Place) → IsOperand a → IsSpare (arith_code o a)
arith_spares Add a ok = sum_spares _ a ok
arith_spares Addc a ok = sum_spares _ a ok
arith_spares Subb a ok = sum_spares _ a ok
arith_spares And a ok = logic_spares _ a ok
arith_spares Or a ok = logic_spares _ a ok
arith_spares Xor a ok = logic_spares _ a ok

constant_spares : (d : Place) (n : ℕ) → IsPlace d → IsSpare (constant_code d n)
constant_spares (Reg k) n ok = (tt, tt)
constant_spares (Arg k) n ok = (tt, not_sp (Arg k) ok)
constant_spares (Cell k) n ok = (tt, not_sp (Cell k) ok)

copy_spares : (d s : Place) → IsPlace d → IsPlace s → IsSpare (copy_code d s)
copy_spares (Reg k) s ok_d ok_s = (tt, not_sp s ok_s)
copy_spares (Arg k) (Reg n) ok_d ok_s = (tt, not_sp (Arg k) ok_d)
copy_spares (Arg k) (Arg n) ok_d ok_s = (tt, (not_sp (Arg n) ok_s, not_sp (Arg k) ok_d))
copy_spares (Arg k) (Cell n) ok_d ok_s = (tt, (not_sp (Cell n) ok_s, not_sp (Arg k) ok_d))
copy_spares (Cell k) (Reg n) ok_d ok_s = (tt, not_sp (Cell k) ok_d)
copy_spares (Cell k) (Arg n) ok_d ok_s = (tt, (not_sp (Arg n) ok_s, not_sp (Cell k) ok_d))
copy_spares (Cell k) (Cell n) ok_d ok_s = (tt, (not_sp (Cell n) ok_s, not_sp (Cell k) ok_d))

move_spares : (d s : Place) → IsPlace d → IsPlace s → AreSpare (move_code d s)
move_spares d s ok_d ok_s = by (nat_eq (place_number d) (place_number s)) (is_reg d && is_reg s)
  where
    by : (b r : Bool) → AreSpare (if b then [] else if r then take_code (At s) ∷ give_code d ∷ [] else copy_code d s ∷ [])
    by true r = tt
    by false true = (take_spares (At s) ok_s, (give_spares d ok_d, tt))
    by false false = (copy_spares d s ok_d ok_s, tt)

pointer_spares : (l k : Place) → IsPlace l → IsPlace k → AreSpare (pointer_code l k)
pointer_spares l k ok_l ok_k = (special_spares 0x82 dpl_is_other (At l) ok_l, (special_spares 0x83 dph_is_other (At k) ok_k, tt))

loads_spare : (raised : Bool) (ds : List Place) → AllByRecursion IsPlace ds → AreSpare (loads_code raised ds)
loads_spare raised [] ok = tt
loads_spare true (d ∷ ds) ok = ((tt, tt), ((tt, tt), (give_spares d ok.0, loads_spare true ds ok.1)))
loads_spare false (d ∷ ds) ok = ((tt, tt), (give_spares d ok.0, loads_spare true ds ok.1))

stores_spare : (raised : Bool) (ss : List Place) → AllByRecursion IsPlace ss → AreSpare (stores_code raised ss)
stores_spare raised [] ok = tt
stores_spare true (s ∷ ss) ok = ((tt, tt), (take_spares (At s) ok.0, ((tt, tt), stores_spare true ss ok.1)))
stores_spare false (s ∷ ss) ok = (take_spares (At s) ok.0, ((tt, tt), stores_spare true ss ok.1))

pub op_spares : (op : ByteOp Place) → AllByRecursion IsPlace (op_locations op) → AreSpare (op_code op)
op_spares (Const d n) ok = (constant_spares d n ok.0, tt)
op_spares (Move d s) ok = move_spares d s ok.0 ok.1.0
op_spares (Op o d a b) ok = (take_spares a (first_operand a (operand_locations b) ok.1), (arith_spares o b (only_operand b (other_operand a (operand_locations b) ok.1)), (give_spares d ok.0, tt)))
op_spares (Mul l k a b) ok = (special_spares 0xF0 b_is_other b (only_operand b (other_operand a (operand_locations b) ok.1.1)), (take_spares a (first_operand a (operand_locations b) ok.1.1), ((tt, tt), (give_spares l ok.0, (give_b_spares k ok.1.0, tt)))))
op_spares (Div d a b) ok = (special_spares 0xF0 b_is_other (At b) ok.1.1.0, (take_spares (At a) ok.1.0, ((tt, tt), (give_spares d ok.0, tt))))
op_spares (Rem d a b) ok = (special_spares 0xF0 b_is_other (At b) ok.1.1.0, (take_spares (At a) ok.1.0, ((tt, tt), (give_b_spares d ok.0, tt))))
op_spares (Rlc d a) ok = (take_spares (At a) ok.1.0, ((tt, tt), (give_spares d ok.0, tt)))
op_spares (Rrc d a) ok = (take_spares (At a) ok.1.0, ((tt, tt), (give_spares d ok.0, tt)))
op_spares (Top a) ok = (take_spares (At a) ok.0, ((tt, tt), tt))
op_spares ClearCarry ok = ((tt, tt), tt)
op_spares SetCarry ok = ((tt, tt), tt)
op_spares FlipCarry ok = ((tt, tt), tt)
op_spares (FromCarry d) ok = ((tt, tt), ((tt, tt), (give_spares d ok.0, tt)))
op_spares (Load ds l k) ok = both_spare (pointer_code l k) (loads_code false ds) (pointer_spares l k ok.0 ok.1.0) (loads_spare false ds ok.1.1)
op_spares (Store l k ss) ok = both_spare (pointer_code l k) (stores_code false ss) (pointer_spares l k ok.0 ok.1.0) (stores_spare false ss ok.1.1)
op_spares (ReadPort d) ok = ((tt, port_is_other), (give_spares d ok.0, tt))
op_spares (WritePort s) ok = (take_spares (At s) ok.0, ((tt, port_is_other), tt))

pub test_spares : (p : Place) → IsPlace p → IsSpare (take_code (At p))
test_spares p ok = take_spares (At p) ok

pub bytes_spare : (bytes : List (ℕ × ℕ)) → AreSpare (gathered byte_code bytes)
bytes_spare [] = tt
bytes_spare (byte ∷ bytes) = ((tt, tt), ((tt, tt), ((tt, tt), bytes_spare bytes)))
