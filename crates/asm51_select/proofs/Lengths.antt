-- A selected program is no longer than its linear code, with each jump in its long form.
use Rattle.std.proofs.Common.{◌≡◌, ℕ, suc, ◌+◌, ◌*◌, ◌≤◌, List, [], ◌∷◌, ◌++◌, length, map, Bool, true, false, Some, None, refl, ap, arith, lit≤}
use Rattle.std.specs.Prelude.{nat_eq, if◌then◌else◌, ◌&&◌}
use Rattle.std.proofs.lemmas.List.{length-map}
use Rattle.mcs51_isa.specs.declared.instr.Instr.{Instr}
use Rattle.mcs51_isa.specs.declared.instr.Instr.TheVariants as Instruction
use Rattle.mcs51_isa.specs.declared.instr.SumOp.{SumOp}
use Rattle.mcs51_isa.specs.declared.instr.Logic.{Logic}
use Rattle.rtl.specs.declared.locations.Place.{Place}
use Rattle.rtl.specs.declared.locations.Place.TheVariants.{Reg, Arg, Cell}
use Rattle.rtl.specs.declared.operations.Src.{Src}
use Rattle.rtl.specs.declared.operations.Src.TheVariants.{At, Byte}
use Rattle.rtl.specs.declared.operations.Arith.{Arith}
use Rattle.rtl.specs.declared.operations.Arith.TheVariants.{Add, Addc, Subb, And, Or, Xor}
use Rattle.rtl.specs.Operations.{ByteOp}
use Rattle.rtl.specs.Operations.{Const, Move, Op, Mul, Div, Rem, Rlc, Rrc, Top, ClearCarry, SetCarry, FlipCarry, FromCarry, Load, Store, ReadPort, WritePort}
use Rattle.rtl.specs.Items.{LinItem, LinProgram}
use Rattle.rtl.specs.Items as Lin
use Rattle.rtl.specs.Locations.{place_number}
use Rattle.rtl.specs.Graphs.{renamed_op}
use Rattle.rtl.specs.Lengths.{total, value_length, op_length, item_length, items_length, lin_length}
use Rattle.rtl.specs.WellFormed.{gathered}
use Rattle.asm51.specs.declared.items.AsmItem.{AsmItem}
use Rattle.asm51.specs.declared.items.AsmItem.TheVariants.{Plain, Call}
use Rattle.asm51.specs.declared.layouts.Form.{Form}
use Rattle.asm51.specs.Items.{is_jump}
use Rattle.asm51.specs.Instructions.{item_size}
use Rattle.asm51.specs.Layouts.{long_length}
use Rattle.lin_gen.proofs.Numbers.{total_append}
use Rattle.asm51_select.specs.Translation.{is_reg, take_code, give_code, special_code, give_b_code, sum_code, logic_code, arith_code, constant_code, copy_code, move_code, loads_code, stores_code, op_code, plains, item_code, function_code, functions_code, byte_code, start_code, selected}

-- the size of an item in its long form
abbrev long_size : AsmItem → ℕ
long_size item = item_size item (if is_jump item then Some Form.Long else None)

long_is : (items : List AsmItem) → long_length items ≡ total long_size items
long_is [] = refl
long_is (item ∷ items) = ap (λ n. long_size item + n) (long_is items)

abbrev size_of : Instr → ℕ
size_of i = long_size (Plain i)

abbrev code_size : List Instr → ℕ
code_size is = total long_size (plains is)

-- ---- instructions

take_size : (a : Src Place) → size_of (take_code a) ≤ 2
take_size (At (Reg n)) = lit≤ tt
take_size (At (Arg n)) = lit≤ tt
take_size (At (Cell n)) = lit≤ tt
take_size (Byte n) = lit≤ tt

give_size : (d : Place) → size_of (give_code d) ≤ 2
give_size (Reg n) = lit≤ tt
give_size (Arg n) = lit≤ tt
give_size (Cell n) = lit≤ tt

special_size : (x : ℕ) (a : Src Place) → size_of (special_code x a) ≤ 3
special_size x (At (Reg n)) = lit≤ tt
special_size x (At (Arg n)) = lit≤ tt
special_size x (At (Cell n)) = lit≤ tt
special_size x (Byte n) = lit≤ tt

give_b_size : (d : Place) → size_of (give_b_code d) ≤ 3
give_b_size (Reg n) = lit≤ tt
give_b_size (Arg n) = lit≤ tt
give_b_size (Cell n) = lit≤ tt

sum_size : (op : SumOp) (a : Src Place) → size_of (sum_code op a) ≤ 2
sum_size op (At (Reg n)) = lit≤ tt
sum_size op (At (Arg n)) = lit≤ tt
sum_size op (At (Cell n)) = lit≤ tt
sum_size op (Byte n) = lit≤ tt

logic_size : (op : Logic) (a : Src Place) → size_of (logic_code op a) ≤ 2
logic_size op (At (Reg n)) = lit≤ tt
logic_size op (At (Arg n)) = lit≤ tt
logic_size op (At (Cell n)) = lit≤ tt
logic_size op (Byte n) = lit≤ tt

arith_size : (o : Arith) (a : Src Place) → size_of (arith_code o a) ≤ 2
arith_size Add a = sum_size _ a
arith_size Addc a = sum_size _ a
arith_size Subb a = sum_size _ a
arith_size And a = logic_size _ a
arith_size Or a = logic_size _ a
arith_size Xor a = logic_size _ a

constant_size : (d : Place) (n : ℕ) → size_of (constant_code d n) ≤ 3
constant_size (Reg k) n = lit≤ tt
constant_size (Arg k) n = lit≤ tt
constant_size (Cell k) n = lit≤ tt

-- ---- operations

apart_size : (d s : Place) → code_size (if is_reg d && is_reg s then take_code (At s) ∷ give_code d ∷ [] else copy_code d s ∷ []) ≤ 3
apart_size (Reg n) (Reg k) = lit≤ tt
apart_size (Reg n) (Arg k) = lit≤ tt
apart_size (Reg n) (Cell k) = lit≤ tt
apart_size (Arg n) (Reg k) = lit≤ tt
apart_size (Arg n) (Arg k) = lit≤ tt
apart_size (Arg n) (Cell k) = lit≤ tt
apart_size (Cell n) (Reg k) = lit≤ tt
apart_size (Cell n) (Arg k) = lit≤ tt
apart_size (Cell n) (Cell k) = lit≤ tt

move_size : (d s : Place) → code_size (move_code d s) ≤ (if nat_eq (place_number d) (place_number s) then 0 else 3)
move_size d s = by (nat_eq (place_number d) (place_number s))
  where
    by : (b : Bool) → code_size (if b then [] else if is_reg d && is_reg s then take_code (At s) ∷ give_code d ∷ [] else copy_code d s ∷ []) ≤ (if b then 0 else 3)
    by true = lit≤ tt
    by false = apart_size d s

plains_sum : (is js : List Instr) → code_size (is ++ js) ≡ code_size is + code_size js
plains_sum [] js = omega arith
plains_sum (i ∷ is) js = let k = plains_sum is js in omega arith

more_loads : (ds : List Place) → code_size (loads_code true ds) ≤ 4 * length ds
more_loads [] = lit≤ tt
more_loads (d ∷ ds) = let k = more_loads ds in let g = give_size d in omega arith

more_stores : (ss : List Place) → code_size (stores_code true ss) ≤ 4 * length ss
more_stores [] = lit≤ tt
more_stores (s ∷ ss) = let k = more_stores ss in let g = take_size (At s) in omega arith

value_is : (a : ℕ) (as' : List ℕ) → value_length (a ∷ as') ≡ 3 + 4 * length as'
value_is a [] = refl
value_is a (b ∷ as') = let k = value_is b as' in omega arith

loads_fit : (ds : List Place) → code_size (loads_code false ds) ≤ value_length (map place_number ds)
loads_fit [] = lit≤ tt
loads_fit (d ∷ ds) =
    let k = more_loads ds in
    let g = give_size d in
    let v = value_is (place_number d) (map place_number ds) in
    let n = length-map ds place_number in
    omega arith

stores_fit : (ss : List Place) → code_size (stores_code false ss) ≤ value_length (map place_number ss)
stores_fit [] = lit≤ tt
stores_fit (s ∷ ss) =
    let k = more_stores ss in
    let g = take_size (At s) in
    let v = value_is (place_number s) (map place_number ss) in
    let n = length-map ss place_number in
    omega arith

pointer_size : (l k : Place) (is : List Instr) → code_size (special_code 0x82 (At l) ∷ special_code 0x83 (At k) ∷ is) ≤ 6 + code_size is
pointer_size l k is =
    let a = special_size 0x82 (At l) in
    let b = special_size 0x83 (At k) in
    omega arith

op_fits : (op : ByteOp Place) → code_size (op_code op) ≤ op_length (renamed_op place_number op)
op_fits (Const d n) = let a = constant_size d n in omega arith
op_fits (Move d s) = move_size d s
op_fits (Op o d a b) = let x = take_size a in let y = arith_size o b in let z = give_size d in omega arith
op_fits (Mul l k a b) = let x = special_size 0xF0 b in let y = take_size a in let z = give_size l in let t = give_b_size k in omega arith
op_fits (Div d a b) = let x = special_size 0xF0 (At b) in let y = take_size (At a) in let z = give_size d in omega arith
op_fits (Rem d a b) = let x = special_size 0xF0 (At b) in let y = take_size (At a) in let z = give_b_size d in omega arith
op_fits (Rlc d a) = let y = take_size (At a) in let z = give_size d in omega arith
op_fits (Rrc d a) = let y = take_size (At a) in let z = give_size d in omega arith
op_fits (Top a) = let y = take_size (At a) in omega arith
op_fits ClearCarry = lit≤ tt
op_fits SetCarry = lit≤ tt
op_fits FlipCarry = lit≤ tt
op_fits (FromCarry d) = let z = give_size d in omega arith
op_fits (Load ds l k) = let a = pointer_size l k (loads_code false ds) in let b = loads_fit ds in omega arith
op_fits (Store l k ss) = let a = pointer_size l k (stores_code false ss) in let b = stores_fit ss in omega arith
op_fits (ReadPort d) = let z = give_size d in omega arith
op_fits (WritePort s) = let y = take_size (At s) in omega arith

-- ---- items

item_fits : (f : ℕ) (it : LinItem) → total long_size (item_code f it) ≤ item_length it
item_fits f (Lin.Here n) = lit≤ tt
item_fits f (Lin.Op op) = op_fits op
item_fits f (Lin.Label l) = lit≤ tt
item_fits f (Lin.Jump n) = lit≤ tt
item_fits f (Lin.Test p n) = let y = take_size (At p) in omega arith
item_fits f (Lin.Call g) = lit≤ tt
item_fits f Lin.Return = lit≤ tt

items_fit : (f : ℕ) (its : List LinItem) → total long_size (gathered (item_code f) its) ≤ items_length its
items_fit f [] = lit≤ tt
items_fit f (it ∷ its) =
    let a = total_append long_size (item_code f it) (gathered (item_code f) its) in
    let b = item_fits f it in
    let c = items_fit f its in
    omega arith

functions_fit : (base : ℕ) (lins : List (List LinItem)) → total long_size (functions_code base lins) ≤ total items_length lins
functions_fit base [] = lit≤ tt
functions_fit base (its ∷ lins) =
    let a = total_append long_size (function_code base its) (functions_code (suc base) lins) in
    let b = items_fit base its in
    let c = functions_fit (suc base) lins in
    omega arith

bytes_size : (bytes : List (ℕ × ℕ)) → code_size (gathered byte_code bytes) ≡ 6 * length bytes
bytes_size [] = refl
bytes_size (byte ∷ bytes) = let k = bytes_size bytes in omega arith

start_size : (bytes : List (ℕ × ℕ)) (main : ℕ) → total long_size (start_code bytes main) ≡ 8 + 6 * length bytes
start_size bytes main =
    let a = total_append long_size (plains (gathered byte_code bytes)) (Call main ∷ Plain (Instruction.Sjmp 0xFE) ∷ []) in
    let b = bytes_size bytes in
    omega arith

pub selected_fits : (program : LinProgram) → long_length (selected program) ≤ lin_length program
unfolding selected
selected_fits program =
    let a = long_is (start_code program.start program.main ++ functions_code 0 program.lins) in
    let b = total_append long_size (start_code program.start program.main) (functions_code 0 program.lins) in
    let c = start_size program.start program.main in
    let e = functions_fit 0 program.lins in
    omega arith
