-- How long the code of an operation can become, over values of n bytes: the bytes of a sequence of byte operations that does it, with
-- every place in internal RAM (Intel, MCS-51 family: `MOV dir,dir` 3, `MOV A,dir`, `ADD A,dir` and `MOV dir,A` 2 each, and so
-- on) and every jump long. Cminor and RTLabs count the same operations, so their lengths can be compared (own).
use Rattle.std.specs.Prelude.{ℕ, ◌+◌, ◌-◌, ◌*◌, List, length, Option, Some, None, Bool, true, false}
use Rattle.cerco_middle.specs.declared.operators.Held.{Held}
use Rattle.cerco_middle.specs.declared.operators.Held.TheVariants.{U8, I8, W16}
use Rattle.cerco_middle.specs.declared.operators.CmOp.{CmOp}
use Rattle.cerco_middle.specs.declared.operators.CmOp.TheVariants.{Add, Sub, Mul, Div, Rem, And, Or, Xor, Eq, Ne, LtS, LtU, LeS, LeU}
use Rattle.cerco_middle.specs.Operators.{held_bytes, all_held_bytes}

-- ---- byte operations

-- a byte becomes a number or another byte
abbrev pub move_length : ℕ
move_length = 3

-- a sum, a difference or a bitwise operation
abbrev pub arithmetic_length : ℕ
arithmetic_length = 6

abbrev pub rotation_length : ℕ
rotation_length = 5

-- the carry takes the highest bit of a byte
abbrev pub top_length : ℕ
top_length = 3

-- the carry is cleared, set or turned
abbrev pub carry_length : ℕ
carry_length = 1

-- a byte becomes the carry
abbrev pub from_carry_length : ℕ
from_carry_length = 4

-- a jump to the node that comes next
abbrev pub next_length : ℕ
next_length = 3

-- n bytes from external RAM or to it
abbrev pub access_length : ℕ → ℕ
access_length n = 5 + 4 * n

-- ---- operations, each with the way to the next node

abbrev pub constant_length : ℕ → ℕ
constant_length n = move_length * n + next_length

-- what is held so becomes a word
abbrev pub extension_length : Held → ℕ
extension_length U8 = move_length
extension_length I8 = top_length + arithmetic_length
extension_length W16 = 0

abbrev pub get_length : Held → ℕ
get_length h = move_length * held_bytes h + extension_length h + next_length

abbrev pub put_length : Held → ℕ
put_length h = move_length * held_bytes h + next_length

abbrev pub narrow_length : Held → ℕ
narrow_length h = extension_length h + next_length

abbrev pub load_length : Held → ℕ
load_length h = access_length (held_bytes h) + extension_length h + next_length

abbrev pub store_length : Held → ℕ
store_length h = access_length (held_bytes h) + next_length

-- a negative or a complement: a difference of n bytes
abbrev pub difference_length : ℕ → ℕ
difference_length n = carry_length + arithmetic_length * n + next_length

abbrev pub shift_left_length : ℕ → ℕ → ℕ
shift_left_length n k = arithmetic_length * n * k + next_length

abbrev pub shift_right_length : ℕ → Bool → ℕ → ℕ
shift_right_length n false k = (carry_length + rotation_length * n) * k + next_length
shift_right_length n true k = (top_length + rotation_length * n) * k + next_length

-- a difference whose borrow becomes a word
abbrev pub order_length : ℕ → ℕ
order_length n = difference_length n + from_carry_length + move_length

-- both top bytes are moved on by half of all bytes before
abbrev pub signed_order_length : ℕ → ℕ
signed_order_length n = 2 * arithmetic_length + order_length n

-- the bytes of a difference are joined, and their sum with the greatest byte has a carry but where they are 0
abbrev pub inequality_length : ℕ → ℕ
inequality_length n = order_length n + arithmetic_length * n

abbrev pub operator_length : ℕ → CmOp → ℕ
operator_length n Add = arithmetic_length * n + next_length
operator_length n Sub = difference_length n
operator_length n Mul = 11 + next_length
operator_length n Div = 8 + move_length + next_length
operator_length n Rem = 9 + move_length + next_length
operator_length n And = arithmetic_length * n + next_length
operator_length n Or = arithmetic_length * n + next_length
operator_length n Xor = arithmetic_length * n + next_length
operator_length n Eq = carry_length + inequality_length n
operator_length n Ne = inequality_length n
operator_length n LtS = signed_order_length n
operator_length n LtU = order_length n
operator_length n LeS = carry_length + signed_order_length n
operator_length n LeU = carry_length + order_length n

abbrev pub read_port_length : ℕ
read_port_length = 4 + move_length + next_length

abbrev pub write_port_length : ℕ
write_port_length = 4 + next_length

abbrev pub argument_length : Held → ℕ
argument_length h = move_length * held_bytes h + next_length

abbrev pub call_length : ℕ
call_length = 3

abbrev pub label_length : ℕ
label_length = 4

-- the bytes of a value are joined, and the one that comes of it is tested
abbrev pub test_length : ℕ → ℕ
test_length n = arithmetic_length * (n - 1) + 9

abbrev pub return_length : ℕ
return_length = 1

-- a return with a value where the function has such a result
abbrev pub return_value_length : Option Held → ℕ
return_value_length None = return_length
return_value_length (Some h) = move_length * held_bytes h + return_length

-- ---- functions and programs

-- the start of a function: each parameter is taken, and each other variable becomes 0
abbrev pub entry_length : List Held → ℕ
entry_length held = move_length * all_held_bytes held + next_length

-- the start of a program, which sets these bytes
abbrev pub start_length : List (ℕ × ℕ) → ℕ
start_length start = 8 + 6 * length start
