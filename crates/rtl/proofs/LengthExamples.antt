-- Lengths and register needs of small programs, and of the sequences that make up the 16-bit operations.
use Rattle.std.proofs.Common.{◌≡◌, ℕ, List, [], ◌∷◌, refl}
use Rattle.rtl.specs.declared.operations.Src.TheVariants.{At, Byte}
use Rattle.rtl.specs.declared.operations.Arith.TheVariants.{Add, Addc, Subb, Or}
use Rattle.rtl.specs.Operations.{ByteOp}
use Rattle.rtl.specs.Operations.{Const, Move, Op, Mul, Div, Rem, Rrc, Top, ClearCarry, FromCarry, Load, Store}
use Rattle.rtl.specs.declared.graphs.Exit.TheVariants.{Next, Test, Return}
use Rattle.rtl.specs.Programs.{Node}
use Rattle.rtl.specs.Lengths.{node_length, register_need, vreg_length, ltl_length, lin_length}
use Rattle.rtl.proofs.Samples.{vreg, node, main_graph, less_graph, rtl_sample, ertl_sample, ltl_sample, lin_sample}

-- a node of these operations that goes on to another node
abbrev goes_on : List (ByteOp ℕ) → Node ℕ
goes_on ops = node ops (Next 0)

-- a number of two bytes
constant : node_length (goes_on (Const 25 1 ∷ Const 26 0 ∷ [])) ≡ 9
constant = refl

sum : node_length (goes_on (Op Add 25 (At 25) (At 27) ∷ Op Addc 26 (At 26) (At 28) ∷ [])) ≡ 15
sum = refl

difference : node_length (goes_on (ClearCarry ∷ Op Subb 25 (At 25) (At 27) ∷ Op Subb 26 (At 26) (At 28) ∷ [])) ≡ 16
difference = refl

product : node_length (goes_on (Mul 25 26 (At 25) (At 27) ∷ [])) ≡ 14
product = refl

quotient : node_length (goes_on (Div 25 25 27 ∷ Const 26 0 ∷ [])) ≡ 14
quotient = refl

remainder : node_length (goes_on (Rem 25 25 27 ∷ Const 26 0 ∷ [])) ≡ 15
remainder = refl

-- equality
equal : node_length (goes_on (ClearCarry ∷ Op Subb 25 (At 25) (At 27) ∷ Op Subb 26 (At 26) (At 28) ∷ Op Or 25 (At 25) (At 26) ∷ Op Add 25 (At 25) (Byte 255) ∷ FromCarry 25 ∷ Const 26 0 ∷ [])) ≡ 35
equal = refl

-- an arithmetic shift to the right by one, a sign extension
halved : node_length (goes_on (Top 26 ∷ Rrc 26 26 ∷ Rrc 25 25 ∷ [])) ≡ 16
halved = refl

extended : node_length (goes_on (Top 25 ∷ Op Subb 26 (At 25) (At 25) ∷ [])) ≡ 12
extended = refl

-- values of one, two and four bytes from external RAM, and to it
loads_one : node_length (goes_on (Load (25 ∷ []) 25 26 ∷ [])) ≡ 12
loads_one = refl

loads_two : node_length (goes_on (Load (25 ∷ 26 ∷ []) 25 26 ∷ [])) ≡ 16
loads_two = refl

stores_four : node_length (goes_on (Store 25 26 (27 ∷ 28 ∷ 29 ∷ 30 ∷ []) ∷ [])) ≡ 24
stores_four = refl

-- a test of two bytes
tests : node_length (node (Op Or 24 (At 25) (At 26) ∷ []) (Test 24 1 2)) ≡ 15
tests = refl

-- a location that is moved to itself, and a return
returns : node_length (node (Move 25 25 ∷ []) Return) ≡ 1
returns = refl

-- whole programs: 14 bytes for the start, which sets one byte. Where nodes follow each other, linear code has no jump
rtl_length : vreg_length rtl_sample ≡ 81
rtl_length = refl

ertl_length : vreg_length ertl_sample ≡ 81
ertl_length = refl

ltl_is : ltl_length ltl_sample ≡ 81
ltl_is = refl

lin_is : lin_length lin_sample ≡ 60
lin_is = refl

-- one virtual register of its own in each function
needs : (register_need (main_graph (vreg 24) (vreg 12)) ≡ 1) × (register_need (less_graph (vreg 24) (vreg 12)) ≡ 1)
needs = (refl, refl)
