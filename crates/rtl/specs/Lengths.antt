-- How long programs of the byte languages are at most, and how many bytes of a call's own they need. The length counts the bytes of
-- the code with every place a cell and every jump in its longest form (Intel, MCS-51 family: lengths of instructions): it is the sum
-- that no pass raises. The register need of a function is how many virtual registers of its own it has.
use Rattle.std.specs.Prelude.{ℕ, ◌+◌, ◌*◌, List, [], ◌∷◌, length, map, nat_eq, nat_lt, if◌then◌else◌, Bool, false, ◌||◌}
use Rattle.rtl.specs.declared.locations.Vreg.{Vreg}
use Rattle.rtl.specs.declared.locations.Place.{Place}
use Rattle.rtl.specs.Operations.{ByteOp}
use Rattle.rtl.specs.Operations.{Const, Move, Op, Mul, Div, Rem, Rlc, Rrc, Top, ClearCarry, SetCarry, FlipCarry, FromCarry, Load, Store, ReadPort, WritePort}
use Rattle.rtl.specs.declared.graphs.Exit.{Exit}
use Rattle.rtl.specs.declared.graphs.Exit.TheVariants.{Next, Test, Call, Label, Return}
use Rattle.rtl.specs.Programs.{Node}
use Rattle.rtl.specs.Programs.{Graph}
use Rattle.rtl.specs.Programs.{Bytes}
use Rattle.rtl.specs.Items.{LinItem}
use Rattle.rtl.specs.Items as Item
use Rattle.rtl.specs.Items.{LinProgram}
use Rattle.rtl.specs.Locations.{vreg_number, place_number}
use Rattle.rtl.specs.Graphs.{renamed_op, numbered}
use Rattle.rtl.specs.WellFormed.{locations_in}

-- ---- sums

abbrev pub total : {A : Type 0} → (A → ℕ) → List A → ℕ
total f [] = 0
total f (x ∷ xs) = f x + total f xs

-- ---- length

-- the bytes that move a value of external RAM: three for each byte, and one between two
abbrev pub value_length : List ℕ → ℕ
value_length [] = 0
value_length (a ∷ []) = 3
value_length (a ∷ (b ∷ more)) = 4 + value_length (b ∷ more)

-- a location that is moved to itself needs no code
abbrev pub op_length : ByteOp ℕ → ℕ
op_length (Const d n) = 3
op_length (Move d s) = if nat_eq d s then 0 else 3
op_length (Op o d a b) = 6
op_length (Mul l h a b) = 11
op_length (Div d a b) = 8
op_length (Rem d a b) = 9
op_length (Rlc d a) = 5
op_length (Rrc d a) = 5
op_length (Top a) = 3
op_length ClearCarry = 1
op_length SetCarry = 1
op_length FlipCarry = 1
op_length (FromCarry d) = 4
op_length (Load ds l h) = 6 + value_length ds
op_length (Store l h ss) = 6 + value_length ss
op_length (ReadPort d) = 4
op_length (WritePort s) = 4

abbrev pub exit_length : {L : Type 0} → Exit L → ℕ
exit_length (Next q) = 3
exit_length (Test a true_arm false_arm) = 9
exit_length (Call f q) = 3
exit_length (Label l q) = 4
exit_length Return = 1

abbrev pub node_length : Node ℕ → ℕ
node_length n = total op_length n.ops + exit_length n.exit

abbrev pub graph_length : Graph ℕ → ℕ
graph_length g = total node_length g.nodes

-- the start: its fixed part, and what sets each initialised byte
abbrev pub start_length : List (ℕ × ℕ) → ℕ
start_length bytes = 8 + 6 * length bytes

-- the length of a program of graphs
abbrev pub program_length : {L : Type 0} → (L → ℕ) → Bytes L → ℕ
program_length number program = start_length program.start + total graph_length (numbered number program)

-- the length of a program of RTL or ERTL, and of LTL
abbrev pub vreg_length : Bytes Vreg → ℕ
vreg_length = program_length vreg_number

abbrev pub ltl_length : Bytes Place → ℕ
ltl_length = program_length place_number

abbrev pub item_length : LinItem → ℕ
item_length (Item.Here n) = 0
item_length (Item.Op op) = op_length (renamed_op place_number op)
item_length (Item.Label l) = 1
item_length (Item.Jump n) = 3
item_length (Item.Test p n) = 9
item_length (Item.Call f) = 3
item_length Item.Return = 1

abbrev pub items_length : List LinItem → ℕ
items_length items = total item_length items

-- the length of a program of LIN
abbrev pub lin_length : LinProgram → ℕ
lin_length program = start_length program.start + total items_length program.lins

-- ---- register need

abbrev pub stands_in : ℕ → List ℕ → Bool
stands_in n [] = false
stands_in n (m ∷ ms) = nat_eq m n || stands_in n ms

-- how many different numbers from 24 on stand here
abbrev pub own_count : List ℕ → ℕ
own_count [] = 0
own_count (v ∷ vs) = (if nat_lt v 24 || stands_in v vs then 0 else 1) + own_count vs

-- the register need of a function of RTL or ERTL: how many virtual registers of a call's own its graph names
abbrev pub register_need : Graph Vreg → ℕ
register_need g = own_count (map vreg_number (locations_in g))
