-- Functions as graphs of byte operations, and programs of them (CerCo, deliverable 4.2: the graph languages RTL, ERTL and LTL, which
-- share one kind of program). A node or a function that isn't there is a node that goes on at itself, so that nothing depends on a
-- graph being whole.
use Rattle.std.specs.Prelude.{ℕ, List, [], ◌∷◌, map, Option, Some, None, slice_get}
use Rattle.cerco_traces.specs.LabelledGraphs.{NodeKind, LabelNode, BranchNode, CallNode, PlainNode, FlowGraph, SoundlyLabelled}
use Rattle.rtl.specs.declared.operations.Src.{Src}
use Rattle.rtl.specs.declared.operations.Src.TheVariants.{At, Byte}
use Rattle.rtl.specs.Operations.{ByteOp}
use Rattle.rtl.specs.Operations.{Const, Move, Op, Mul, Div, Rem, Rlc, Rrc, Top, ClearCarry, SetCarry, FlipCarry, FromCarry, Load, Store, ReadPort, WritePort}
use Rattle.rtl.specs.declared.graphs.Exit.{Exit}
use Rattle.rtl.specs.declared.graphs.Exit.TheVariants.{Next, Test, Call, Label, Return}
use Rattle.rtl.specs.Programs.{Node}
use Rattle.rtl.specs.Programs.{Graph}
use Rattle.rtl.specs.Programs.{Bytes}

-- ---- nodes and functions by number

-- a node that goes on at itself
abbrev pub stay : {L : Type 0} → ℕ → Node L
stay p = record { ops = []; exit = Next p }

abbrev pub node_or : {L : Type 0} → ℕ → Option (Node L) → Node L
node_or p None = stay p
node_or p (Some n) = n

abbrev pub node_at : {L : Type 0} → Graph L → ℕ → Node L
node_at g p = node_or p (slice_get g.nodes p)

abbrev pub ops_at : {L : Type 0} → Graph L → ℕ → List (ByteOp L)
ops_at g p = (node_at g p).ops

abbrev pub exit_at : {L : Type 0} → Graph L → ℕ → Exit L
exit_at g p = (node_at g p).exit

abbrev pub graph_or : {L : Type 0} → Option (Graph L) → Graph L
graph_or None = record { entry = 0; nodes = stay 0 ∷ [] }
graph_or (Some g) = g

abbrev pub graph_at : {L : Type 0} → List (Graph L) → ℕ → Graph L
graph_at graphs f = graph_or (slice_get graphs f)

-- ---- other names for locations

abbrev pub renamed_operand : {L M : Type 0} → (L → M) → Src L → Src M
renamed_operand f (At a) = At (f a)
renamed_operand f (Byte n) = Byte n

abbrev pub renamed_op : {L M : Type 0} → (L → M) → ByteOp L → ByteOp M
renamed_op f (Const d n) = Const (f d) n
renamed_op f (Move d s) = Move (f d) (f s)
renamed_op f (Op o d a b) = Op o (f d) (renamed_operand f a) (renamed_operand f b)
renamed_op f (Mul l h a b) = Mul (f l) (f h) (renamed_operand f a) (renamed_operand f b)
renamed_op f (Div d a b) = Div (f d) (f a) (f b)
renamed_op f (Rem d a b) = Rem (f d) (f a) (f b)
renamed_op f (Rlc d a) = Rlc (f d) (f a)
renamed_op f (Rrc d a) = Rrc (f d) (f a)
renamed_op f (Top a) = Top (f a)
renamed_op f ClearCarry = ClearCarry
renamed_op f SetCarry = SetCarry
renamed_op f FlipCarry = FlipCarry
renamed_op f (FromCarry d) = FromCarry (f d)
renamed_op f (Load ds l h) = Load (map f ds) (f l) (f h)
renamed_op f (Store l h ss) = Store (f l) (f h) (map f ss)
renamed_op f (ReadPort d) = ReadPort (f d)
renamed_op f (WritePort s) = WritePort (f s)

abbrev pub renamed_exit : {L M : Type 0} → (L → M) → Exit L → Exit M
renamed_exit f (Next q) = Next q
renamed_exit f (Test a true_arm false_arm) = Test (f a) true_arm false_arm
renamed_exit f (Call g q) = Call g q
renamed_exit f (Label l q) = Label l q
renamed_exit f Return = Return

abbrev pub renamed_node : {L M : Type 0} → (L → M) → Node L → Node M
renamed_node f n = record { ops = map (renamed_op f) n.ops; exit = renamed_exit f n.exit }

abbrev pub renamed_graph : {L M : Type 0} → (L → M) → Graph L → Graph M
renamed_graph f g = record { entry = g.entry; nodes = map (renamed_node f) g.nodes }

-- the functions of a program, with numbers for their locations
abbrev pub numbered : {L : Type 0} → (L → ℕ) → Bytes L → List (Graph ℕ)
numbered number program = map (renamed_graph number) program.graphs

-- ---- the flow graph

-- a node with operations and then a label is a plain node
abbrev pub label_kind : {L : Type 0} → List (ByteOp L) → ℕ → NodeKind
label_kind [] q = LabelNode (Some q)
label_kind (op ∷ ops) q = PlainNode (Some q)

abbrev pub kind_of : {L : Type 0} → List (ByteOp L) → Exit L → NodeKind
kind_of ops (Next q) = PlainNode (Some q)
kind_of ops (Test a true_arm false_arm) = BranchNode true_arm false_arm
kind_of ops (Call f q) = CallNode (Some q)
kind_of ops (Label l q) = label_kind ops q
kind_of ops Return = PlainNode None

abbrev pub kind_or_none : {L : Type 0} → Option (Node L) → Option NodeKind
kind_or_none None = None
kind_or_none (Some n) = Some (kind_of n.ops n.exit)

abbrev pub flow_of : {L : Type 0} → Graph L → FlowGraph
flow_of g = λ p. kind_or_none (slice_get g.nodes p)

-- the graph is soundly labelled
abbrev pub IsSoundlyLabelled : {L : Type 0} → Graph L → Type 0
IsSoundlyLabelled g = SoundlyLabelled (flow_of g) g.entry

-- Each function of the program is soundly labelled.
abbrev pub AreSoundlyLabelled : {L : Type 0} → List (Graph L) → Type 0
AreSoundlyLabelled [] = Unit {0}
AreSoundlyLabelled (g ∷ gs) = IsSoundlyLabelled g × AreSoundlyLabelled gs
