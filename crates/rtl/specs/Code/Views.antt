-- How operations, graphs, items and programs of the code stand for those of the definitions: without the memory that holds their
-- lists.
use Rattle.std.specs.Prelude.{map}
use Rattle.rtl.specs.declared.operations.ByteOp.{ByteOp as WrittenOp}
use Rattle.rtl.specs.declared.operations.ByteOp.TheVariants as Written
use Rattle.rtl.specs.declared.graphs.Node.{Node as WrittenNode}
use Rattle.rtl.specs.declared.graphs.Graph.{Graph as WrittenGraph}
use Rattle.rtl.specs.declared.graphs.Bytes.{Bytes as WrittenBytes}
use Rattle.rtl.specs.declared.linear.LinItem.{LinItem as WrittenItem}
use Rattle.rtl.specs.declared.linear.LinItem.TheVariants as WrittenAs
use Rattle.rtl.specs.declared.linear.LinProgram.{LinProgram as WrittenLin}
use Rattle.rtl.specs.Operations.{ByteOp, Const, Move, Op, Mul, Div, Rem, Rlc, Rrc, Top, ClearCarry, SetCarry, FlipCarry, FromCarry, Load, Store, ReadPort, WritePort}
use Rattle.rtl.specs.Programs.{Node, Graph, Bytes}
use Rattle.rtl.specs.Items.{LinItem, LinProgram}
use Rattle.rtl.specs.Items as Item

abbrev pub op_of : {L : Type 0} → WrittenOp L → ByteOp L
op_of (Written.Const d n) = Const d n
op_of (Written.Move d s) = Move d s
op_of (Written.Op o d a b) = Op o d a b
op_of (Written.Mul l h a b) = Mul l h a b
op_of (Written.Div d a b) = Div d a b
op_of (Written.Rem d a b) = Rem d a b
op_of (Written.Rlc d a) = Rlc d a
op_of (Written.Rrc d a) = Rrc d a
op_of (Written.Top a) = Top a
op_of Written.ClearCarry = ClearCarry
op_of Written.SetCarry = SetCarry
op_of Written.FlipCarry = FlipCarry
op_of (Written.FromCarry d) = FromCarry d
op_of (Written.Load ds l h) = Load ds.items l h
op_of (Written.Store l h ss) = Store l h ss.items
op_of (Written.ReadPort d) = ReadPort d
op_of (Written.WritePort s) = WritePort s

abbrev pub node_of : {L : Type 0} → WrittenNode L → Node L
node_of n = record { ops = map op_of n.ops; exit = n.exit }

abbrev pub graph_of : {L : Type 0} → WrittenGraph L → Graph L
graph_of g = record { entry = g.entry; nodes = map node_of g.nodes }

abbrev pub program_of : {L : Type 0} → WrittenBytes L → Bytes L
program_of b = record { graphs = map graph_of b.graphs; calls = b.calls; main = b.main; start = b.start }

abbrev pub item_of : WrittenItem → LinItem
item_of (WrittenAs.Here n) = Item.Here n
item_of (WrittenAs.Op op) = Item.Op (op_of op)
item_of (WrittenAs.Label l) = Item.Label l
item_of (WrittenAs.Jump n) = Item.Jump n
item_of (WrittenAs.Test p n) = Item.Test p n
item_of (WrittenAs.Call f) = Item.Call f
item_of WrittenAs.Return = Item.Return

abbrev pub lin_program_of : WrittenLin → LinProgram
lin_program_of p = record { lins = map (map item_of) p.lins; main = p.main; start = p.start }
