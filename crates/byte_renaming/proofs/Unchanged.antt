-- A graph under the names that it has is the same graph.
use Rattle.std.proofs.Common.{◌≡◌, List, [], ◌∷◌, map, refl, ap, ap₂}
use Rattle.rtl.specs.declared.operations.Src.{Src}
use Rattle.rtl.specs.declared.operations.Src.TheVariants.{At, Byte}
use Rattle.rtl.specs.Operations.{ByteOp}
use Rattle.rtl.specs.Operations.{Const, Move, Op, Mul, Div, Rem, Rlc, Rrc, Top, ClearCarry, SetCarry, FlipCarry, FromCarry, Load, Store, ReadPort, WritePort}
use Rattle.rtl.specs.declared.graphs.Exit.{Exit}
use Rattle.rtl.specs.declared.graphs.Exit.TheVariants.{Next, Test, Call, Label, Return}
use Rattle.rtl.specs.Programs.{Node, Graph}
use Rattle.rtl.specs.Graphs.{renamed_operand, renamed_op, renamed_exit, renamed_node, renamed_graph}

module _ {L : Type 0} where
  abbrev itself : L → L
  itself l = l

  operand_same : (a : Src L) → renamed_operand itself a ≡ a
  operand_same (At v) = refl
  operand_same (Byte n) = refl

  list_same : (ds : List L) → map itself ds ≡ ds
  list_same [] = refl
  list_same (d ∷ ds) = ap (λ xs. d ∷ xs) (list_same ds)

  pub op_same : (op : ByteOp L) → renamed_op itself op ≡ op
  op_same (Const d n) = refl
  op_same (Move d s) = refl
  op_same (Op o d a b) = ap₂ (λ x y. Op o d x y) (operand_same a) (operand_same b)
  op_same (Mul l h a b) = ap₂ (λ x y. Mul l h x y) (operand_same a) (operand_same b)
  op_same (Div d a b) = refl
  op_same (Rem d a b) = refl
  op_same (Rlc d a) = refl
  op_same (Rrc d a) = refl
  op_same (Top a) = refl
  op_same ClearCarry = refl
  op_same SetCarry = refl
  op_same FlipCarry = refl
  op_same (FromCarry d) = refl
  op_same (Load ds l h) = ap (λ xs. Load xs l h) (list_same ds)
  op_same (Store l h ss) = ap (λ xs. Store l h xs) (list_same ss)
  op_same (ReadPort d) = refl
  op_same (WritePort s) = refl

  exit_same : (e : Exit L) → renamed_exit itself e ≡ e
  exit_same (Next q) = refl
  exit_same (Test a true_arm false_arm) = refl
  exit_same (Call g q) = refl
  exit_same (Label l q) = refl
  exit_same Return = refl

  ops_same : (ops : List (ByteOp L)) → map (renamed_op itself) ops ≡ ops
  ops_same [] = refl
  ops_same (op ∷ ops) = ap₂ (λ x xs. x ∷ xs) (op_same op) (ops_same ops)

  nodes_same : (ns : List (Node L)) → map (renamed_node itself) ns ≡ ns
  nodes_same [] = refl
  nodes_same (n ∷ ns) = ap₂ (λ x xs. x ∷ xs) (ap₂ (λ (ops : List (ByteOp L)) (exit : Exit L). record { ops = ops; exit = exit }) (ops_same n.ops) (exit_same n.exit)) (nodes_same ns)

  pub graph_same : (g : Graph L) → renamed_graph itself g ≡ g
  graph_same g = ap (λ (ns : List (Node L)). record { entry = g.entry; nodes = ns }) (nodes_same g.nodes)
