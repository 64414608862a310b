-- Other names for locations, one after the other, are other names at once.
use Rattle.std.proofs.Common.{◌≡◌, ℕ, zero, suc, List, [], ◌∷◌, map, Option, Some, None, slice_get, refl, ap, ap₂}
use Rattle.rtl.specs.declared.operations.Src.{Src}
use Rattle.rtl.specs.declared.operations.Src.TheVariants.{At, Byte}
use Rattle.rtl.specs.Operations.{ByteOp}
use Rattle.rtl.specs.Operations.{Const, Move, Op, Mul, Div, Rem, Rlc, Rrc, Top, ClearCarry, SetCarry, FlipCarry, FromCarry, Load, Store, ReadPort, WritePort}
use Rattle.rtl.specs.declared.graphs.Exit.{Exit}
use Rattle.rtl.specs.declared.graphs.Exit.TheVariants.{Next, Test, Call, Label, Return}
use Rattle.rtl.specs.Programs.{Node}
use Rattle.rtl.specs.Programs.{Graph}
use Rattle.rtl.specs.Graphs.{renamed_operand, renamed_op, renamed_exit, renamed_node, renamed_graph, node_or, node_at}

module _ {L M N : Type 0} (g : M → N) (f : L → M) where
  pub operand_twice : (a : Src L) → renamed_operand g (renamed_operand f a) ≡ renamed_operand (λ l. g (f l)) a
  operand_twice (At a) = refl
  operand_twice (Byte n) = refl

  pub bytes_twice : (ds : List L) → map g (map f ds) ≡ map (λ l. g (f l)) ds
  bytes_twice [] = refl
  bytes_twice (d ∷ ds) = ap (λ xs. g (f d) ∷ xs) (bytes_twice ds)

  pub op_twice : (op : ByteOp L) → renamed_op g (renamed_op f op) ≡ renamed_op (λ l. g (f l)) op
  op_twice (Const d n) = refl
  op_twice (Move d s) = refl
  op_twice (Op o d a b) = ap₂ (λ x y. Op o (g (f d)) x y) (operand_twice a) (operand_twice b)
  op_twice (Mul l h a b) = ap₂ (λ x y. Mul (g (f l)) (g (f h)) x y) (operand_twice a) (operand_twice b)
  op_twice (Div d a b) = refl
  op_twice (Rem d a b) = refl
  op_twice (Rlc d a) = refl
  op_twice (Rrc d a) = refl
  op_twice (Top a) = refl
  op_twice ClearCarry = refl
  op_twice SetCarry = refl
  op_twice FlipCarry = refl
  op_twice (FromCarry d) = refl
  op_twice (Load ds l h) = ap (λ x. Load x (g (f l)) (g (f h))) (bytes_twice ds)
  op_twice (Store l h ss) = ap (λ x. Store (g (f l)) (g (f h)) x) (bytes_twice ss)
  op_twice (ReadPort d) = refl
  op_twice (WritePort s) = refl

  pub exit_twice : (e : Exit L) → renamed_exit g (renamed_exit f e) ≡ renamed_exit (λ l. g (f l)) e
  exit_twice (Next q) = refl
  exit_twice (Test a true_arm false_arm) = refl
  exit_twice (Call h q) = refl
  exit_twice (Label l q) = refl
  exit_twice Return = refl

  pub ops_twice : (ops : List (ByteOp L)) → map (renamed_op g) (map (renamed_op f) ops) ≡ map (renamed_op (λ l. g (f l))) ops
  ops_twice [] = refl
  ops_twice (op ∷ ops) = ap₂ (λ x xs. x ∷ xs) (op_twice op) (ops_twice ops)

  pub node_twice : (n : Node L) → renamed_node g (renamed_node f n) ≡ renamed_node (λ l. g (f l)) n
  node_twice n = ap₂ (λ (ops : List (ByteOp N)) (exit : Exit N). record { ops = ops; exit = exit }) (ops_twice n.ops) (exit_twice n.exit)

  pub nodes_twice : (ns : List (Node L)) → map (renamed_node g) (map (renamed_node f) ns) ≡ map (renamed_node (λ l. g (f l))) ns
  nodes_twice [] = refl
  nodes_twice (n ∷ ns) = ap₂ (λ x xs. x ∷ xs) (node_twice n) (nodes_twice ns)

  pub graph_twice : (h : Graph L) → renamed_graph g (renamed_graph f h) ≡ renamed_graph (λ l. g (f l)) h
  graph_twice h = ap (λ (nodes : List (Node N)). record { entry = h.entry; nodes = nodes }) (nodes_twice h.nodes)

-- the node of a renamed graph is the renamed node
module _ {L M : Type 0} (f : L → M) where
  at_or : (p : ℕ) (ns : List (Node L)) (k : ℕ) → node_or p (slice_get (map (renamed_node f) ns) k) ≡ renamed_node f (node_or p (slice_get ns k))
  at_or p ns k = by_case (slice_get ns k) (slice_get (map (renamed_node f) ns) k) (found ns k)
    where
      renamed_or_none : Option (Node L) → Option (Node M)
      renamed_or_none None = None
      renamed_or_none (Some n) = Some (renamed_node f n)

      found : (ns : List (Node L)) (k : ℕ) → slice_get (map (renamed_node f) ns) k ≡ renamed_or_none (slice_get ns k)
      found [] k = refl
      found (n ∷ ns) zero = refl
      found (n ∷ ns) (suc k) = found ns k

      by_case : (a : Option (Node L)) (b : Option (Node M)) → b ≡ renamed_or_none a → node_or p b ≡ renamed_node f (node_or p a)
      by_case None b e = ap (node_or p) e
      by_case (Some n) b e = ap (node_or p) e

  pub node_renamed : (h : Graph L) (p : ℕ) → node_at (renamed_graph f h) p ≡ renamed_node f (node_at h p)
  node_renamed h p = at_or p h.nodes p
