-- No graph is longer under other names.
use Rattle.std.proofs.Common.{◌≡◌, ℕ, ◌+◌, ◌≤◌, List, [], ◌∷◌, map, Bool, true, false, nat_eq, if◌then◌else◌, refl, ap, arith, eq-eqb, eqb-true}
use Rattle.rtl.specs.declared.graphs.Exit.{Exit}
use Rattle.rtl.specs.declared.graphs.Exit.TheVariants.{Next, Test, Call, Label, Return}
use Rattle.rtl.specs.Operations.{ByteOp}
use Rattle.rtl.specs.Operations.{Const, Move, Op, Mul, Div, Rem, Rlc, Rrc, Top, ClearCarry, SetCarry, FlipCarry, FromCarry, Load, Store, ReadPort, WritePort}
use Rattle.rtl.specs.Programs.{Node, Graph}
use Rattle.rtl.specs.Graphs.{renamed_op, renamed_exit, renamed_node, renamed_graph}
use Rattle.rtl.specs.Lengths.{total, value_length, op_length, exit_length, node_length, graph_length}

module _ (f : ℕ → ℕ) where
  value_kept : (ds : List ℕ) → value_length (map f ds) ≡ value_length ds
  value_kept [] = refl
  value_kept (d ∷ []) = refl
  value_kept (d ∷ (e ∷ ds)) = ap (λ n. 4 + n) (value_kept (e ∷ ds))

  -- what is moved to itself still is
  move_less : (d s : ℕ) → (if nat_eq (f d) (f s) then 0 else 3) ≤ (if nat_eq d s then 0 else 3)
  move_less d s = by_test (nat_eq d s) refl
    where
      small : (b : Bool) → (if b then 0 else 3) ≤ 3
      small true = omega arith
      small false = omega arith

      by_test : (b : Bool) → nat_eq d s ≡ b → (if nat_eq (f d) (f s) then 0 else 3) ≤ (if b then 0 else 3)
      by_test true e =
          let same : nat_eq (f d) (f s) ≡ true = eq-eqb (f d) (f s) (ap f (eqb-true d s e)) in
          rw same (omega arith)
      by_test false e = small (nat_eq (f d) (f s))

  op_less : (op : ByteOp ℕ) → op_length (renamed_op f op) ≤ op_length op
  op_less (Const d n) = omega arith
  op_less (Move d s) = move_less d s
  op_less (Op o d a b) = omega arith
  op_less (Mul l h a b) = omega arith
  op_less (Div d a b) = omega arith
  op_less (Rem d a b) = omega arith
  op_less (Rlc d a) = omega arith
  op_less (Rrc d a) = omega arith
  op_less (Top a) = omega arith
  op_less ClearCarry = omega arith
  op_less SetCarry = omega arith
  op_less FlipCarry = omega arith
  op_less (FromCarry d) = omega arith
  op_less (Load ds l h) = let e = value_kept ds in omega (arith, e)
  op_less (Store l h ss) = let e = value_kept ss in omega (arith, e)
  op_less (ReadPort d) = omega arith
  op_less (WritePort s) = omega arith

  ops_less : (ops : List (ByteOp ℕ)) → total op_length (map (renamed_op f) ops) ≤ total op_length ops
  ops_less [] = omega arith
  ops_less (op ∷ ops) = let one = op_less op in let more = ops_less ops in omega (arith, one, more)

  exit_same : (e : Exit ℕ) → exit_length (renamed_exit f e) ≡ exit_length e
  exit_same (Next q) = refl
  exit_same (Test a true_arm false_arm) = refl
  exit_same (Call g q) = refl
  exit_same (Label l q) = refl
  exit_same Return = refl

  nodes_less : (ns : List (Node ℕ)) → total node_length (map (renamed_node f) ns) ≤ total node_length ns
  nodes_less [] = omega arith
  nodes_less (n ∷ ns) =
      let ops = ops_less n.ops in
      let exit = exit_same n.exit in
      let more = nodes_less ns in
      omega (arith, ops, exit, more)

  pub graph_less : (g : Graph ℕ) → graph_length (renamed_graph f g) ≤ graph_length g
  graph_less g = nodes_less g.nodes
