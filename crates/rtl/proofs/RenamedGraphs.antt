-- What a graph names, and its flow, under other names for its locations.
use Rattle.std.proofs.Common.{◌≡◌, ℕ, zero, suc, List, [], ◌∷◌, ◌++◌, map, Some, slice_get, refl, sym, ap, ap₂, ◌∙◌, subst}
use Rattle.std.proofs.lemmas.List.{map-append}
use Rattle.cerco_traces.specs.LabelledGraphs.{SoundlyLabelled}
use Rattle.rtl.specs.declared.operations.Src.{Src}
use Rattle.rtl.specs.declared.operations.Src.TheVariants.{At, Byte}
use Rattle.rtl.specs.Operations.{ByteOp}
use Rattle.rtl.specs.Operations.{Const, Move, Op, Mul, Div, Rem, Rlc, Rrc, Top, ClearCarry, SetCarry, FlipCarry, FromCarry, Load, Store, ReadPort, WritePort}
use Rattle.rtl.specs.declared.graphs.Exit.{Exit}
use Rattle.rtl.specs.declared.graphs.Exit.TheVariants.{Next, Test, Call, Label, Return}
use Rattle.rtl.specs.Programs.{Node}
use Rattle.rtl.specs.Programs.{Graph}
use Rattle.rtl.specs.Graphs.{renamed_operand, renamed_op, renamed_exit, renamed_node, renamed_graph, label_kind, kind_of, kind_or_none, flow_of, IsSoundlyLabelled}
use Rattle.rtl.specs.WellFormed.{gathered, exit_nodes, exit_functions, exit_labels, functions_in, labels_in, operand_locations, op_locations, exit_locations, node_locations, locations_in}

-- functions that agree everywhere are one
same_function : {A B : Type 0} (f g : A → B) → ((x : A) → f x ≡ g x) → f ≡ g
same_function f g same = λ i x. same x i

module _ {L M : Type 0} (f : L → M) where
  operands_renamed : (a : Src L) → operand_locations (renamed_operand f a) ≡ map f (operand_locations a)
  operands_renamed (At a) = refl
  operands_renamed (Byte n) = refl

  both_renamed : (a b : Src L) → operand_locations (renamed_operand f a) ++ operand_locations (renamed_operand f b) ≡ map f (operand_locations a ++ operand_locations b)
  both_renamed a b = ap₂ (λ xs ys. xs ++ ys) (operands_renamed a) (operands_renamed b) ∙ sym (map-append f (operand_locations a) (operand_locations b))

  pub op_locations_renamed : (op : ByteOp L) → op_locations (renamed_op f op) ≡ map f (op_locations op)
  op_locations_renamed (Const d n) = refl
  op_locations_renamed (Move d s) = refl
  op_locations_renamed (Op o d a b) = ap (λ xs. f d ∷ xs) (both_renamed a b)
  op_locations_renamed (Mul l h a b) = ap (λ xs. f l ∷ f h ∷ xs) (both_renamed a b)
  op_locations_renamed (Div d a b) = refl
  op_locations_renamed (Rem d a b) = refl
  op_locations_renamed (Rlc d a) = refl
  op_locations_renamed (Rrc d a) = refl
  op_locations_renamed (Top a) = refl
  op_locations_renamed ClearCarry = refl
  op_locations_renamed SetCarry = refl
  op_locations_renamed FlipCarry = refl
  op_locations_renamed (FromCarry d) = refl
  op_locations_renamed (Load ds l h) = refl
  op_locations_renamed (Store l h ss) = refl
  op_locations_renamed (ReadPort d) = refl
  op_locations_renamed (WritePort s) = refl

  ops_locations_renamed : (ops : List (ByteOp L)) → gathered op_locations (map (renamed_op f) ops) ≡ map f (gathered op_locations ops)
  ops_locations_renamed [] = refl
  ops_locations_renamed (op ∷ ops) = ap₂ (λ xs ys. xs ++ ys) (op_locations_renamed op) (ops_locations_renamed ops) ∙ sym (map-append f (op_locations op) (gathered op_locations ops))

  exit_locations_renamed : (e : Exit L) → exit_locations (renamed_exit f e) ≡ map f (exit_locations e)
  exit_locations_renamed (Next q) = refl
  exit_locations_renamed (Test a true_arm false_arm) = refl
  exit_locations_renamed (Call g q) = refl
  exit_locations_renamed (Label l q) = refl
  exit_locations_renamed Return = refl

  node_locations_renamed : (n : Node L) → node_locations (renamed_node f n) ≡ map f (node_locations n)
  node_locations_renamed n = ap₂ (λ xs ys. xs ++ ys) (ops_locations_renamed n.ops) (exit_locations_renamed n.exit) ∙ sym (map-append f (gathered op_locations n.ops) (exit_locations n.exit))

  nodes_locations_renamed : (ns : List (Node L)) → gathered node_locations (map (renamed_node f) ns) ≡ map f (gathered node_locations ns)
  nodes_locations_renamed [] = refl
  nodes_locations_renamed (n ∷ ns) = ap₂ (λ xs ys. xs ++ ys) (node_locations_renamed n) (nodes_locations_renamed ns) ∙ sym (map-append f (node_locations n) (gathered node_locations ns))

  -- it names the new locations
  pub locations_renamed : (g : Graph L) → locations_in (renamed_graph f g) ≡ map f (locations_in g)
  locations_renamed g = nodes_locations_renamed g.nodes

  exit_nodes_kept : (e : Exit L) → exit_nodes (renamed_exit f e) ≡ exit_nodes e
  exit_nodes_kept (Next q) = refl
  exit_nodes_kept (Test a true_arm false_arm) = refl
  exit_nodes_kept (Call g q) = refl
  exit_nodes_kept (Label l q) = refl
  exit_nodes_kept Return = refl

  exit_functions_kept : (e : Exit L) → exit_functions (renamed_exit f e) ≡ exit_functions e
  exit_functions_kept (Next q) = refl
  exit_functions_kept (Test a true_arm false_arm) = refl
  exit_functions_kept (Call g q) = refl
  exit_functions_kept (Label l q) = refl
  exit_functions_kept Return = refl

  exit_labels_kept : (e : Exit L) → exit_labels (renamed_exit f e) ≡ exit_labels e
  exit_labels_kept (Next q) = refl
  exit_labels_kept (Test a true_arm false_arm) = refl
  exit_labels_kept (Call g q) = refl
  exit_labels_kept (Label l q) = refl
  exit_labels_kept Return = refl

  -- what is gathered from exits stays
  gathered_kept : (from : Node L → List ℕ) (to : Node M → List ℕ) → ((n : Node L) → to (renamed_node f n) ≡ from n) → (ns : List (Node L)) → gathered to (map (renamed_node f) ns) ≡ gathered from ns
  gathered_kept from to same [] = refl
  gathered_kept from to same (n ∷ ns) = ap₂ (λ xs ys. xs ++ ys) (same n) (gathered_kept from to same ns)

  -- it calls the same functions, and has the same labels
  pub functions_kept : (g : Graph L) → functions_in (renamed_graph f g) ≡ functions_in g
  functions_kept g = gathered_kept (λ n. exit_functions n.exit) (λ n. exit_functions n.exit) (λ n. exit_functions_kept n.exit) g.nodes

  pub labels_kept : (g : Graph L) → labels_in (renamed_graph f g) ≡ labels_in g
  labels_kept g = gathered_kept (λ n. exit_labels n.exit) (λ n. exit_labels n.exit) (λ n. exit_labels_kept n.exit) g.nodes

  label_kind_kept : (ops : List (ByteOp L)) (q : ℕ) → label_kind (map (renamed_op f) ops) q ≡ label_kind ops q
  label_kind_kept [] q = refl
  label_kind_kept (op ∷ ops) q = refl

  kind_kept : (ops : List (ByteOp L)) (e : Exit L) → kind_of (map (renamed_op f) ops) (renamed_exit f e) ≡ kind_of ops e
  kind_kept ops (Next q) = refl
  kind_kept ops (Test a true_arm false_arm) = refl
  kind_kept ops (Call g q) = refl
  kind_kept ops (Label l q) = label_kind_kept ops q
  kind_kept ops Return = refl

  kinds_kept : (ns : List (Node L)) (p : ℕ) → kind_or_none (slice_get (map (renamed_node f) ns) p) ≡ kind_or_none (slice_get ns p)
  kinds_kept [] p = refl
  kinds_kept (n ∷ ns) zero = ap Some (kind_kept n.ops n.exit)
  kinds_kept (n ∷ ns) (suc p) = kinds_kept ns p

  -- it has the same flow, and so it is soundly labelled where the graph is
  pub flow_kept : (g : Graph L) → flow_of (renamed_graph f g) ≡ flow_of g
  flow_kept g = same_function (flow_of (renamed_graph f g)) (flow_of g) (kinds_kept g.nodes)

  pub still_labelled : (g : Graph L) → IsSoundlyLabelled g → IsSoundlyLabelled (renamed_graph f g)
  still_labelled g sound = subst (λ flow. SoundlyLabelled flow g.entry) (sym (flow_kept g)) sound
