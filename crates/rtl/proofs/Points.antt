-- What holds of each operation of a graph holds at each of its points; what no operation writes was written before none; and what is
-- live at a point, or written there, is named.
use Rattle.std.proofs.Common.{◌≡◌, ℕ, zero, suc, ◌⊎◌, List, [], ◌∷◌, ◌++◌, map, slice_get, inl, inr, refl, sym, ap, ◌∙◌, subst}
use Rattle.std.specs.List.{AllByRecursion}
use Rattle.cerco_traces.specs.LabelledGraphs.{In}
use Rattle.rtl.specs.declared.operations.Src.{Src}
use Rattle.rtl.specs.declared.operations.Src.TheVariants.{At, Byte}
use Rattle.rtl.specs.declared.operations.Arith.{Arith}
use Rattle.rtl.specs.declared.operations.Arith.TheVariants.{Add, Addc, Subb, And, Or, Xor}
use Rattle.rtl.specs.Operations.{ByteOp}
use Rattle.rtl.specs.Operations.{Const, Move, Op, Mul, Div, Rem, Rlc, Rrc, Top, ClearCarry, SetCarry, FlipCarry, FromCarry, Load, Store, ReadPort, WritePort}
use Rattle.rtl.specs.declared.graphs.Exit.{Exit}
use Rattle.rtl.specs.declared.graphs.Exit.TheVariants.{Next, Test, Call, Label, Return}
use Rattle.rtl.specs.Programs.{Node}
use Rattle.rtl.specs.Programs.{Graph}
use Rattle.rtl.specs.Effects.{Storage, Loc, Carry, operand_reads, arith_reads, arith_writes, reads, writes}
use Rattle.rtl.specs.Graphs.{node_or, ops_at, exit_at}
use Rattle.rtl.specs.Liveness.{IsAmong, IsPoint, WrittenBefore, written, past, through, Uses, Live, used, kept, used_by_exit, onward}
use Rattle.rtl.specs.CallingConvention.{Path, at_entry, past as past_path, through as through_path}
use Rattle.rtl.specs.WellFormed.{gathered, op_locations, operand_locations, exit_locations, node_locations, locations_in}

-- each operation of the graph is so
abbrev pub AllOps : (ByteOp ℕ → Type 0) → Graph ℕ → Type 0
AllOps P g = AllByRecursion (λ n. AllByRecursion P n.ops) g.nodes

module _ (P : ByteOp ℕ → Type 0) where
  in_nodes : (ns : List (Node ℕ)) (p k : ℕ) → AllByRecursion (λ n. AllByRecursion P n.ops) ns → AllByRecursion P (node_or p (slice_get ns k)).ops
  in_nodes [] p k all = tt
  in_nodes (n ∷ ns) p zero all = all.0
  in_nodes (n ∷ ns) p (suc k) all = in_nodes ns p k all.1

  pub at_node : (g : Graph ℕ) (p : ℕ) → AllOps P g → AllByRecursion P (ops_at g p)
  at_node g p all = in_nodes g.nodes p p all

  last_part : (front ops : List (ByteOp ℕ)) → AllByRecursion P (front ++ ops) → AllByRecursion P ops
  last_part [] ops all = all
  last_part (op ∷ front) ops all = last_part front ops all.1

  -- what holds of each operation holds of those that are left at a point
  pub at_point : (g : Graph ℕ) (p : ℕ) (ops : List (ByteOp ℕ)) → AllOps P g → IsPoint g p ops → AllByRecursion P ops
  at_point g p ops all point = last_part point.0 ops (subst (AllByRecursion P) (sym point.1) (at_node g p all))

-- what no operation writes was written before none
pub not_written : (g : Graph ℕ) (s : Storage) (p : ℕ) (ops : List (ByteOp ℕ)) → AllOps (λ op. IsAmong s (writes op) → ⊥) g → WrittenBefore g s p ops → ⊥
not_written g s p ops none (written p' op ops' point i) = (at_point (λ op. IsAmong s (writes op) → ⊥) g p (op ∷ ops') none point).0 i
not_written g s p ops none (past p' op ops' before) = not_written g s p (op ∷ ops') none before
not_written g s q ops none (through p q' call goes before) = not_written g s p [] none before

-- ---- what is live or written is named

in_first : (v : ℕ) (xs ys : List ℕ) → In v xs → In v (xs ++ ys)
in_first v [] ys i = absurd i
in_first v (x ∷ xs) ys (inl e) = inl e
in_first v (x ∷ xs) ys (inr i) = inr (in_first v xs ys i)

in_second : (v : ℕ) (xs ys : List ℕ) → In v ys → In v (xs ++ ys)
in_second v [] ys i = i
in_second v (x ∷ xs) ys i = inr (in_second v xs ys i)

same_number : (v w : ℕ) → Loc v ≡ Loc w → v ≡ w
same_number v w e = cc

-- locations among storages
among_locations : (v : ℕ) (xs : List ℕ) → IsAmong (Loc v) (map Loc xs) → In v xs
among_locations v [] i = absurd i
among_locations v (x ∷ xs) (inl e) = inl (same_number x v e)
among_locations v (x ∷ xs) (inr i) = inr (among_locations v xs i)

-- the locations that storages are
abbrev numbers : List Storage → List ℕ
numbers [] = []
numbers (Loc v ∷ xs) = v ∷ numbers xs
numbers (Carry ∷ xs) = numbers xs

among_numbers : (v : ℕ) (xs : List Storage) → IsAmong (Loc v) xs → In v (numbers xs)
among_numbers v [] i = absurd i
among_numbers v (Loc w ∷ xs) (inl e) = inl (same_number w v e)
among_numbers v (Loc w ∷ xs) (inr i) = inr (among_numbers v xs i)
among_numbers v (Carry ∷ xs) (inl e) = absurd cc
among_numbers v (Carry ∷ xs) (inr i) = among_numbers v xs i

-- all of these are among those
abbrev AllIn : List ℕ → List ℕ → Type 0
AllIn xs ys = (v : ℕ) → In v xs → In v ys

operands_in : (a b : Src ℕ) (v : ℕ) → In v (numbers (operand_reads a ++ operand_reads b)) → In v (operand_locations a ++ operand_locations b)
operands_in (At x) (At y) v i = i
operands_in (At x) (Byte n) v i = i
operands_in (Byte m) (At y) v i = i
operands_in (Byte m) (Byte n) v i = i

locs_in : (xs : List ℕ) (v : ℕ) → In v (numbers (map Loc xs)) → In v xs
locs_in [] v i = i
locs_in (x ∷ xs) v (inl e) = inl e
locs_in (x ∷ xs) v (inr i) = inr (locs_in xs v i)

arith_in : (o : Arith) (xs : List Storage) (v : ℕ) → In v (numbers (arith_reads o ++ xs)) → In v (numbers xs)
arith_in Add xs v i = i
arith_in Addc xs v i = i
arith_in Subb xs v i = i
arith_in And xs v i = i
arith_in Or xs v i = i
arith_in Xor xs v i = i

arith_out : (o : Arith) (v : ℕ) → In v (numbers (arith_writes o)) → ⊥
arith_out Add v i = i
arith_out Addc v i = i
arith_out Subb v i = i
arith_out And v i = i
arith_out Or v i = i
arith_out Xor v i = i

reads_in : (op : ByteOp ℕ) (v : ℕ) → In v (numbers (reads op)) → In v (op_locations op)
reads_in (Const d n) v i = absurd i
reads_in (Move d s) v i = inr i
reads_in (Op o d a b) v i = inr (operands_in a b v (arith_in o _ v i))
reads_in (Mul l h a b) v i = inr (inr (operands_in a b v i))
reads_in (Div d a b) v i = inr i
reads_in (Rem d a b) v i = inr i
reads_in (Rlc d a) v i = inr i
reads_in (Rrc d a) v i = inr i
reads_in (Top a) v i = i
reads_in ClearCarry v i = i
reads_in SetCarry v i = i
reads_in FlipCarry v i = i
reads_in (FromCarry d) v i = absurd i
reads_in (Load ds l h) v (inl e) = inl e
reads_in (Load ds l h) v (inr (inl e)) = inr (inl e)
reads_in (Load ds l h) v (inr (inr i)) = absurd i
reads_in (Store l h ss) v (inl e) = inl e
reads_in (Store l h ss) v (inr (inl e)) = inr (inl e)
reads_in (Store l h ss) v (inr (inr i)) = inr (inr (locs_in ss v i))
reads_in (ReadPort d) v i = absurd i
reads_in (WritePort s) v i = i

writes_in : (op : ByteOp ℕ) (v : ℕ) → In v (numbers (writes op)) → In v (op_locations op)
writes_in (Const d n) v i = i
writes_in (Move d s) v (inl e) = inl e
writes_in (Move d s) v (inr i) = absurd i
writes_in (Op o d a b) v (inl e) = inl e
writes_in (Op o d a b) v (inr i) = absurd (arith_out o v i)
writes_in (Mul l h a b) v (inl e) = inl e
writes_in (Mul l h a b) v (inr (inl e)) = inr (inl e)
writes_in (Mul l h a b) v (inr (inr i)) = absurd i
writes_in (Div d a b) v (inl e) = inl e
writes_in (Div d a b) v (inr i) = absurd i
writes_in (Rem d a b) v (inl e) = inl e
writes_in (Rem d a b) v (inr i) = absurd i
writes_in (Rlc d a) v (inl e) = inl e
writes_in (Rlc d a) v (inr i) = absurd i
writes_in (Rrc d a) v (inl e) = inl e
writes_in (Rrc d a) v (inr i) = absurd i
writes_in (Top a) v i = absurd i
writes_in ClearCarry v i = i
writes_in SetCarry v i = i
writes_in FlipCarry v i = i
writes_in (FromCarry d) v (inl e) = inl e
writes_in (FromCarry d) v (inr i) = absurd i
writes_in (Load ds l h) v i = inr (inr (locs_in ds v i))
writes_in (Store l h ss) v i = absurd i
writes_in (ReadPort d) v i = i
writes_in (WritePort s) v i = absurd i

nodes_in : (ns : List (Node ℕ)) (p k v : ℕ) → In v (node_locations (node_or p (slice_get ns k))) → In v (gathered node_locations ns)
nodes_in [] p k v i = absurd i
nodes_in (n ∷ ns) p zero v i = in_first v (node_locations n) (gathered node_locations ns) i
nodes_in (n ∷ ns) p (suc k) v i = in_second v (node_locations n) (gathered node_locations ns) (nodes_in ns p k v i)

ops_in : (front ops : List (ByteOp ℕ)) (op : ByteOp ℕ) (v : ℕ) → In v (op_locations op) → In v (gathered op_locations (front ++ op ∷ ops))
ops_in [] ops op v i = in_first v (op_locations op) (gathered op_locations ops) i
ops_in (f ∷ front) ops op v i = in_second v (op_locations f) _ (ops_in front ops op v i)

-- the graph names what an operation at a point names
named_at_point : (g : Graph ℕ) (p : ℕ) (op : ByteOp ℕ) (ops : List (ByteOp ℕ)) (v : ℕ) → IsPoint g p (op ∷ ops) → In v (op_locations op) → In v (locations_in g)
named_at_point g p op ops v point i =
    nodes_in g.nodes p p v (in_first v (gathered op_locations (ops_at g p)) (exit_locations (exit_at g p)) (subst (λ xs. In v (gathered op_locations xs)) point.1 (ops_in point.0 ops op v i)))

pub written_is_named : (g : Graph ℕ) (p : ℕ) (op : ByteOp ℕ) (ops : List (ByteOp ℕ)) (v : ℕ) → IsPoint g p (op ∷ ops) → IsAmong (Loc v) (writes op) → In v (locations_in g)
written_is_named g p op ops v point i = named_at_point g p op ops v point (writes_in op v (among_numbers v (writes op) i))

pub written_before_is_named : (g : Graph ℕ) (v p : ℕ) (ops : List (ByteOp ℕ)) → WrittenBefore g (Loc v) p ops → In v (locations_in g)
written_before_is_named g v p ops (written p' op ops' point i) = written_is_named g p op ops v point i
written_before_is_named g v p ops (past p' op ops' before) = written_before_is_named g v p (op ∷ ops) before
written_before_is_named g v p ops (through p' q call goes before) = written_before_is_named g v p' [] before

exit_uses : (first : ℕ) (g : Graph ℕ) (p v : ℕ) (exit : Exit ℕ) → Uses first exit g p (Loc v) → In v (exit_locations exit) ⊎ WrittenBefore g (Loc v) p []
exit_uses first g p v (Next q) u = absurd u
exit_uses first g p v (Test w true_arm false_arm) u = inl (inl (same_number w v u))
exit_uses first g p v (Call f q) u = inr u.1
exit_uses first g p v (Label l q) u = absurd u
exit_uses first g p v Return u = inr u.1

after_one : (front ops : List (ByteOp ℕ)) (op : ByteOp ℕ) → (front ++ op ∷ []) ++ ops ≡ front ++ op ∷ ops
after_one [] ops op = refl
after_one (f ∷ front) ops op = ap (λ xs. f ∷ xs) (after_one front ops op)

-- the point after an operation
pub next_point : (g : Graph ℕ) (p : ℕ) (op : ByteOp ℕ) (ops : List (ByteOp ℕ)) → IsPoint g p (op ∷ ops) → IsPoint g p ops
next_point g p op ops point = (point.0 ++ op ∷ [], after_one point.0 ops op ∙ point.1)

pub live_is_named : (first : ℕ) (g : Graph ℕ) (v p : ℕ) (ops : List (ByteOp ℕ)) → IsPoint g p ops → Live first g (Loc v) p ops → In v (locations_in g)
live_is_named first g v p ops point (used p' op ops' i) = named_at_point g p op ops' v point (reads_in op v (among_numbers v (reads op) i))
live_is_named first g v p ops point (kept p' op ops' out l) = live_is_named first g v p ops' (next_point g p op ops' point) l
live_is_named first g v p ops point (used_by_exit p' u) = by_case (exit_uses first g p v (exit_at g p) u)
  where
    by_case : In v (exit_locations (exit_at g p)) ⊎ WrittenBefore g (Loc v) p [] → In v (locations_in g)
    by_case (inl i) = nodes_in g.nodes p p v (in_second v (gathered op_locations (ops_at g p)) (exit_locations (exit_at g p)) i)
    by_case (inr before) = written_before_is_named g v p [] before
live_is_named first g v p ops point (onward p' q out goes l) = live_is_named first g v q (ops_at g q) ([], refl) l

-- ---- paths lead to points

pub path_to_point : (g : Graph ℕ) (p : ℕ) (ops : List (ByteOp ℕ)) → Path g p ops → IsPoint g p ops
path_to_point g p ops at_entry = ([], refl)
path_to_point g p ops (past_path p' op ops' path) = next_point g p op ops (path_to_point g p (op ∷ ops) path)
path_to_point g p ops (through_path p' q goes path) = ([], refl)

pub written_before_point : (g : Graph ℕ) (s : Storage) (p : ℕ) (ops : List (ByteOp ℕ)) → WrittenBefore g s p ops → IsPoint g p ops
written_before_point g s p ops (written p' op ops' point i) = next_point g p op ops point
written_before_point g s p ops (past p' op ops' before) = next_point g p op ops (written_before_point g s p (op ∷ ops) before)
written_before_point g s p ops (through p' q call goes before) = ([], refl)
