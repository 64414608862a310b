-- The nodes, operations and exits of a graph of the code, with numbers for virtual registers.
use Rattle.std.proofs.Common.{◌≡◌, ℕ, zero, suc, ◌<◌, ◌≤◌, List, [], ◌∷◌, length, map, drop, Some, option_map, slice_get, refl, sym, ap, ◌∙◌, subst, arith}
use Rattle.std.proofs.lemmas.List.{length-map}
use Rattle.std.proofs.lemmas.Option.{slice_get-map}
use Rattle.rtl.specs.declared.locations.Vreg.{Vreg}
use Rattle.rtl.specs.declared.operations.ByteOp.{ByteOp as WrittenOp}
use Rattle.rtl.specs.declared.graphs.Node.{Node as WrittenNode}
use Rattle.rtl.specs.declared.graphs.Graph.{Graph as WrittenGraph}
use Rattle.rtl.specs.Operations.{ByteOp}
use Rattle.rtl.specs.Locations.{vreg_number}
use Rattle.rtl.specs.Effects.{Storage, reads, writes}
use Rattle.rtl.specs.Liveness.{IsAmong}
use Rattle.rtl.specs.Graphs.{node_or, node_at, ops_at, exit_at, renamed_op, renamed_node}
use Rattle.rtl.specs.Code.Views.{op_of, node_of, graph_of}
use Rattle.rtl.proofs.Renamings.{node_renamed, bytes_twice}
use Rattle.liveness.specs.declared.points.Point.{Point}
use Rattle.liveness.specs.Code.Rows.{AreTurned}
use Rattle.liveness.specs.Code.Views.{numbered_op, numbered_ops, numbered_exit, numbered_graph}
use Rattle.liveness.specs.Code.Points.{left}
use Rattle.liveness.specs.Code.Flow.{overwritten, used, AreExactly, IsWritten, UsesAt, StopsAt}
use Rattle.liveness.proofs.ExitLists.{overwritten_are, used_are}

pub nodes_long : (g : WrittenGraph Vreg) → length (numbered_graph g).nodes ≡ length g.nodes
nodes_long g = length-map (map node_of g.nodes) (renamed_node vreg_number) ∙ length-map g.nodes node_of

pub node_is : (g : WrittenGraph Vreg) (p : ℕ) (n : WrittenNode Vreg) → slice_get g.nodes p ≡ Some n → node_at (numbered_graph g) p ≡ renamed_node vreg_number (node_of n)
node_is g p n found =
    node_renamed vreg_number (graph_of g) p
    ∙ ap (λ o. renamed_node vreg_number (node_or p o)) (slice_get-map node_of g.nodes p)
    ∙ ap (λ o. renamed_node vreg_number (node_or p (option_map node_of o))) found

pub ops_twice : (ops : List (WrittenOp Vreg)) → map (renamed_op vreg_number) (map op_of ops) ≡ numbered_ops ops
ops_twice ops = bytes_twice (renamed_op vreg_number) op_of ops

pub ops_is : (g : WrittenGraph Vreg) (p : ℕ) (n : WrittenNode Vreg) → slice_get g.nodes p ≡ Some n → ops_at (numbered_graph g) p ≡ numbered_ops n.ops
ops_is g p n found = ap (λ m. m.ops) (node_is g p n found) ∙ ops_twice n.ops

pub exit_is : (g : WrittenGraph Vreg) (p : ℕ) (n : WrittenNode Vreg) → slice_get g.nodes p ≡ Some n → exit_at (numbered_graph g) p ≡ numbered_exit n.exit
exit_is g p n found = ap (λ m. m.exit) (node_is g p n found)

pub ops_long : (g : WrittenGraph Vreg) (p : ℕ) (n : WrittenNode Vreg) → slice_get g.nodes p ≡ Some n → length (ops_at (numbered_graph g) p) ≡ length n.ops
ops_long g p n found = ap length (ops_is g p n found) ∙ length-map n.ops numbered_op

-- ---- what is left at a point

drop_some : (xs : List (ByteOp ℕ)) (k : ℕ) (x : ByteOp ℕ) → slice_get xs k ≡ Some x → (rest : List (ByteOp ℕ)) × (drop k xs ≡ x ∷ rest)
drop_some [] k x e = absurd cc
drop_some (y ∷ ys) zero x e = (ys, let same : y ≡ x = cc in ap (λ z. z ∷ ys) same)
drop_some (y ∷ ys) (suc k) x e = drop_some ys k x e

drop_none : (xs : List (ByteOp ℕ)) (k : ℕ) → length xs ≤ k → drop k xs ≡ []
drop_none [] zero le = refl
drop_none [] (suc k) le = refl
drop_none (x ∷ xs) zero le = absurd (let n = length xs in omega (arith, le))
drop_none (x ∷ xs) (suc k) le = drop_none xs k (omega (arith, le))

module _ (g : WrittenGraph Vreg) (point : Point) (n : WrittenNode Vreg) (found : slice_get g.nodes point.node ≡ Some n) where
  pub left_some : (op : WrittenOp Vreg) → slice_get n.ops point.op ≡ Some op → (rest : List (ByteOp ℕ)) × (left (numbered_graph g) point ≡ numbered_op op ∷ rest)
  left_some op at =
      let here : slice_get (ops_at (numbered_graph g) point.node) point.op ≡ Some (numbered_op op) =
      ap (λ ops. slice_get ops point.op) (ops_is g point.node n found) ∙ slice_get-map numbered_op n.ops point.op ∙ ap (option_map numbered_op) at in
      drop_some (ops_at (numbered_graph g) point.node) point.op (numbered_op op) here

  pub left_none : length n.ops ≤ point.op → left (numbered_graph g) point ≡ []
  left_none le = drop_none (ops_at (numbered_graph g) point.node) point.op (let e = ops_long g point.node n found in omega (arith, le, e))

  -- what is written at the point
  pub stops_op : (op : WrittenOp Vreg) (xs : List Storage) → slice_get n.ops point.op ≡ Some op → xs ≡ writes (numbered_op op) → AreExactly xs (λ s. StopsAt (numbered_graph g) s point.node (left (numbered_graph g) point))
  stops_op op xs at is =
      let l = left_some op at in
      subst (λ ys. AreExactly xs (λ s. StopsAt (numbered_graph g) s point.node ys)) (sym l.1)
      (subst (λ zs. AreExactly zs (λ s. IsAmong s (writes (numbered_op op)))) (sym is) (λ s. ((λ i. i), λ i. i)))

  pub stops_exit : (xs : List Storage) → length n.ops ≤ point.op → xs ≡ overwritten (numbered_exit n.exit) → AreExactly xs (λ s. StopsAt (numbered_graph g) s point.node (left (numbered_graph g) point))
  stops_exit xs le is =
      subst (λ ys. AreExactly xs (λ s. StopsAt (numbered_graph g) s point.node ys)) (sym (left_none le))
      (subst (λ zs. AreExactly zs (λ s. StopsAt (numbered_graph g) s point.node [])) (sym (is ∙ ap overwritten (sym (exit_is g point.node n found)))) (overwritten_are (exit_at (numbered_graph g) point.node)))

  -- what is used there
  pub uses_op : (op : WrittenOp Vreg) (xs : List Storage) → slice_get n.ops point.op ≡ Some op → xs ≡ reads (numbered_op op) → AreExactly xs (λ s. UsesAt (numbered_graph g) s point.node (left (numbered_graph g) point))
  uses_op op xs at is =
      let l = left_some op at in
      subst (λ ys. AreExactly xs (λ s. UsesAt (numbered_graph g) s point.node ys)) (sym l.1)
      (subst (λ zs. AreExactly zs (λ s. IsAmong s (reads (numbered_op op)))) (sym is) (λ s. ((λ i. i), λ i. i)))

  pub uses_exit : (rows : ℕ → List ℕ) (xs : List Storage) → length n.ops ≤ point.op → point.node < length g.nodes → AreTurned (IsWritten (numbered_graph g) (length g.nodes)) 12 rows → xs ≡ used (numbered_exit n.exit) (rows point.node) → AreExactly xs (λ s. UsesAt (numbered_graph g) s point.node (left (numbered_graph g) point))
  uses_exit rows xs le lt written is =
      subst (λ ys. AreExactly xs (λ s. UsesAt (numbered_graph g) s point.node ys)) (sym (left_none le))
      (subst (λ zs. AreExactly zs (λ s. UsesAt (numbered_graph g) s point.node [])) (sym (is ∙ ap (λ e. used e (rows point.node)) (sym (exit_is g point.node n found))))
      (used_are (numbered_graph g) (length g.nodes) point.node rows lt written (exit_at (numbered_graph g) point.node)))
