-- Graphs of byte operations without those that nothing needs (Appel, Modern Compiler Implementation, chapters 10 and 19: the elimination
-- of dead code, where what serves dead operations alone is dead as well). An operation is needed where it does more than write, or
-- writes what is strongly live after it. The argument places are the twelve from a first one on.
use Rattle.std.specs.Prelude.{◌≡◌, ℕ, List, [], ◌∷◌, length}
use Rattle.rtl.specs.declared.locations.Vreg.{Vreg}
use Rattle.rtl.specs.Operations.{ByteOp}
use Rattle.rtl.specs.Programs.{Graph, Bytes}
use Rattle.rtl.specs.Locations.{vreg_number}
use Rattle.rtl.specs.Effects.{Storage, writes, IsQuiet}
use Rattle.rtl.specs.Graphs.{ops_at, exit_at, renamed_graph}
use Rattle.rtl.specs.Liveness.{IsAmong}
use Rattle.rtl.specs.StrongLiveness.{StronglyLive, IsNeeded}

-- An operation is vain where nothing needs it: it does nothing but write, and nothing that it writes is strongly live after it.
pub record IsVain (first : ℕ) (g : Graph ℕ) (p : ℕ) (op : ByteOp ℕ) (ops : List (ByteOp ℕ)) : Type 0 where
  pub quiet : IsQuiet op
  pub unused : (s : Storage) → IsAmong s (writes op) → StronglyLive first g s p ops → ⊥

-- The second list has the needed operations of the first one, which are left in the node p.
pub data Pruned (first : ℕ) (g : Graph ℕ) (p : ℕ) : List (ByteOp ℕ) → List (ByteOp ℕ) → Type 0 where
  nothing : Pruned first g p [] []
  keep : (op : ByteOp ℕ) (ops rest : List (ByteOp ℕ)) → IsNeeded first g p op ops → Pruned first g p ops rest → Pruned first g p (op ∷ ops) (op ∷ rest)
  drop : (op : ByteOp ℕ) (ops rest : List (ByteOp ℕ)) → IsVain first g p op ops → Pruned first g p ops rest → Pruned first g p (op ∷ ops) rest

-- The second graph is the first one without its vain operations: the entry stays, and each node with its number and its exit.
pub record IsPruned (first : ℕ) (g h : Graph ℕ) : Type 0 where
  pub entry : h.entry ≡ g.entry
  pub nodes : length h.nodes ≡ length g.nodes
  pub exits : (p : ℕ) → exit_at h p ≡ exit_at g p
  pub ops : (p : ℕ) → Pruned first g p (ops_at g p) (ops_at h p)

-- ---- ERTL, whose argument places are those from 0 on

abbrev pub IsPrunedGraph : Graph Vreg → Graph Vreg → Type 0
IsPrunedGraph g h = IsPruned 0 (renamed_graph vreg_number g) (renamed_graph vreg_number h)

-- each of these functions is that one without its vain operations
abbrev pub ArePruned : List (Graph Vreg) → List (Graph Vreg) → Type 0
ArePruned [] [] = Unit {0}
ArePruned [] (h ∷ hs) = ⊥
ArePruned (g ∷ gs) [] = ⊥
ArePruned (g ∷ gs) (h ∷ hs) = IsPrunedGraph g h × ArePruned gs hs

-- The second program is the first one without its vain operations; all else stays.
pub record IsPrunedProgram (before after : Bytes Vreg) : Type 0 where
  pub graphs : ArePruned before.graphs after.graphs
  pub calls : after.calls ≡ before.calls
  pub main : after.main ≡ before.main
  pub start : after.start ≡ before.start
