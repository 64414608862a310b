-- What is live at a point of a graph: a path leads from there to a use of it, with no writing of it between (Appel, Modern Compiler
-- Implementation, chapter 10). The twelve argument places of the language are those from a first one on: 12 in RTL and 0 in ERTL.
-- A call writes them and the carry. A call or return uses an argument place that was written for it: where a path leads to it from
-- an operation that writes the place, with no other call between.
use Rattle.std.specs.Prelude.{◌≡◌, ℕ, suc, ◌+◌, ◌<◌, ◌≤◌, ◌⊎◌, ◌↔◌, List, [], ◌∷◌, ◌++◌, map, length, drop, IsTrue}
use Rattle.cerco_traces.specs.LabelledGraphs.{In}
use Rattle.rtl.specs.declared.locations.Vreg.{Vreg}
use Rattle.rtl.specs.Operations.{ByteOp}
use Rattle.rtl.specs.declared.graphs.Exit.{Exit}
use Rattle.rtl.specs.declared.graphs.Exit.TheVariants.{Next, Test, Call, Label, Return}
use Rattle.rtl.specs.Programs.{Graph}
use Rattle.rtl.specs.declared.live_sets.LiveSets.{LiveSets}
use Rattle.rtl.specs.Locations.{vreg_number}
use Rattle.rtl.specs.LiveSets.{points_of, vregs_before, carry_before}
use Rattle.rtl.specs.Effects.{Storage, Loc, Carry, reads, writes, IsQuiet}
use Rattle.rtl.specs.Graphs.{ops_at, exit_at, renamed_graph}

-- s is one of these
abbrev pub IsAmong : Storage → List Storage → Type 0
IsAmong s [] = ⊥
IsAmong s (x ∷ xs) = (x ≡ s) ⊎ IsAmong s xs

-- s is one of the twelve argument places from the first one on
abbrev pub IsArgument : ℕ → Storage → Type 0
IsArgument first (Loc v) = (first ≤ v) × (v < first + 12)
IsArgument first Carry = ⊥

-- ---- points and paths

-- These operations are left in the node p: its last ones, or none.
abbrev pub IsPoint : Graph ℕ → ℕ → List (ByteOp ℕ) → Type 0
IsPoint g p ops = (made : List (ByteOp ℕ)) × (made ++ ops ≡ ops_at g p)

-- the node q comes directly after the exit; after a call, when it has returned
abbrev pub GoesTo : Exit ℕ → ℕ → Type 0
GoesTo (Next q) r = q ≡ r
GoesTo (Test v true_arm false_arm) r = (true_arm ≡ r) ⊎ (false_arm ≡ r)
GoesTo (Call f q) r = q ≡ r
GoesTo (Label l q) r = q ≡ r
GoesTo Return r = ⊥

abbrev pub IsCall : Exit ℕ → Type 0
IsCall (Call f q) = Unit {0}
IsCall _ = ⊥

-- A path leads to this point from an operation that writes s, with no call between.
pub data WrittenBefore (g : Graph ℕ) (s : Storage) : ℕ → List (ByteOp ℕ) → Type 0 where
  written : (p : ℕ) (op : ByteOp ℕ) (ops : List (ByteOp ℕ)) → IsPoint g p (op ∷ ops) → IsAmong s (writes op) → WrittenBefore g s p ops
  past : (p : ℕ) (op : ByteOp ℕ) (ops : List (ByteOp ℕ)) → WrittenBefore g s p (op ∷ ops) → WrittenBefore g s p ops
  through : (p q : ℕ) → (IsCall (exit_at g p) → ⊥) → GoesTo (exit_at g p) q → WrittenBefore g s p [] → WrittenBefore g s q (ops_at g q)

-- ---- liveness

-- the exit of the node p uses s
abbrev pub Uses : ℕ → Exit ℕ → Graph ℕ → ℕ → Storage → Type 0
Uses first (Test v true_arm false_arm) g p s = Loc v ≡ s
Uses first (Call f q) g p s = IsArgument first s × WrittenBefore g s p []
Uses first Return g p s = IsArgument first s × WrittenBefore g s p []
Uses first _ g p s = ⊥

-- the exit writes s
abbrev pub Overwrites : ℕ → Exit ℕ → Storage → Type 0
Overwrites first (Call f q) Carry = Unit {0}
Overwrites first (Call f q) (Loc v) = IsArgument first (Loc v)
Overwrites first _ s = ⊥

-- s is live where these operations are left in the node p.
pub data Live (first : ℕ) (g : Graph ℕ) (s : Storage) : ℕ → List (ByteOp ℕ) → Type 0 where
  used : (p : ℕ) (op : ByteOp ℕ) (ops : List (ByteOp ℕ)) → IsAmong s (reads op) → Live first g s p (op ∷ ops)
  kept : (p : ℕ) (op : ByteOp ℕ) (ops : List (ByteOp ℕ)) → (IsAmong s (writes op) → ⊥) → Live first g s p ops → Live first g s p (op ∷ ops)
  used_by_exit : (p : ℕ) → Uses first (exit_at g p) g p s → Live first g s p []
  onward : (p q : ℕ) → (Overwrites first (exit_at g p) s → ⊥) → GoesTo (exit_at g p) q → Live first g s q (ops_at g q) → Live first g s p []

-- s is live in front of the node p
abbrev pub LiveAt : ℕ → Graph ℕ → Storage → ℕ → Type 0
LiveAt first g s p = Live first g s p (ops_at g p)

-- ---- dead operations

-- An operation is dead where it does nothing but write, and nothing that it writes is live after it.
pub record IsDead (first : ℕ) (g : Graph ℕ) (p : ℕ) (op : ByteOp ℕ) (ops : List (ByteOp ℕ)) : Type 0 where
  pub quiet : IsQuiet op
  pub unused : (s : Storage) → IsAmong s (writes op) → Live first g s p ops → ⊥

-- no operation of the graph is dead
abbrev pub NoneIsDead : ℕ → Graph ℕ → Type 0
NoneIsDead first g = (p : ℕ) (op : ByteOp ℕ) (ops : List (ByteOp ℕ)) → IsPoint g p (op ∷ ops) → IsDead first g p op ops → ⊥

-- ---- live sets

-- each number is above the one before
abbrev pub AreRising : List ℕ → Type 0
AreRising [] = Unit {0}
AreRising (v ∷ []) = Unit {0}
AreRising (v ∷ (w ∷ ws)) = (v < w) × AreRising (w ∷ ws)

-- s is live before the k-th operation of the node p, counted from 0, or before its exit
abbrev pub LiveBefore : ℕ → Graph ℕ → Storage → ℕ → ℕ → Type 0
LiveBefore first g s p k = Live first g s p (drop k (ops_at g p))

-- These are the live sets of the graph: of each of its points, what is live there, by rising number.
pub record AreLiveSets (first : ℕ) (graph : Graph Vreg) (sets : LiveSets) : Type 0 where
  pub nodes : length sets.nodes ≡ length graph.nodes
  pub points : (p : ℕ) → p < length graph.nodes → length (points_of sets p) ≡ suc (length (ops_at graph p))
  pub vregs : (p k v : ℕ) → p < length graph.nodes → k ≤ length (ops_at graph p) → In v (map vreg_number (vregs_before sets p k)) ↔ LiveBefore first (renamed_graph vreg_number graph) (Loc v) p k
  pub carry : (p k : ℕ) → p < length graph.nodes → k ≤ length (ops_at graph p) → IsTrue (carry_before sets p k) ↔ LiveBefore first (renamed_graph vreg_number graph) Carry p k
  pub rising : (p k : ℕ) → p < length graph.nodes → k ≤ length (ops_at graph p) → AreRising (map vreg_number (vregs_before sets p k))
