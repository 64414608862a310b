-- How needed operations are found, by marking them one after the other (Appel, Modern Compiler Implementation, chapter 19: dead code is
-- eliminated by assuming that all is dead, and marking what is not). Marks tell of each point whether the operation that comes next there
-- is marked.
use Rattle.std.specs.Prelude.{◌≡◌, ℕ, suc, ◌⊎◌, ◌↔◌, List, [], ◌∷◌, ◌++◌, length, Bool, if◌then◌else◌, IsTrue}
use Rattle.rtl.specs.declared.locations.Vreg.{Vreg}
use Rattle.rtl.specs.Operations.{ByteOp}
use Rattle.rtl.specs.Programs.{Node, Graph}
use Rattle.rtl.specs.Locations.{vreg_number}
use Rattle.rtl.specs.Effects.{Storage, reads, writes, IsQuiet}
use Rattle.rtl.specs.Graphs.{ops_at, exit_at, renamed_graph}
use Rattle.rtl.specs.Liveness.{IsAmong, IsPoint, GoesTo, Uses, Overwrites}
use Rattle.rtl.specs.StrongLiveness.{StronglyLive, IsNeeded}
use Rattle.pruned_graphs.specs.Pruning.{IsPrunedGraph}

abbrev pub Marks : Type 0
Marks = ℕ → List (ByteOp ℕ) → Bool

-- s is live where these operations are left in the node p, by the uses of exits and of marked operations alone.
pub data LiveBy (first : ℕ) (g : Graph ℕ) (marked : Marks) (s : Storage) : ℕ → List (ByteOp ℕ) → Type 0 where
  used : (p : ℕ) (op : ByteOp ℕ) (ops : List (ByteOp ℕ)) → IsTrue (marked p (op ∷ ops)) → IsAmong s (reads op) → LiveBy first g marked s p (op ∷ ops)
  kept : (p : ℕ) (op : ByteOp ℕ) (ops : List (ByteOp ℕ)) → (IsAmong s (writes op) → ⊥) → LiveBy first g marked s p ops → LiveBy first g marked s p (op ∷ ops)
  used_by_exit : (p : ℕ) → Uses first (exit_at g p) g p s → LiveBy first g marked s p []
  onward : (p q : ℕ) → (Overwrites first (exit_at g p) s → ⊥) → GoesTo (exit_at g p) q → LiveBy first g marked s q (ops_at g q) → LiveBy first g marked s p []

-- Only needed operations are marked.
abbrev pub AreSound : ℕ → Graph ℕ → Marks → Type 0
AreSound first g marked = (p : ℕ) (op : ByteOp ℕ) (ops : List (ByteOp ℕ)) → IsPoint g p (op ∷ ops) → IsTrue (marked p (op ∷ ops)) → IsNeeded first g p op ops

-- Each operation that does more than write is marked, and each that writes what is live after it by the marks.
pub record AreClosed (first : ℕ) (g : Graph ℕ) (marked : Marks) : Type 0 where
  pub deeds : (p : ℕ) (op : ByteOp ℕ) (ops : List (ByteOp ℕ)) → IsPoint g p (op ∷ ops) → (IsQuiet op → ⊥) → IsTrue (marked p (op ∷ ops))
  pub writers : (p : ℕ) (op : ByteOp ℕ) (ops : List (ByteOp ℕ)) (s : Storage) → IsPoint g p (op ∷ ops) → IsAmong s (writes op) → LiveBy first g marked s p ops → IsTrue (marked p (op ∷ ops))

-- What a turn for the storage s does: it marks the operations that write s where s is live after them by the marks before the turn.
pub record IsTurn (first : ℕ) (g : Graph ℕ) (s : Storage) (before after : Marks) : Type 0 where
  pub stay : (p : ℕ) (op : ByteOp ℕ) (ops : List (ByteOp ℕ)) → IsPoint g p (op ∷ ops) → IsTrue (before p (op ∷ ops)) → IsTrue (after p (op ∷ ops))
  pub added : (p : ℕ) (op : ByteOp ℕ) (ops : List (ByteOp ℕ)) → IsPoint g p (op ∷ ops) → IsAmong s (writes op) → LiveBy first g before s p ops → IsTrue (after p (op ∷ ops))
  pub only : (p : ℕ) (op : ByteOp ℕ) (ops : List (ByteOp ℕ)) → IsPoint g p (op ∷ ops) → IsTrue (after p (op ∷ ops)) → IsTrue (before p (op ∷ ops)) ⊎ (IsAmong s (writes op) × LiveBy first g before s p ops)

-- A turn leaves sound marks sound.
abbrev pub TurnsStaySound : Type 0
TurnsStaySound = (first : ℕ) (g : Graph ℕ) (s : Storage) (before after : Marks) → AreSound first g before → IsTurn first g s before after → AreSound first g after

-- Where nothing is left to add, the marked operations are the needed ones, and what is live by them is what is strongly live.
pub record AreFound (first : ℕ) (g : Graph ℕ) (marked : Marks) : Type 0 where
  pub operations : (p : ℕ) (op : ByteOp ℕ) (ops : List (ByteOp ℕ)) → IsPoint g p (op ∷ ops) → IsTrue (marked p (op ∷ ops)) ↔ IsNeeded first g p op ops
  pub live : (s : Storage) (p : ℕ) (ops : List (ByteOp ℕ)) → IsPoint g p ops → LiveBy first g marked s p ops ↔ StronglyLive first g s p ops

abbrev pub ClosedMarksAreFound : Type 0
ClosedMarksAreFound = (first : ℕ) (g : Graph ℕ) (marked : Marks) → AreSound first g marked → AreClosed first g marked → AreFound first g marked

-- ---- the graph of the operations that pass a test

-- the items whose numbers pass the test, counted from 0
abbrev pub selected : {A : Type 0} → (ℕ → Bool) → List A → List A
selected test [] = []
selected test (x ∷ xs) = if test 0 then x ∷ selected (λ k. test (suc k)) xs else selected (λ k. test (suc k)) xs

abbrev pub selected_nodes : {L : Type 0} → (ℕ → ℕ → Bool) → List (Node L) → List (Node L)
selected_nodes test [] = []
selected_nodes test (n ∷ ns) = (record { ops = selected (test 0) n.ops; exit = n.exit }) ∷ selected_nodes (λ p. test (suc p)) ns

-- of each node the operations whose numbers pass the test of its number
abbrev pub selected_graph : {L : Type 0} → (ℕ → ℕ → Bool) → Graph L → Graph L
selected_graph test g = record { entry = g.entry; nodes = selected_nodes test g.nodes }

-- The test holds of exactly the needed operations, by their nodes and numbers.
abbrev pub TellsNeeded : ℕ → Graph ℕ → (ℕ → ℕ → Bool) → Type 0
TellsNeeded first g test = (p : ℕ) (made : List (ByteOp ℕ)) (op : ByteOp ℕ) (ops : List (ByteOp ℕ)) → made ++ op ∷ ops ≡ ops_at g p → IsTrue (test p (length made)) ↔ IsNeeded first g p op ops

-- A test of the needed operations selects the pruned graph.
abbrev pub SelectedIsPruned : Type 0
SelectedIsPruned = (g : Graph Vreg) (test : ℕ → ℕ → Bool) → TellsNeeded 0 (renamed_graph vreg_number g) test → IsPrunedGraph g (selected_graph test g)
