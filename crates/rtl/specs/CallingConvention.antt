-- Which programs respect the calling convention (CerCo, deliverable 4.2: ERTL makes parameters and results explicit in the places
-- that the caller and the called function agree on). The argument places are the twelve from a first one on: 12 in RTL, 0 in ERTL.
use Rattle.std.specs.Prelude.{◌≡◌, ℕ, ◌⊎◌, List, [], ◌∷◌}
use Rattle.rtl.specs.Operations.{ByteOp}
use Rattle.rtl.specs.declared.graphs.Exit.TheVariants.{Call, Return}
use Rattle.rtl.specs.Programs.{Graph}
use Rattle.rtl.specs.Effects.{Storage, Carry, writes}
use Rattle.rtl.specs.Graphs.{ops_at, exit_at}
use Rattle.rtl.specs.Liveness.{IsAmong, IsArgument, GoesTo, IsCall, LiveAt}

-- A path from the entry of a function to a point of it.
pub data Path (g : Graph ℕ) : ℕ → List (ByteOp ℕ) → Type 0 where
  at_entry : Path g g.entry (ops_at g g.entry)
  past : (p : ℕ) (op : ByteOp ℕ) (ops : List (ByteOp ℕ)) → Path g p (op ∷ ops) → Path g p ops
  through : (p q : ℕ) → GoesTo (exit_at g p) q → Path g p [] → Path g q (ops_at g q)

-- s is written on this path, with no call after the writing
abbrev pub IsWrittenOn : {g : Graph ℕ} {p : ℕ} {ops : List (ByteOp ℕ)} → Storage → Path g p ops → Type 0
IsWrittenOn s at_entry = ⊥
IsWrittenOn s (past p op ops path) = IsAmong s (writes op) ⊎ IsWrittenOn s path
IsWrittenOn {g = g} s (through p q goes path) = (IsCall (exit_at g p) → ⊥) × IsWrittenOn s path

-- s is written on every path to the exit of the node p
abbrev pub IsWrittenBefore : Graph ℕ → Storage → ℕ → Type 0
IsWrittenBefore g s p = (path : Path g p []) → IsWrittenOn s path

-- A program of these functions respects the calling convention.
pub record RespectsConvention (first : ℕ) (graphs : ℕ → Graph ℕ) : Type 0 where
  -- at an entry only argument places are live
  pub entries : (f : ℕ) (s : Storage) → LiveAt first (graphs f) s (graphs f).entry → IsArgument first s
  -- each of these is written before each call of that function
  pub arguments : (f g p q : ℕ) (s : Storage) → exit_at (graphs f) p ≡ Call g q → LiveAt first (graphs g) s (graphs g).entry → IsWrittenBefore (graphs f) s p
  -- an argument place that is live after a call is written before each return of the called function
  pub results : (f g p q r : ℕ) (s : Storage) → exit_at (graphs f) p ≡ Call g q → IsArgument first s → LiveAt first (graphs f) s q → exit_at (graphs g) r ≡ Return → IsWrittenBefore (graphs g) s r
  -- the carry is live after no call
  pub carry : (f g p q : ℕ) → exit_at (graphs f) p ≡ Call g q → LiveAt first (graphs f) Carry q → ⊥

-- The carry is live in front of no node.
abbrev pub CarryStaysInside : ℕ → Graph ℕ → Type 0
CarryStaysInside first g = (p : ℕ) → LiveAt first g Carry p → ⊥
