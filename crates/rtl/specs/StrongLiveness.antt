-- What is strongly live at a point of a graph: live by uses that count themselves, since the operation that uses it does more than
-- write, or writes what is strongly live (Appel, Modern Compiler Implementation, chapters 10 and 19: faint variables are those that
-- are live and not strongly live). A graph without the operations that are not needed so has no dead operation.
use Rattle.std.specs.Prelude.{ℕ, ◌⊎◌, List, [], ◌∷◌}
use Rattle.rtl.specs.Operations.{ByteOp}
use Rattle.rtl.specs.Programs.{Graph}
use Rattle.rtl.specs.Effects.{Storage, reads, writes, IsQuiet}
use Rattle.rtl.specs.Graphs.{ops_at, exit_at}
use Rattle.rtl.specs.Liveness.{IsAmong, GoesTo, Uses, Overwrites}

-- s is strongly live where these operations are left in the node p.
pub data StronglyLive (first : ℕ) (g : Graph ℕ) : Storage → ℕ → List (ByteOp ℕ) → Type 0 where
  used_in_deed : (s : Storage) (p : ℕ) (op : ByteOp ℕ) (ops : List (ByteOp ℕ)) → IsAmong s (reads op) → (IsQuiet op → ⊥) → StronglyLive first g s p (op ∷ ops)
  used_for : (s t : Storage) (p : ℕ) (op : ByteOp ℕ) (ops : List (ByteOp ℕ)) → IsAmong s (reads op) → IsAmong t (writes op) → StronglyLive first g t p ops → StronglyLive first g s p (op ∷ ops)
  kept : (s : Storage) (p : ℕ) (op : ByteOp ℕ) (ops : List (ByteOp ℕ)) → (IsAmong s (writes op) → ⊥) → StronglyLive first g s p ops → StronglyLive first g s p (op ∷ ops)
  used_by_exit : (s : Storage) (p : ℕ) → Uses first (exit_at g p) g p s → StronglyLive first g s p []
  onward : (s : Storage) (p q : ℕ) → (Overwrites first (exit_at g p) s → ⊥) → GoesTo (exit_at g p) q → StronglyLive first g s q (ops_at g q) → StronglyLive first g s p []

-- An operation is needed where it does more than write, or writes what is strongly live after it.
abbrev pub IsNeeded : ℕ → Graph ℕ → ℕ → ByteOp ℕ → List (ByteOp ℕ) → Type 0
IsNeeded first g p op ops = (IsQuiet op → ⊥) ⊎ ((s : Storage) × IsAmong s (writes op) × StronglyLive first g s p ops)
