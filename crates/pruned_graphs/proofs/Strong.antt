-- What is strongly live is live, and so is what a needed operation reads; what operations of a pruned list are.
use Rattle.std.proofs.Common.{◌≡◌, ℕ, List, [], ◌∷◌, false, ◌⊎◌, inl, inr, refl}
use Rattle.rtl.specs.declared.graphs.Exit.{Exit}
use Rattle.rtl.specs.declared.graphs.Exit.TheVariants.{Next, Test, Call, Label, Return}
use Rattle.rtl.specs.Operations.{ByteOp}
use Rattle.rtl.specs.Programs.{Graph}
use Rattle.rtl.specs.Effects.{Storage, same_storage, reads}
use Rattle.rtl.specs.Graphs.{ops_at}
use Rattle.rtl.specs.Liveness.{IsAmong, IsCall, Overwrites, Live, used}
use Rattle.rtl.specs.StrongLiveness.{StronglyLive, used_in_deed, used_for, kept, used_by_exit, onward, IsNeeded}
use Rattle.rtl.proofs.ValueLaws.{same_or_not}
use Rattle.pruned_graphs.specs.Pruning.{IsVain, Pruned, nothing, keep, drop}

pub strong_is_live : (first : ℕ) (g : Graph ℕ) (s : Storage) (p : ℕ) (ops : List (ByteOp ℕ)) → StronglyLive first g s p ops → Live first g s p ops
strong_is_live first g s p ops (used_in_deed s' p' op ops' i deed) = used p' op ops' i
strong_is_live first g s p ops (used_for s' t p' op ops' i j live) = used p' op ops' i
strong_is_live first g s p ops (kept s' p' op ops' out live) = Live.kept p' op ops' out (strong_is_live first g s p ops' live)
strong_is_live first g s p ops (used_by_exit s' p' uses) = Live.used_by_exit p' uses
strong_is_live first g s p ops (onward s' p' q over goes live) = Live.onward p' q over goes (strong_is_live first g s q (ops_at g q) live)

pub read_is_strong : (first : ℕ) (g : Graph ℕ) (p : ℕ) (op : ByteOp ℕ) (ops : List (ByteOp ℕ)) → IsNeeded first g p op ops → (s : Storage) → IsAmong s (reads op) → StronglyLive first g s p (op ∷ ops)
read_is_strong first g p op ops (inl deed) s i = used_in_deed s p op ops i deed
read_is_strong first g p op ops (inr h) s i = used_for s h.0 p op ops i h.1 h.2

-- what is strongly live after a vain operation was so before it
pub before_vain : (first : ℕ) (g : Graph ℕ) (s : Storage) (p : ℕ) (op : ByteOp ℕ) (ops : List (ByteOp ℕ)) → IsVain first g p op ops → StronglyLive first g s p ops → StronglyLive first g s p (op ∷ ops)
before_vain first g s p op ops vain live = kept s p op ops (λ i. vain.unused s i live) live

pub never_both : (first : ℕ) (g : Graph ℕ) (p : ℕ) (op : ByteOp ℕ) (ops : List (ByteOp ℕ)) → IsNeeded first g p op ops → IsVain first g p op ops → ⊥
never_both first g p op ops (inl deed) vain = deed vain.quiet
never_both first g p op ops (inr h) vain = vain.unused h.0 h.1 h.2

pub among_or_not : (s : Storage) (xs : List Storage) → IsAmong s xs ⊎ (IsAmong s xs → ⊥)
among_or_not s [] = inr (λ i. i)
among_or_not s (x ∷ xs) = by_case (same_or_not x s) (among_or_not s xs)
  where
    neither : (x ≡ s → ⊥) → (IsAmong s xs → ⊥) → IsAmong s (x ∷ xs) → ⊥
    neither differ out (inl e) = differ e
    neither differ out (inr i) = out i

    by_case : ((x ≡ s) ⊎ ((x ≡ s → ⊥) × (same_storage x s ≡ false))) → (IsAmong s xs ⊎ (IsAmong s xs → ⊥)) → IsAmong s (x ∷ xs) ⊎ (IsAmong s (x ∷ xs) → ⊥)
    by_case (inl e) h = inl (inl e)
    by_case (inr differ) (inl i) = inl (inr i)
    by_case (inr differ) (inr out) = inr (neither differ.0 out)

pub only_calls_overwrite : (first : ℕ) (e : Exit ℕ) (s : Storage) → Overwrites first e s → IsCall e
only_calls_overwrite first (Next q) s over = absurd over
only_calls_overwrite first (Test v true_arm false_arm) s over = absurd over
only_calls_overwrite first (Call f q) s over = tt
only_calls_overwrite first (Label l q) s over = absurd over
only_calls_overwrite first Return s over = absurd over

-- ---- pruned lists

pub of_none : (first : ℕ) (g : Graph ℕ) (p : ℕ) (rest : List (ByteOp ℕ)) → Pruned first g p [] rest → rest ≡ []
of_none first g p rest nothing = refl

-- an operation is needed and kept, or vain and dropped
pub kept_or_dropped :
    (first : ℕ) (g : Graph ℕ) (p : ℕ) (op : ByteOp ℕ) (ops rest : List (ByteOp ℕ)) → Pruned first g p (op ∷ ops) rest
    → ((more : List (ByteOp ℕ)) × (rest ≡ op ∷ more) × IsNeeded first g p op ops × Pruned first g p ops more) ⊎ (IsVain first g p op ops × Pruned first g p ops rest)
kept_or_dropped first g p op ops rest (keep op' ops' more need t) = inl (more, refl, need, t)
kept_or_dropped first g p op ops rest (drop op' ops' rest' vain t) = inr (vain, t)

pub needed_is_kept :
    (first : ℕ) (g : Graph ℕ) (p : ℕ) (op : ByteOp ℕ) (ops rest : List (ByteOp ℕ)) → IsNeeded first g p op ops → Pruned first g p (op ∷ ops) rest
    → (more : List (ByteOp ℕ)) × (rest ≡ op ∷ more) × Pruned first g p ops more
needed_is_kept first g p op ops rest need t = by_case (kept_or_dropped first g p op ops rest t)
  where
    by_case : (((more : List (ByteOp ℕ)) × (rest ≡ op ∷ more) × IsNeeded first g p op ops × Pruned first g p ops more) ⊎ (IsVain first g p op ops × Pruned first g p ops rest)) → (more : List (ByteOp ℕ)) × (rest ≡ op ∷ more) × Pruned first g p ops more
    by_case (inl h) = (h.0, h.1, h.3)
    by_case (inr h) = absurd (never_both first g p op ops need h.0)
