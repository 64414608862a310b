-- Marks that are sound and closed are those of the needed operations; and what is not needed is vain.
use Rattle.std.proofs.Common.{ℕ, ◌⊎◌, List, [], ◌∷◌, true, IsTrue, inl, inr, refl}
use Rattle.rtl.specs.Operations.{ByteOp}
use Rattle.rtl.specs.Operations.{Const, Move, Op, Mul, Div, Rem, Rlc, Rrc, Top, ClearCarry, SetCarry, FlipCarry, FromCarry, Load, Store, ReadPort, WritePort}
use Rattle.rtl.specs.Programs.{Graph}
use Rattle.rtl.specs.Effects.{Storage, writes, IsQuiet}
use Rattle.rtl.specs.Graphs.{ops_at}
use Rattle.rtl.specs.Liveness.{IsAmong, IsPoint, Live}
use Rattle.rtl.specs.StrongLiveness.{StronglyLive, used_in_deed, used_for, IsNeeded}
use Rattle.rtl.specs.StrongLiveness as S
use Rattle.rtl.proofs.Points.{next_point}
use Rattle.pruned_graphs.specs.Pruning.{IsVain}
use Rattle.pruned_graphs.specs.Searches.{Marks, LiveBy, used, kept, used_by_exit, onward, AreSound, AreClosed, TurnsStaySound, AreFound, ClosedMarksAreFound}
use Rattle.pruned_graphs.proofs.Strong.{read_is_strong}

-- ---- marks

module _ (first : ℕ) (g : Graph ℕ) (marked : Marks) (sound : AreSound first g marked) where
  pub by_marks_is_strong : (s : Storage) (p : ℕ) (ops : List (ByteOp ℕ)) → LiveBy first g marked s p ops → IsPoint g p ops → StronglyLive first g s p ops
  by_marks_is_strong s p ops (used p' op ops' mark i) point = read_is_strong first g p' op ops' (sound p' op ops' point mark) s i
  by_marks_is_strong s p ops (kept p' op ops' out live) point = S.kept s p' op ops' out (by_marks_is_strong s p' ops' live (next_point g p' op ops' point))
  by_marks_is_strong s p ops (used_by_exit p' uses) point = S.used_by_exit s p' uses
  by_marks_is_strong s p ops (onward p' q over goes live) point = S.onward s p' q over goes (by_marks_is_strong s q (ops_at g q) live ([], refl))

  module _ (closed : AreClosed first g marked) where
    strong_is_by_marks : (s : Storage) (p : ℕ) (ops : List (ByteOp ℕ)) → StronglyLive first g s p ops → IsPoint g p ops → LiveBy first g marked s p ops
    strong_is_by_marks s p ops (used_in_deed s' p' op ops' i deed) point = used p' op ops' (closed.deeds p' op ops' point deed) i
    strong_is_by_marks s p ops (used_for s' t p' op ops' i j live) point =
        used p' op ops' (closed.writers p' op ops' t point j (strong_is_by_marks t p' ops' live (next_point g p' op ops' point))) i
    strong_is_by_marks s p ops (S.kept s' p' op ops' out live) point = kept p' op ops' out (strong_is_by_marks s' p' ops' live (next_point g p' op ops' point))
    strong_is_by_marks s p ops (S.used_by_exit s' p' uses) point = used_by_exit p' uses
    strong_is_by_marks s p ops (S.onward s' p' q over goes live) point = onward p' q over goes (strong_is_by_marks s' q (ops_at g q) live ([], refl))

    needed_is_marked : (p : ℕ) (op : ByteOp ℕ) (ops : List (ByteOp ℕ)) → IsPoint g p (op ∷ ops) → IsNeeded first g p op ops → IsTrue (marked p (op ∷ ops))
    needed_is_marked p op ops point (inl deed) = closed.deeds p op ops point deed
    needed_is_marked p op ops point (inr h) = closed.writers p op ops h.0 point h.1 (strong_is_by_marks h.0 p ops h.2 (next_point g p op ops point))

    are_found : AreFound first g marked
    are_found = record {
      operations = λ p op ops point. (sound p op ops point, needed_is_marked p op ops point);
      live = λ s p ops point. (λ live. by_marks_is_strong s p ops live point, λ live. strong_is_by_marks s p ops live point);
    }

pub stay_sound : TurnsStaySound
stay_sound first g s before after sound turn p op ops point mark = by_case (turn.only p op ops point mark)
  where
    by_case : IsTrue (before p (op ∷ ops)) ⊎ (IsAmong s (writes op) × LiveBy first g before s p ops) → IsNeeded first g p op ops
    by_case (inl mark') = sound p op ops point mark'
    by_case (inr h) = inr (s, h.0, by_marks_is_strong first g before sound s p ops h.1 (next_point g p op ops point))

pub closed_are_found : ClosedMarksAreFound
closed_are_found first g marked sound closed = are_found first g marked sound closed

-- more marks make more live
pub by_more_marks :
    (first : ℕ) (g : Graph ℕ) (before after : Marks) → ((p : ℕ) (op : ByteOp ℕ) (ops : List (ByteOp ℕ)) → IsPoint g p (op ∷ ops) → IsTrue (before p (op ∷ ops)) → IsTrue (after p (op ∷ ops)))
    → (s : Storage) (p : ℕ) (ops : List (ByteOp ℕ)) → LiveBy first g before s p ops → IsPoint g p ops → LiveBy first g after s p ops
by_more_marks first g before after more s p ops (used p' op ops' mark i) point = used p' op ops' (more p' op ops' point mark) i
by_more_marks first g before after more s p ops (kept p' op ops' out live) point = kept p' op ops' out (by_more_marks first g before after more s p' ops' live (next_point g p' op ops' point))
by_more_marks first g before after more s p ops (used_by_exit p' uses) point = used_by_exit p' uses
by_more_marks first g before after more s p ops (onward p' q over goes live) point = onward p' q over goes (by_more_marks first g before after more s q (ops_at g q) live ([], refl))

-- where all is marked, what is live by the marks is live
pub live_by_all : (first : ℕ) (g : Graph ℕ) (s : Storage) (p : ℕ) (ops : List (ByteOp ℕ)) → LiveBy first g (λ q left. true) s p ops → Live first g s p ops
live_by_all first g s p ops (used p' op ops' mark i) = Live.used p' op ops' i
live_by_all first g s p ops (kept p' op ops' out live) = Live.kept p' op ops' out (live_by_all first g s p' ops' live)
live_by_all first g s p ops (used_by_exit p' uses) = Live.used_by_exit p' uses
live_by_all first g s p ops (onward p' q over goes live) = Live.onward p' q over goes (live_by_all first g s q (ops_at g q) live)

pub by_all_live : (first : ℕ) (g : Graph ℕ) (s : Storage) (p : ℕ) (ops : List (ByteOp ℕ)) → Live first g s p ops → LiveBy first g (λ q left. true) s p ops
by_all_live first g s p ops (Live.used p' op ops' i) = used p' op ops' refl i
by_all_live first g s p ops (Live.kept p' op ops' out live) = kept p' op ops' out (by_all_live first g s p' ops' live)
by_all_live first g s p ops (Live.used_by_exit p' uses) = used_by_exit p' uses
by_all_live first g s p ops (Live.onward p' q over goes live) = onward p' q over goes (by_all_live first g s q (ops_at g q) live)

-- ---- what is not needed

quiet_or_not : (op : ByteOp ℕ) → IsQuiet op ⊎ (IsQuiet op → ⊥)
quiet_or_not (Const d n) = inl tt
quiet_or_not (Move d s) = inl tt
quiet_or_not (Op o d a b) = inl tt
quiet_or_not (Mul l h a b) = inl tt
quiet_or_not (Div d a b) = inl tt
quiet_or_not (Rem d a b) = inl tt
quiet_or_not (Rlc d a) = inl tt
quiet_or_not (Rrc d a) = inl tt
quiet_or_not (Top a) = inl tt
quiet_or_not ClearCarry = inl tt
quiet_or_not SetCarry = inl tt
quiet_or_not FlipCarry = inl tt
quiet_or_not (FromCarry d) = inl tt
quiet_or_not (Load ds l h) = inl tt
quiet_or_not (Store l h ss) = inr (λ quiet. quiet)
quiet_or_not (ReadPort d) = inr (λ quiet. quiet)
quiet_or_not (WritePort s) = inr (λ quiet. quiet)

-- what is not needed is vain
pub vain_otherwise : (first : ℕ) (g : Graph ℕ) (p : ℕ) (op : ByteOp ℕ) (ops : List (ByteOp ℕ)) → (IsNeeded first g p op ops → ⊥) → IsVain first g p op ops
vain_otherwise first g p op ops not = record { quiet = by_case (quiet_or_not op); unused = λ s i live. not (inr (s, i, live)) }
  where
    by_case : (IsQuiet op ⊎ (IsQuiet op → ⊥)) → IsQuiet op
    by_case (inl quiet) = quiet
    by_case (inr deed) = absurd (not (inl deed))
