-- No operation of a pruned graph is dead: what was strongly live is live in it.
use Rattle.std.proofs.Common.{◌≡◌, ℕ, List, [], ◌∷◌, ◌++◌, ◌⊎◌, inl, inr, refl, sym, ap, subst}
use Rattle.rtl.specs.declared.graphs.Exit.{Exit}
use Rattle.rtl.specs.declared.graphs.Exit.TheVariants.{Next, Test, Call, Label, Return}
use Rattle.rtl.specs.Operations.{ByteOp}
use Rattle.rtl.specs.Programs.{Graph}
use Rattle.rtl.specs.Effects.{Storage, writes}
use Rattle.rtl.specs.Graphs.{ops_at, exit_at}
use Rattle.rtl.specs.Liveness.{IsAmong, GoesTo, IsCall, IsPoint, WrittenBefore, written, past, through, Uses, Overwrites, Live, used, kept, used_by_exit, onward, NoneIsDead}
use Rattle.rtl.specs.StrongLiveness.{StronglyLive, used_in_deed, used_for, IsNeeded}
use Rattle.rtl.specs.StrongLiveness as S
use Rattle.rtl.proofs.Points.{written_before_point}
use Rattle.pruned_graphs.specs.Pruning.{IsVain, Pruned, nothing, keep, drop, IsPruned}
use Rattle.pruned_graphs.proofs.Strong.{among_or_not, only_calls_overwrite, of_none, kept_or_dropped, needed_is_kept}
use Rattle.pruned_graphs.proofs.Back.{needed_at}

module _ (first : ℕ) (g h : Graph ℕ) (pruned : IsPruned first g h) where
  -- the exit is the same
  exit_too : (P : Exit ℕ → Type 0) (p : ℕ) → P (exit_at g p) → P (exit_at h p)
  exit_too P p = subst P (sym (pruned.exits p))

  -- what is left at a point, in the pruned list
  left_there :
      (p : ℕ) (front ops all whole : List (ByteOp ℕ)) → Pruned first g p all whole → front ++ ops ≡ all
      → (made : List (ByteOp ℕ)) × (rest : List (ByteOp ℕ)) × (made ++ rest ≡ whole) × Pruned first g p ops rest
  left_there p [] ops all whole t e = ([], whole, refl, subst (λ z. Pruned first g p z whole) (sym e) t)
  left_there p (x ∷ xs) ops all whole nothing e = absurd (never e)
    where
      never : x ∷ (xs ++ ops) ≡ [] → ⊥
      never e = cc
  left_there p (x ∷ xs) ops all whole (keep op' ops' rest' need t) e =
      let f = left_there p xs ops ops' rest' t (others (xs ++ ops) e) in
      (op' ∷ f.0, f.1, ap (λ z. op' ∷ z) f.2, f.3)
    where
      others : (ys : List (ByteOp ℕ)) → x ∷ ys ≡ op' ∷ ops' → ys ≡ ops'
      others ys e = cc
  left_there p (x ∷ xs) ops all whole (drop op' ops' rest' vain t) e = left_there p xs ops ops' rest' t (others (xs ++ ops) e)
    where
      others : (ys : List (ByteOp ℕ)) → x ∷ ys ≡ op' ∷ ops' → ys ≡ ops'
      others ys e = cc

  -- ---- the last write on a path to a use is kept

  record Onward (s : Storage) (p : ℕ) (ops : List (ByteOp ℕ)) : Type 0 where
    rest : List (ByteOp ℕ)
    left : Pruned first g p ops rest
    before : WrittenBefore h s p rest

  last_write : (s : Storage) (p : ℕ) (op : ByteOp ℕ) (ops : List (ByteOp ℕ)) → IsPoint g p (op ∷ ops) → IsAmong s (writes op) → StronglyLive first g s p ops → Onward s p ops
  last_write s p op ops point i live =
      let a = left_there p point.0 (op ∷ ops) (ops_at g p) (ops_at h p) (pruned.ops p) point.1 in
      let b = needed_is_kept first g p op ops a.1 (inr (s, i, live)) a.3 in
      record { rest = b.0; left = b.2; before = written p op b.0 (a.0, subst (λ z. a.0 ++ z ≡ ops_at h p) b.1 a.2) i }

  written_on_there : (s : Storage) (p : ℕ) (ops : List (ByteOp ℕ)) → WrittenBefore g s p ops → StronglyLive first g s p ops → Onward s p ops
  written_on_there s p ops (written p' op ops' point i) live = last_write s p' op ops' point i live
  written_on_there s p ops (past p' op ops' before) live = by_write (among_or_not s (writes op)) (λ out. written_on_there s p' (op ∷ ops') before (S.kept s p' op ops' out live))
    where
      on : Onward s p' (op ∷ ops') → Onward s p' ops'
      on o = by_step (kept_or_dropped first g p' op ops' o.rest o.left)
        where
          by_step :
              (((more : List (ByteOp ℕ)) × (o.rest ≡ op ∷ more) × IsNeeded first g p' op ops' × Pruned first g p' ops' more) ⊎ (IsVain first g p' op ops' × Pruned first g p' ops' o.rest))
              → Onward s p' ops'
          by_step (inl f) = record { rest = f.0; left = f.3; before = past p' op f.0 (subst (WrittenBefore h s p') f.1 o.before) }
          by_step (inr f) = record { rest = o.rest; left = f.1; before = o.before }

      by_write : (IsAmong s (writes op) ⊎ (IsAmong s (writes op) → ⊥)) → ((IsAmong s (writes op) → ⊥) → Onward s p' (op ∷ ops')) → Onward s p' ops'
      by_write (inl i) then = last_write s p' op ops' (written_before_point g s p' (op ∷ ops') before) i live
      by_write (inr out) then = on (then out)
  written_on_there s p ops (through p' q call goes before) live =
      let o = written_on_there s p' [] before (S.onward s p' q (λ over. call (only_calls_overwrite first (exit_at g p') s over)) goes live) in
      record {
        rest = ops_at h q;
        left = pruned.ops q;
        before = through p' q (exit_too (λ e. IsCall e → ⊥) p' call) (exit_too (λ e. GoesTo e q) p' goes) (subst (WrittenBefore h s p') (of_none first g p' o.rest o.left) o.before);
      }

  written_to_end : (s : Storage) (p : ℕ) → WrittenBefore g s p [] → StronglyLive first g s p [] → WrittenBefore h s p []
  written_to_end s p before live = let o = written_on_there s p [] before live in subst (WrittenBefore h s p) (of_none first g p o.rest o.left) o.before

  uses_too : (e : Exit ℕ) (s : Storage) (p : ℕ) → StronglyLive first g s p [] → Uses first e g p s → Uses first e h p s
  uses_too (Next q) s p live uses = uses
  uses_too (Test v true_arm false_arm) s p live uses = uses
  uses_too (Call f q) s p live uses = (uses.0, written_to_end s p uses.1 live)
  uses_too (Label l q) s p live uses = uses
  uses_too Return s p live uses = (uses.0, written_to_end s p uses.1 live)

  -- ---- what was strongly live is live

  pub live_there : (s : Storage) (p : ℕ) (ops : List (ByteOp ℕ)) → StronglyLive first g s p ops → (rest : List (ByteOp ℕ)) → Pruned first g p ops rest → Live first h s p rest
  live_there s p ops (used_in_deed s' p' op ops' i deed) rest t =
      let f = needed_is_kept first g p' op ops' rest (inl deed) t in
      subst (Live first h s' p') (sym f.1) (used p' op f.0 i)
  live_there s p ops (used_for s' w p' op ops' i j live) rest t =
      let f = needed_is_kept first g p' op ops' rest (inr (w, j, live)) t in
      subst (Live first h s' p') (sym f.1) (used p' op f.0 i)
  live_there s p ops (S.kept s' p' op ops' out live) rest t = by_step (kept_or_dropped first g p' op ops' rest t) (λ more t'. live_there s' p' ops' live more t')
    where
      by_step :
          (((more : List (ByteOp ℕ)) × (rest ≡ op ∷ more) × IsNeeded first g p' op ops' × Pruned first g p' ops' more) ⊎ (IsVain first g p' op ops' × Pruned first g p' ops' rest))
          → ((more : List (ByteOp ℕ)) → Pruned first g p' ops' more → Live first h s' p' more) → Live first h s' p' rest
      by_step (inl f) then = subst (Live first h s' p') (sym f.1) (kept p' op f.0 out (then f.0 f.3))
      by_step (inr f) then = then rest f.1
  live_there s p ops (S.used_by_exit s' p' uses) rest t =
      subst (Live first h s' p') (sym (of_none first g p' rest t)) (used_by_exit p' (exit_too (λ e. Uses first e h p' s') p' (uses_too (exit_at g p') s' p' (S.used_by_exit s' p' uses) uses)))
  live_there s p ops (S.onward s' p' q over goes live) rest t =
      subst (Live first h s' p') (sym (of_none first g p' rest t))
      (onward p' q (exit_too (λ e. Overwrites first e s' → ⊥) p' over) (exit_too (λ e. GoesTo e q) p' goes) (live_there s' q (ops_at g q) live (ops_at h q) (pruned.ops q)))

  pub none_is_dead : NoneIsDead first h
  none_is_dead p op rest point dead =
      let f = needed_at first g h pruned p op point.0 rest point.1 in
      by_need f.1 f.3 f.4
    where
      by_need : (ops : List (ByteOp ℕ)) → IsNeeded first g p op ops → Pruned first g p ops rest → ⊥
      by_need ops (inl deed) t = deed dead.quiet
      by_need ops (inr need) t = dead.unused need.0 need.1 (live_there need.0 p ops need.2 rest t)
