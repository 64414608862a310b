-- From a pruned graph back to the graph: what is live was strongly live, what was written before a point was written there, and a path
-- is one on which the writes that count stand.
use Rattle.std.proofs.Common.{◌≡◌, ℕ, List, [], ◌∷◌, ◌++◌, ◌⊎◌, inl, inr, sym, ap, subst}
use Rattle.rtl.specs.declared.graphs.Exit.{Exit}
use Rattle.rtl.specs.declared.graphs.Exit.TheVariants.{Next, Test, Call, Label, Return}
use Rattle.rtl.specs.Operations.{ByteOp}
use Rattle.rtl.specs.Programs.{Graph}
use Rattle.rtl.specs.Effects.{Storage, writes}
use Rattle.rtl.specs.Graphs.{ops_at, exit_at}
use Rattle.rtl.specs.Liveness.{IsAmong, GoesTo, IsCall, WrittenBefore, written, past, through, Uses, Overwrites, Live, used, kept, used_by_exit, onward}
use Rattle.rtl.specs.StrongLiveness.{StronglyLive, IsNeeded}
use Rattle.rtl.specs.StrongLiveness as S
use Rattle.rtl.specs.CallingConvention.{Path, at_entry, IsWrittenOn}
use Rattle.rtl.specs.CallingConvention as On
use Rattle.pruned_graphs.specs.Pruning.{Pruned, nothing, keep, drop, IsPruned}
use Rattle.pruned_graphs.proofs.Strong.{read_is_strong, before_vain, among_or_not, only_calls_overwrite}

module _ (first : ℕ) (g h : Graph ℕ) (pruned : IsPruned first g h) where
  -- the exit is the same
  exit_back : (P : Exit ℕ → Type 0) (p : ℕ) → P (exit_at h p) → P (exit_at g p)
  exit_back P p = subst P (pruned.exits p)

  -- ---- what is live

  over_drops :
      (s : Storage) (p : ℕ) (op : ByteOp ℕ) (ops rest : List (ByteOp ℕ)) → Pruned first g p ops (op ∷ rest)
      → ((ops' : List (ByteOp ℕ)) → IsNeeded first g p op ops' → Pruned first g p ops' rest → StronglyLive first g s p (op ∷ ops')) → StronglyLive first g s p ops
  over_drops s p op ops rest (keep op' ops' rest' need left) then = then ops' need left
  over_drops s p op ops rest (drop op' ops' rest' vain left) then = before_vain first g s p op' ops' vain (over_drops s p op ops' rest left then)

  over_last_drops : (s : Storage) (p : ℕ) (ops : List (ByteOp ℕ)) → Pruned first g p ops [] → StronglyLive first g s p [] → StronglyLive first g s p ops
  over_last_drops s p ops nothing live = live
  over_last_drops s p ops (drop op' ops' rest' vain left) live = before_vain first g s p op' ops' vain (over_last_drops s p ops' left live)

  -- the operations of a pruned list, in the list
  found :
      (p : ℕ) (op : ByteOp ℕ) (front rest all whole : List (ByteOp ℕ)) → Pruned first g p all whole → front ++ op ∷ rest ≡ whole
      → (made : List (ByteOp ℕ)) × (ops : List (ByteOp ℕ)) × (made ++ op ∷ ops ≡ all) × IsNeeded first g p op ops × Pruned first g p ops rest
  found p op front rest all whole nothing e = absurd (never front e)
    where
      never : (front : List (ByteOp ℕ)) → front ++ op ∷ rest ≡ [] → ⊥
      never [] e = cc
      never (x ∷ xs) e = cc
  found p op [] rest all whole (keep op' ops' rest' need left) e =
      ([], ops', ap (λ z. z ∷ ops') (same e), subst (λ z. IsNeeded first g p z ops') (sym (same e)) need, subst (Pruned first g p ops') (sym (others e)) left)
    where
      same : op ∷ rest ≡ op' ∷ rest' → op ≡ op'
      same e = cc

      others : op ∷ rest ≡ op' ∷ rest' → rest ≡ rest'
      others e = cc
  found p op (x ∷ xs) rest all whole (keep op' ops' rest' need left) e =
      let f = found p op xs rest ops' rest' left (others (xs ++ op ∷ rest) e) in
      (op' ∷ f.0, f.1, ap (λ z. op' ∷ z) f.2, f.3, f.4)
    where
      others : (ys : List (ByteOp ℕ)) → x ∷ ys ≡ op' ∷ rest' → ys ≡ rest'
      others ys e = cc
  found p op front rest all whole (drop op' ops' rest' vain left) e =
      let f = found p op front rest ops' rest' left e in
      (op' ∷ f.0, f.1, ap (λ z. op' ∷ z) f.2, f.3, f.4)

  pub needed_at :
      (p : ℕ) (op : ByteOp ℕ) (front rest : List (ByteOp ℕ)) → front ++ op ∷ rest ≡ ops_at h p
      → (made : List (ByteOp ℕ)) × (ops : List (ByteOp ℕ)) × (made ++ op ∷ ops ≡ ops_at g p) × IsNeeded first g p op ops × Pruned first g p ops rest
  needed_at p op front rest e = found p op front rest (ops_at g p) (ops_at h p) (pruned.ops p) e

  -- ---- what was written

  record Before (s : Storage) (p : ℕ) (rest : List (ByteOp ℕ)) : Type 0 where
    ops : List (ByteOp ℕ)
    left : Pruned first g p ops rest
    before : WrittenBefore g s p ops

  past_drops : (s : Storage) (p : ℕ) (op : ByteOp ℕ) (ops rest : List (ByteOp ℕ)) → Pruned first g p ops (op ∷ rest) → WrittenBefore g s p ops → Before s p rest
  past_drops s p op ops rest (keep op' ops' rest' need left) before = record { ops = ops'; left = left; before = past p op' ops' before }
  past_drops s p op ops rest (drop op' ops' rest' vain left) before = past_drops s p op ops' rest left (past p op' ops' before)

  past_all : (s : Storage) (p : ℕ) (ops : List (ByteOp ℕ)) → Pruned first g p ops [] → WrittenBefore g s p ops → WrittenBefore g s p []
  past_all s p ops nothing before = before
  past_all s p ops (drop op' ops' rest' vain left) before = past_all s p ops' left (past p op' ops' before)

  written_back : (s : Storage) (p : ℕ) (rest : List (ByteOp ℕ)) → WrittenBefore h s p rest → Before s p rest
  written_back s p rest (written p' op rest' point i) =
      let f = needed_at p' op point.0 rest' point.1 in
      record { ops = f.1; left = f.4; before = written p' op f.1 (f.0, f.2) i }
  written_back s p rest (past p' op rest' before) =
      let b = written_back s p' (op ∷ rest') before in
      past_drops s p' op b.ops rest' b.left b.before
  written_back s p rest (through p' q call goes before) =
      let b = written_back s p' [] before in
      record { ops = ops_at g q; left = pruned.ops q; before = through p' q (exit_back (λ e. IsCall e → ⊥) p' call) (exit_back (λ e. GoesTo e q) p' goes) (past_all s p' b.ops b.left b.before) }

  uses_back : (e : Exit ℕ) (s : Storage) (p : ℕ) → Uses first e h p s → Uses first e g p s
  uses_back (Next q) s p uses = uses
  uses_back (Test v true_arm false_arm) s p uses = uses
  uses_back (Call f q) s p uses = let b = written_back s p [] uses.1 in (uses.0, past_all s p b.ops b.left b.before)
  uses_back (Label l q) s p uses = uses
  uses_back Return s p uses = let b = written_back s p [] uses.1 in (uses.0, past_all s p b.ops b.left b.before)

  -- what is live in the pruned graph was strongly live
  pub live_back : (s : Storage) (p : ℕ) (rest : List (ByteOp ℕ)) → Live first h s p rest → (ops : List (ByteOp ℕ)) → Pruned first g p ops rest → StronglyLive first g s p ops
  live_back s p rest (used p' op rest' i) ops left = over_drops s p' op ops rest' left (λ ops' need left'. read_is_strong first g p' op ops' need s i)
  live_back s p rest (kept p' op rest' out live) ops left = over_drops s p' op ops rest' left (λ ops' need left'. S.kept s p' op ops' out (live_back s p' rest' live ops' left'))
  live_back s p rest (used_by_exit p' uses) ops left = over_last_drops s p' ops left (S.used_by_exit s p' (exit_back (λ e. Uses first e g p' s) p' (uses_back (exit_at h p') s p' uses)))
  live_back s p rest (onward p' q over goes live) ops left =
      over_last_drops s p' ops left (S.onward s p' q (exit_back (λ e. Overwrites first e s → ⊥) p' over) (exit_back (λ e. GoesTo e q) p' goes) (live_back s q (ops_at h q) live (ops_at g q) (pruned.ops q)))

  -- ---- paths

  -- a path of the pruned graph, in the graph: what it writes and is strongly live at its end is written on both
  record Back (p : ℕ) (rest : List (ByteOp ℕ)) (path' : Path h p rest) : Type 0 where
    ops : List (ByteOp ℕ)
    path : Path g p ops
    left : Pruned first g p ops rest
    writes_too : (s : Storage) → IsWrittenOn s path → StronglyLive first g s p ops → IsWrittenOn s path'

  path_past_drops :
      (p : ℕ) (op : ByteOp ℕ) (ops rest : List (ByteOp ℕ)) (path' : Path h p (op ∷ rest)) (path : Path g p ops) → Pruned first g p ops (op ∷ rest)
      → ((s : Storage) → IsWrittenOn s path → StronglyLive first g s p ops → IsWrittenOn s path') → Back p rest (On.past p op rest path')
  path_past_drops p op ops rest path' path (keep op' ops' rest' need left) so_far = record {
    ops = ops';
    path = On.past p op' ops' path;
    left = left;
    writes_too = too;
  }
    where
      later : (s : Storage) → IsWrittenOn s path → StronglyLive first g s p ops' → (IsAmong s (writes op') ⊎ (IsAmong s (writes op') → ⊥)) → IsAmong s (writes op') ⊎ IsWrittenOn s path'
      later s w live (inl i) = inl i
      later s w live (inr out) = inr (so_far s w (S.kept s p op' ops' out live))

      too : (s : Storage) → (IsAmong s (writes op') ⊎ IsWrittenOn s path) → StronglyLive first g s p ops' → IsAmong s (writes op') ⊎ IsWrittenOn s path'
      too s (inl i) live = inl i
      too s (inr w) live = later s w live (among_or_not s (writes op'))
  path_past_drops p op ops rest path' path (drop op' ops' rest' vain left) so_far = path_past_drops p op ops' rest path' (On.past p op' ops' path) left too
    where
      too : (s : Storage) → (IsAmong s (writes op') ⊎ IsWrittenOn s path) → StronglyLive first g s p ops' → IsWrittenOn s path'
      too s (inl i) live = absurd (vain.unused s i live)
      too s (inr w) live = so_far s w (before_vain first g s p op' ops' vain live)

  record BackEnd (p : ℕ) (path' : Path h p []) : Type 0 where
    path : Path g p []
    writes_too : (s : Storage) → IsWrittenOn s path → StronglyLive first g s p [] → IsWrittenOn s path'

  path_to_end :
      (p : ℕ) (ops : List (ByteOp ℕ)) (path' : Path h p []) (path : Path g p ops) → Pruned first g p ops []
      → ((s : Storage) → IsWrittenOn s path → StronglyLive first g s p ops → IsWrittenOn s path') → BackEnd p path'
  path_to_end p ops path' path nothing so_far = record { path = path; writes_too = so_far }
  path_to_end p ops path' path (drop op' ops' rest' vain left) so_far = path_to_end p ops' path' (On.past p op' ops' path) left too
    where
      too : (s : Storage) → (IsAmong s (writes op') ⊎ IsWrittenOn s path) → StronglyLive first g s p ops' → IsWrittenOn s path'
      too s (inl i) live = absurd (vain.unused s i live)
      too s (inr w) live = so_far s w (before_vain first g s p op' ops' vain live)

  -- the entry is the same
  from_entry : (q : ℕ) → g.entry ≡ q → (path' : Path h q (ops_at h q)) → Back q (ops_at h q) path'
  from_entry q e =
      subst (λ z. (path' : Path h z (ops_at h z)) → Back z (ops_at h z) path') e
      (λ path'. record { ops = ops_at g g.entry; path = at_entry; left = pruned.ops g.entry; writes_too = λ s w live. absurd w })

  path_back : (p : ℕ) (rest : List (ByteOp ℕ)) (path' : Path h p rest) → Back p rest path'
  path_back p rest at_entry = from_entry h.entry (sym pruned.entry) at_entry
  path_back p rest (On.past p' op rest' path') =
      let b = path_back p' (op ∷ rest') path' in
      path_past_drops p' op b.ops rest' path' b.path b.left b.writes_too
  path_back p rest (On.through p' q goes path') =
      let b = path_back p' [] path' in
      let e = path_to_end p' b.ops path' b.path b.left b.writes_too in
      let goes' = exit_back (λ e. GoesTo e q) p' goes in
      record {
        ops = ops_at g q;
        path = On.through p' q goes' e.path;
        left = pruned.ops q;
        writes_too = λ s w live. (
          subst (λ e. IsCall e → ⊥) (sym (pruned.exits p')) w.0,
          e.writes_too s w.1 (S.onward s p' q (λ over. w.0 (only_calls_overwrite first (exit_at g p') s over)) goes' live),
        );
      }

  pub path_end_back : (p : ℕ) (path' : Path h p []) → (path : Path g p []) × ((s : Storage) → IsWrittenOn s path → StronglyLive first g s p [] → IsWrittenOn s path')
  path_end_back p path' =
      let b = path_back p [] path' in
      let e = path_to_end p b.ops path' b.path b.left b.writes_too in
      (e.path, e.writes_too)
