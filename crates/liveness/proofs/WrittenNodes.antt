-- Where an argument place was written, as what is reached from the nodes that write it.
use Rattle.std.proofs.Common.{◌≡◌, ℕ, ◌<◌, ◌≤◌, List, [], ◌∷◌, ◌++◌, length, ◌⊎◌, ◌↔◌, inl, inr, refl, sym, ap, subst, arith}
use Rattle.std.proofs.lemmas.Option.{slice_get_past}
use Rattle.cerco_traces.specs.LabelledGraphs.{In}
use Rattle.rtl.specs.Operations.{ByteOp}
use Rattle.rtl.specs.Programs.{Graph}
use Rattle.rtl.specs.Effects.{Storage, Loc, writes}
use Rattle.rtl.specs.Graphs.{ops_at, exit_at}
use Rattle.rtl.specs.Liveness.{IsAmong, IsPoint, GoesTo, WrittenBefore, written, past, through}
use Rattle.rtl.proofs.Points.{next_point}
use Rattle.liveness.specs.Code.Reach.{Reached, seed, onward}
use Rattle.liveness.specs.declared.ways.Ways.{Ways}
use Rattle.liveness.specs.Code.Rows.{ways_in, ways_of, AllBelow, AreTurned}
use Rattle.liveness.specs.Code.Flow.{all_writes, calmly_after, IsWritten}
use Rattle.liveness.proofs.ExitLists.{calm_only, calm_all, among_first, among_second, among_either}
use Rattle.liveness.proofs.LivePoints.{no_exit}

low_or_past : (v k : ℕ) → (v < k) ⊎ (k ≤ v)
low_or_past v k = grind arith

-- what was written at a point of a node has been written when its exit is reached
to_the_end : (g : Graph ℕ) (s : Storage) (p : ℕ) (ops : List (ByteOp ℕ)) → WrittenBefore g s p ops → WrittenBefore g s p []
to_the_end g s p [] before = before
to_the_end g s p (op ∷ ops) before = to_the_end g s p ops (past p op ops before)

writes_sound : (g : Graph ℕ) (s : Storage) (p : ℕ) (ops : List (ByteOp ℕ)) → IsPoint g p ops → IsAmong s (all_writes ops) → WrittenBefore g s p []
writes_sound g s p [] point i = absurd i
writes_sound g s p (op ∷ ops) point i = by_case (λ h. writes_sound g s p ops (next_point g p op ops point) h) (among_either s (writes op) (all_writes ops) i)
  where
    by_case : (IsAmong s (all_writes ops) → WrittenBefore g s p []) → IsAmong s (writes op) ⊎ IsAmong s (all_writes ops) → WrittenBefore g s p []
    by_case later (inl h) = to_the_end g s p ops (written p op ops point h)
    by_case later (inr h) = later h

writes_complete : (s : Storage) (made : List (ByteOp ℕ)) (op : ByteOp ℕ) (ops : List (ByteOp ℕ)) → IsAmong s (writes op) → IsAmong s (all_writes (made ++ op ∷ ops))
writes_complete s [] op ops i = among_first s (writes op) (all_writes ops) i
writes_complete s (f ∷ made) op ops i = among_second s (writes f) (all_writes (made ++ op ∷ ops)) (writes_complete s made op ops i)

module _ (g : Graph ℕ) (n : ℕ) (long : length g.nodes ≡ n) (s : Storage) (seeds : List ℕ) (ways : ℕ → List ℕ) (seeds_only : (p : ℕ) → In p seeds → (p < n) × IsAmong s (all_writes (ops_at g p))) (seeds_all : (p : ℕ) → p < n → IsAmong s (all_writes (ops_at g p)) → In p seeds) (ways_are : (p : ℕ) → p < n → ways p ≡ calmly_after (exit_at g p) n) where
  pub reached_written : (p : ℕ) → Reached seeds ways [] p → (p < n) × WrittenBefore g s p []
  reached_written p (seed p' i) = let r = seeds_only p i in (r.0, writes_sound g s p (ops_at g p) ([], refl) r.1)
  reached_written q (onward p q' r i o) =
      let before = reached_written p r in
      let c = calm_only (exit_at g p) n q (subst (In q) (ways_are p before.0) i) in
      (c.1.0, to_the_end g s q (ops_at g q) (through p q c.0 c.1.1 before.1))

  pub written_reached : (p : ℕ) (ops : List (ByteOp ℕ)) → p < n → WrittenBefore g s p ops → Reached seeds ways [] p
  written_reached p ops lt (written p' op ops' point i) = seed p (seeds_all p lt (subst (λ xs. IsAmong s (all_writes xs)) point.1 (writes_complete s point.0 op ops i)))
  written_reached p ops lt (past p' op ops' before) = written_reached p (op ∷ ops) lt before
  written_reached q ops lt (through p q' call goes before) = by_place (λ within. written_reached p [] within before) (low_or_past p n)
    where
      by_place : (p < n → Reached seeds ways [] p) → (p < n) ⊎ (n ≤ p) → Reached seeds ways [] q
      by_place later (inl within) = onward p q (later within) (subst (In q) (sym (ways_are p within)) (calm_all (exit_at g p) n q call lt goes)) refl
      by_place later (inr far) =
          let same : p ≡ q = subst (λ e. GoesTo e q) (no_exit g p (let l = long in omega (arith, far, l))) goes in
          absurd (let e = same in omega (arith, e, far, lt))

-- what is reached is what was written
pub written_exact : (g : Graph ℕ) (n a : ℕ) (rows : Storage → List ℕ) (ways : ℕ → List ℕ) (list : List ℕ) → length g.nodes ≡ n → AreTurned (λ p s. IsAmong s (all_writes (ops_at g p))) n rows → ((p : ℕ) → p < n → ways p ≡ calmly_after (exit_at g p) n) → ((i : ℕ) → In i list ↔ Reached (rows (Loc a)) ways [] i) → (x : ℕ) → In x list ↔ IsWritten g n a x
written_exact g n a rows ways list long writers are exact x = (
  (λ h. reached_written g n long (Loc a) (rows (Loc a)) ways (writers.only (Loc a)) (writers.every (Loc a)) are x ((exact x).0 h)),
  λ w. (exact x).1 (written_reached g n long (Loc a) (rows (Loc a)) ways (writers.only (Loc a)) (writers.every (Loc a)) are x [] w.0 w.1),
)

-- the ways lead to nodes that there are
pub calm_below : (g : Graph ℕ) (n : ℕ) (ways : List Ways) → length ways ≡ n → ((p : ℕ) → p < n → ways_of ways p ≡ calmly_after (exit_at g p) n) → (i : ℕ) → AllBelow (ways_of ways i) n
calm_below g n ways long are i j h = by_place (low_or_past i n)
  where
    by_place : (i < n) ⊎ (n ≤ i) → j < n
    by_place (inl below) = (calm_only (exit_at g i) n j (subst (In j) (are i below) h)).1.0
    by_place (inr far) = absurd (subst (In j) (ap ways_in (slice_get_past ways i (omega (arith, long, far)))) h)
