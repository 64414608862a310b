-- What turns for all storages do to the marks.
use Rattle.std.proofs.Common.{◌≡◌, ℕ, suc, ◌+◌, ◌<◌, ◌≤◌, ◌⊎◌, inl, inr, ◌↔◌, List, ◌∷◌, length, Bool, true, sym, subst, arith}
use Rattle.std.specs.Prelude.{OnOk}
use Rattle.std.specs.declared.result.Result.{Result}
use Rattle.std.specs.declared.result.Result.TheVariants.{Ok, Err}
use Rattle.cerco_traces.specs.LabelledGraphs.{In}
use Rattle.rtl.specs.Operations.{ByteOp}
use Rattle.rtl.specs.Programs.{Graph}
use Rattle.rtl.specs.Effects.{Storage, Loc, Carry}
use Rattle.rtl.specs.Liveness.{IsPoint}
use Rattle.rtl.proofs.Points.{next_point}
use Rattle.liveness.specs.declared.flow.Flow.{Flow}
use Rattle.liveness.specs.Code.Rows.{ways_of}
use Rattle.liveness.specs.Code.Reach.{is_marked, Reached, AreClear, AreSet}
use Rattle.liveness.specs.Code.Views.{occurrences_of}
use Rattle.liveness.specs.Code.Points.{count}
use Rattle.liveness.specs.Code.Flow.{IsUsed, IsStopped, IsFlow}
use Rattle.liveness.proofs.Reaching.{set_from_clear}
use Rattle.liveness.proofs.LiveRows.{ways_past, used_somewhere}
use Rattle.pruned_graphs.specs.Searches.{Marks, LiveBy, IsTurn, AreSound}
use Rattle.pruned_graphs.proofs.Searching.{stay_sound}
use Rattle.dropping.specs.declared.marks.Needed.{Needed}
use Rattle.dropping.specs.Code.Marks.{HasGrown, AreMarkedBefore}
use Rattle.dropping.specs.Code.Turns.{marks_of, ExitsAreMarked, WritersAreMarked, AllWritersAreMarked}
use Rattle.dropping.proofs.Growing.{AreKept}
use Rattle.dropping.proofs.Points.{point_for, low_or_past}
use Rattle.dropping.proofs.Turning.{IsLiveBy, reached_live, live_reached, is_turn, after_it, live_by_is_live}

module _ (g : Graph ℕ) (flow : Flow) (is : IsFlow g flow) where
  -- what a search and the marks before what it reaches make is a turn
  pub turn_of :
      (s : Storage) (m clear walls : List Bool) (seeds list : List ℕ) (new : List Bool) → ExitsAreMarked g flow.points m → AreClear clear (count flow.points) → AreSet clear (occurrences_of flow.stops s) true walls
      → AreKept m (occurrences_of flow.uses s) seeds → ((i : ℕ) → In i list ↔ Reached seeds (ways_of flow.back.items) walls i) → AreMarkedBefore flow.points walls (λ k. In k list) m new
      → IsTurn 0 g s (marks_of g flow.points m) (marks_of g flow.points new)
  turn_of s m clear walls seeds list new exits unset set kept search before = is_turn g flow.points is.points m exits s walls list exact walls_only walls_all new before
    where
      walls_only : (i : ℕ) → is_marked walls i ≡ true → IsStopped g flow.points i s
      walls_only i e = (is.stops.only s i (set_from_clear clear walls (occurrences_of flow.stops s) (count flow.points) unset set i e)).1

      walls_all : (i : ℕ) → i < count flow.points → IsStopped g flow.points i s → is_marked walls i ≡ true
      walls_all i lt stop = set.inside i (is.stops.every s i lt stop)

      seeds_only : (i : ℕ) → In i seeds → (i < count flow.points) × IsUsed g flow.points i s × (is_marked m i ≡ true)
      seeds_only i h =
          let k = (kept i).0 h in
          let u = is.uses.only s i k.0 in
          (u.0, u.1, k.1)

      seeds_all : (i : ℕ) → i < count flow.points → IsUsed g flow.points i s → is_marked m i ≡ true → In i seeds
      seeds_all i lt u e = (kept i).1 (is.uses.every s i lt u, e)

      exact : (i : ℕ) → In i list ↔ ((i < count flow.points) × IsLiveBy g flow.points is.points m exits s i)
      exact i = (
        (λ h. reached_live g flow.points is.points m exits s seeds (ways_of flow.back.items) walls seeds_only seeds_all is.back walls_only walls_all i ((search i).0 h)),
        λ h. (search i).1 (live_reached g flow.points is.points m exits s seeds (ways_of flow.back.items) walls seeds_only seeds_all is.back walls_only walls_all i h.0 h.1),
      )

  -- a virtual register that nothing uses is live nowhere
  not_live_past : (v : ℕ) → length flow.uses.vregs.items ≤ v → (marked : Marks) (p : ℕ) (op : ByteOp ℕ) (ops : List (ByteOp ℕ)) → IsPoint g p (op ∷ ops) → LiveBy 0 g marked (Loc v) p ops → ⊥
  not_live_past v past marked p op ops point live =
      let at = point_for g flow.points is.points p op ops point in
      let next = after_it g flow.points is.points at.0 p op ops at.1 in
      let u = used_somewhere g flow.points is.points (Loc v) p ops (live_by_is_live g marked (Loc v) p ops live (next_point g p op ops point)) (suc at.0) next.within next.node next.left_is in
      subst (In u.0) (ways_past flow.uses.vregs.items v past) (is.uses.every (Loc v) u.0 u.1 u.2)

  -- all virtual registers from one on have had their turns
  abbrev pub FromOn : ℕ → List Bool → Type 0
  FromOn v m = (w : ℕ) → v ≤ w → WritersAreMarked g (Loc w) (marks_of g flow.points m)

  pub from_end : (m : List Bool) → FromOn (length flow.uses.vregs.items) m
  from_end m w le p op ops point i live = absurd (not_live_past w le (marks_of g flow.points m) p op ops point live)

  -- a turn that changes nothing finds all writers marked
  unchanged : (s : Storage) (old new : List Bool) → IsTurn 0 g s (marks_of g flow.points old) (marks_of g flow.points new) → new ≡ old → WritersAreMarked g s (marks_of g flow.points new)
  unchanged s old new turn same p op ops point i live = turn.added p op ops point i (subst (λ m. LiveBy 0 g (marks_of g flow.points m) s p ops) same live)

  pub next_done : (v : ℕ) (old new : List Bool) → FromOn (v + 1) old → IsTurn 0 g (Loc v) (marks_of g flow.points old) (marks_of g flow.points new) → new ≡ old → FromOn v new
  next_done v old new done turn same w le = by_place (low_or_past v w)
    where
      by_place : (v < w) ⊎ (w ≤ v) → WritersAreMarked g (Loc w) (marks_of g flow.points new)
      by_place (inl lt) = subst (λ m. WritersAreMarked g (Loc w) (marks_of g flow.points m)) (sym same) (done w (omega (arith, lt)))
      by_place (inr up) =
          let e : v ≡ w = omega (arith, up, le) in
          subst (λ z. WritersAreMarked g (Loc z) (marks_of g flow.points new)) e (unchanged (Loc v) old new turn same)

  pub all_done : (old new : List Bool) → FromOn 0 old → IsTurn 0 g Carry (marks_of g flow.points old) (marks_of g flow.points new) → new ≡ old → AllWritersAreMarked g (marks_of g flow.points new)
  all_done old new done turn same (Loc w) = subst (λ m. WritersAreMarked g (Loc w) (marks_of g flow.points m)) (sym same) (done w (omega arith))
  all_done old new done turn same Carry = unchanged Carry old new turn same

-- exits stay marked
pub exits_kept : (g : Graph ℕ) (flow : Flow) (old new : Needed) → HasGrown old new → ExitsAreMarked g flow.points old.marks.items → ExitsAreMarked g flow.points new.marks.items
exits_kept g flow old new grown exits i lt e = grown.kept i (exits i lt e)

pub sound_after : (g : Graph ℕ) (flow : Flow) (s : Storage) (old new : List Bool) → AreSound 0 g (marks_of g flow.points old) → IsTurn 0 g s (marks_of g flow.points old) (marks_of g flow.points new) → AreSound 0 g (marks_of g flow.points new)
sound_after g flow s old new sound turn = stay_sound 0 g s (marks_of g flow.points old) (marks_of g flow.points new) sound turn

-- two facts of one outcome
pub from_both : {T E P Q R : Type 0} (r : Result T E) → (P → Q → R) → OnOk r P → OnOk r Q → OnOk r R
from_both (Ok x) f p q = f p q
from_both (Err e) f p q = tt
