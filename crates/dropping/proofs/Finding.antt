-- The first marks, and what the marks are when a round finds nothing more.
use Rattle.std.proofs.Common.{◌≡◌, ℕ, ◌<◌, List, ◌∷◌, length, Bool, true, false, IsTrue, refl, sym, ap, ◌∙◌}
use Rattle.std.proofs.Common.{inl}
use Rattle.std.proofs.lemmas.List.{get_or-map, length-map}
use Rattle.rtl.specs.Operations.{ByteOp}
use Rattle.rtl.specs.Operations.{Const, Move, Op, Mul, Div, Rem, Rlc, Rrc, Top, ClearCarry, SetCarry, FlipCarry, FromCarry, Load, Store, ReadPort, WritePort}
use Rattle.rtl.specs.Programs.{Graph}
use Rattle.rtl.specs.Effects.{IsQuiet}
use Rattle.rtl.specs.Liveness.{IsPoint}
use Rattle.liveness.specs.declared.points.Point.{Point}
use Rattle.liveness.specs.declared.points.Points.{Points}
use Rattle.liveness.specs.Code.Reach.{is_marked}
use Rattle.liveness.specs.Code.Points.{point_at, count, left, ArePoints}
use Rattle.liveness.proofs.Reaching.{true_false}
use Rattle.pruned_graphs.specs.Searches.{AreSound}
use Rattle.pruned_graphs.proofs.Searching.{closed_are_found}
use Rattle.dropping.specs.Code.Marks.{is_deed, begins, first_marks}
use Rattle.dropping.specs.Code.Turns.{marks_of, ExitsAreMarked, AllWritersAreMarked, AreNeeded}
use Rattle.dropping.proofs.Points.{IsAt, point_for, mark_is}

-- ---- operations that do more than write

deed_not_quiet : (op : ByteOp ℕ) → is_deed op ≡ true → IsQuiet op → ⊥
deed_not_quiet (Const d n) e = absurd (true_false e)
deed_not_quiet (Move d s) e = absurd (true_false e)
deed_not_quiet (Op o d a b) e = absurd (true_false e)
deed_not_quiet (Mul l h a b) e = absurd (true_false e)
deed_not_quiet (Div d a b) e = absurd (true_false e)
deed_not_quiet (Rem d a b) e = absurd (true_false e)
deed_not_quiet (Rlc d a) e = absurd (true_false e)
deed_not_quiet (Rrc d a) e = absurd (true_false e)
deed_not_quiet (Top a) e = absurd (true_false e)
deed_not_quiet ClearCarry e = absurd (true_false e)
deed_not_quiet SetCarry e = absurd (true_false e)
deed_not_quiet FlipCarry e = absurd (true_false e)
deed_not_quiet (FromCarry d) e = absurd (true_false e)
deed_not_quiet (Load ds l h) e = absurd (true_false e)
deed_not_quiet (Store l h ss) e = λ quiet. quiet
deed_not_quiet (ReadPort d) e = λ quiet. quiet
deed_not_quiet (WritePort s) e = λ quiet. quiet

not_quiet_deed : (op : ByteOp ℕ) → (IsQuiet op → ⊥) → is_deed op ≡ true
not_quiet_deed (Const d n) not = absurd (not tt)
not_quiet_deed (Move d s) not = absurd (not tt)
not_quiet_deed (Op o d a b) not = absurd (not tt)
not_quiet_deed (Mul l h a b) not = absurd (not tt)
not_quiet_deed (Div d a b) not = absurd (not tt)
not_quiet_deed (Rem d a b) not = absurd (not tt)
not_quiet_deed (Rlc d a) not = absurd (not tt)
not_quiet_deed (Rrc d a) not = absurd (not tt)
not_quiet_deed (Top a) not = absurd (not tt)
not_quiet_deed ClearCarry not = absurd (not tt)
not_quiet_deed SetCarry not = absurd (not tt)
not_quiet_deed FlipCarry not = absurd (not tt)
not_quiet_deed (FromCarry d) not = absurd (not tt)
not_quiet_deed (Load ds l h) not = absurd (not tt)
not_quiet_deed (Store l h ss) not = refl
not_quiet_deed (ReadPort d) not = refl
not_quiet_deed (WritePort s) not = refl

-- ---- the first marks

module _ (g : Graph ℕ) (points : Points) (are : ArePoints g (length g.nodes) points) where
  begins_at : Point → Bool
  begins_at point = begins (left g point)

  pub first_long : length (first_marks g points) ≡ count points
  first_long = length-map points.places.items (λ (point : Point). begins (left g point))

  first_is : (i : ℕ) → i < count points → is_marked (first_marks g points) i ≡ begins (left g (point_at points i))
  first_is i lt = get_or-map (λ (point : Point). begins (left g point)) points.places.items i (record { node = 0; op = 0 }) false lt

  pub exits_first : ExitsAreMarked g points (first_marks g points)
  exits_first i lt e = first_is i lt ∙ ap begins e

  deeds_first : (i p : ℕ) (op : ByteOp ℕ) (ops : List (ByteOp ℕ)) → IsAt g points are i p (op ∷ ops) → is_marked (first_marks g points) i ≡ is_deed op
  deeds_first i p op ops at = first_is i at.within ∙ ap begins at.left_is

  pub first_sound : AreSound 0 g (marks_of g points (first_marks g points))
  first_sound p op ops point mark =
      let at = point_for g points are p op ops point in
      inl (deed_not_quiet op (sym (deeds_first at.0 p op ops at.1) ∙ (sym (mark_is g points are (first_marks g points) at.0 p (op ∷ ops) at.1) ∙ mark)))

  pub are_needed : (m : List Bool) → ((j : ℕ) → is_marked (first_marks g points) j ≡ true → is_marked m j ≡ true) → AreSound 0 g (marks_of g points m) → AllWritersAreMarked g (marks_of g points m) → AreNeeded g points m
  are_needed m begun sound whole =
      (closed_are_found 0 g (marks_of g points m) sound (record { deeds = deeds; writers = λ p op ops s point w live. whole s p op ops point w live })).operations
    where
      deeds : (p : ℕ) (op : ByteOp ℕ) (ops : List (ByteOp ℕ)) → IsPoint g p (op ∷ ops) → (IsQuiet op → ⊥) → IsTrue (marks_of g points m p (op ∷ ops))
      deeds p op ops point not =
          let at = point_for g points are p op ops point in
          mark_is g points are m at.0 p (op ∷ ops) at.1 ∙ begun at.0 (deeds_first at.0 p op ops at.1 ∙ not_quiet_deed op not)
