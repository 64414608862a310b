-- The source is put point by point.
use Rattle.std.proofs.Common.{◌≡◌, ℕ, ◌+◌, ◌-◌, ◌<◌, ◌≤◌, List, ◌∷◌, ◌++◌, length, take, drop, get_or, Result, Ok, ap, subst, ◌∙◌, drop-drop, arith}
use Rattle.std.proofs.lemmas.List.{drop_more, drop_all, take_rest}
use Rattle.cerco_base.specs.Outside.IoStates.{SinkState}
use Rattle.cerco_base.specs.Outside.IoCalls.{PutsText}
use Rattle.cerco_base.proofs.Putting.{SoFar}
use Rattle.cerco_base.proofs.PuttingPieces.{begun_as, piece_put, last_put}
use Rattle.cerco_base.specs.declared.outside.faults.IoFault.{IoFault}
use Rattle.clight_syntax.specs.declared.points.Point.{Point}
use Rattle.clight_syntax.specs.Annotations.{Costs, annotated, piece_text, AreInOrderFrom, AreInOrder}
use Rattle.annotate.proofs.AnnotatedText.{annotated_from, annotated-whole, within_size}

-- the annotated text is put up to a byte of the source and a point
pub record IsPutUpTo (s t : SinkState) (source : List ℕ) (points : List Point) (costs : Costs) (index from : ℕ) : Type 0 where
  pub order : AreInOrderFrom from (length source) (drop index points)
  pub put : SoFar s t (annotated source points costs) (annotated_from from (drop from source) (drop index points) costs)

-- at the beginning nothing is put
pub nothing_put : (s : SinkState) (source : List ℕ) (points : List Point) (costs : Costs) → AreInOrder (length source) points → IsPutUpTo s s source points costs 0 0
nothing_put s source points costs order =
    record { order = order; put = begun_as s (annotated source points costs) (annotated_from 0 source points costs) (annotated-whole source points costs order) }

-- the next to be put are the source up to a point, and the annotation of this point
pub record IsPutUpToPoint (s t : SinkState) (source : List ℕ) (points : List Point) (costs : Costs) (index from : ℕ) (point : Point) : Type 0 where
  pub behind : from ≤ point.at
  pub within : point.at ≤ length source
  pub order : AreInOrderFrom point.at (length source) (drop (index + 1) points)
  pub put : SoFar s t (annotated source points costs)
      (take (point.at - from) (drop from source) ++ (piece_text costs point.piece ++ annotated_from point.at (drop point.at source) (drop (index + 1) points) costs))

pub at_point : (s t : SinkState) (source : List ℕ) (points : List Point) (costs : Costs) (index from : ℕ) (d : Point) → index < length points → IsPutUpTo s t source points costs index from → IsPutUpToPoint s t source points costs index from (get_or points index d)
at_point s t source points costs index from d within a =
    let point = get_or points index d in
    let next : drop index points ≡ point ∷ drop (index + 1) points = drop_more points index d within in
    let Ordered : List Point → Type 0 = λ ps. AreInOrderFrom from (length source) ps in
    let order = subst Ordered next a.order in
    let Put : List Point → Type 0 = λ ps. SoFar s t (annotated source points costs) (annotated_from from (drop from source) ps costs) in
    let Behind : List ℕ → Type 0 = λ rest. SoFar s t (annotated source points costs) (take (point.at - from) (drop from source) ++ (piece_text costs point.piece ++ annotated_from point.at rest (drop (index + 1) points) costs)) in
    let past : from + (point.at - from) ≡ point.at = let h = order.0 in omega arith in
    record {
      behind = order.0;
      within = within_size point.at (length source) (drop (index + 1) points) order.1;
      order = order.1;
      put = subst Behind (drop-drop (point.at - from) from source ∙ ap (λ n. drop n source) past) (subst Put next a.put);
    }

-- the source up to a point, and its annotation, are put
pub point_put : (s t u v : SinkState) (source : List ℕ) (points : List Point) (costs : Costs) (index from : ℕ) (point : Point) → IsPutUpToPoint s t source points costs index from point → PutsText {T = Unit {0}} t u (take (point.at - from) (drop from source)) (Ok tt) → PutsText {T = Unit {0}} u v (piece_text costs point.piece) (Ok tt) → IsPutUpTo s v source points costs (index + 1) point.at
point_put s t u v source points costs index from point a p q =
    record { order = a.order; put = piece_put _ _ _ _ _ _ _ (piece_put _ _ _ _ _ _ _ a.put p) q }

-- behind the last point the rest of the source is put
pub rest_put : {X : Type 0} (s t u : SinkState) (source : List ℕ) (points : List Point) (costs : Costs) (index from : ℕ) (r : Result X IoFault) → length points ≤ index → IsPutUpTo s t source points costs index from → PutsText t u (take (length source - from) (drop from source)) r → PutsText s u (annotated source points costs) r
rest_put s t u source points costs index from r past a p =
    let Put : List Point → Type 0 = λ ps. SoFar s t (annotated source points costs) (annotated_from from (drop from source) ps costs) in
    let Last : List ℕ → Type 0 = λ rest. PutsText t u rest r in
    last_put s t u (annotated source points costs) (drop from source) r (subst Put (drop_all index points past) a.put) (subst Last (take_rest source from) p)

-- what is still to be put, as another text that is the same
pub still_to_put : (s t : SinkState) (text rest other : List ℕ) → rest ≡ other → SoFar s t text rest → SoFar s t text other
still_to_put s t text rest other same a = subst (λ (r : List ℕ). SoFar s t text r) same a
