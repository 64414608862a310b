use Rattle.std.proofs.Common.{List, sym, subst}
use Rattle.clight_syntax.specs.declared.points.Point.{Point}
use Rattle.clight_syntax.specs.Code.TypedViews.{program_of, labelled_of}
use Rattle.clight_syntax.specs.Annotations.{AreInOrder, BeginWithStart}
use Rattle.clight_syntax.proofs.LabelsDetermined.{labelled_once}
use Rattle.clight_syntax.proofs.PointsInOrder.{labelled_in_order}
use Rattle.clight_syntax.proofs.PointsBegin.{points_begin}
use Rattle.cost_labels.proofs.label.Goals as goal

pub returns-clause-once : goal.returns-clause-once
returns-clause-once c = λ other is. labelled_once (program_of c.args.typed) other (labelled_of c.in_ok-labelled.labelled) is c.in_ok-labelled.ensures.labelled

pub returns-clause-ordered : goal.returns-clause-ordered
returns-clause-ordered c = λ size h.
    let Ordered : List Point → Type 0 = λ points. AreInOrder size points in
    subst Ordered (sym c.in_ok-labelled.ensures.points)
    (labelled_in_order (program_of c.args.typed) (labelled_of c.in_ok-labelled.labelled) size c.in_ok-labelled.ensures.labelled.typed_alone h)

pub returns-clause-begins : goal.returns-clause-begins
returns-clause-begins c =
    let Begins : List Point → Type 0 = λ points. BeginWithStart points in
    subst Begins (sym c.in_ok-labelled.ensures.points) (points_begin (labelled_of c.in_ok-labelled.labelled))
