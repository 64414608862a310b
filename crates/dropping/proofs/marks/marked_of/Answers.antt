use Rattle.std.proofs.Common.{◌≡◌, take, slice_index_or, sym, ◌∙◌, subst, arith}
use Rattle.std.proofs.lemmas.List.{take_more, take_all}
use Rattle.dropping.proofs.Growing.{AreKept, kept_marked, kept_other}
use Rattle.dropping.proofs.marks.marked_of.Goals as goal
use Rattle.dropping.proofs.marks.marked_of.Goals.{then-is_marked+in_ok-push, else-is_marked}

pub loop-i-preserved : goal.loop-i-preserved
loop-i-preserved c =
    let i = c.loop-i.i-index in
    let list = c.args.list.now in
    let marks = c.args.marks.now in
    let x = slice_index_or list i 0 in
    let kept = c.loop-i.kept.items in
    let more = take_more list i 0 c.loop-i-test.true in
    let e = c.is_marked.ensures in
    elim c.if-is_marked.branch [
      | then-is_marked+in_ok-push w ↦ rw (more, w.kept-is, w.in_ok-push.ensures.items) (kept_marked marks (take i list) kept x c.loop-i.invariant (sym e ∙ w.if-is_marked.true))
      | else-is_marked w ↦ rw (more, w.kept-is) (kept_other marks (take i list) kept x c.loop-i.invariant (sym e ∙ w.if-is_marked.false))
    ]

pub returns : goal.returns
returns c =
    let list = c.args.list.now in
    let all : take c.loop-i.i-index list ≡ list = take_all c.loop-i.i-index list (omega arith) in
    subst (λ z. AreKept c.args.marks.now z c.loop-i.kept.items) all c.loop-i.invariant
