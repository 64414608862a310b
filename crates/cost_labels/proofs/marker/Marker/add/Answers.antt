use Rattle.std.proofs.Common.{sym, ◌∙◌}
use Rattle.clight_syntax.specs.Labelling.{point}
use Rattle.cost_labels.proofs.Numbers.{numbered_more, counted_more}
use Rattle.cost_labels.proofs.marker.Marker.add.Goals as goal

pub invariant_of-self-2-clause-numbered : goal.invariant_of-self-2-clause-numbered
invariant_of-self-2-clause-numbered c =
    numbered_more c.args.self.now.points _ (point c.args.at c.args.piece) c.args.self.now.count
    c.args.self.now.numbered c.args.self.now.counted c.requires c.in_ok-push.ensures.added

pub invariant_of-self-2-clause-counted : goal.invariant_of-self-2-clause-counted
invariant_of-self-2-clause-counted c =
    counted_more c.args.self.now.points _ (point c.args.at c.args.piece) c.args.self.now.count
    c.args.self.now.counted c.in_ok-push.ensures.added ∙ sym c.count_with-count.ensures
