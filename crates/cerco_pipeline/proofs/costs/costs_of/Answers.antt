use Rattle.std.proofs.Common.{◌≡◌, length, sym, ap, subst, ◌∙◌, arith}
use Rattle.block_costs.specs.Ways.{AreMarks, start_cost}
use Rattle.cerco_pipeline.proofs.Costing.{AreCostsOfFirst, label_cost, start_has_one, moved_cost, one_more, are_costs}
use Rattle.cerco_pipeline.proofs.costs.costs_of.Goals as goal

pub cost_from-requires-clause-costed : goal.cost_from-requires-clause-costed
cost_from-requires-clause-costed c =
    label_cost c.args.object.now.code c.args.object.now.labels c.as_slice-code.result.now c.as_slice-address-items.result.now c.as_slice.result.now c.in_ok-marks.marks c.loop-address.address-index
    c.requires.costed c.as_slice-code.ensures c.as_slice-address-items.ensures c.as_slice.ensures c.in_ok-marks.ensures c.loop-address-test.true

pub loop-address-preserved : goal.loop-address-preserved
loop-address-preserved c =
    let code = c.args.object.now.code in
    let labels = c.args.object.now.labels in
    let i = c.loop-address.address-index in
    one_more i code labels c.marks.inside.flags.items c.loop-address.labels.items c.push.new.self.items c.cost_from.result c.loop-address.invariant
    (moved_cost code labels c.as_slice-code.result.now c.as_slice-address-items.result.now c.marks.inside.flags.items c.in_ok-marks.marks i c.cost_from.result
    c.as_slice-code.ensures c.as_slice-address-items.ensures (sym c.marks.view_is) c.cost_from.ensures)
    c.in_ok-push.ensures.items

pub cost_to_first_label-requires-clause-costed : goal.cost_to_first_label-requires-clause-costed
cost_to_first_label-requires-clause-costed c =
    start_has_one c.args.object.now.code c.args.object.now.labels c.as_slice-code.result.now c.as_slice.result.now c.in_ok-marks.marks
    c.requires.costed c.as_slice-code.ensures c.as_slice.ensures c.in_ok-marks.ensures

pub returns-clause-costs : goal.returns-clause-costs
returns-clause-costs c =
    let code = c.args.object.now.code in
    let labels = c.args.object.now.labels in
    let marks = c.marks.inside.flags.items in
    let all : c.loop-address.address-index ≡ length labels = omega (arith, ap length c.as_slice-address-items.ensures, c.loop-address.auto.address-index-end, c.loop-address-test.false) in
    let marked : AreMarks labels marks = subst (λ m. AreMarks labels m) (sym c.marks.view_is) (subst (λ l. AreMarks l c.in_ok-marks.marks) c.as_slice.ensures c.in_ok-marks.ensures) in
    are_costs code labels marks (record { start = c.cost_to_first_label.result; labels = c.loop-address.labels.items }) c.requires.costed marked
    (ap (λ z. start_cost z marks) (sym c.as_slice-code.ensures) ∙ (ap (start_cost c.as_slice-code.result.now) c.marks.view_is ∙ c.cost_to_first_label.ensures))
    (subst (λ n. AreCostsOfFirst n code labels marks c.loop-address.labels.items) all c.loop-address.invariant)
