use Rattle.std.proofs.Common.{◌≡◌, ◌<◌, List, [], length, Option, Some, None, get_or, take, replicate, refl, ap, ◌∙◌, arith, rules}
use Rattle.std.proofs.lemmas.List.{get_or-replicate, length-replicate, take_all}
use Rattle.std.proofs.lemmas.Option.{slice_get-get_or}
use Rattle.cerco_base.specs.declared.events.Label.{Label}
use Rattle.sim51.specs.Step.{label_at}
use Rattle.sim51.proofs.Tables.{IsTable, table_grows, at_most_all}
use Rattle.sim51.proofs.slots.label_table.Goals as goal

no_labels : (table : List (Option Label)) → table ≡ replicate 65536 None → IsTable [] table
no_labels table clean = record {
  count = ap length clean ∙ length-replicate {A = Option Label} 65536 None;
  each = λ a low. ap (λ l. get_or l a None) clean ∙ get_or-replicate 65536 a None None low;
}

pub loop-number-init : goal.loop-number-init
loop-number-init c = no_labels _ (c.in_ok-table.ensures.items_if_clones_equal (search rules))

pub overflow_cast-number : goal.overflow_cast-number
overflow_cast-number c =
    let most = at_most_all c.args.labels.now c.requires (λ k lt. omega (arith, c.type_inv.labels k)) in omega arith

pub loop-number-preserved : goal.loop-number-preserved
loop-number-preserved c =
    let at = get_or c.args.labels.now c.loop-number.number 0 in
    let low : at < 65536 = omega (arith, c.type_inv.labels c.loop-number.number) in
    table_grows c.args.labels.now c.loop-number.table.items c.loop-number.number at c.requires (omega arith) refl low c.loop-number.invariant

pub returns-clause-each : goal.returns-clause-each
returns-clause-each c a low =
    let whole : take c.loop-number.number c.args.labels.now ≡ c.args.labels.now = take_all c.loop-number.number c.args.labels.now (omega arith) in
    slice_get-get_or c.loop-number.table.items a None (omega (arith, c.loop-number.invariant.count)) ∙ ap Some (c.loop-number.invariant.each a low ∙ ap (λ l. label_at l a) whole)
