use Rattle.std.proofs.Common.{ℕ, ◌+◌, ◌≤◌, List, [], ◌∷◌, ◌↔◌, length, sym, ap, ◌∙◌, subst, arith, length-append}
use Rattle.std.proofs.lemmas.Grind.{common_steps}
use Rattle.cerco_traces.specs.LabelledGraphs.{In}
use Rattle.liveness.specs.declared.ways.Ways.{Ways}
use Rattle.liveness.specs.Code.Rows.{ways_of}
use Rattle.liveness.specs.Code.Views.{numbered_graph}
use Rattle.liveness.specs.Code.Points.{count}
use Rattle.liveness.specs.Code.Flow.{LeadsOn}
use Rattle.liveness.proofs.LeadLists.{rows_more}
use Rattle.liveness.proofs.flow.forward.Goals as goal

pub loop-i-preserved : goal.loop-i-preserved
loop-i-preserved c =
    let g = numbered_graph c.args.graph.now in
    let points = c.args.points.now in
    let pushed = c.in_ok-push.ensures.items in
    let new : Ways = record { to = c.in_ok-ways_from.field-0 } in
    record {
      long = ap length pushed ∙ length-append c.loop-i.ways.items (new ∷ []) ∙ ap (λ n. n + 1) c.loop-i.invariant.long;
      each = λ i j lt. subst (λ z. In j (ways_of z i) ↔ LeadsOn g points i j) (sym {A = List Ways} pushed)
          (rows_more (λ x row. (j : ℕ) → In j row ↔ LeadsOn g points x j) c.loop-i.ways.items new c.loop-i.i c.loop-i.invariant.long (λ x below j. c.loop-i.invariant.each x j below) c.in_ok-ways_from.ensures i lt j);
    }

pub returns-clause-each : goal.returns-clause-each
returns-clause-each c =
    let past : count c.args.points.now ≤ c.loop-i.i = grind (arith, common_steps) in
    λ i j lt. c.loop-i.invariant.each i j (omega (arith, lt, past))
