use Rattle.std.proofs.Common.{◌≡◌, take, sym, ◌∙◌, subst, arith}
use Rattle.std.proofs.lemmas.List.{take_more, take_all}
use Rattle.cerco_traces.specs.LabelledGraphs.{In}
use Rattle.liveness.specs.Code.Rows.{ways_of, AddedTo}
use Rattle.liveness.proofs.Lists.{in_at, distinct_before}
use Rattle.liveness.proofs.Turned.{each_next, once_next}
use Rattle.liveness.proofs.ways.add_to_each.Goals as goal

pub add_way-requires : goal.add_way-requires
add_way-requires c =
    let lt = c.requires _ (in_at c.args.rows.now c.loop-x.x-index 0 c.loop-x-test.true) in
    let e = c.loop-x.invariant.long in
    omega (arith, lt, e)

pub loop-x-preserved : goal.loop-x-preserved
loop-x-preserved c =
    let k = c.loop-x.x-index in
    let rows = c.args.rows.now in
    let old = ways_of c.args.ways.now.items in
    let now = ways_of c.loop-x.ways.items in
    let new = ways_of c.add_way.new.ways.items in
    record {
      long = c.in_ok-add_way.ensures.long ∙ c.loop-x.invariant.long;
      added = subst (λ z. AddedTo old (λ y. In y z) c.args.i new) (sym (take_more rows k 0 c.loop-x-test.true))
          (each_next old now new (take k rows) _ c.args.i c.loop-x.invariant.added c.in_ok-add_way.ensures.added);
      once = λ d. once_next old now new (take k rows) _ c.args.i (distinct_before rows k 0 d c.loop-x-test.true) c.loop-x.invariant.added (c.loop-x.invariant.once d) c.in_ok-add_way.ensures.added;
    }

pub returns-clause-added : goal.returns-clause-added
returns-clause-added c =
    let rows = c.args.rows.now in
    let all : take c.loop-x.x-index rows ≡ rows = take_all c.loop-x.x-index rows (omega arith) in
    subst (λ z. AddedTo (ways_of c.args.ways.now.items) (λ y. In y z) c.args.i (ways_of c.loop-x.ways.items)) all c.loop-x.invariant.added
