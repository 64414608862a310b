use Rattle.std.proofs.Common.{◌≡◌, length, sym, ◌∙◌, subst, arith}
use Rattle.std.proofs.lemmas.Grind.{common_steps}
use Rattle.cerco_traces.specs.LabelledGraphs.{In}
use Rattle.liveness.specs.Code.Rows.{ways_of, AllBelow, AddedTo, AreTurned}
use Rattle.liveness.proofs.Turned.{turned_next}
use Rattle.liveness.proofs.ways.backward.Goals as goal

pub add_to_each-requires : goal.add_to_each-requires
add_to_each-requires c =
    subst (λ n. AllBelow c.row.result.now n) (sym c.loop-i.invariant.long) (subst (λ r. AllBelow r (length c.args.ways.now)) (sym c.row.ensures) (c.requires c.loop-i.i))

pub loop-i-preserved : goal.loop-i-preserved
loop-i-preserved c =
    let i = c.loop-i.i in
    let back = ways_of c.loop-i.back.items in
    let new = ways_of c.add_to_each.new.ways.items in
    record {
      long = c.in_ok-add_to_each.ensures.long ∙ c.loop-i.invariant.long;
      turned = turned_next (λ y x. In x (ways_of c.args.ways.now y)) i back new c.loop-i.invariant.turned (subst (λ r. AddedTo back (λ x. In x r) i new) c.row.ensures c.in_ok-add_to_each.ensures.added);
    }

pub returns-clause-turned : goal.returns-clause-turned
returns-clause-turned c =
    let all : c.loop-i.i ≡ length c.args.ways.now = grind (arith, common_steps) in
    subst (λ n. AreTurned (λ y x. In x (ways_of c.args.ways.now y)) n (ways_of c.loop-i.back.items)) all c.loop-i.invariant.turned
