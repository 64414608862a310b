use Rattle.std.proofs.Common.{◌≡◌, map, take, subst, arith}
use Rattle.std.proofs.lemmas.Grind.{common_steps}
use Rattle.rtl.specs.Code.Views.{graph_of, item_of}
use Rattle.lin_gen.specs.Linearised.{AreOrderings}
use Rattle.lin_gen.proofs.Whole.{ready_at, orderings_on}
use Rattle.lin_gen.proofs.programs.linearise_all.Goals as goal

pub linearise-requires-clause-labelled : goal.linearise-requires-clause-labelled
linearise-requires-clause-labelled c = (ready_at c.args.graphs.now c.loop-graph.graph-index c.graph-item.result c.requires c.loop-graph-test.true c.graph-item.is).0

pub linearise-requires-clause-formed : goal.linearise-requires-clause-formed
linearise-requires-clause-formed c = (ready_at c.args.graphs.now c.loop-graph.graph-index c.graph-item.result c.requires c.loop-graph-test.true c.graph-item.is).1.0

pub linearise-requires-clause-places : goal.linearise-requires-clause-places
linearise-requires-clause-places c = (ready_at c.args.graphs.now c.loop-graph.graph-index c.graph-item.result c.requires c.loop-graph-test.true c.graph-item.is).1.1

pub loop-graph-preserved : goal.loop-graph-preserved
loop-graph-preserved c = orderings_on c.args.graphs.now c.loop-graph.graph-index c.graph-item.result c.loop-graph.lins c.push.new.self c.in_ok-linearise.field-0 c.requires c.loop-graph-test.true c.graph-item.is c.loop-graph.invariant c.in_ok-linearise.ensures.is c.in_ok-push.ensures.added

pub returns : goal.returns
returns c =
    let whole : take c.loop-graph.graph-index c.args.graphs.now ≡ c.args.graphs.now = grind (arith, common_steps) in
    subst (λ z. AreOrderings (map graph_of z) (map (map item_of) c.loop-graph.lins)) whole c.loop-graph.invariant
