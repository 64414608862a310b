use Rattle.std.proofs.Common.{arith}
use Rattle.clight_build_items.specs.Code.Views.{whole_of}
use Rattle.clight_build_items.proofs.ItemFolds.{at_start, next_added, built}
use Rattle.clight_build_items.proofs.build.build.Goals as goal

pub loop-node-init : goal.loop-node-init
loop-node-init c = at_start _ _ _ c.no_stacks-parts.ensures c.no_declarations-declarations.ensures c.new-items.ensures.items

pub loop-node-preserved : goal.loop-node-preserved
loop-node-preserved c = next_added c.args.nodes.now c.loop-node.node-index _ _ _ c.loop-node-test.true c.loop-node.invariant c.in_ok-add.ensures

pub returns : goal.returns
returns c = λ items g. built c.args.nodes.now c.loop-node.node-index (whole_of c.loop-node.parts c.loop-node.declarations c.loop-node.items.items) items (omega arith) c.loop-node.invariant g
