use Rattle.std.proofs.Common.{arith}
use Rattle.clight_nesting.specs.Code.Views.{levels_of}
use Rattle.clight_nesting.proofs.ItemDepths.{no_levels, next_measured, nesting_of}
use Rattle.clight_nesting.proofs.nesting.nesting.Goals as goal

pub loop-node-init : goal.loop-node-init
loop-node-init c = no_levels _ c.new.ensures.items

pub loop-node-preserved : goal.loop-node-preserved
loop-node-preserved c = next_measured c.args.nodes.now c.loop-node.node-index _ (levels_of c.loop-node.x) _ c.loop-node-test.true c.loop-node.invariant c.in_ok-measure.ensures

pub returns : goal.returns
returns c = λ items g. nesting_of c.args.nodes.now c.loop-node.node-index (levels_of c.loop-node.x) items (omega arith) c.loop-node.invariant g
