use Rattle.std.proofs.Common.{◌≡◌, take}
use Rattle.clight_nodes.specs.Code.States.{newest}
use Rattle.clight_nesting.specs.Code.Levels.{measured}
use Rattle.clight_nesting.specs.Code.Views.{levels_of}
use Rattle.clight_nesting.proofs.nesting.nesting.Given as goal

abbrev pub invariant-loop-node : goal.invariant-loop-node
invariant-loop-node l = levels_of l.x ≡ measured (newest (take l.node-index l.nodes))
