use Rattle.std.proofs.Common.{◌≡◌, take}
use Rattle.clight_nodes.specs.Code.States.{newest}
use Rattle.clight_build_items.specs.Code.Stacks.{added}
use Rattle.clight_build_items.specs.Code.Views.{whole_of}
use Rattle.clight_build_items.proofs.build.build.Given as goal

abbrev pub invariant-loop-node : goal.invariant-loop-node
invariant-loop-node l = whole_of l.parts l.declarations l.items.items ≡ added (newest (take l.node-index l.nodes))
