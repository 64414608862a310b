use Rattle.std.proofs.Common.{length, map}
use Rattle.rtl.specs.Code.Views.{node_of}
use Rattle.colouring.specs.Code.Neighbours.{AtNodes}
use Rattle.colouring.proofs.NodePairs.{rows_by}
use Rattle.colouring.proofs.nodes.rows_of.Goals as goal

pub returns-clause-pairs : goal.returns-clause-pairs
returns-clause-pairs c =
    rows_by (AtNodes c.args.covered.now (map node_of c.args.nodes.now) c.args.live.now (length c.args.nodes.now)) c.in_ok-rows.rows.items c.add_nodes.new.rows.items c.in_ok-rows.ensures.none c.in_ok-add_nodes.ensures
