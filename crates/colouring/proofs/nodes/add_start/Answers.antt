use Rattle.std.proofs.lemmas.Result.{on_ok_weaker}
use Rattle.colouring.specs.Code.Neighbours.{numbers}
use Rattle.colouring.proofs.NodePairs.{start_adds}
use Rattle.colouring.proofs.nodes.add_start.Goals as goal

pub returns-else-covered : goal.returns-else-covered
returns-else-covered c =
    on_ok_weaker c.add_pairs.result (λ added. start_adds c.args.covered (numbers c.args.live.now) c.args.rows.now.items c.add_pairs.new.rows.items c.if-covered.false added) c.add_pairs.ensures
