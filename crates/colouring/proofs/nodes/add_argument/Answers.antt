use Rattle.std.proofs.lemmas.Result.{on_ok_weaker}
use Rattle.colouring.specs.Code.Neighbours.{numbers}
use Rattle.colouring.proofs.NodePairs.{argument_adds}
use Rattle.colouring.proofs.nodes.add_argument.Goals as goal

pub returns-then-v-lt12 : goal.returns-then-v-lt12
returns-then-v-lt12 c =
    on_ok_weaker c.add_with.result (λ added. argument_adds c.args.v.0 (numbers c.args.others.now) c.args.rows.now.items c.add_with.new.rows.items c.if-v-lt12.true added) c.add_with.ensures
