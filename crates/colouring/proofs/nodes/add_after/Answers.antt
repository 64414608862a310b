use Rattle.std.proofs.Common.{sym, subst}
use Rattle.std.proofs.lemmas.Result.{on_ok_weaker}
use Rattle.colouring.specs.Code.Neighbours.{HasAdded, AfterCall}
use Rattle.colouring.proofs.nodes.add_after.Goals as goal

pub returns-in-Call : goal.returns-in-Call
returns-in-Call c =
    on_ok_weaker c.add_returned.result (λ added. subst (λ exit. HasAdded (AfterCall exit c.args.live.now) c.args.rows.now.items c.add_returned.new.rows.items) (sym c.in-Call.is) added) c.add_returned.ensures
