use Rattle.cerco_base.proofs.PuttingPieces.{begun_as, piece_put, last_put, piece_failed}
use Rattle.cerco_command.proofs.EventTexts.{events_text}
use Rattle.cerco_command.proofs.printing.put_events.Goals as goal

pub returns-in_err-put_label : goal.returns-in_err-put_label
returns-in_err-put_label g c =
    piece_failed _ _ _ _ _ _ _ _ (begun_as _ _ _ (events_text c.args.cycles c.args.events)) c.in_err-put_label.ensures c.from_residual.ensures.1

pub returns-in_err-put_port : goal.returns-in_err-put_port
returns-in_err-put_port g c =
    let label = piece_put _ _ _ _ _ _ _ (begun_as _ _ _ (events_text c.args.cycles c.args.events)) c.in_ok-put_label.ensures in
    piece_failed _ _ _ _ _ _ _ _ label c.in_err-put_port.ensures c.from_residual-in_err-put_port.ensures.1

pub returns : goal.returns
returns g c =
    let label = piece_put _ _ _ _ _ _ _ (begun_as _ _ _ (events_text c.args.cycles c.args.events)) c.in_ok-put_label.ensures in
    let read = piece_put _ _ _ _ _ _ _ label c.in_ok-put_port.ensures in
    last_put _ _ _ _ _ _ read c.put_port-2.ensures
