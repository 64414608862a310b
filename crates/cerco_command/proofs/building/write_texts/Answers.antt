use Rattle.cerco_command.proofs.Writing.{written_first, writing_failed}
use Rattle.cerco_command.proofs.building.write_texts.Goals as goal

pub returns-in_err-write_output-2 : goal.returns-in_err-write_output-2
returns-in_err-write_output-2 g c =
    let names = c.args.names.now in
    rw (← c.deref.ensures, ← c.bytes.ensures, ← c.deref-2.ensures, ← c.bytes-2.ensures)
    (written_first _ _ _ _ _ _ c.in_ok-write_output.ensures
    (writing_failed _ _ _ _ _ _ c.in_err-write_output-2.ensures c.from_residual-in_err-write_output-2.ensures.1))

pub returns : goal.returns
returns g c =
    rw (← c.deref.ensures, ← c.bytes.ensures, ← c.deref-2.ensures, ← c.bytes-2.ensures, ← c.deref-3.ensures, ← c.bytes-3.ensures)
    (written_first _ _ _ _ _ _ c.in_ok-write_output.ensures
    (written_first _ _ _ _ _ _ c.in_ok-write_output-2.ensures c.write_output-3.ensures))
