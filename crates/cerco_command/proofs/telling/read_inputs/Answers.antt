use Rattle.cerco_command.proofs.FilesRead.{read_from}
use Rattle.cerco_command.proofs.telling.read_inputs.Goals as goal

pub returns-clause-read : goal.returns-clause-read
returns-clause-read g c = λ h.
    let s = g.F.Files.state c.args.files.now in
    let t = g.F.Files.state c.read_input.new.files in
    let known = c.read_input.ensures.known h in
    let first = c.read_input.ensures.same h in
    record {
      source_read = rw (← c.deref.ensures) (c.in_ok-source.ensures.read h);
      script_read = rw (← c.deref-2.ensures) (read_from 16777217 s t _ _ first (c.in_ok-script.ensures.read known));
    }
