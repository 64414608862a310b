use Rattle.std.proofs.Common.{◌≡◌, false, take}
use Rattle.clight_nodes.specs.Code.States.{now}
use Rattle.clight_nodes.specs.Code.Recogniser.{run, start, is_refused}
use Rattle.clight_reader.proofs.reading.recognise.Given as goal

abbrev pub invariant-loop-i : goal.invariant-loop-i
invariant-loop-i l = record {
  reads : now l.mode l.forms.items l.nodes.items ≡ run start (take l.i l.terminals);
  goes_on : is_refused l.mode ≡ false;
}
