use Rattle.std.proofs.Common.{arith}
use Rattle.object_hex.proofs.RecordForm.{record_bytes-long, record_bytes-odd}
use Rattle.object_hex.proofs.reading.record.read_record.Goals.{then-digits-count-via-then-digits-count, then-digits-count-via-else-digits-count+then-count-gt-MOST_IN_RECORD}
use Rattle.object_hex.proofs.reading.record.read_record.Goals as goal

pub returns-then-digits-count : goal.returns-then-digits-count
returns-then-digits-count c = elim c.then-digits-count.branch [
  | then-digits-count-via-then-digits-count w ↦ record_bytes-odd c.args.line.now (omega arith)
  | then-digits-count-via-else-digits-count+then-count-gt-MOST_IN_RECORD w ↦ record_bytes-long c.args.line.now (omega arith)
]
