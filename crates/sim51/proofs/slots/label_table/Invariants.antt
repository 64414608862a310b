use Rattle.std.proofs.Common.{take}
use Rattle.sim51.proofs.Tables.{IsTable}
use Rattle.sim51.proofs.slots.label_table.Given as goal

abbrev pub invariant-loop-number : goal.invariant-loop-number
invariant-loop-number l = IsTable (take l.number l.labels) l.table.items
