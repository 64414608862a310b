use Rattle.std.proofs.Common.{◌≡◌, map, take}
use Rattle.cerco_base.specs.Code.CallOrderView.{called}
use Rattle.cerco_base.proofs.call_order.duplicate_entries.Given as goal

-- the copies of the entries so far
abbrev pub invariant-loop-entry : goal.invariant-loop-entry
invariant-loop-entry l = map called l.copies.items ≡ map called (take l.entry-index l.entries)
