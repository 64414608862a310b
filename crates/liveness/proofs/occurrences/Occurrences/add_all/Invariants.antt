use Rattle.std.proofs.Common.{◌≤◌, ◌^◌, length, take}
use Rattle.rtl.specs.Liveness.{IsAmong}
use Rattle.liveness.specs.Code.Rows.{AddedTo}
use Rattle.liveness.specs.Code.Views.{storages_of, occurrences_of}
use Rattle.liveness.proofs.occurrences.Occurrences.add_all.Given as goal

abbrev pub invariant-loop-storage : goal.invariant-loop-storage
invariant-loop-storage l = record {
  few : length l.self.vregs.items ≤ 2 ^ 32;
  added : AddedTo (occurrences_of l.fn.self) (λ s. IsAmong s (storages_of (take l.storage-index l.storages))) l.i (occurrences_of l.self);
}
