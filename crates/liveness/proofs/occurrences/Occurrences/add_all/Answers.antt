use Rattle.std.proofs.Common.{◌≡◌, take, sym, subst, arith}
use Rattle.std.proofs.lemmas.List.{map_more, take_all}
use Rattle.rtl.specs.Liveness.{IsAmong}
use Rattle.liveness.specs.Code.Rows.{AddedTo}
use Rattle.liveness.specs.Code.Views.{storage_of, storages_of, occurrences_of}
use Rattle.liveness.proofs.Occurring.{occurs_next}
use Rattle.liveness.proofs.occurrences.Occurrences.add_all.Goals as goal

pub loop-storage-preserved : goal.loop-storage-preserved
loop-storage-preserved c =
    let k = c.loop-storage.storage-index in
    let list = c.args.storages.now in
    let old = occurrences_of c.args.self.now in
    let now = occurrences_of c.loop-storage.self in
    let new = occurrences_of c.add.new.self in
    record {
      few = c.in_ok-add.ensures.few;
      added = subst (λ z. AddedTo old (λ s. IsAmong s z) c.args.i new) (sym (map_more storage_of list k _ c.loop-storage-test.true))
          (occurs_next old now new (storages_of (take k list)) _ c.args.i c.loop-storage.invariant.added c.in_ok-add.ensures.added);
    }

pub returns-clause-added : goal.returns-clause-added
returns-clause-added c =
    let list = c.args.storages.now in
    let all : take c.loop-storage.storage-index list ≡ list = take_all c.loop-storage.storage-index list (omega arith) in
    subst (λ z. AddedTo (occurrences_of c.args.self.now) (λ s. IsAmong s (storages_of z)) c.args.i (occurrences_of c.loop-storage.self)) all c.loop-storage.invariant.added
