use Rattle.std.proofs.Common.{◌≡◌, refl, sym, subst}
use Rattle.std.proofs.lemmas.Result.{on_ok_weaker}
use Rattle.liveness.specs.declared.occurrences.Occurrences.{Occurrences}
use Rattle.liveness.specs.declared.storages.Storage.TheVariants as Written
use Rattle.liveness.specs.Code.Rows.{AddedTo}
use Rattle.liveness.specs.Code.Views.{storage_of, occurrences_of}
use Rattle.liveness.proofs.Occurring.{occurs_vreg, occurs_carry}
use Rattle.liveness.proofs.occurrences.Occurrences.add.Goals as goal

pub returns-in_ok-grow-in-Vreg-clause-added : goal.returns-in_ok-grow-in-Vreg-clause-added
returns-in_ok-grow-in-Vreg-clause-added c =
    let old = c.args.self.now in
    let new : Occurrences = record { vregs = c.add_way.new.ways; carry = c.args.self.now.carry } in
    let is : c.args.storage ≡ Written.Vreg c.in-Vreg.v = cc in
    on_ok_weaker c.add_way.result
    (λ at. subst (λ z. AddedTo (occurrences_of old) (λ s. storage_of z ≡ s) c.args.i (occurrences_of new)) (sym is)
    (occurs_vreg old new c.grow.new.ways.items c.in-Vreg.v c.args.i c.in_ok-grow-in-Vreg.ensures.same at refl))
    c.add_way.ensures.added

pub returns-in_ok-push-in-Carry-clause-added : goal.returns-in_ok-push-in-Carry-clause-added
returns-in_ok-push-in-Carry-clause-added c =
    let old = c.args.self.now in
    let new : Occurrences = record { vregs = c.args.self.now.vregs; carry = record { to = c.push.new.self } } in
    let is : c.args.storage ≡ Written.Carry = cc in
    subst (λ z. AddedTo (occurrences_of old) (λ s. storage_of z ≡ s) c.args.i (occurrences_of new)) (sym is)
    (occurs_carry old new c.args.i refl c.in_ok-push-in-Carry.ensures.items)
