use Rattle.cerco_command.proofs.ListSteps.{goes_on_printing, reserved_printed, end_printed, pending_lost, pending_unput}
use Rattle.cerco_command.proofs.listing.print_listing.Goals as goal

pub returns-in-Ok-None : goal.returns-in-Ok-None
returns-in-Ok-None g c =
    reserved_printed c.args.code.now _ _ _ c.loop-address.address c.loop-address.pending.bytes.items c.list_one.new.pending.bytes.items c.say.result c.loop-address-test.true c.loop-address.invariant (rw c.in-Ok-None.field-0-is at c.in-Ok-None.ensures) (rw c.bytes.ensures at c.say.ensures)

pub returns-in-Err : goal.returns-in-Err
returns-in-Err g c = pending_lost c.args.code.now _ _ c.loop-address.address _ c.loop-address-test.true c.loop-address.invariant

pub returns-in-Err-put_pending : goal.returns-in-Err-put_pending
returns-in-Err-put_pending g c =
    rw c.of_fault.ensures (pending_unput c.args.code.now _ _ _ c.loop-address.address c.in-Ok-Some.next c.loop-address.pending.bytes.items c.list_one.new.pending.bytes.items c.in-Err-put_pending.fault c.loop-address-test.true c.loop-address.invariant (rw c.in-Ok-Some.field-0-is at c.in-Ok-Some.ensures) c.in-Err-put_pending.ensures.fault)

pub loop-address-preserved : goal.loop-address-preserved
loop-address-preserved g c =
    goes_on_printing c.args.code.now _ _ _ c.loop-address.address c.in-Ok-Some.next c.loop-address.pending.bytes.items c.list_one.new.pending.bytes.items _ c.loop-address-test.true c.loop-address.invariant (rw c.in-Ok-Some.field-0-is at c.in-Ok-Some.ensures) c.in-Ok.ensures.front

pub returns : goal.returns
returns g c =
    end_printed c.args.code.now _ _ _ c.loop-address.address _ c.say-2.result c.loop-address-test.false c.loop-address.invariant (rw c.bytes-2.ensures at c.say-2.ensures)
