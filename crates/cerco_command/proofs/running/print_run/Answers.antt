use Rattle.std.proofs.Common.{arith}
use Rattle.sim51.specs.Runs.{setup_of}
use Rattle.sim51.proofs.Skipping.{skips_rise}
use Rattle.cerco_command.proofs.RunSteps.{started, went_silently, goes_on_printing, fewer_left, stop_printed, pending_lost, pending_unput}
use Rattle.cerco_command.proofs.running.print_run.Goals as goal

pub loop-status-init : goal.loop-status-init
loop-status-init g c = rw c.new-pending.ensures (started c.args.limit (g.O.Sink.state c.args.out.now) c.args.machine.now c.requires.reset)

pub print_step-requires : goal.print_step-requires
print_step-requires g c =
    let on = went_silently (setup_of c.args.machine.now) c.args.limit _ _ c.loop-status.machine c.skip.new.self c.loop-status.pending.bytes.items c.loop-status.invariant c.skip.ensures.code c.skip.ensures.labels c.skip.ensures.skips in
    omega (arith, on.cycles, c.requires.limit)

pub returns-in-Ok-Some : goal.returns-in-Ok-Some
returns-in-Ok-Some g c =
    let on = went_silently (setup_of c.args.machine.now) c.args.limit _ _ c.loop-status.machine c.skip.new.self c.loop-status.pending.bytes.items c.loop-status.invariant c.skip.ensures.code c.skip.ensures.labels c.skip.ensures.skips in
    stop_printed (setup_of c.args.machine.now) c.args.limit _ _ _ c.skip.new.self c.print_step.new.machine c.loop-status.pending.bytes.items c.print_step.new.pending.bytes.items c.in-Ok-Some.status c.say.result
    on (rw c.in-Ok-Some.field-0-is at c.in-Ok-Some.ensures.printed) (rw c.bytes.ensures at c.say.ensures)

pub returns-in-Err : goal.returns-in-Err
returns-in-Err g c = pending_lost (setup_of c.args.machine.now) c.args.limit _ _ c.loop-status.machine c.loop-status.pending.bytes.items c.loop-status.invariant

pub returns-in-Err-put_pending : goal.returns-in-Err-put_pending
returns-in-Err-put_pending g c =
    let on = went_silently (setup_of c.args.machine.now) c.args.limit _ _ c.loop-status.machine c.skip.new.self c.loop-status.pending.bytes.items c.loop-status.invariant c.skip.ensures.code c.skip.ensures.labels c.skip.ensures.skips in
    rw c.of_fault.ensures
    (pending_unput (setup_of c.args.machine.now) c.args.limit _ _ _ c.skip.new.self c.print_step.new.machine c.loop-status.pending.bytes.items c.print_step.new.pending.bytes.items c.in-Err-put_pending.fault
    on (rw c.in-Ok-None.field-0-is at c.in-Ok-None.ensures.printed) c.in-Err-put_pending.ensures.fault)

pub loop-status-smaller : goal.loop-status-smaller
loop-status-smaller g c =
    let on = went_silently (setup_of c.args.machine.now) c.args.limit _ _ c.loop-status.machine c.skip.new.self c.loop-status.pending.bytes.items c.loop-status.invariant c.skip.ensures.code c.skip.ensures.labels c.skip.ensures.skips in
    let rest = skips_rise c.loop-status.machine.code c.loop-status.machine.labels c.args.limit c.loop-status.machine.state c.skip.new.self.state c.skip.ensures.skips in
    let fewer = fewer_left (setup_of c.args.machine.now) c.args.limit _ _ c.skip.new.self c.print_step.new.machine c.loop-status.pending.bytes.items c.print_step.new.pending.bytes.items on (rw c.in-Ok-None.field-0-is at c.in-Ok-None.ensures.printed) in
    omega arith

pub loop-status-preserved : goal.loop-status-preserved
loop-status-preserved g c =
    let on = went_silently (setup_of c.args.machine.now) c.args.limit _ _ c.loop-status.machine c.skip.new.self c.loop-status.pending.bytes.items c.loop-status.invariant c.skip.ensures.code c.skip.ensures.labels c.skip.ensures.skips in
    goes_on_printing (setup_of c.args.machine.now) c.args.limit _ _ _ c.skip.new.self c.print_step.new.machine c.loop-status.pending.bytes.items c.print_step.new.pending.bytes.items c.in-Ok.left.bytes.items
    on (rw c.in-Ok-None.field-0-is at c.in-Ok-None.ensures.printed) c.print_step.ensures.code c.print_step.ensures.labels c.in-Ok.ensures.front
