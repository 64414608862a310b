use Rattle.std.proofs.Common.{arith, refl, []}
use Rattle.clight_meaning.specs.Code.Turns.{rest}
use Rattle.meaning_text.specs.Text.{meaning_text}
use Rattle.meaning_text.specs.Code.Counting.{costs_held}
use Rattle.meaning_text.proofs.Telling.{cannot_go_on, stopped, front_lost, goes_on, fewer, nothing_told}
use Rattle.meaning_text.proofs.tell_on.Goals as goal

pub loop-turn-init : goal.loop-turn-init
loop-turn-init g c =
    let costs = costs_held c.args.costs in
    let fits = c.ranges.limit.fits in
    let small = c.at_start.ensures.small in
    let value = c.at_start.ensures.value in
    nothing_told costs c.args.limit (g.O.Sink.state c.args.out.now) c.args.evaluator.now _ _ c.new-pending.ensures c.requires refl value (omega arith) (omega arith)

pub next-requires : goal.next-requires
next-requires g c =
    let fits = c.ranges.limit.fits in
    let all = c.loop-turn.invariant.labels in
    omega arith

pub returns-in_default : goal.returns-in_default
returns-in_default g c =
    let costs = costs_held c.args.costs in
    cannot_go_on costs (meaning_text costs (rest c.args.evaluator.now c.args.limit)) c.args.limit _ _ c.loop-turn.evaluator c.loop-turn.count c.loop-turn.pending.bytes.items c.loop-turn.invariant

pub returns-in_default-put_turn : goal.returns-in_default-put_turn
returns-in_default-put_turn g c =
    let costs = costs_held c.args.costs in
    cannot_go_on costs (meaning_text costs (rest c.args.evaluator.now c.args.limit)) c.args.limit _ _ c.loop-turn.evaluator c.loop-turn.count c.loop-turn.pending.bytes.items c.loop-turn.invariant

pub after-requires : goal.after-requires
after-requires g c = c.loop-turn.invariant.small

pub returns-in-None : goal.returns-in-None
returns-in-None g c =
    let costs = costs_held c.args.costs in
    stopped costs (meaning_text costs (rest c.args.evaluator.now c.args.limit)) c.args.limit _ _ _ c.loop-turn.evaluator c.next.new.self c.in-Ok.turn c.loop-turn.count c.loop-turn.pending.bytes.items c.put_turn.new.out.bytes.items c.put_all.result
    c.loop-turn.invariant c.in-Ok.ensures.told (c.in-Ok-put_turn.ensures.whole refl) c.in-None.ensures.count (rw c.bytes.ensures at c.put_all.ensures)

pub returns-in_err-pending : goal.returns-in_err-pending
returns-in_err-pending g c =
    let costs = costs_held c.args.costs in
    front_lost costs (meaning_text costs (rest c.args.evaluator.now c.args.limit)) c.args.limit _ _ _ c.loop-turn.evaluator c.next.new.self c.in-Ok.turn c.loop-turn.count c.in-Some.next c.loop-turn.pending.bytes.items c.put_turn.new.out.bytes.items c.in_err-pending.field-0.0 c.from_residual.result
    c.loop-turn.invariant c.in-Ok.ensures.told (c.in-Ok-put_turn.ensures.whole refl) c.in-Some.ensures.count c.in_err-pending.ensures.fault c.from_residual.ensures.1

pub loop-turn-smaller : goal.loop-turn-smaller
loop-turn-smaller g c =
    fewer (costs_held c.args.costs) [] c.args.limit c.loop-turn.evaluator c.next.new.self c.in-Ok.turn c.loop-turn.count c.in-Some.next c.in-Ok.ensures.told c.in-Some.ensures.count

pub loop-turn-preserved : goal.loop-turn-preserved
loop-turn-preserved g c =
    let costs = costs_held c.args.costs in
    goes_on costs (meaning_text costs (rest c.args.evaluator.now c.args.limit)) c.args.limit _ _ _ c.loop-turn.evaluator c.next.new.self c.in-Ok.turn c.loop-turn.count c.in-Some.next c.loop-turn.pending.bytes.items c.put_turn.new.out.bytes.items c.in_ok-pending.pending.bytes.items
    c.loop-turn.invariant c.in-Ok.ensures.told c.in-Ok.ensures.counted (c.in-Ok-put_turn.ensures.whole refl) c.in-Some.ensures.count c.in-Some.ensures.small c.in_ok-pending.ensures.front
