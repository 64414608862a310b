use Rattle.std.proofs.Common.{[], refl, sym, ◌∙◌, arith}
use Rattle.clight_reader.proofs.Stops.{at_start, next_reads, at_terminal, at_end, at_nodes}
use Rattle.clight_reader.proofs.reading.recognise.Goals as goal

pub loop-i-init : goal.loop-i-init
loop-i-init c = record { reads = at_start [] _ c.new-nodes.ensures.items; goes_on = refl }

pub returns-then-is_refused-clause-fault : goal.returns-then-is_refused-clause-fault
returns-then-is_refused-clause-fault c =
    at_terminal c.args.terminals.now c.loop-i.i _ _ _ _ _ _ c.loop-i-test.true c.loop-i.invariant.reads c.loop-i.invariant.goes_on
    (next_reads c.args.terminals.now c.loop-i.i _ _ _ _ _ _ _ _ c.loop-i-test.true c.loop-i.invariant.reads c.in_ok-next.ensures c.again-mode.ensures)
    (sym c.is_refused.ensures ∙ c.if-is_refused.true)

pub loop-i-preserved : goal.loop-i-preserved
loop-i-preserved c = record {
  reads = next_reads c.args.terminals.now c.loop-i.i _ _ _ _ _ _ _ _ c.loop-i-test.true c.loop-i.invariant.reads c.in_ok-next.ensures c.again-mode.ensures;
  goes_on = sym c.is_refused.ensures ∙ c.if-is_refused.false;
}

pub returns-then-may_end-clause-nodes : goal.returns-then-may_end-clause-nodes
returns-then-may_end-clause-nodes c = at_nodes c.args.terminals.now c.loop-i.i _ _ _ (omega arith) c.loop-i.invariant.reads (sym c.may_end.ensures ∙ c.if-may_end.true)

pub returns-clause-fault : goal.returns-clause-fault
returns-clause-fault c =
    at_end c.args.terminals.now c.loop-i.i _ _ _ (omega arith) c.loop-i.invariant.reads c.loop-i.invariant.goes_on (sym c.may_end.ensures ∙ c.if-may_end.false)
