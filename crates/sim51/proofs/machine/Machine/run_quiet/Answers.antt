use Rattle.std.proofs.Common.{arith, rules}
use Rattle.sim51.proofs.Skipping.{quiets_count, started, runs_further, fewer_left}
use Rattle.sim51.proofs.machine.Machine.run_quiet.Goals as goal

pub loop-cycles-init : goal.loop-cycles-init
loop-cycles-init c = started _ _ _ _ _ _ _ c.self.invariant c.self.view_is

pub index-requires : goal.index-requires
index-requires c = let count = quiets_count _ _ _ _ c.loop-cycles.invariant.tables in omega (arith, c.type_inv.pc.fits)

pub loop-cycles-smaller : goal.loop-cycles-smaller
loop-cycles-smaller c =
    fewer_left _ _ _ _ _ _ _ _ c.in-Some.quiet _ _ _ c.loop-cycles.invariant c.loop-cycles-test.true (search rules) c.index.ensures c.in-Some.is c.execute-executed.ensures c.deref.ensures.value

pub loop-cycles-preserved : goal.loop-cycles-preserved
loop-cycles-preserved c =
    runs_further _ _ _ _ _ _ _ _ c.in-Some.quiet _ _ _ c.loop-cycles.invariant c.loop-cycles-test.true (search rules) c.index.ensures c.in-Some.is c.execute-executed.ensures c.deref.ensures.value

pub invariant_of-self : goal.invariant_of-self
invariant_of-self c = c.loop-cycles.invariant.tables

pub returns-clause-code : goal.returns-clause-code
returns-clause-code c = c.loop-cycles.invariant.code_is

pub returns-clause-labels : goal.returns-clause-labels
returns-clause-labels c = c.loop-cycles.invariant.labels_are

pub returns-clause-skips : goal.returns-clause-skips
returns-clause-skips c = c.loop-cycles.invariant.skips
