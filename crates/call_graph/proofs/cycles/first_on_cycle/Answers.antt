use Rattle.std.proofs.Common.{arith, below_more, ℕ, length}
use Rattle.call_graph.specs.CallPaths.{Calls, IsOnCycle}
use Rattle.call_graph.specs.Code.Nodes.{callees_of}
use Rattle.call_graph.proofs.cycles.first_on_cycle.Goals as goal

pub loop-function-preserved : goal.loop-function-preserved
loop-function-preserved c =
    let P : ℕ → Type 0 = λ g. IsOnCycle (length c.args.nodes.now) (Calls (callees_of c.args.nodes.now)) g → ⊥ in
    below_more P c.loop-function.function c.loop-function.invariant (λ on. let yes_on = c.in_ok-is_on_cycle.ensures.cycle.1 on in let no_on = c.if-branch.false in cc)

pub returns-clause-first : goal.returns-clause-first
returns-clause-first c = record { cycle = c.requires.known; first = λ g h. let end = c.loop-function-test.false in c.loop-function.invariant g (omega arith) }
