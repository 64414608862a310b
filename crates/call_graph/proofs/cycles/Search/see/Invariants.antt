use Rattle.std.proofs.Common.{take}
use Rattle.call_graph.specs.Code.Searches.{Sees}
use Rattle.call_graph.proofs.cycles.Search.see.Given as goal

abbrev pub invariant-loop-callee : goal.invariant-loop-callee
invariant-loop-callee l = Sees (take l.callee-index l.callees) l.goal l.fn.self.seen.items l.fn.self.work.items l.self.seen.items l.self.work.items
