use Rattle.std.proofs.Common.{◌+◌, length}
use Rattle.call_graph.specs.Code.Nodes.{callees_of}
use Rattle.call_graph.specs.Code.Searches.{IsSearch, unseen}
use Rattle.call_graph.proofs.cycles.is_on_cycle.Given as goal

abbrev pub invariant-loop-from : goal.invariant-loop-from
invariant-loop-from l = IsSearch (callees_of l.nodes) l.function l.search.seen.items l.search.work.items

abbrev pub decreases-loop-from : goal.decreases-loop-from
decreases-loop-from l = unseen l.search.seen.items + length l.search.work.items
