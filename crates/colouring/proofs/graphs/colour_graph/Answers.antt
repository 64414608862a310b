use Rattle.std.proofs.Common.{sym, subst}
use Rattle.colouring.specs.Code.Rows.{near_of, AreEarlier}
use Rattle.colouring.proofs.Made.{graph_ready, entries_below, is_greedy, are_counted}
use Rattle.colouring.proofs.graphs.colour_graph.Goals as goal

pub live_across-requires-clause-below : goal.live_across-requires-clause-below
live_across-requires-clause-below c = entries_below c.args.graph.now c.args.live.now c.requires.live c.args.count c.requires.named c.as_slice-nodes.result.now c.as_slice-nodes.ensures

pub rows_of-requires-clause-ready : goal.rows_of-requires-clause-ready
rows_of-requires-clause-ready c = graph_ready c.args.graph.now c.args.live.now c.requires.live c.args.count c.requires.named c.as_slice-nodes.result.now c.as_slice-nodes.ensures

pub colour_rows-requires-clause-earlier : goal.colour_rows-requires-clause-earlier
colour_rows-requires-clause-earlier c = subst (λ rows. AreEarlier (near_of rows)) (sym c.deref-2.ensures.value) (λ v w i. (c.in_ok-rows.ensures.pairs.only v w i).0)

pub returns-clause-greedy : goal.returns-clause-greedy
returns-clause-greedy c =
    is_greedy c.args.graph.now c.args.live.now c.requires.live c.args.count c.requires.named c.as_slice-nodes.result.now c.as_slice-nodes.ensures c.in_ok-across.across.items c.in_ok-marks.marks.items c.deref-3.result.now c.deref.result.now c.in_ok-rows.rows.items
    c.deref-2.result.now c.deref-3.ensures.value c.deref.ensures.value c.deref-2.ensures.value c.in_ok-rows.ensures.long c.in_ok-across.ensures.marked c.in_ok-marks.ensures.only c.in_ok-rows.ensures.pairs c.colour_rows.result c.colour_rows.ensures.long
    c.colour_rows.ensures.given

pub returns-clause-cells : goal.returns-clause-cells
returns-clause-cells c =
    are_counted c.args.graph.now c.args.live.now c.requires.live c.args.count c.requires.named c.as_slice-nodes.result.now c.as_slice-nodes.ensures c.in_ok-across.across.items c.in_ok-marks.marks.items c.deref-3.result.now c.deref.result.now c.in_ok-rows.rows.items
    c.deref-2.result.now c.deref-3.ensures.value c.deref.ensures.value c.deref-2.ensures.value c.in_ok-rows.ensures.long c.in_ok-across.ensures.marked c.in_ok-marks.ensures.only c.in_ok-rows.ensures.pairs c.colour_rows.result c.colour_rows.ensures.long
    c.colour_rows.ensures.given
