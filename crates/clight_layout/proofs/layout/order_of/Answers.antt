use Rattle.std.proofs.Common.{ℕ, List, map, ap, subst, ◌∙◌}
use Rattle.call_graph.specs.CallPaths.{IsOrderOf}
use Rattle.clight_syntax.specs.Code.TypedViews.{function_of}
use Rattle.clight_layout.specs.Calls.{callees}
use Rattle.clight_layout.specs.Layout.{HasNoCycle}
use Rattle.clight_layout.proofs.layout.order_of.Goals as goal

pub returns-in-Ok : goal.returns-in-Ok
returns-in-Ok c =
    let P : List (List ℕ) → Type 0 = λ g. IsOrderOf g c.in-Ok.order × HasNoCycle g in
    subst P (c.in_ok-graph.ensures ∙ ap (λ fs. callees (map function_of fs)) c.as_slice.ensures.value) (c.in-Ok.ensures.order, c.in-Ok.ensures.no_cycle)
