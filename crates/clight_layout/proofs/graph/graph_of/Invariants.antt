use Rattle.std.proofs.Common.{◌≡◌, ◌-◌, ◌++◌, [], length, map, take, replicate}
use Rattle.clight_syntax.specs.Code.TypedViews.{function_of}
use Rattle.clight_layout.specs.Calls.{body_calls}
use Rattle.clight_layout.proofs.graph.graph_of.Given as goal

abbrev pub invariant-loop-caller : goal.invariant-loop-caller
invariant-loop-caller l = record {
  count : length l.graph ≡ l.count;
  calls : l.graph ≡ map (body_calls (length l.functions)) (map function_of (take l.caller l.functions)) ++ replicate (length l.functions - l.caller) [];
}
