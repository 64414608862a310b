use Rattle.std.proofs.Common.{replicate, length, map, sym, ap, ◌∙◌}
use Rattle.std.proofs.lemmas.List.{length-replicate}
use Rattle.clight_syntax.specs.Code.TypedViews.{function_of}
use Rattle.clight_layout.specs.Calls.{callees}
use Rattle.clight_layout.proofs.Measures.{length-callees, functions_sized, depth_is}
use Rattle.clight_layout.proofs.layout.check_depth.Goals as goal

pub sums_of-requires-clause-functions : goal.sums_of-requires-clause-functions
sums_of-requires-clause-functions c =
    functions_sized (callees (map function_of c.args.program.now.functions.items)) c.args.order.now c.as_slice.result.now c.requires.order
    (length-callees c.args.program.now.functions.items ∙ sym (ap length c.as_slice-functions.ensures.value) ∙ sym (length-replicate (length c.as_slice-functions.result.now) 1)
    ∙ sym (ap length (c.as_slice.ensures.value ∙ c.in_ok-ones.ensures)))

pub returns-then-depth-gt-GREATEST_DEPTH : goal.returns-then-depth-gt-GREATEST_DEPTH
returns-then-depth-gt-GREATEST_DEPTH c = (
  c.requires.no_cycle,
  depth_is (callees (map function_of c.args.program.now.functions.items)) c.args.order.now c.as_slice.result.now _ c.requires.order
      (c.as_slice.ensures.value ∙ c.in_ok-ones.ensures ∙ ap (λ n. replicate n 1) (ap length c.as_slice-functions.ensures.value ∙ sym (length-callees c.args.program.now.functions.items)))
      c.in_ok-sums.ensures.largest,
  c.if-depth-gt-GREATEST_DEPTH.true,
)

pub returns : goal.returns
returns c = (
  c.in_ok-sums.sums.largest,
  depth_is (callees (map function_of c.args.program.now.functions.items)) c.args.order.now c.as_slice.result.now _ c.requires.order
      (c.as_slice.ensures.value ∙ c.in_ok-ones.ensures ∙ ap (λ n. replicate n 1) (ap length c.as_slice-functions.ensures.value ∙ sym (length-callees c.args.program.now.functions.items)))
      c.in_ok-sums.ensures.largest,
  c.if-depth-gt-GREATEST_DEPTH.false,
)
