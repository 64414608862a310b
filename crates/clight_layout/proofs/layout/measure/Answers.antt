use Rattle.std.proofs.Common.{◌≡◌, ◌<◌, length, map, get_or, sym, ap, ◌∙◌, arith}
use Rattle.std.proofs.lemmas.List.{length-map}
use Rattle.clight_syntax.specs.Code.TypedViews.{program_of}
use Rattle.clight_layout.specs.Calls.{callees}
use Rattle.clight_layout.proofs.Measures.{functions_sized, length-sizes, total_is, start_is, start_at}
use Rattle.clight_layout.proofs.layout.measure.Goals as goal

pub sums_of-requires-clause-functions : goal.sums_of-requires-clause-functions
sums_of-requires-clause-functions c =
    let p = program_of c.args.program.now in
    functions_sized (callees p.functions) c.args.order.now c.as_slice.result.now c.requires.order
    (sym (length-sizes p c.args.order.now c.requires.order c.as_slice.result.now (c.as_slice.ensures.value ∙ c.in_ok-sizes.ensures)))

pub returns-then-total-gt-GREATEST_DATA : goal.returns-then-total-gt-GREATEST_DATA
returns-then-total-gt-GREATEST_DATA c = (
  c.requires.no_cycle,
  c.requires.depth,
  total_is (program_of c.args.program.now) c.args.order.now c.requires.order c.as_slice.result.now (c.as_slice.ensures.value ∙ c.in_ok-sizes.ensures)
      c.in_ok-globals.globals c.in_ok-sums.sums.largest c.in_ok-total.total c.in_ok-globals.ensures c.in_ok-total.ensures.sum c.in_ok-sums.ensures.largest,
  c.if-total-gt-GREATEST_DATA.true,
)

pub returns : goal.returns
returns c =
    let p = program_of c.args.program.now in
    let sized = c.as_slice.ensures.value ∙ c.in_ok-sizes.ensures in
    let many = length-sizes p c.args.order.now c.requires.order c.as_slice.result.now sized in
    let all : length c.as_slice.result.now ≡ length p.functions = many ∙ length-map p.functions _ in
    let begun = c.in_ok-starts.ensures ∙ ap (map _) c.as_slice-2.ensures.value in
    record {
      count = ap length begun ∙ length-map c.in_ok-sums.sums.before.items _ ∙ c.in_ok-sums.ensures.length ∙ all;
      starts = λ f h.
          let within : f < length c.as_slice.result.now = omega (arith, all) in
          let among : f < length c.in_ok-sums.sums.before.items = omega (arith, all, c.in_ok-sums.ensures.length) in
          start_is p c.args.order.now c.requires.order c.as_slice.result.now sized c.in_ok-globals.globals f (get_or c.in_ok-sums.sums.before.items f 0) _ c.in_ok-globals.ensures
          (ap (λ l. get_or l f 0) begun ∙ start_at c.in_ok-globals.globals c.in_ok-sums.sums.before.items f among) (c.in_ok-sums.ensures.before f within);
      total = total_is p c.args.order.now c.requires.order c.as_slice.result.now sized
          c.in_ok-globals.globals c.in_ok-sums.sums.largest c.in_ok-total.total c.in_ok-globals.ensures c.in_ok-total.ensures.sum c.in_ok-sums.ensures.largest;
      fits = c.if-total-gt-GREATEST_DATA.false;
    }
