use Rattle.std.proofs.Common.{◌≡◌, suc, ◌+◌, ◌<◌, ◌≤◌, ◌⊎◌, [], ◌∷◌, length, ap, ◌∙◌, subst, arith, length-append}
use Rattle.colouring.proofs.Members.{all_in}
use Rattle.colouring.proofs.Given.{row_read, next_given}
use Rattle.colouring.proofs.greedy.colour_rows.Goals as goal
use Rattle.cerco_traces.specs.LabelledGraphs.{In}

pub held_colours-requires-clause-row : goal.held_colours-requires-clause-row
held_colours-requires-clause-row c =
    let row = row_read c.args.rows.now c.loop-v.v c.index-rows-v.result c.deref.result.now c.loop-v-test.true c.index-rows-v.is c.deref.ensures.value in
    all_in (λ w. w < length c.as_slice.result.now) c.deref.result.now (λ w i.
    let less : w < c.loop-v.v = c.requires.earlier c.loop-v.v w (subst (In w) row i) in
    let shown = ap length c.as_slice.ensures in
    let long = c.loop-v.invariant.long in
    omega (arith, less, shown, long))

pub loop-v-preserved : goal.loop-v-preserved
loop-v-preserved c =
    let row = row_read c.args.rows.now c.loop-v.v c.index-rows-v.result c.deref.result.now c.loop-v-test.true c.index-rows-v.is c.deref.ensures.value in
    let added = c.in_ok-push.ensures.added in
    let next = c.free_colour-colour.ensures.next in
    let marks = ap length c.deref-in-loop-v.ensures.value in
    let long = c.in_ok-held.ensures.long in
    let low : c.free_colour-colour.result < c.max-end.result = omega arith in
    let high : c.loop-v.end ≤ c.max-end.result = omega arith in
    let which : (c.max-end.result ≡ c.loop-v.end) ⊎ (c.max-end.result ≡ suc c.free_colour-colour.result) = grind arith in
    record {
      long = ap length added ∙ length-append c.loop-v.colours (c.free_colour-colour.result ∷ []) ∙ ap (λ n. n + 1) c.loop-v.invariant.long;
      end_low = omega arith;
      end_high = omega (arith, next, marks, long);
      few = omega (arith, next, marks, long);
      given =
          next_given c.args.rows.now c.args.across.now c.in_ok-held.held.items c.deref-in-loop-v.result.now c.loop-v.colours c.as_slice.result.now c.deref.result.now c.push.new.self c.loop-v.v c.loop-v.end c.free_colour-colour.result c.max-end.result
          c.requires.earlier c.loop-v.invariant.long c.loop-v.auto.v c.loop-v.invariant.given c.as_slice.ensures row c.in_ok-held.ensures.held c.deref-in-loop-v.ensures.value c.free_colour-colour.ensures.first added low high which;
    }
