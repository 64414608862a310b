use Rattle.std.proofs.Common.{◌≡◌, ◌<◌, length, get_or, sym, ap, ◌∙◌, subst, arith}
use Rattle.call_graph.specs.CallPaths.{CallsIn, IsLargestSumBefore}
use Rattle.ltl_alloc.proofs.Framing.{before_largest}
use Rattle.ltl_alloc.proofs.frames.place_frames.Goals as goal

pub bytes_of-requires : goal.bytes_of-requires
bytes_of-requires c k lt =
    let items : c.deref.result.now ≡ c.in_ok-sums.sums.before.items = c.deref.ensures.value in
    let known : k < length c.args.sizes.now = subst (λ n. k < n) (ap length items ∙ c.in_ok-sums.ensures.length) lt in
    let sum = before_largest (length c.args.sizes.now) c.args.calls.now c.args.sizes.now k (get_or c.in_ok-sums.sums.before.items k 0) c.in_ok-sums.sums.largest (c.in_ok-sums.ensures.before k known) c.in_ok-sums.ensures.largest in
    let few = c.if-sums-gt-CELLS.false in
    let small : get_or c.in_ok-sums.sums.before.items k 0 < 256 = omega (arith, sum, few) in
    subst (λ xs. get_or xs k 0 < 256) (sym items) small

pub returns-clause-bases : goal.returns-clause-bases
returns-clause-bases c =
    let same : c.in_ok-firsts.firsts ≡ c.in_ok-sums.sums.before.items = c.in_ok-firsts.ensures ∙ c.deref.ensures.value in
    record {
      functions = ap length same ∙ c.in_ok-sums.ensures.length;
      firsts = λ f known. subst (λ xs. IsLargestSumBefore (length c.args.sizes.now) (CallsIn c.args.calls.now) c.args.sizes.now f (get_or xs f 0)) (sym same) (c.in_ok-sums.ensures.before f known);
      need = c.in_ok-sums.ensures.largest;
    }
