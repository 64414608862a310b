use Rattle.std.proofs.Common.{◌≡◌, ◌++◌, refl, sym, append-nil}
use Rattle.sample_texts.specs.Draws.{state_at}
use Rattle.sample_texts.specs.Texts.{functions_text}
use Rattle.sample_texts.proofs.Steps.{function_added, state_after, all_added}
use Rattle.sample_texts.proofs.put_functions.Goals as goal

pub loop-function-init : goal.loop-function-init
loop-function-init c = (sym (append-nil c.args.text.now.items), refl)

pub loop-function-preserved : goal.loop-function-preserved
loop-function-preserved c = (
  function_added c.args.text.now.items c.loop-function.text.items c.put_function.new.text.items c.args.seed c.loop-function.function c.loop-function.state c.draw_numbers-after.result.0 c.loop-function.invariant.0 c.loop-function.invariant.1 c.draw_numbers-after.ensures.numbers c.in_ok-put_function.ensures,
  state_after c.args.seed c.loop-function.function c.loop-function.state c.draw_numbers-after.result.1 c.loop-function.invariant.1 c.draw_numbers-after.ensures.after,
)

pub returns-clause-text : goal.returns-clause-text
returns-clause-text c =
    all_added (λ n. c.loop-function.text.items ≡ c.args.text.now.items ++ functions_text c.args.seed n) c.loop-function.function c.args.size c.loop-function.auto.function-end c.loop-function-test.false c.loop-function.invariant.0

pub returns-clause-state : goal.returns-clause-state
returns-clause-state c =
    all_added (λ n. c.loop-function.state ≡ state_at c.args.seed n) c.loop-function.function c.args.size c.loop-function.auto.function-end c.loop-function-test.false c.loop-function.invariant.1
