use Rattle.std.proofs.Common.{◌≡◌, ◌++◌, sym, append-nil}
use Rattle.sample_texts.specs.Texts.{each_below, call_text}
use Rattle.sample_texts.proofs.Steps.{call_added, all_added}
use Rattle.sample_texts.proofs.put_calls.Goals as goal

pub loop-function-init : goal.loop-function-init
loop-function-init c = sym (append-nil c.args.text.now.items)

pub loop-function-preserved : goal.loop-function-preserved
loop-function-preserved c =
    call_added c.args.text.now.items c.loop-function.text.items c.put_number.new.text.items c.extend_from_slice.new.self.items c.loop-function.function c.loop-function.invariant c.in_ok-put_number.ensures c.in_ok-extend_from_slice.ensures.items

pub returns : goal.returns
returns c =
    all_added (λ n. c.loop-function.text.items ≡ c.args.text.now.items ++ each_below call_text n) c.loop-function.function c.args.size c.loop-function.auto.function-end c.loop-function-test.false c.loop-function.invariant
