use Rattle.std.proofs.Common.{◌∙◌}
use Rattle.clight_tokens.proofs.Values.{no_constant, the_constant}
use Rattle.clight_tokens.proofs.constants.constant.Goals as goal

pub returns-in_err-value : goal.returns-in_err-value
returns-in_err-value c =
    c.from_residual.ensures ∙ no_constant c.args.text.now c.radix_of-radix.result c.without_suffix-body.result.now c.digits_of.result.now
    (record { body_is = c.without_suffix-body.ensures; radix_is = c.radix_of-radix.ensures; digits_are = c.digits_of.ensures }) c.in_err-value.ensures

pub returns : goal.returns
returns c =
    the_constant c.args.text.now c.radix_of-radix.result c.without_suffix-body.result.now c.digits_of.result.now c.in_ok-value.value c.is_unsigned.result
    (record { body_is = c.without_suffix-body.ensures; radix_is = c.radix_of-radix.ensures; digits_are = c.digits_of.ensures }) c.in_ok-value.ensures.0 c.in_ok-value.ensures.1 c.is_unsigned.ensures
