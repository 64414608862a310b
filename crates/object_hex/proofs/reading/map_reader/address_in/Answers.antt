use Rattle.std.proofs.Common.{◌≡◌, Some, decimal, codes, ap, sym, ◌∙◌}
use Rattle.object_hex.specs.MapMeaning.{address_in, behind, behind_blank, in_digits}
use Rattle.object_hex.proofs.Addresses.{behind-is, behind-not}
use Rattle.object_hex.proofs.reading.map_reader.address_in.Goals as goal

pub returns-in_err-rest : goal.returns-in_err-rest
unfolding address_in
returns-in_err-rest c =
    let number : c.as_bytes.result.now ≡ decimal c.args.label = c.as_bytes.ensures.value ∙ c.format.ensures.text in
    let not_it = rw number at c.in_err-rest.ensures.cases in
    rw c.from_residual.ensures (sym (ap behind_blank (behind-not (decimal c.args.label) c.args.line.now not_it)))

pub returns-in_err-digits : goal.returns-in_err-digits
unfolding address_in
returns-in_err-digits c =
    let number : c.as_bytes.result.now ≡ decimal c.args.label = c.as_bytes.ensures.value ∙ c.format.ensures.text in
    let it = rw number at c.in_ok-rest.ensures.cases in
    rw c.from_residual-in_err-digits.ensures (sym (
    ap behind_blank (behind-is (decimal c.args.label) c.args.line.now it.0)
    ∙ ap (λ bytes. in_digits (behind (codes " ") bytes)) (sym it.1)
    ∙ ap in_digits (behind-not (codes " ") c.in_ok-rest.rest.now c.in_err-digits.ensures.cases)))

pub returns : goal.returns
unfolding address_in
returns c =
    let number : c.as_bytes.result.now ≡ decimal c.args.label = c.as_bytes.ensures.value ∙ c.format.ensures.text in
    let it = rw number at c.in_ok-rest.ensures.cases in
    let blank = c.in_ok-digits.ensures.cases in
    c.address_of.ensures ∙ sym (
    ap behind_blank (behind-is (decimal c.args.label) c.args.line.now it.0)
    ∙ ap (λ bytes. in_digits (behind (codes " ") bytes)) (sym it.1)
    ∙ ap in_digits (behind-is (codes " ") c.in_ok-rest.rest.now blank.0)
    ∙ ap (λ digits. in_digits (Some digits)) (sym blank.1))
