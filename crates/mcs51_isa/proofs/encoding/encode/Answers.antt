use Rattle.std.proofs.Common.{ap, sym, ◌∙◌, Some}
use Rattle.mcs51_isa.proofs.Inverse.{decoded-encode}
use Rattle.mcs51_isa.proofs.encoding.encode.Goals as goal

pub returns-clause-decodes_back : goal.returns-clause-decodes_back
returns-clause-decodes_back c behind =
    decoded-encode c.args.i behind ∙ ap (λ n. Some (c.args.i, n)) (sym c.padded_code.ensures.size)
