use Rattle.std.proofs.Common.{◌≡◌, ap, map, ◌∙◌}
use Rattle.std.specs.Char.{to_ascii_uppercase}
use Rattle.std.proofs.lemmas.Result.{IfOk-at_ok}
use Rattle.hex.specs.Hex.{encode_lower}
use Rattle.object_hex.proofs.Raised.{map-encode_lower}
use Rattle.object_hex.proofs.digits.write_pairs.Goals as goal

pub returns : goal.returns
returns c =
    let written : c.encode_to_slice.new.output ≡ encode_lower c.args.bytes.now = IfOk-at_ok _ c.unwrap.ensures c.encode_to_slice.ensures.written in
    c.raise.ensures ∙ ap (map to_ascii_uppercase) written ∙ map-encode_lower c.args.bytes.now
