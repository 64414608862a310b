use Rattle.std.proofs.Common.{◌≡◌, ◌∙◌, ◌-◌, ℕ, List, ap, length, take, replicate, sym, refl}
use Rattle.std.proofs.lemmas.List.{take_at}
use Rattle.mcs51_isa.specs.Table.{encode_of}
use Rattle.mcs51_isa.specs.Listing.{line_of}
use Rattle.mcs51_isa.proofs.listing.line.Goals as goal

pub returns : goal.returns
returns c =
    let bytes : List ℕ = encode_of c.args.i in
    let behind : List ℕ = replicate (3 - length bytes) 0 in
    let front : take c.encode-size.result.1 c.encode-size.result.0 ≡ bytes =
    ap (take c.encode-size.result.1) c.encode-size.ensures.bytes ∙ take_at bytes behind c.encode-size.result.1 (sym c.encode-size.ensures.size) in
    rw (
      c.push_text-4.ensures,
      c.push_operands.ensures.text,
      c.push_text-3.ensures,
      c.mnemonic.ensures.value,
      c.push_text-2.ensures,
      c.push_hex_bytes.ensures.text,
      front,
      c.push_text.ensures,
      c.push_hex_word.ensures,
      c.new-line.ensures,
      c.operands.ensures,
      c.encode-size.ensures.size,
    ) (refl {a = line_of c.args.at c.args.i})
