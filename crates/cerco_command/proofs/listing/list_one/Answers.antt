use Rattle.std.proofs.Common.{◌≡◌, ℕ, ◌+◌, Option, Some, None, sym, ◌∙◌, ap, refl, length}
use Rattle.mcs51_isa.specs.declared.instr.Instr.{Instr}
use Rattle.mcs51_isa.specs.Table.{encode_of}
use Rattle.mcs51_isa.specs.Decoding.{with_length}
use Rattle.cerco_command.specs.Disassembly.{listed_at}
use Rattle.cerco_command.proofs.listing.list_one.Goals as goal

-- what an instruction with its length was
instr_there : (o : Option Instr) (i : Instr) (n : ℕ) → with_length o ≡ Some (i, n) → (o ≡ Some i) × (n ≡ length (encode_of i))
instr_there None i n e = absurd cc
instr_there (Some j) i n e =
    let p : (j, length (encode_of j)) ≡ (i, n) = cc in
    let same : j ≡ i = ap (λ (q : Instr × ℕ). q.0) p in
    (ap Some same, sym (ap (λ (q : Instr × ℕ). q.1) p) ∙ ap (λ (q : Instr). length (encode_of q)) same)

pub returns-in_ok-list_line-in-Some : goal.returns-in_ok-list_line-in-Some
returns-in_ok-list_line-in-Some c =
    let there = instr_there (listed_at c.args.code.now c.args.address) c.in-Some.instr c.in-Some.length (sym c.instr_at.ensures ∙ c.in-Some.is) in
    record {
      line = _;
      added = c.in_ok-list_line-in-Some.ensures.whole refl;
      is = (c.in-Some.instr, there.0, ap (λ (n : ℕ). c.args.address + n) there.1, refl);
    }
