use Rattle.std.proofs.Common.{length, slice_index, arith, ap}
use Rattle.jump_expand.proofs.Tables.{starts_below, within_below}
use Rattle.jump_expand.proofs.addresses.Addresses.raise.Goals as goal

pub raise_all-requires-clause-bound : goal.raise_all-requires-clause-bound
raise_all-requires-clause-bound c =
    let t = c.requires.table.2 in
    λ k h. omega (arith, within_below c.args.self.now _ _ t k (omega (arith, ap length c.deref_mut.ensures.value, t.within, h)), ap (λ l. slice_index l k) c.deref_mut.ensures.value)

pub raise_all-requires-2-clause-bound : goal.raise_all-requires-2-clause-bound
raise_all-requires-2-clause-bound c =
    let t = c.requires.table.2 in
    λ k h. omega (arith, starts_below c.args.self.now _ _ t k (omega (arith, ap length c.deref_mut-2.ensures.value, h)), ap (λ l. slice_index l k) c.deref_mut-2.ensures.value)
