-- A list of locations fits in memory.
use Rattle.std.proofs.Common.{arith, inl, inr}
use Rattle.byte_renaming.proofs.rename_op.Goals as goal

pub as_slice-requires : goal.as_slice-requires
as_slice-requires g c = elim (g.met.L.Location.known) [ inl k ↦ rw (k.0, k.1) (omega arith) | inr k ↦ rw (k.0, k.1) (omega arith) ]

pub rename_each-requires : goal.rename_each-requires
rename_each-requires g c = elim (g.met.M.Location.known) [ inl k ↦ rw (k.0, k.1) (omega arith) | inr k ↦ rw (k.0, k.1) (omega arith) ]

pub as_slice-requires-in-Store : goal.as_slice-requires-in-Store
as_slice-requires-in-Store g c = elim (g.met.L.Location.known) [ inl k ↦ rw (k.0, k.1) (omega arith) | inr k ↦ rw (k.0, k.1) (omega arith) ]

pub rename_each-requires-in-Store : goal.rename_each-requires-in-Store
rename_each-requires-in-Store g c = elim (g.met.M.Location.known) [ inl k ↦ rw (k.0, k.1) (omega arith) | inr k ↦ rw (k.0, k.1) (omega arith) ]
