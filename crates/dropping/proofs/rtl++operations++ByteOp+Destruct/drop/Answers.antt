-- A location has one of two sizes, and at each of them an operation fits in memory.
use Rattle.std.proofs.Common.{arith, inl, inr}
use Rattle.dropping.proofs.rtl++operations++ByteOp+Destruct.drop.Goals as goal

pub drop-requires : goal.drop-requires
drop-requires g c = elim (g.met.L.Location.known) [ inl k ↦ rw (k.0, k.1) (omega arith) | inr k ↦ rw (k.0, k.1) (omega arith) ]

pub drop-requires-2 : goal.drop-requires-2
drop-requires-2 g c = elim (g.met.L.Location.known) [ inl k ↦ rw (k.0, k.1) (omega arith) | inr k ↦ rw (k.0, k.1) (omega arith) ]
