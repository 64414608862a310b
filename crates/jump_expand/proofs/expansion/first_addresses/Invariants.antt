use Rattle.std.proofs.Common.{◌≡◌, ℕ, ◌+◌, ◌/◌, ◌≤◌, length}
use Rattle.asm51.specs.Layouts.{address}
use Rattle.jump_expand.specs.Code.Blocks.{address_in}
use Rattle.jump_expand.proofs.expansion.first_addresses.Given as goal

abbrev pub invariant-loop-k : goal.invariant-loop-k
invariant-loop-k l = record {
  within : length l.addresses.within.items ≡ l.k + 1;
  starts : length l.addresses.starts.items ≡ l.k / 256 + 1;
  at : (i : ℕ) → i ≤ l.k → address_in l.addresses i ≡ address l.items l.forms i;
}
