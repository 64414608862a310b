use Rattle.std.proofs.Common.{◌≡◌, ℕ, ◌<◌, slice_index}
use Rattle.asm51.specs.Relaxation.{round}
use Rattle.asm51.proofs.Addresses.{form_at}
use Rattle.jump_expand.specs.Code.Blocks.{AreAddresses}
use Rattle.jump_expand.specs.Code.Rounds.{IsPartly}
use Rattle.jump_expand.proofs.rounds.round.Given as goal

abbrev pub invariant-loop-j : goal.invariant-loop-j
invariant-loop-j l = (i : ℕ) → i < l.j → form_at l.next i ≡ form_at (round l.items l.forms) (slice_index l.jumps i)

abbrev pub invariant-loop-i : goal.invariant-loop-i
invariant-loop-i l = record {
  addresses : AreAddresses l.addresses l.items l.forms;
  partly : IsPartly l.items l.jumps l.initial.forms l.forms (round l.items l.initial.forms) l.i l.changed;
}
