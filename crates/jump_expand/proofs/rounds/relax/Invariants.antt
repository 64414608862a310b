use Rattle.std.proofs.Common.{◌≡◌, ℕ, ◌+◌, ◌-◌, ◌*◌, ◌≤◌, false, cond, length}
use Rattle.asm51.specs.Items.{jump_count}
use Rattle.asm51.specs.Relaxation.{round, rounds}
use Rattle.asm51.proofs.Rounds.{score}
use Rattle.jump_expand.specs.Code.Blocks.{AreAddresses}
use Rattle.jump_expand.proofs.rounds.relax.Given as goal

abbrev pub invariant-loop-changed : goal.invariant-loop-changed
invariant-loop-changed l = record {
  addresses : AreAddresses l.addresses l.items l.forms;
  length : length l.forms ≡ length l.items;
  made : (n : ℕ) × (l.forms ≡ rounds l.items n) × (n ≤ score l.items l.forms);
  stays : l.changed ≡ false → round l.items l.forms ≡ l.forms;
}

abbrev pub decreases-loop-changed : goal.decreases-loop-changed
decreases-loop-changed l = 2 * jump_count l.items - score l.items l.forms + cond l.changed 1 0
