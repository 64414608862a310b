use Rattle.std.proofs.Common.{length, arith, ap, ◌∙◌}
use Rattle.asm51.specs.declared.layouts.Form.{Form}
use Rattle.asm51.proofs.Rounds.{all_in_length}
use Rattle.jump_expand.proofs.Steps.{next_made, next_stays, fewer_left, relaxed}
use Rattle.jump_expand.proofs.rounds.relax.Goals as goal

pub loop-changed-init : goal.loop-changed-init
loop-changed-init c =
    record {
      addresses = c.requires.addresses;
      length = ap length c.requires.forms ∙ all_in_length Form.Short c.args.items.now;
      made = (0, c.requires.forms, omega arith);
      stays = λ e. cc;
    }

pub loop-changed-smaller : goal.loop-changed-smaller
loop-changed-smaller c =
    fewer_left c.args.items.now c.loop-changed.forms c.round-changed.new.forms c.loop-changed.changed c.round-changed.result c.loop-changed-test.true c.loop-changed.invariant.length c.round-changed.ensures.forms c.round-changed.ensures.same c.round-changed.ensures.other

pub loop-changed-preserved : goal.loop-changed-preserved
loop-changed-preserved c =
    let i = c.loop-changed.invariant in
    record {
      addresses = c.round-changed.ensures.addresses;
      length = omega (arith, i.length, c.round-changed.auto.forms);
      made = next_made c.args.items.now c.loop-changed.forms c.round-changed.new.forms i.made.0 c.round-changed.result i.length i.made.1 i.made.2 c.round-changed.ensures.forms c.round-changed.ensures.same c.round-changed.ensures.other;
      stays = next_stays c.args.items.now c.loop-changed.forms c.round-changed.new.forms c.round-changed.result c.round-changed.ensures.forms c.round-changed.ensures.same;
    }

pub returns-clause-relaxed : goal.returns-clause-relaxed
returns-clause-relaxed c = let i = c.loop-changed.invariant in relaxed c.args.items.now c.loop-changed.forms i.made.0 i.made.1 i.made.2 (i.stays c.loop-changed-test.false)
