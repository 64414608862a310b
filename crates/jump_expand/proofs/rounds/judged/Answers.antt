use Rattle.std.proofs.Common.{slice_index, arith, ◌∙◌}
use Rattle.asm51.proofs.Addresses.{item_at, address_le}
use Rattle.asm51.proofs.Readings.{target_le}
use Rattle.jump_expand.proofs.Tables.{table_of}
use Rattle.jump_expand.proofs.Steps.{judge_is, target_at}
use Rattle.jump_expand.proofs.rounds.judged.Goals as goal

pub at-next-requires : goal.at-next-requires
at-next-requires c = record { table = (_, _, table_of _ _ _ c.requires.addresses, omega arith, omega arith) }

pub overflow_add-next : goal.overflow_add-next
overflow_add-next c = omega (arith, c.at-next.ensures, c.requires.addresses.at c.args.k (omega arith), address_le c.args.items.now c.args.forms.now c.args.k)

pub at-target-requires : goal.at-target-requires
at-target-requires c =
    record { table = (_, _, table_of _ _ _ c.requires.addresses, omega (arith, target_at c.args.items.now c.args.targets.now c.args.k c.requires.targets c.requires.item, target_le c.args.items.now (item_at c.args.items.now c.args.k)), omega arith) }

pub grown-requires : goal.grown-requires
grown-requires c =
    let t = table_of c.args.addresses.now c.args.items.now c.args.forms.now c.requires.addresses in (
      omega (arith, c.at-next.ensures, t.below c.args.k (omega arith)),
      omega (arith, c.at-target.ensures, t.below (slice_index c.args.targets.now c.args.k) (omega (arith, target_at c.args.items.now c.args.targets.now c.args.k c.requires.targets c.requires.item, target_le c.args.items.now (item_at c.args.items.now c.args.k)))),
    )

pub returns : goal.returns
returns c =
    c.grown.ensures
    ∙ judge_is c.args.addresses.now c.args.items.now c.args.forms.now c.args.targets.now c.args.k c.at-next.result c.at-target.result c.requires.addresses c.requires.targets c.requires.forms c.requires.item c.at-next.ensures c.at-target.ensures
