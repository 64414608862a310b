use Rattle.std.proofs.Common.{◌≡◌, ◌+◌, length, arith, ap, ap₂, sym, ◌∙◌, ◌++◌, ◌∷◌, [], map}
use Rattle.std.specs.List.{range_with_len}
use Rattle.asm51.specs.Layouts.{address}
use Rattle.asm51.proofs.Readings.{range_more}
use Rattle.jump_expand.proofs.Tables.{table_of}
use Rattle.jump_expand.proofs.expansion.in_a_row.Goals as goal

pub at-requires : goal.at-requires
at-requires c = record { table = (_, _, table_of _ _ _ c.requires.addresses, omega (arith, c.loop-k-test.true), omega (arith, c.requires.few)) }

pub loop-k-preserved : goal.loop-k-preserved
loop-k-preserved c =
    let at = address c.args.items.now c.args.relaxed.now.forms.items in
    c.in_ok-push.ensures.items ∙ ap₂ (λ xs x. xs ++ x ∷ []) c.loop-k.invariant (c.at.ensures ∙ c.requires.addresses.at c.loop-k.k (omega (arith, c.loop-k-test.true))) ∙ sym (range_more at c.loop-k.k)

pub returns : goal.returns
returns c =
    let all : c.loop-k.k ≡ length c.args.items.now + 1 = omega (arith, c.loop-k-test.false, c.loop-k.auto.k-end) in
    c.loop-k.invariant ∙ ap (λ n. map (address c.args.items.now c.args.relaxed.now.forms.items) (range_with_len 0 n)) all
