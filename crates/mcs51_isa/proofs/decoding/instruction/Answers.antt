use Rattle.std.proofs.Common.{sym, ap, ◌∙◌, ◌/◌, ◌%◌, ◌≤◌, arith, get_or, le-leb}
use Rattle.mcs51_isa.specs.Decoding.{decode_of, form_at, column_register, reserved}
use Rattle.mcs51_isa.proofs.decoding.instruction.Goals as goal

pub returns-in-0 : goal.returns-in-0
unfolding decode_of
returns-in-0 c = c.column_0.ensures ∙ ap (λ k. form_at k (c.args.opcode / 16) c.args.first c.args.second) (sym c.in-0.is)

pub returns-in-1 : goal.returns-in-1
unfolding decode_of
returns-in-1 c = c.column_page.ensures c.args.second ∙ ap (λ k. form_at k (c.args.opcode / 16) c.args.first c.args.second) (sym c.in-1.is)

pub returns-in-2 : goal.returns-in-2
unfolding decode_of
returns-in-2 c = c.column_2.ensures ∙ ap (λ k. form_at k (c.args.opcode / 16) c.args.first c.args.second) (sym c.in-2.is)

pub returns-in-3 : goal.returns-in-3
unfolding decode_of
returns-in-3 c = c.column_3.ensures ∙ ap (λ k. form_at k (c.args.opcode / 16) c.args.first c.args.second) (sym c.in-3.is)

pub returns-in-4 : goal.returns-in-4
unfolding decode_of
returns-in-4 c = c.column_4.ensures ∙ ap (λ k. form_at k (c.args.opcode / 16) c.args.first c.args.second) (sym c.in-4.is)

pub returns-in-5 : goal.returns-in-5
unfolding decode_of
returns-in-5 c = c.column_5.ensures ∙ ap (λ k. form_at k (c.args.opcode / 16) c.args.first c.args.second) (sym c.in-5.is)

pub returns-in-6 : goal.returns-in-6
unfolding decode_of
returns-in-6 c = c.column_indirect.ensures ∙ ap (λ k. form_at k (c.args.opcode / 16) c.args.first c.args.second) (sym c.in-6.is)

pub returns-in-7 : goal.returns-in-7
unfolding decode_of
returns-in-7 c = c.column_indirect-in-7.ensures ∙ ap (λ k. form_at k (c.args.opcode / 16) c.args.first c.args.second) (sym c.in-7.is)

pub returns-in_default : goal.returns-in_default
unfolding decode_of
returns-in_default c =
    let h : 8 ≤ c.args.opcode % 16 = omega arith in
    let e = c.column_register.ensures ∙ ap (λ n. get_or (column_register n) (c.args.opcode / 16) reserved c.args.first c.args.second) c.of.ensures.value in
    rw (le-leb 8 (c.args.opcode % 16) h) e
