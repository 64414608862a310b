use Rattle.std.proofs.Common.{◌+◌, ◌++◌, ◌∷◌, [], List, Ok, drop, map, length, ap, ◌∙◌}
use Rattle.std.proofs.lemmas.List.{append-nil, drop_all}
use Rattle.clight_syntax.specs.declared.typed.EarlierArgument.{EarlierArgument}
use Rattle.clight_syntax.specs.TypedTrees as t
use Rattle.clight_syntax.specs.Code.TypedViews.{earlier_argument_of, expr_of, program_of}
use Rattle.clight_values.specs.declared.value.Value.{Value}
use Rattle.clight_meaning.specs.Meaning.{argument_values}
use Rattle.clight_meaning.specs.Code.Views.{state_held}
use Rattle.clight_values.proofs.Walks.{opened}
use Rattle.clight_meaning.proofs.Lists.{after, next_argument, argument_added}
use Rattle.clight_meaning.proofs.state.State.argument_values.Goals as goal

abbrev the_rest : List EarlierArgument → t.Expr → List t.Expr
the_rest xs last = map (λ (a : t.EarlierArgument). a.value) (map earlier_argument_of xs) ++ last ∷ []

pub loop-argument-preserved : goal.loop-argument-preserved
loop-argument-preserved c =
    let p = program_of c.args.program.now in
    let st = state_held c.args.self.now in
    let items = c.deref-argument-items.result.now in
    let i = c.loop-argument.argument-index in
    let x = c.argument-item.result in
    let vs = c.loop-argument.values.items in
    let last = expr_of c.in-Listed.last in
    argument_added p (expr_of x.value) (the_rest (drop (i + 1) items) last) c.args.first st vs _
    (next_argument p (expr_of x.value) (c.args.first + length vs) st) c.add_argument.new.values.items c.in_ok-add_argument-in-Listed.ensures
    (c.loop-argument.invariant ∙ ap (λ xs. after vs (argument_values p (the_rest xs last) (c.args.first + length vs) st)) (opened items i x c.loop-argument-test.true c.argument-item.is))

pub returns-in_ok-add_argument-in-Listed-2 : goal.returns-in_ok-add_argument-in-Listed-2
returns-in_ok-add_argument-in-Listed-2 c =
    let p = program_of c.args.program.now in
    let st = state_held c.args.self.now in
    let items = c.deref-argument-items.result.now in
    let i = c.loop-argument.argument-index in
    let vs = c.loop-argument.values.items in
    let last = expr_of c.in-Listed.last in
    let ws = c.add_argument-in-Listed.new.values.items in
    argument_added p last [] c.args.first st vs _
    (next_argument p last (c.args.first + length vs) st) ws c.in_ok-add_argument-in-Listed-2.ensures
    (c.loop-argument.invariant ∙ ap (λ xs. after vs (argument_values p (the_rest xs last) (c.args.first + length vs) st)) (drop_all i items c.loop-argument-test.false))
    ∙ ap (λ (us : List Value). Ok us) (append-nil ws)
