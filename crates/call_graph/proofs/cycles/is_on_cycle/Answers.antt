use Rattle.std.proofs.Common.{◌≡◌, ℕ, ◌-◌, Ok, List, [], ◌++◌, take, vec_len, refl, ap, sym, ◌∙◌, arith}
use Rattle.call_graph.specs.Code.Nodes.{callees_of}
use Rattle.call_graph.specs.Code.Walks.{list_at}
use Rattle.call_graph.proofs.SearchSteps.{from_within, callees_within, callees-node, search_step, search_found, search_over}
use Rattle.call_graph.proofs.cycles.is_on_cycle.Goals as goal

pub bounds-nodes-from : goal.bounds-nodes-from
bounds-nodes-from c =
    from_within c.args.nodes.now c.args.function _ _ _ c.in-Some.from c.loop-from.invariant c.in-Some.ensures.items c.requires.function

pub see-requires : goal.see-requires
see-requires c =
    let within = from_within c.args.nodes.now c.args.function _ _ _ c.in-Some.from c.loop-from.invariant c.in-Some.ensures.items c.requires.function in
    let list : c.deref.result.now ≡ list_at (callees_of c.args.nodes.now) c.in-Some.from = c.deref.ensures.value ∙ sym (callees-node c.args.nodes.now c.in-Some.from c.index-nodes-from.result within) in
    callees_within _ _ _ _ _ _ c.requires.nodes c.loop-from.invariant list

pub returns-then-branch-clause-cycle : goal.returns-then-branch-clause-cycle
returns-then-branch-clause-cycle c =
    let within = from_within c.args.nodes.now c.args.function _ _ _ c.in-Some.from c.loop-from.invariant c.in-Some.ensures.items c.requires.function in
    let list : c.deref.result.now ≡ list_at (callees_of c.args.nodes.now) c.in-Some.from = c.deref.ensures.value ∙ sym (callees-node c.args.nodes.now c.in-Some.from c.index-nodes-from.result within) in
    let found = c.see.ensures.goal (c.in_ok-see.was ∙ ap Ok c.if-branch.true) in
    (λ _. search_found _ _ _ _ _ _ _ _ c.loop-from.invariant c.in-Some.ensures.items list c.requires.function found, λ _. refl)

pub loop-from-preserved : goal.loop-from-preserved
loop-from-preserved c =
    let within = from_within c.args.nodes.now c.args.function _ _ _ c.in-Some.from c.loop-from.invariant c.in-Some.ensures.items c.requires.function in
    let list : c.deref.result.now ≡ list_at (callees_of c.args.nodes.now) c.in-Some.from = c.deref.ensures.value ∙ sym (callees-node c.args.nodes.now c.in-Some.from c.index-nodes-from.result within) in
    search_step _ _ _ _ _ _ _ _ _ c.loop-from.invariant c.in-Some.ensures.items list (c.see.ensures.others (c.in_ok-see.was ∙ ap Ok c.if-branch.false))

pub returns-clause-cycle : goal.returns-clause-cycle
returns-clause-cycle c =
    let zero : vec_len c.loop-from.search.work - 1 ≡ 0 = let e = c.in_default.ensures.cases.0 in omega arith in
    let none : c.loop-from.search.work.items ≡ [] = c.in_default.ensures.items ∙ ap (λ (xs : List ℕ). xs ++ []) (c.in_default.ensures.rest ∙ ap (λ n. take n c.loop-from.search.work.items) zero) in
    (λ e. cc, λ on. absurd (search_over _ _ _ _ _ c.loop-from.invariant none on))
