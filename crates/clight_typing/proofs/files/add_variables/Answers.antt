use Rattle.std.proofs.Common.{◌≡◌, ◌∙◌, ℕ, suc, ◌+◌, ◌++◌, List, [], ◌∷◌, length, map, drop, nat_eq, refl, ap, sym, rules}
use Rattle.std.proofs.lemmas.List.{map-append, length_push}
use Rattle.std.proofs.lemmas.Iterator.Consumers.{YieldsList-turn}
use Rattle.std.proofs.lemmas.Iterator.Adapters.{YieldsList-from_vec}
use Rattle.clight_syntax.specs.TypedTrees.{Variable'}
use Rattle.clight_syntax.specs.Code.TypedViews.{variable_of}
use Rattle.clight_typing.specs.Functions.{variables_from, own_variable, has_block, counted, home_of}
use Rattle.c_types.specs.Kinds.{is_scalar}
use Rattle.clight_typing.specs.Code.HeldFile.{a_variable}
use Rattle.clight_typing.specs.Code.HeldOwn.{own_of}
use Rattle.indexmap.specs.IndexSet.{contains}
use Rattle.clight_typing.proofs.Walks.{from_here, added}
use Rattle.clight_typing.proofs.files.add_variables.Goals as goal

pub loop-own-preserved : goal.loop-own-preserved
loop-own-preserved c =
    let owns = c.args.owns.items in
    let x = c.in-Some.own in
    let k = length c.loop-own.yielded in
    let turn = YieldsList-turn (YieldsList-from_vec {s = c.into_iter-own-iterator.result} c.args.owns.items (search rules) (search rules))
    c.loop-own.yielded c.loop-own.own-iterator c.loop-own.yielded_by c.next.result c.next.new.self x c.in-Some.is c.next.ensures.steps in
    let here : drop k owns ≡ x ∷ drop (k + 1) owns = from_here owns k x turn.0 turn.1 in
    let further : k + 1 ≡ length (c.loop-own.yielded ++ x ∷ []) = sym (length_push c.loop-own.yielded x) in
    let marked = contains nat_eq c.args.addressed.now in
    let v = c.loop-own.variable in
    let b = c.loop-own.blocks in
    let s = c.loop-own.scalars in
    let type = (own_of x).type in
    let rest : ℕ → List _ = λ i. map own_of (drop i owns) in
    let now = map variable_of c.loop-own.all.items in
    let all = map variable_of c.push.new.self.items in
    let pushed : all ≡ now ++ own_variable marked v b s (own_of x) ∷ [] =
    ap (map variable_of) c.in_ok-push.ensures.items
    ∙ (map-append variable_of c.loop-own.all.items (_ ∷ [])
    ∙ ap (λ y. now ++ y ∷ []) (c.own_variable.ensures ∙ ap (λ block. a_variable (own_of x) (home_of block b s)) c.has_block-in_block.ensures)) in
    c.loop-own.invariant
    ∙ (ap (λ r. now ++ variables_from marked v b s (map own_of r)) here
    ∙ (added now (own_variable marked v b s (own_of x) ∷ []) (variables_from marked (suc v) (counted (has_block marked v type) b) (counted (is_scalar type) s) (rest (k + 1))) all pushed
    ∙ (ap (λ n. all ++ variables_from marked n (counted (has_block marked v type) b) (counted (is_scalar type) s) (rest (k + 1))) (sym c.in_ok-variable.ensures)
    ∙ (ap (λ n. all ++ variables_from marked c.in_ok-variable.variable n (counted (is_scalar type) s) (rest (k + 1)))
    (sym (c.in_ok-blocks.ensures ∙ ap (λ block. counted block b) c.has_block-in_block.ensures))
    ∙ (ap (λ n. all ++ variables_from marked c.in_ok-variable.variable c.in_ok-blocks.blocks n (rest (k + 1)))
    (sym (c.in_ok-scalars.ensures ∙ ap (λ scalar. counted scalar s) c.is_scalar-scalar.ensures))
    ∙ ap (λ n. all ++ variables_from marked c.in_ok-variable.variable c.in_ok-blocks.blocks c.in_ok-scalars.scalars (rest n)) further)))))
