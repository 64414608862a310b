use Rattle.std.proofs.Common.{◌≡◌, ◌∙◌, ◌+◌, Err, ◌++◌, List, [], ◌∷◌, length, map, drop, refl, ap, sym, rules}
use Rattle.std.proofs.lemmas.List.{map-append, length_push}
use Rattle.std.proofs.lemmas.Iterator.Consumers.{YieldsList-turn}
use Rattle.std.proofs.lemmas.Iterator.Adapters.{YieldsList-from_vec}
use Rattle.clight_source.specs.Code.Views.{item_of as source_of}
use Rattle.clight_syntax.specs.Code.TypedViews.{item_of, function_of}
use Rattle.clight_typing.specs.Code.HeldFile.{file_for}
use Rattle.clight_typing.specs.Code.HeldFunction.{step_of, items_with, typed_item}
use Rattle.clight_typing.specs.TypedPrograms.{typed_items}
use Rattle.clight_typing.proofs.Gives.{faulted}
use Rattle.clight_typing.proofs.ItemSteps.{behind, behind_none, items_next, items_fail}
use Rattle.clight_typing.proofs.Walks.{from_here}
use Rattle.clight_typing.proofs.files.File.typed_items.Goals as goal

pub loop-x-init : goal.loop-x-init
loop-x-init c =
    let all = typed_items (file_for c.args.self.now) (map source_of c.args.xs.items) in
    sym (ap (λ is. behind (map item_of is) (map function_of c.new-functions.result.items) all) c.new-items.ensures.items
    ∙ (ap (λ fs. behind [] (map function_of fs) all) c.new-functions.ensures.items ∙ behind_none all))

pub loop-x-preserved : goal.loop-x-preserved
loop-x-preserved c =
    let all = c.args.xs.items in
    let x = c.in-Some.x in
    let k = length c.loop-x.yielded in
    let turn = YieldsList-turn (YieldsList-from_vec {s = c.into_iter-x-iterator.result} c.args.xs.items (search rules) (search rules))
    c.loop-x.yielded c.loop-x.x-iterator c.loop-x.yielded_by c.next.result c.next.new.self x c.in-Some.is c.next.ensures.steps in
    let here : drop k all ≡ x ∷ drop (k + 1) all = from_here all k x turn.0 turn.1 in
    let further : k + 1 ≡ length (c.loop-x.yielded ++ x ∷ []) = sym (length_push c.loop-x.yielded x) in
    let items = map item_of c.loop-x.items.items in
    let functions = map function_of c.loop-x.functions.items in
    let one = step_of c.in_ok-step.step (file_for c.typed_item.new.self) in
    c.loop-x.invariant
    ∙ (ap (λ r. behind items functions (typed_items (file_for c.loop-x.self) (map source_of r))) here
    ∙ (items_next (file_for c.loop-x.self) (source_of x) (map source_of (drop (k + 1) all)) one items functions c.in_ok-step.ensures
    ∙ (ap (λ is. behind is (functions ++ one.functions) (typed_items one.end (map source_of (drop (k + 1) all))))
    (sym (ap (map item_of) c.in_ok-push.ensures.items ∙ map-append item_of c.loop-x.items.items (_ ∷ [])))
    ∙ (ap (λ fs. behind (map item_of c.push.new.self.items) fs (typed_items one.end (map source_of (drop (k + 1) all)))) (sym c.in_ok-push_function.ensures)
    ∙ ap (λ n. behind (map item_of c.push.new.self.items) (map function_of c.push_function.new.functions.items) (typed_items one.end (map source_of (drop n all)))) further))))

pub returns-in_err-step : goal.returns-in_err-step
returns-in_err-step c =
    let all = c.args.xs.items in
    let x = c.in-Some.x in
    let k = length c.loop-x.yielded in
    let turn = YieldsList-turn (YieldsList-from_vec {s = c.into_iter-x-iterator.result} c.args.xs.items (search rules) (search rules))
    c.loop-x.yielded c.loop-x.x-iterator c.loop-x.yielded_by c.next.result c.next.new.self x c.in-Some.is c.next.ensures.steps in
    let here : drop k all ≡ x ∷ drop (k + 1) all = from_here all k x turn.0 turn.1 in
    let items = map item_of c.loop-x.items.items in
    let functions = map function_of c.loop-x.functions.items in
    let same : c.from_residual.result ≡ Err c.in_err-step.field-0.0 = first_of (search rules, cc) in
    (faulted same (λ r. step_of r (file_for c.typed_item.new.self)) _ (typed_item (file_for c.loop-x.self) (source_of x)) _ c.in_err-step.ensures
    (λ f h. c.loop-x.invariant
    ∙ (ap (λ r. behind items functions (typed_items (file_for c.loop-x.self) (map source_of r))) here
    ∙ items_fail (file_for c.loop-x.self) (source_of x) (map source_of (drop (k + 1) all)) f items functions h)))
