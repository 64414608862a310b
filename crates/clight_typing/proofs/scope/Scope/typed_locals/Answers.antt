use Rattle.std.proofs.Common.{◌≡◌, ◌∙◌, ℕ, suc, ◌+◌, ◌++◌, List, [], ◌∷◌, length, map, drop, get_or, refl, ap, sym, rules, Result, Ok, Err}
use Rattle.std.proofs.lemmas.List.{map-append, length_push, drop_all, append-nil}
use Rattle.std.proofs.lemmas.Iterator.Consumers.{YieldsList-turn, YieldsList-end}
use Rattle.std.proofs.lemmas.Iterator.Adapters.{YieldsList-from_vec}
use Rattle.clight_source.specs.Trees as s
use Rattle.clight_syntax.specs.TypedTrees.{Local}
use Rattle.clight_source.specs.Code.Views.{local_of as source_of}
use Rattle.clight_syntax.specs.Code.TypedViews.{local_of}
use Rattle.clight_typing.specs.Functions.{Own}
use Rattle.clight_typing.specs.Code.HeldFile.{source_own}
use Rattle.clight_typing.specs.Code.HeldOwn.{own_of}
use Rattle.clight_typing.specs.Code.HeldScopes.{scope_of}
use Rattle.clight_types.specs.Scopes.{Scope, visible}
use Rattle.clight_types.specs.TypedExpressions.{Checked}
use Rattle.clight_typing.specs.TypedPrograms.{typed_local, scope_at, behind_locals, first_value_taken, locals_taken}
use Rattle.clight_typing.proofs.Gives.{faulted}
use Rattle.clight_typing.proofs.LocalSteps.{walk, locals_next, locals_fail}
use Rattle.clight_typing.proofs.Walks.{ahead, ahead_none, ahead_end, from_here, moved, added}
use Rattle.clight_typing.proofs.scope.Scope.typed_locals.Goals as goal

abbrev behind : Scope → ℕ → List s.Local → Scope
behind scope variable xs = visible scope.structs (behind_locals scope.structs variable scope.meaning xs)

abbrev own_list : Scope → List s.Local → List Own
own_list scope xs = map (source_own scope.structs) xs

abbrev taken_list : Scope → ℕ → List s.Local → List ℕ
taken_list scope variable xs = locals_taken scope.structs variable scope.meaning xs

pub loop-x-init : goal.loop-x-init
loop-x-init c =
    let all : List s.Local = map source_of c.args.xs.items in
    let start = scope_of c.args.self.now in
    record {
      gives = sym (ap (λ b. ahead (map local_of b) (walk start c.args.variables.now.next all)) c.new-typed.ensures.items ∙ ahead_none _);
      scope = refl;
      names = refl;
      structs = refl;
      owns = refl;
      taken = refl;
    }

pub loop-x-preserved : goal.loop-x-preserved
loop-x-preserved c =
    let inv = c.loop-x.invariant in
    let all = c.args.xs.items in
    let x = c.in-Some.x in
    let k = length c.loop-x.yielded in
    let turn = YieldsList-turn (YieldsList-from_vec {s = c.into_iter-x-iterator.result} c.args.xs.items (search rules) (search rules))
    c.loop-x.yielded c.loop-x.x-iterator c.loop-x.yielded_by c.next.result c.next.new.self x c.in-Some.is c.next.ensures.steps in
    let here : drop k all ≡ x ∷ drop (k + 1) all = from_here all k x turn.0 turn.1 in
    let further : k + 1 ≡ length (c.loop-x.yielded ++ x ∷ []) = sym (length_push c.loop-x.yielded x) in
    let before = scope_of c.loop-x.self in
    let after = scope_of c.typed_local.new.self in
    let n = c.loop-x.variables.next in
    let m = c.typed_local.new.variables.next in
    let next = scope_at before.structs n before.meaning (source_of x) in
    let ok = c.in_ok-typed_local.ensures in
    let typed = map local_of c.loop-x.typed.items in
    let more = map local_of c.push.new.self.items in
    let rest = map source_of (drop (k + 1) all) in
    record {
      gives =
          inv.gives
          ∙ (ap (λ r. ahead typed (walk before n (map source_of r))) here
          ∙ (locals_next before n (source_of x) rest typed more (local_of c.in_ok-typed_local.field-0) ok.gives
          (ap (map local_of) c.in_ok-push.ensures.items ∙ map-append local_of c.loop-x.typed.items (_ ∷ []))
          ∙ moved (λ s n xs. ahead more (walk s n (map source_of xs))) next after (suc n) m all (k + 1) _ (sym ok.scope) (sym ok.next) further));
      scope =
          inv.scope
          ∙ (ap (λ r. behind before n (map source_of r)) here
          ∙ moved (λ s n xs. behind s n (map source_of xs)) next after (suc n) m all (k + 1) _ (sym ok.scope) (sym ok.next) further);
      names = ok.names ∙ inv.names;
      structs = ok.structs ∙ inv.structs;
      owns =
          inv.owns
          ∙ (ap (λ r. map own_of c.loop-x.variables.owns.items ++ own_list before (map source_of r)) here
          ∙ (added (map own_of c.loop-x.variables.owns.items) (source_own before.structs (source_of x) ∷ []) (own_list before rest) (map own_of c.typed_local.new.variables.owns.items) ok.owns
          ∙ moved (λ s n xs. map own_of c.typed_local.new.variables.owns.items ++ own_list s (map source_of xs)) next after (suc n) m all (k + 1) _ (sym ok.scope) (sym ok.next) further));
      taken =
          inv.taken
          ∙ (ap (λ r. c.loop-x.variables.taken.items ++ taken_list before n (map source_of r)) here
          ∙ (added c.loop-x.variables.taken.items (first_value_taken next (source_of x).initialiser) (taken_list next (suc n) rest) c.typed_local.new.variables.taken.items ok.taken
          ∙ moved (λ s n xs. c.typed_local.new.variables.taken.items ++ taken_list s n (map source_of xs)) next after (suc n) m all (k + 1) _ (sym ok.scope) (sym ok.next) further));
    }

pub returns-in_err-typed_local-clause-gives : goal.returns-in_err-typed_local-clause-gives
returns-in_err-typed_local-clause-gives c =
    let same : c.from_residual.result ≡ Err c.in_err-typed_local.field-0.0 = first_of (search rules, cc) in
    let all = c.args.xs.items in
    let x = c.in-Some.x in
    let k = length c.loop-x.yielded in
    let turn = YieldsList-turn (YieldsList-from_vec {s = c.into_iter-x-iterator.result} c.args.xs.items (search rules) (search rules))
    c.loop-x.yielded c.loop-x.x-iterator c.loop-x.yielded_by c.next.result c.next.new.self x c.in-Some.is c.next.ensures.steps in
    let here : drop k all ≡ x ∷ drop (k + 1) all = from_here all k x turn.0 turn.1 in
    let before = scope_of c.loop-x.self in
    let n = c.loop-x.variables.next in
    let typed = map local_of c.loop-x.typed.items in
    (faulted same local_of _ (typed_local (scope_at before.structs n before.meaning (source_of x)) (source_of x)) _ c.in_err-typed_local.ensures.gives
    (λ f h. c.loop-x.invariant.gives
    ∙ (ap (λ r. ahead typed (walk before n (map source_of r))) here
    ∙ locals_fail before n (source_of x) (map source_of (drop (k + 1) all)) typed f h)))
