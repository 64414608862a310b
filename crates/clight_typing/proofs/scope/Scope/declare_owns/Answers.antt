use Rattle.std.proofs.Common.{◌≡◌, ◌∙◌, ℕ, suc, ◌+◌, ◌++◌, List, [], ◌∷◌, length, map, drop, refl, ap, sym, rules, arith, append_assoc}
use Rattle.std.proofs.lemmas.List.{map-append, length_push, append-nil}
use Rattle.std.proofs.lemmas.Iterator.Consumers.{YieldsList-turn}
use Rattle.std.proofs.lemmas.Iterator.Adapters.{YieldsList-from_vec}
use Rattle.clight_typing.specs.Functions.{Own, object}
use Rattle.clight_typing.specs.Code.HeldFile.{an_own, with_owns}
use Rattle.clight_typing.specs.Code.HeldOwn.{own_of}
use Rattle.clight_typing.specs.Code.HeldScopes.{scope_of, declared_in}
use Rattle.clight_types.specs.Scopes.{Scope, visible}
use Rattle.clight_typing.proofs.Walks.{from_here, moved}
use Rattle.clight_typing.proofs.scope.Scope.declare_owns.Goals as goal

abbrev behind : Scope → ℕ → List Own → Scope
behind scope variable xs = visible scope.structs (with_owns variable xs scope.meaning)

pub loop-own-preserved : goal.loop-own-preserved
loop-own-preserved c =
    let inv = c.loop-own.invariant in
    let all = c.args.owns.items in
    let x = c.in-Some.own in
    let k = length c.loop-own.yielded in
    let turn = YieldsList-turn (YieldsList-from_vec {s = c.into_iter-own-iterator.result} c.args.owns.items (search rules) (search rules))
    c.loop-own.yielded c.loop-own.own-iterator c.loop-own.yielded_by c.next.result c.next.new.self x c.in-Some.is c.next.ensures.steps in
    let here : drop k all ≡ x ∷ drop (k + 1) all = from_here all k x turn.0 turn.1 in
    let further : k + 1 ≡ length (c.loop-own.yielded ++ x ∷ []) = sym (length_push c.loop-own.yielded x) in
    let before = scope_of c.loop-own.self in
    let after = scope_of c.declare_own.new.self in
    let n = c.loop-own.variables.next in
    let m = c.declare_own.new.variables.next in
    let next = declared_in (object x.name n (own_of x).type) before in
    let ok = c.in_ok-declare_own.ensures in
    record {
      scope =
          inv.scope
          ∙ (ap (λ r. behind before n (map own_of r)) here
          ∙ moved (λ s n xs. behind s n (map own_of xs)) next after (suc n) m all (k + 1) _ (sym ok.scope) (sym ok.next) further);
      names = ok.names ∙ inv.names;
      structs = ok.structs ∙ inv.structs;
      next = (let e : m ≡ suc n = ok.next in omega (arith, e, inv.next, further));
      owns =
          ok.owns
          ∙ (ap (λ os. os ++ own_of x ∷ []) inv.owns
          ∙ (append_assoc (map own_of c.args.variables.now.owns.items) (map own_of c.loop-own.yielded) (own_of x ∷ [])
          ∙ ap (λ os. map own_of c.args.variables.now.owns.items ++ os) (sym (map-append own_of c.loop-own.yielded (x ∷ [])))));
      taken = ok.taken ∙ inv.taken;
    }
