-- Locals and arguments of which one more is typed.
use Rattle.std.proofs.Common.{◌≡◌, ◌∙◌, ℕ, suc, ◌+◌, ◌<◌, List, [], ◌∷◌, ◌++◌, length, map, get_or, drop, Result, Ok, Err, refl, sym, ap, subst, append_assoc}
use Rattle.clight_source.specs.Trees as s
use Rattle.c_types.specs.Types.{StructType}
use Rattle.clight_syntax.specs.TypedTrees.{Expr, Local, EarlierArgument}
use Rattle.clight_typing.specs.Functions.{with_local}
use Rattle.clight_types.specs.Scopes.{Scope, Meanings, visible}
use Rattle.clight_types.specs.TypedExpressions.{Checked, TypeFault, ◌>>=◌, typed_value}
use Rattle.clight_typing.specs.TypedStatements.{typed_earlier}
use Rattle.clight_typing.specs.TypedPrograms.{typed_local, typed_locals, scope_at}
use Rattle.clight_typing.proofs.Walks.{ahead, ahead_more}

abbrev pub walk : Scope → ℕ → List s.Local → Checked (List Local)
walk scope variable xs = typed_locals scope.structs variable scope.meaning xs

-- one more local behind some others
pub locals_next : (scope : Scope) (variable : ℕ) (x : s.Local) (rest : List s.Local) (before all : List Local) (y : Local) →
    typed_local (scope_at scope.structs variable scope.meaning x) x ≡ Ok y → all ≡ before ++ y ∷ [] →
    ahead before (walk scope variable (x ∷ rest)) ≡ ahead all (walk (scope_at scope.structs variable scope.meaning x) (suc variable) rest)
locals_next scope variable x rest before all y is more =
    let others : Checked (List Local) = walk (scope_at scope.structs variable scope.meaning x) (suc variable) rest in
    ap (λ o. ahead before (o >>= λ one. others >>= λ ys. Ok (one ∷ ys))) is ∙ ahead_more before all y others more

-- a fault in a local behind some others
pub locals_fail : (scope : Scope) (variable : ℕ) (x : s.Local) (rest : List s.Local) (before : List Local) (f : TypeFault) →
    typed_local (scope_at scope.structs variable scope.meaning x) x ≡ Err f → ahead before (walk scope variable (x ∷ rest)) ≡ Err f
locals_fail scope variable x rest before f is =
    let others : Checked (List Local) = walk (scope_at scope.structs variable scope.meaning x) (suc variable) rest in
    ap (λ o. ahead before (o >>= λ one. others >>= λ ys. Ok (one ∷ ys))) is

-- one more argument behind some others
pub earlier_next : (scope : Scope) (x : s.EarlierArgument) (rest : List s.EarlierArgument) (before all : List EarlierArgument) (e : Expr) → typed_value scope x.value ≡ Ok e →
    all ≡ before ++ record { value = e; comma = x.comma } ∷ [] → ahead before (typed_earlier scope (x ∷ rest)) ≡ ahead all (typed_earlier scope rest)
earlier_next scope x rest before all e is more =
    ap (λ o. ahead before (o >>= λ e. typed_earlier scope rest >>= λ ys. let z : Checked (List EarlierArgument) = Ok (record { value = e; comma = x.comma } ∷ ys) in z)) is
    ∙ ahead_more before all (record { value = e; comma = x.comma }) (typed_earlier scope rest) more

-- a fault in an argument behind some others
pub earlier_fail : (scope : Scope) (x : s.EarlierArgument) (rest : List s.EarlierArgument) (before : List EarlierArgument) (f : TypeFault) → typed_value scope x.value ≡ Err f →
    ahead before (typed_earlier scope (x ∷ rest)) ≡ Err f
earlier_fail scope x rest before f is =
    ap (λ o. ahead before (o >>= λ e. typed_earlier scope rest >>= λ ys. let z : Checked (List EarlierArgument) = Ok (record { value = e; comma = x.comma } ∷ ys) in z)) is
