-- What the checker holds of an expression by itself, as definitions speak of it.
use Rattle.std.specs.declared.boxed.Box.{Box}
use Rattle.std.specs.Global.{Global}
use Rattle.clight_syntax.specs.TypedTrees as p
use Rattle.clight_syntax.specs.Code.TypedViews.{expr_of, cond_of}
use Rattle.clight_syntax.specs.declared.typed.Expr.{Expr}
use Rattle.clight_syntax.specs.declared.typed.Cond.{Cond}
use Rattle.clight_types.specs.TypedExpressions.{Judged, Typed, Logical, NoVariable}
use Rattle.clight_types.specs.declared.judged.Judged.{Judged as HeldJudged}
use Rattle.clight_types.specs.declared.judged.Judged.TheVariants as j

abbrev pub expr_in : Box Expr Global → p.Expr
expr_in b = expr_of b.value

abbrev pub cond_in : Box (Cond (Unit {0})) Global → p.Cond (Unit {0})
cond_in b = cond_of b.value

abbrev pub judged_of : HeldJudged → Judged
judged_of (j.Typed e) = Typed (expr_of e.value)
judged_of (j.Logical c) = Logical (cond_of c.value)
judged_of j.NoVariable = NoVariable
