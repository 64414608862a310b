-- What the program's stacks stand for.
use Rattle.std.specs.Prelude.{List, [], ◌∷◌, map, Option, option_map}
use Rattle.std.specs.declared.boxed.Box.{Box}
use Rattle.std.specs.declared.vec.Vec.{Vec}
use Rattle.std.specs.Global.{Global}
use Rattle.clight_source.specs.declared.tree.Expr.{Expr}
use Rattle.clight_source.specs.declared.tree.Stmt.{Stmt}
use Rattle.clight_source.specs.declared.tree.EarlierArgument.{EarlierArgument}
use Rattle.clight_source.specs.declared.tree.Assignment.{Assignment}
use Rattle.clight_source.specs.Trees as t
use Rattle.clight_source.specs.Code.Views.{expr_of, stmt_of, stmts_of, earlier_argument_of, assignment_of}
use Rattle.clight_build.specs.declared.stacks.Stacks.{Stacks}
use Rattle.clight_build.specs.Code.Stacks as s

abbrev pub views_onto : {A B : Type 0} → (A → B) → List B → List A → List B
views_onto view later [] = later
views_onto view later (x ∷ xs) = views_onto view (view x ∷ later) xs

-- what the elements stand for, the newest first
unfoldable pub views : {A B : Type 0} → (A → B) → List A → List B
views view = views_onto view []

abbrev pub expr_in : Box Expr Global → t.Expr
expr_in b = expr_of b.value

abbrev pub stmt_in : Box Stmt Global → t.Stmt
stmt_in b = stmt_of b.value

abbrev pub list_in : Vec Stmt Global → t.Stmts
list_in v = stmts_of v.items

abbrev pub arguments_in : Vec EarlierArgument Global → List t.EarlierArgument
arguments_in v = map earlier_argument_of v.items

abbrev pub boxed_assignment : Box Assignment Global → t.Assignment
boxed_assignment b = assignment_of b.value

abbrev pub assignment_in : Option (Box Assignment Global) → Option t.Assignment
assignment_in = option_map boxed_assignment

abbrev pub condition_in : Option (Box Expr Global) → Option t.Expr
condition_in = option_map expr_in

abbrev pub stacks_of : Stacks → s.Stacks
stacks_of x =
    s.stacks (views expr_in x.exprs.items) (views stmt_in x.stmts.items) (views list_in x.lists.items) (views arguments_in x.arguments.items) (views assignment_in x.assignments.items)
    (views condition_in x.conditions.items)
