-- How the stacks grow and shrink.
use Rattle.std.proofs.Common.{◌≡◌, List, [], ◌∷◌, ◌++◌, refl, ap, ◌∙◌, MatchOption, Option, Some, None}
use Rattle.std.proofs.lemmas.List.{map-append}
use Rattle.clight_source.specs.declared.span.Span.{Span}
use Rattle.clight_source.specs.declared.tree.Stmt.{Stmt, Row_of-Stmt, end_of-Stmt, more_of-Stmt, items-the_row-Stmt, items_hidden-the_row-Stmt-0}
use Rattle.clight_source.specs.declared.tree.Stmt.TheVariants as s
use Rattle.clight_source.specs.declared.tree.Stmt.TheBlock.{hidden-the_row-Stmt-0}
use Rattle.clight_source.specs.Trees as t
use Rattle.clight_source.specs.Code.Views.{stmt_of, stmts_of, stmts_onto, row_onto}
use Rattle.clight_build.specs.Code.Views.{views, views_onto}

onto-push : {A B : Type 0} (view : A → B) (xs : List A) (x : A) (later : List B) → views_onto view later (xs ++ x ∷ []) ≡ view x ∷ views_onto view later xs
onto-push view [] x later = refl
onto-push view (y ∷ xs) x later = onto-push view xs x (view y ∷ later)

pub views-push : {A B : Type 0} (view : A → B) (xs : List A) (x : A) → views view (xs ++ x ∷ []) ≡ view x ∷ views view xs
unfolding views
views-push view xs x = onto-push view xs x []

pub views-nil : {A B : Type 0} (view : A → B) → views view [] ≡ []
unfolding views
views-nil view = refl

pub on_pop : {A B : Type 0} (view : A → B) (o : Option A) (old new : List A) → MatchOption o ((old ≡ []) × (new ≡ [])) (λ x. old ≡ new ++ x ∷ [])
    → MatchOption o ((views view old ≡ []) × (views view new ≡ [])) (λ x. views view old ≡ view x ∷ views view new)
on_pop view None old new h = (ap (views view) h.0 ∙ views-nil view, ap (views view) h.1 ∙ views-nil view)
on_pop view (Some x) old new h = ap (views view) h ∙ views-push view new x

pub stmts_onto-push : (xs : List Stmt) (x : Stmt) (earlier : t.Stmts) → stmts_onto (xs ++ x ∷ []) earlier ≡ t.Then (stmts_onto xs earlier) (stmt_of x)
stmts_onto-push [] x earlier = refl
stmts_onto-push (y ∷ xs) x earlier = stmts_onto-push xs x (t.Then earlier (stmt_of y))

row_onto-items : {n : _} (row : Row_of-Stmt n) (earlier : t.Stmts) → row_onto row earlier ≡ stmts_onto (items-the_row-Stmt n row) earlier
row_onto-items end_of-Stmt earlier = refl
row_onto-items (more_of-Stmt x rest) earlier = row_onto-items rest (t.Then earlier (stmt_of x))

-- a block holds its statements
pub block_holds : (left : Span) (v : _) (right : Span) → stmt_of (s.Block left v right) ≡ t.Block left (stmts_of v.items) right
block_holds left v right =
    ap (λ z. t.Block left z right) (row_onto-items (hidden-the_row-Stmt-0 v) t.NoStmts ∙ ap (λ z. stmts_onto z t.NoStmts) (items_hidden-the_row-Stmt-0 v))

pub ruleset pushes = (map-append, stmts_onto-push, views-push, views-nil, block_holds)
