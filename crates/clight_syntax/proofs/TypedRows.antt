-- The statements of a typed block are the list that its `Vec` holds.
use Rattle.std.proofs.Common.{◌≡◌, List, [], ◌∷◌, ◌++◌, Vec, Global, refl, ap, ◌∙◌}
use Rattle.clight_source.specs.declared.span.Span.{Span}
use Rattle.clight_syntax.specs.declared.typed.Stmt.{Stmt, Row_of-Stmt, end_of-Stmt, more_of-Stmt, items-the_row-Stmt, items_hidden-the_row-Stmt-0}
use Rattle.clight_syntax.specs.declared.typed.Stmt.TheVariants.{Block, Block'}
use Rattle.clight_syntax.specs.TypedTrees as p
use Rattle.clight_syntax.specs.Code.TypedViews.{stmt_of, row_onto, stmts_onto, stmts_of}
use mathlib.Core.Former.{Count}

abbrev row_of : {L : Type 0} → Stmt L → (n : Count) × Row_of-Stmt L n
row_of (Block' left shape row right) = (_, row)
row_of _ = (_, end_of-Stmt)

row_same : (L : Type 0) (n : _) (row : Row_of-Stmt L n) (earlier : p.Stmts L) → row_onto row earlier ≡ stmts_onto (items-the_row-Stmt L n row) earlier
row_same L n end_of-Stmt earlier = refl
row_same L n (more_of-Stmt x rest) earlier = row_same L _ rest (p.Then earlier (stmt_of x))

pub block_is : {L : Type 0} (left right : Span) (all : Vec (Stmt L) Global) → stmt_of (Block left all right) ≡ p.Block left (stmts_of all.items) right
block_is {L = L} left right all =
    let row = row_of (Block left all right) in
    ap (λ body. p.Block left body right) (row_same L row.0 row.1 p.NoStmts ∙ ap (λ xs. stmts_onto xs p.NoStmts) (items_hidden-the_row-Stmt-0 L all))

pub stmts_onto-more : {L : Type 0} (xs : List (Stmt L)) (x : Stmt L) (earlier : p.Stmts L) → stmts_onto (xs ++ x ∷ []) earlier ≡ p.Then (stmts_onto xs earlier) (stmt_of x)
stmts_onto-more [] x earlier = refl
stmts_onto-more (y ∷ ys) x earlier = stmts_onto-more ys x (p.Then earlier (stmt_of y))
