-- The statements of a block are the list that its `Vec` holds.
use Rattle.std.proofs.Common.{◌≡◌, List, [], ◌∷◌, ◌++◌, Vec, Global, refl, ap, ◌∙◌}
use Rattle.clight_source.specs.declared.span.Span.{Span}
use Rattle.clight_source.specs.declared.tree.Stmt.{Stmt, Row_of-Stmt, end_of-Stmt, more_of-Stmt, items-the_row-Stmt, items_hidden-the_row-Stmt-0}
use Rattle.clight_source.specs.declared.tree.Stmt.TheVariants.{Block, Block'}
use Rattle.clight_source.specs.Trees as p
use Rattle.clight_source.specs.Code.Views.{stmt_of, row_onto, stmts_onto, stmts_of}
use mathlib.Core.Former.{Count}

abbrev row_of : Stmt → (n : Count) × Row_of-Stmt n
row_of (Block' left shape row right) = (_, row)
row_of _ = (_, end_of-Stmt)

row_same : (n : _) (row : Row_of-Stmt n) (earlier : p.Stmts) → row_onto row earlier ≡ stmts_onto (items-the_row-Stmt n row) earlier
row_same n end_of-Stmt earlier = refl
row_same n (more_of-Stmt x rest) earlier = row_same _ rest (p.Then earlier (stmt_of x))

pub block_is : (left right : Span) (all : Vec Stmt Global) → stmt_of (Block left all right) ≡ p.Block left (stmts_of all.items) right
block_is left right all =
    let row = row_of (Block left all right) in
    ap (λ body. p.Block left body right) (row_same row.0 row.1 p.NoStmts ∙ ap (λ xs. stmts_onto xs p.NoStmts) (items_hidden-the_row-Stmt-0 all))

pub stmts_onto-more : (xs : List Stmt) (x : Stmt) (earlier : p.Stmts) → stmts_onto (xs ++ x ∷ []) earlier ≡ p.Then (stmts_onto xs earlier) (stmt_of x)
stmts_onto-more [] x earlier = refl
stmts_onto-more (y ∷ ys) x earlier = stmts_onto-more ys x (p.Then earlier (stmt_of y))
