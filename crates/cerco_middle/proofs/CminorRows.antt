-- The statements of a `Vec`, as the list of its items.
use Rattle.std.proofs.Common.{◌≡◌, List, [], ◌∷◌, ◌++◌, Vec, Global, refl, ap, ◌∙◌}
use mathlib.Core.Former.{Count}
use Rattle.cerco_middle.specs.declared.cminor.CmStmt.{CmStmt, Row_of-CmStmt, end_of-CmStmt, more_of-CmStmt, items-the_row-CmStmt, items_hidden-the_row-CmStmt-0}
use Rattle.cerco_middle.specs.declared.cminor.CmStmt.TheVariants as s
use Rattle.cerco_middle.specs.Cminor.Trees as p
use Rattle.cerco_middle.specs.Code.Views.{stmt_of, row_onto, stmts_onto, stmts_of}

abbrev row_of : CmStmt → (n : Count) × Row_of-CmStmt n
row_of (s.Seq' _ row) = (_, row)
row_of _ = (_, end_of-CmStmt)

row_same : (n : _) (row : Row_of-CmStmt n) (earlier : p.CmStmts) → row_onto row earlier ≡ stmts_onto (items-the_row-CmStmt n row) earlier
row_same n end_of-CmStmt earlier = refl
row_same n (more_of-CmStmt x rest) earlier = row_same _ rest (p.Then earlier (stmt_of x))

pub seq_is : (all : Vec CmStmt Global) → stmt_of (s.Seq all) ≡ p.Seq (stmts_of all.items)
seq_is all =
    let row = row_of (s.Seq all) in
    ap p.Seq (row_same row.0 row.1 p.NoStmts ∙ ap (λ xs. stmts_onto xs p.NoStmts) (items_hidden-the_row-CmStmt-0 all))

-- a statement after others
pub stmts_onto-more : (xs : List CmStmt) (x : CmStmt) (earlier : p.CmStmts) → stmts_onto (xs ++ x ∷ []) earlier ≡ p.Then (stmts_onto xs earlier) (stmt_of x)
stmts_onto-more [] x earlier = refl
stmts_onto-more (y ∷ xs) x earlier = stmts_onto-more xs x (p.Then earlier (stmt_of y))
