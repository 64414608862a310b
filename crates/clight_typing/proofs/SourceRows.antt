-- The statements of a block are the list that its `Vec` holds; a fault in one of them is the fault of all.
use Rattle.std.proofs.Common.{◌≡◌, ◌∙◌, ℕ, ◌+◌, ◌<◌, List, [], ◌∷◌, ◌++◌, Vec, Global, length, take, drop, get_or, Result, Ok, Err, refl, sym, ap}
use Rattle.std.proofs.lemmas.List.{take_more}
use Rattle.clight_source.specs.declared.span.Span.{Span}
use Rattle.clight_source.specs.declared.tree.Stmt.{Stmt, Row_of-Stmt, end_of-Stmt, more_of-Stmt, items-the_row-Stmt, items_hidden-the_row-Stmt-0}
use Rattle.clight_source.specs.declared.tree.Stmt.TheVariants.{Block, Block'}
use Rattle.clight_syntax.specs.declared.typed.Stmt.{Stmt as TypedStmt}
use Rattle.clight_source.specs.Trees as p
use Rattle.clight_syntax.specs.TypedTrees as t
use Rattle.clight_source.specs.Code.Views.{stmt_of, row_onto, stmts_onto, stmts_of}
use Rattle.clight_syntax.specs.Code.TypedViews as v
use Rattle.clight_syntax.proofs.TypedRows as typed
use Rattle.clight_typing.specs.Statements.{Body}
use Rattle.clight_types.specs.TypedExpressions.{Checked, TypeFault, ◌>>=◌}
use Rattle.clight_typing.specs.TypedStatements.{typed_stmt, typed_stmts}
use mathlib.Core.Former.{Count}

abbrev row_of : Stmt → (n : Count) × Row_of-Stmt n
row_of (Block' left shape row right) = (_, row)
row_of _ = (_, end_of-Stmt)

row_same : (n : _) (row : Row_of-Stmt n) (earlier : p.Stmts) → row_onto row earlier ≡ stmts_onto (items-the_row-Stmt n row) earlier
row_same n end_of-Stmt earlier = refl
row_same n (more_of-Stmt x rest) earlier = row_same _ rest (p.Then earlier (stmt_of x))

pub block_is : (left right : Span) (all : Vec Stmt Global) → stmt_of (Block left all right) ≡ p.Block left (stmts_of all.items) right
block_is left right all =
    let row = row_of (Block left all right) in
    ap (λ body. p.Block left body right) (row_same row.0 row.1 p.NoStmts ∙ ap (λ xs. stmts_onto xs p.NoStmts) (items_hidden-the_row-Stmt-0 all))

onto_more : (xs : List Stmt) (x : Stmt) (earlier : p.Stmts) → stmts_onto (xs ++ x ∷ []) earlier ≡ p.Then (stmts_onto xs earlier) (stmt_of x)
onto_more [] x earlier = refl
onto_more (y ∷ ys) x earlier = onto_more ys x (p.Then earlier (stmt_of y))

pub stmts_of-more : (xs : List Stmt) (x : Stmt) → stmts_of (xs ++ x ∷ []) ≡ p.Then (stmts_of xs) (stmt_of x)
stmts_of-more xs x = onto_more xs x p.NoStmts

pub take_next : (xs : List Stmt) (i : ℕ) (x : Stmt) → i < length xs → x ≡ get_or xs i x → stmts_of (take (i + 1) xs) ≡ p.Then (stmts_of (take i xs)) (stmt_of x)
take_next xs i x within is =
    ap stmts_of (take_more xs i x within) ∙ (stmts_of-more (take i xs) (get_or xs i x) ∙ ap (λ y. p.Then (stmts_of (take i xs)) (stmt_of y)) (sym is))

-- one more typed statement
pub typed_next : (body : Body) (xs : List Stmt) (i : ℕ) (x : Stmt) (before all : List (TypedStmt (Unit {0}))) (y : TypedStmt (Unit {0})) → i < length xs → x ≡ get_or xs i x →
    typed_stmts body (stmts_of (take i xs)) ≡ Ok (v.stmts_of before) → typed_stmt body (stmt_of x) ≡ Ok (v.stmt_of y) → all ≡ before ++ y ∷ [] →
    typed_stmts body (stmts_of (take (i + 1) xs)) ≡ Ok (v.stmts_of all)
typed_next body xs i x before all y within is so_far here more =
    ap (typed_stmts body) (take_next xs i x within is)
    ∙ (ap (λ o. o >>= λ ys. typed_stmt body (stmt_of x) >>= λ z. Ok (t.Then ys z)) so_far
    ∙ (ap (λ o. o >>= λ z. let r : Checked (t.Stmts (Unit {0})) = Ok (t.Then (v.stmts_of before) z) in r) here
    ∙ (let r : t.Stmts (Unit {0}) → Checked (t.Stmts (Unit {0})) = λ ys. Ok ys in
    ap r (sym (typed.stmts_onto-more before y t.NoStmts) ∙ ap v.stmts_of (sym more)))))

fails_onto : (body : Body) (rest : List Stmt) (earlier : p.Stmts) (f : TypeFault) → typed_stmts body earlier ≡ Err f → typed_stmts body (stmts_onto rest earlier) ≡ Err f
fails_onto body [] earlier f h = h
fails_onto body (x ∷ rest) earlier f h = fails_onto body rest (p.Then earlier (stmt_of x)) f (ap (λ o. o >>= λ ys. typed_stmt body (stmt_of x) >>= λ z. Ok (t.Then ys z)) h)

onto_append : (xs ys : List Stmt) (earlier : p.Stmts) → stmts_onto (xs ++ ys) earlier ≡ stmts_onto ys (stmts_onto xs earlier)
onto_append [] ys earlier = refl
onto_append (x ∷ xs) ys earlier = onto_append xs ys (p.Then earlier (stmt_of x))

-- a fault in a statement behind some others
pub typed_fails : (body : Body) (xs : List Stmt) (i : ℕ) (x : Stmt) (before : t.Stmts (Unit {0})) (f : TypeFault) → xs ≡ take i xs ++ x ∷ drop (i + 1) xs →
    typed_stmts body (stmts_of (take i xs)) ≡ Ok before → typed_stmt body (stmt_of x) ≡ Err f → typed_stmts body (stmts_of xs) ≡ Err f
typed_fails body xs i x before f parts so_far here =
    ap (λ l. typed_stmts body (stmts_of l)) parts
    ∙ (ap (typed_stmts body) (onto_append (take i xs) (x ∷ drop (i + 1) xs) p.NoStmts)
    ∙ fails_onto body (drop (i + 1) xs) (p.Then (stmts_of (take i xs)) (stmt_of x)) f
    (ap (λ o. o >>= λ ys. typed_stmt body (stmt_of x) >>= λ z. Ok (t.Then ys z)) so_far
    ∙ ap (λ o. o >>= λ z. let r : Checked (t.Stmts (Unit {0})) = Ok (t.Then before z) in r) here))
