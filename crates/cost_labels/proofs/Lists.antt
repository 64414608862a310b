-- Statements of which one more gets its labels, or loses them.
use Rattle.std.proofs.Common.{◌≡◌, ℕ, ◌+◌, ◌<◌, List, [], ◌∷◌, ◌++◌, length, take, get_or, sym, ap, ap₂, ◌∙◌}
use Rattle.std.proofs.lemmas.List.{take_more}
use Rattle.cerco_base.specs.declared.events.Label.{Label}
use Rattle.clight_syntax.specs.declared.points.Point.{Point}
use Rattle.clight_syntax.specs.declared.typed.Stmt.{Stmt}
use Rattle.clight_syntax.specs.TypedTrees as p
use Rattle.clight_syntax.specs.Code.TypedViews.{stmt_of, stmts_of}
use Rattle.clight_syntax.specs.Labelling.{stmt_without, stmts_without, stmt_points, stmts_points}
use Rattle.clight_syntax.proofs.TypedRows.{stmts_onto-more}
use Rattle.cost_labels.proofs.Appending.{two_added}

stmts_of-more : {L : Type 0} (xs : List (Stmt L)) (x : Stmt L) → stmts_of (xs ++ x ∷ []) ≡ p.Then (stmts_of xs) (stmt_of x)
stmts_of-more xs x = stmts_onto-more xs x p.NoStmts

pub labelled_on : (copies all : List (Stmt Label)) (x : Stmt Label) (done : List (Stmt (Unit {0}))) (y : Stmt (Unit {0})) → stmts_without (stmts_of copies) ≡ stmts_of done → stmt_without (stmt_of x) ≡ stmt_of y → all ≡ copies ++ x ∷ [] → stmts_without (stmts_of all) ≡ stmts_of (done ++ y ∷ [])
labelled_on copies all x done y e f is =
    ap (λ l. stmts_without (stmts_of l)) is
    ∙ ap stmts_without (stmts_of-more copies x)
    ∙ ap₂ (λ s t. p.Then s t) e f
    ∙ sym (stmts_of-more done y)

pub points_on : (old one two : List Point) (copies all : List (Stmt Label)) (x : Stmt Label) → one ≡ old ++ stmts_points (stmts_of copies) → two ≡ one ++ stmt_points (stmt_of x) → all ≡ copies ++ x ∷ [] → two ≡ old ++ stmts_points (stmts_of all)
points_on old one two copies all x e f is =
    two_added old one two (stmts_points (stmts_of copies)) (stmt_points (stmt_of x)) e f
    ∙ ap (λ s. old ++ stmts_points s) (sym (stmts_of-more copies x))
    ∙ ap (λ l. old ++ stmts_points (stmts_of l)) (sym is)

pub alone_on : (copies all : List (Stmt (Unit {0}))) (x : Stmt (Unit {0})) (xs : List (Stmt Label)) (i : ℕ) (d : Stmt Label) → i < length xs → stmts_of copies ≡ stmts_without (stmts_of (take i xs)) → stmt_of x ≡ stmt_without (stmt_of (get_or xs i d)) → all ≡ copies ++ x ∷ [] → stmts_of all ≡ stmts_without (stmts_of (take (i + 1) xs))
alone_on copies all x xs i d within e f is =
    ap stmts_of is
    ∙ stmts_of-more copies x
    ∙ ap₂ (λ s t. p.Then s t) e f
    ∙ ap stmts_without (sym (stmts_of-more (take i xs) (get_or xs i d)))
    ∙ ap (λ l. stmts_without (stmts_of l)) (sym (take_more xs i d within))
