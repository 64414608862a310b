-- The work that is held: the newest is the last of a list and the first of what definitions speak of.
use Rattle.std.proofs.Common.{◌≡◌, List, [], ◌∷◌, ◌++◌, refl, ap, ◌∙◌}
use Rattle.std.proofs.Common.{map, Vec, Global}
use Rattle.std.proofs.lemmas.List.{append-nil}
use Rattle.clight_syntax.specs.TypedTrees as t
use Rattle.clight_syntax.specs.Code.TypedViews.{stmt_of, stmts_of, stmts_onto}
use Rattle.clight_syntax.specs.declared.typed.Stmt.{Stmt}
use Rattle.clight_syntax.specs.declared.typed.Stmt.TheVariants.{Block}
use Rattle.clight_source.specs.declared.span.Span.{Span}
use Rattle.clight_syntax.proofs.TypedRows.{block_is}
use Rattle.clight_values.specs.Memory.{State}
use Rattle.cerco_base.specs.declared.events.Label.{Label}
use Rattle.clight_meaning.specs.Code.Evaluation as n
use Rattle.clight_meaning.specs.declared.running.Work.{Work}
use Rattle.clight_meaning.specs.Code.Holding.{work_held, works_onto, works_held}

works_onto-last : (ws : List Work) (w : Work) (older : List n.Work) → works_onto (ws ++ w ∷ []) older ≡ work_held w ∷ works_onto ws older
works_onto-last [] w older = refl
works_onto-last (v ∷ vs) w older = works_onto-last vs w (work_held v ∷ older)

pub works_held-last : (ws : List Work) (w : Work) → works_held (ws ++ w ∷ []) ≡ work_held w ∷ works_held ws
unfolding works_held
works_held-last ws w = works_onto-last ws w []

pub works_held-nil : works_held [] ≡ []
unfolding works_held
works_held-nil = refl

listed_onto : (xs : List (Stmt Label)) (earlier : t.Stmts Label) (later : List (t.Stmt Label)) → n.listed (stmts_onto xs earlier) later ≡ n.listed earlier (map stmt_of xs ++ later)
listed_onto [] earlier later = refl
listed_onto (x ∷ xs) earlier later = listed_onto xs (t.Then earlier (stmt_of x)) later

-- the statements of a body, as the list that is held
pub listed_is : (xs : List (Stmt Label)) → n.listed (stmts_of xs) [] ≡ map stmt_of xs
listed_is xs = listed_onto xs t.NoStmts [] ∙ append-nil (map stmt_of xs)

-- a block runs the statements that it holds
pub block_ran : (p : t.TypedProgram Label) (s : Stmt Label) (left right : Span) (all : Vec (Stmt Label) Global) (ws : List n.Work) (st : State) → s ≡ Block left all right
    → n.ran p (stmt_of s) ws st ≡ n.Silent (n.All (map stmt_of all.items) ∷ ws) st
block_ran p s left right all ws st is =
    ap (λ x. n.ran p (stmt_of x) ws st) is ∙ ap (λ x. n.ran p x ws st) (block_is left right all) ∙ ap (λ xs. n.Silent (n.All xs ∷ ws) st) (listed_is all.items)

pub ruleset block_laws = (works_held-last, works_held-nil, block_ran)

pub ruleset work_laws = (works_held-last, works_held-nil, listed_is)
