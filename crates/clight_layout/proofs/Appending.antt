-- Calls are added one after the other.
use Rattle.std.proofs.Common.{◌≡◌, ℕ, ◌+◌, ◌<◌, List, [], ◌∷◌, ◌++◌, length, take, get_or, Vec, Global, sym, ap, subst, ◌∙◌, append_assoc}
use Rattle.std.specs.Prelude.{Result, OnOk}
use Rattle.std.proofs.lemmas.List.{take_more}
use Rattle.cerco_base.specs.declared.no_memory.NoMemory.{NoMemory}
use Rattle.clight_source.specs.declared.span.Span.{Span}
use Rattle.clight_syntax.specs.declared.typed.Stmt.{Stmt}
use Rattle.clight_syntax.specs.declared.typed.Stmt.TheVariants.{Block}
use Rattle.clight_syntax.specs.TypedTrees as p
use Rattle.clight_syntax.specs.Code.TypedViews.{stmt_of, stmts_of}
use Rattle.clight_syntax.proofs.TypedRows.{block_is, stmts_onto-more}
use Rattle.clight_layout.specs.Calls.{stmt_calls, stmts_calls}

pub two_added : (old one all p q : List ℕ) → one ≡ old ++ p → all ≡ one ++ q → all ≡ old ++ (p ++ q)
two_added old one all p q e f = f ∙ ap (λ l. l ++ q) e ∙ append_assoc old p q

pub stmts_on : (old one two : List ℕ) (xs : List (Stmt (Unit {0}))) (i : ℕ) (x : Stmt (Unit {0})) → i < length xs → x ≡ get_or xs i x → one ≡ old ++ stmts_calls (stmts_of (take i xs)) → two ≡ one ++ stmt_calls (stmt_of x) → two ≡ old ++ stmts_calls (stmts_of (take (i + 1) xs))
stmts_on old one two xs i x within is e more =
    two_added old one two (stmts_calls (stmts_of (take i xs))) (stmt_calls (stmt_of x)) e more
    ∙ ap (λ s. old ++ stmts_calls s) (sym (stmts_onto-more (take i xs) x p.NoStmts))
    ∙ ap (λ y. old ++ stmts_calls (stmts_of (take i xs ++ y ∷ []))) is
    ∙ ap (λ l. old ++ stmts_calls (stmts_of l)) (sym (take_more xs i x within))

pub block_added : (old new : List ℕ) (s : Stmt (Unit {0})) (left right : Span) (body : Vec (Stmt (Unit {0})) Global) (slice : List (Stmt (Unit {0}))) (result : Result (Unit {0}) NoMemory) → s ≡ Block left body right → slice ≡ body.items → OnOk result (new ≡ old ++ stmts_calls (stmts_of slice)) → OnOk result (new ≡ old ++ stmt_calls (stmt_of s))
block_added old new s left right body slice result is value added =
    let same : stmts_calls (stmts_of slice) ≡ stmt_calls (stmt_of s) = ap (λ l. stmts_calls (stmts_of l)) value ∙ sym (ap stmt_calls (ap stmt_of is ∙ block_is left right body)) in
    let P : List ℕ → Type 0 = λ calls. OnOk result (new ≡ old ++ calls) in
    subst P same added
