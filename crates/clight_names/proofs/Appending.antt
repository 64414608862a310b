-- Names are added one after the other.
use Rattle.std.proofs.Common.{◌≡◌, ℕ, suc, ◌+◌, ◌<◌, List, [], ◌∷◌, ◌++◌, length, map, take, get_or, Vec, Global, sym, ap, subst, ◌∙◌, append_assoc, add-zero, arith}
use Rattle.std.specs.Prelude.{Result, OnOk}
use Rattle.std.specs.List.{flat_map}
use Rattle.std.proofs.lemmas.List.{take_more, map-append, append-nil, length-map, length-take-le}
use Rattle.std.proofs.lemmas.List.Concat.{flat_map-cons}
use Rattle.std.proofs.lemmas.Grind.{flat_map-append}
use Rattle.cerco_base.specs.declared.no_memory.NoMemory.{NoMemory}
use Rattle.clight_source.specs.declared.span.Span.{Span}
use Rattle.clight_source.specs.declared.tree.Stmt.{Stmt}
use Rattle.clight_source.specs.declared.tree.Stmt.TheVariants.{Block}
use Rattle.clight_source.specs.Trees.{Item}
use Rattle.clight_source.specs.declared.tree.Item.{Item as HeldItem}
use Rattle.clight_source.specs.Code.Views.{stmt_of, stmts_of, item_of}
use Rattle.clight_names.specs.declared.occurrences.Occurrence.{Occurrence}
use Rattle.clight_names.specs.Occurrences.{stmt_names, stmts_names, item_names, names_from}
use Rattle.clight_names.proofs.Rows.{block_is, stmts_onto-more}
use Rattle.clight_source.specs.Trees as p

pub two_added : (old one all p q : List Occurrence) → one ≡ old ++ p → all ≡ one ++ q → all ≡ old ++ (p ++ q)
two_added old one all p q e f = f ∙ ap (λ l. l ++ q) e ∙ append_assoc old p q

pub one_before : (old one all : List Occurrence) (x : Occurrence) (q : List Occurrence) → one ≡ old ++ x ∷ [] → all ≡ one ++ q → all ≡ old ++ (x ∷ q)
one_before old one all x q e f = two_added old one all (x ∷ []) q e f

pub three_added : (old one two all p q r : List Occurrence) → one ≡ old ++ p → two ≡ one ++ q → all ≡ two ++ r → all ≡ old ++ (p ++ (q ++ r))
three_added old one two all p q r e f g = two_added old one all p (q ++ r) e (two_added one two all q r f g)

pub call_added : (old one two all p : List Occurrence) (x : Occurrence) (r : List Occurrence) → one ≡ old ++ p → two ≡ one ++ x ∷ [] → all ≡ two ++ r → all ≡ old ++ (p ++ x ∷ r)
call_added old one two all p x r e f g = two_added old one all p (x ∷ r) e (one_before one two all x r f g)

-- ---- lists

one_listed : {B : Type 0} (f : B → List Occurrence) (x : B) → flat_map f (x ∷ []) ≡ f x
one_listed f x = flat_map-cons f x [] ∙ append-nil (f x)

-- the names of one more part
pub listed_on : {A B : Type 0} (f : B → List Occurrence) (g : A → B) (old one two : List Occurrence) (xs : List A) (i : ℕ) (x : A) → i < length xs → x ≡ get_or xs i x → one ≡ old ++ flat_map f (map g (take i xs)) → two ≡ one ++ f (g x) → two ≡ old ++ flat_map f (map g (take (i + 1) xs))
listed_on f g old one two xs i x within is e more =
    two_added old one two (flat_map f (map g (take i xs))) (f (g x)) e more
    ∙ ap (λ l. old ++ (flat_map f (map g (take i xs)) ++ l)) (sym (one_listed f (g x)))
    ∙ ap (λ l. old ++ l) (sym (flat_map-append f (map g (take i xs)) (g x ∷ [])))
    ∙ ap (λ l. old ++ flat_map f l) (sym (map-append g (take i xs) (x ∷ [])))
    ∙ ap (λ y. old ++ flat_map f (map g (take i xs ++ y ∷ []))) is
    ∙ ap (λ l. old ++ flat_map f (map g l)) (sym (take_more xs i x within))

-- ---- statements

pub stmts_on : (item : ℕ) (old one two : List Occurrence) (xs : List Stmt) (i : ℕ) (x : Stmt) → i < length xs → x ≡ get_or xs i x → one ≡ old ++ stmts_names item (stmts_of (take i xs)) → two ≡ one ++ stmt_names item (stmt_of x) → two ≡ old ++ stmts_names item (stmts_of (take (i + 1) xs))
stmts_on item old one two xs i x within is e more =
    two_added old one two (stmts_names item (stmts_of (take i xs))) (stmt_names item (stmt_of x)) e more
    ∙ ap (λ s. old ++ stmts_names item s) (sym (stmts_onto-more (take i xs) x p.NoStmts))
    ∙ ap (λ y. old ++ stmts_names item (stmts_of (take i xs ++ y ∷ []))) is
    ∙ ap (λ l. old ++ stmts_names item (stmts_of l)) (sym (take_more xs i x within))

pub block_added : (item : ℕ) (old new : List Occurrence) (s : Stmt) (left right : Span) (body : Vec Stmt Global) (slice : List Stmt) (result : Result (Unit {0}) NoMemory) → s ≡ Block left body right → slice ≡ body.items → OnOk result (new ≡ old ++ stmts_names item (stmts_of slice)) → OnOk result (new ≡ old ++ stmt_names item (stmt_of s))
block_added item old new s left right body slice result is value added =
    let same : stmts_names item (stmts_of slice) ≡ stmt_names item (stmt_of s) = ap (λ l. stmts_names item (stmts_of l)) value ∙ sym (ap (stmt_names item) (ap stmt_of is ∙ block_is left right body)) in
    let P : List Occurrence → Type 0 = λ names. OnOk result (new ≡ old ++ names) in
    subst P same added

-- ---- items

later : (k n : ℕ) → suc k + n ≡ k + suc n
later k n = omega arith

pub names_from-more : (k : ℕ) (xs : List Item) (y : Item) → names_from k (xs ++ y ∷ []) ≡ names_from k xs ++ item_names (k + length xs) y
names_from-more k [] y = append-nil (item_names k y) ∙ ap (λ n. item_names n y) (sym (add-zero k))
names_from-more k (x ∷ xs) y =
    ap (λ l. item_names k x ++ l) (names_from-more (suc k) xs y)
    ∙ sym (append_assoc (item_names k x) (names_from (suc k) xs) (item_names (suc k + length xs) y))
    ∙ ap (λ n. (item_names k x ++ names_from (suc k) xs) ++ item_names n y) (later k (length xs))

pub items_on : (one two : List Occurrence) (xs : List HeldItem) (i : ℕ) (x : HeldItem) → i < length xs → x ≡ get_or xs i x → one ≡ names_from 0 (map item_of (take i xs)) → two ≡ one ++ item_names i (item_of x) → two ≡ names_from 0 (map item_of (take (i + 1) xs))
items_on one two xs i x within is e more =
    let count : 0 + length (map item_of (take i xs)) ≡ i = omega (arith, length-map (take i xs) item_of, length-take-le i xs (omega arith)) in
    more
    ∙ ap (λ l. l ++ item_names i (item_of x)) e
    ∙ ap (λ n. names_from 0 (map item_of (take i xs)) ++ item_names n (item_of x)) (sym count)
    ∙ sym (names_from-more 0 (map item_of (take i xs)) (item_of x))
    ∙ ap (λ l. names_from 0 l) (sym (map-append item_of (take i xs) (x ∷ [])))
    ∙ ap (λ y. names_from 0 (map item_of (take i xs ++ y ∷ []))) is
    ∙ ap (λ l. names_from 0 (map item_of l)) (sym (take_more xs i x within))
