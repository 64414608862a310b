-- Lists of five words, of four and of two, and what holds of the requests that words are.
use Rattle.std.proofs.Common.{◌≡◌, ℕ, ◌<◌, ◌≤◌, List, [], ◌∷◌, length, map, refl, sym, ap, subst, ◌∙◌, arith, Option, None, Some, Bool, true, false, not, ◌&&◌, cond, bytes_eq, codes, get_or}
use Rattle.std.specs.Prelude.{nat_le, decimal, ◌≢◌}
use Rattle.std.specs.Str.Parse.{digits_value}
use Rattle.std.proofs.lemmas.Bool.{leb-true, le-leb, true≢false}
use Rattle.std.proofs.lemmas.Fmt.{decimal_is_IsNumeral}
use Rattle.std.proofs.lemmas.Slice.Eq.{bytes_eq-Decides}
use Rattle.cerco_command.specs.Words.{BuildFiles, RunRequest, HaveDifferentNames, of_five, of_four, build_of, is_build, is_name, has_run_names, is_limit, run_of}

pub five_short : {X R : Type 0} (read : List ℕ → List ℕ → List ℕ → List ℕ → List ℕ → Option R) (f : X → List ℕ) (ws : List X) → length ws < 5 → of_five read (map f ws) ≡ None
five_short read f [] h = refl
five_short read f (a ∷ []) h = refl
five_short read f (a ∷ b ∷ []) h = refl
five_short read f (a ∷ b ∷ c ∷ []) h = refl
five_short read f (a ∷ b ∷ c ∷ d ∷ []) h = refl
five_short read f (a ∷ b ∷ c ∷ d ∷ e ∷ ws) h = absurd (omega arith)

pub five_long : {X R : Type 0} (read : List ℕ → List ℕ → List ℕ → List ℕ → List ℕ → Option R) (f : X → List ℕ) (ws : List X) → 6 ≤ length ws → of_five read (map f ws) ≡ None
five_long read f [] h = refl
five_long read f (a ∷ []) h = refl
five_long read f (a ∷ b ∷ []) h = refl
five_long read f (a ∷ b ∷ c ∷ []) h = refl
five_long read f (a ∷ b ∷ c ∷ d ∷ []) h = refl
five_long read f (a ∷ b ∷ c ∷ d ∷ e ∷ []) h = absurd (omega arith)
five_long read f (a ∷ b ∷ c ∷ d ∷ e ∷ g ∷ ws) h = refl

-- what five words are read as
pub five_there : {X R : Type 0} (read : List ℕ → List ℕ → List ℕ → List ℕ → List ℕ → Option R) (f : X → List ℕ) (ws : List X) (w i h m a : X) → 5 ≤ length ws → length ws < 6 → w ≡ get_or ws 0 w → i ≡ get_or ws 1 i → h ≡ get_or ws 2 h → m ≡ get_or ws 3 m → a ≡ get_or ws 4 a → of_five read (map f ws) ≡ read (f w) (f i) (f h) (f m) (f a)
five_there read f [] w i h m a l₁ l₂ e₀ e₁ e₂ e₃ e₄ = absurd (omega arith)
five_there read f (x₀ ∷ []) w i h m a l₁ l₂ e₀ e₁ e₂ e₃ e₄ = absurd (omega arith)
five_there read f (x₀ ∷ x₁ ∷ []) w i h m a l₁ l₂ e₀ e₁ e₂ e₃ e₄ = absurd (omega arith)
five_there read f (x₀ ∷ x₁ ∷ x₂ ∷ []) w i h m a l₁ l₂ e₀ e₁ e₂ e₃ e₄ = absurd (omega arith)
five_there read f (x₀ ∷ x₁ ∷ x₂ ∷ x₃ ∷ []) w i h m a l₁ l₂ e₀ e₁ e₂ e₃ e₄ = absurd (omega arith)
five_there read f (x₀ ∷ x₁ ∷ x₂ ∷ x₃ ∷ x₄ ∷ []) w i h m a l₁ l₂ e₀ e₁ e₂ e₃ e₄ = rw (← e₀, ← e₁, ← e₂, ← e₃, ← e₄) refl
five_there read f (x₀ ∷ x₁ ∷ x₂ ∷ x₃ ∷ x₄ ∷ x₅ ∷ ws) w i h m a l₁ l₂ e₀ e₁ e₂ e₃ e₄ = absurd (omega arith)

-- the same for four words
pub four_short : {X R : Type 0} (read : List ℕ → List ℕ → List ℕ → List ℕ → Option R) (f : X → List ℕ) (ws : List X) → length ws < 4 → of_four read (map f ws) ≡ None
four_short read f [] h = refl
four_short read f (a ∷ []) h = refl
four_short read f (a ∷ b ∷ []) h = refl
four_short read f (a ∷ b ∷ c ∷ []) h = refl
four_short read f (a ∷ b ∷ c ∷ d ∷ ws) h = absurd (omega arith)

pub four_long : {X R : Type 0} (read : List ℕ → List ℕ → List ℕ → List ℕ → Option R) (f : X → List ℕ) (ws : List X) → 5 ≤ length ws → of_four read (map f ws) ≡ None
four_long read f [] h = refl
four_long read f (a ∷ []) h = refl
four_long read f (a ∷ b ∷ []) h = refl
four_long read f (a ∷ b ∷ c ∷ []) h = refl
four_long read f (a ∷ b ∷ c ∷ d ∷ []) h = absurd (omega arith)
four_long read f (a ∷ b ∷ c ∷ d ∷ e ∷ ws) h = refl

pub four_there : {X R : Type 0} (read : List ℕ → List ℕ → List ℕ → List ℕ → Option R) (f : X → List ℕ) (ws : List X) (w i h m : X) → 4 ≤ length ws → length ws < 5 → w ≡ get_or ws 0 w → i ≡ get_or ws 1 i → h ≡ get_or ws 2 h → m ≡ get_or ws 3 m → of_four read (map f ws) ≡ read (f w) (f i) (f h) (f m)
four_there read f [] w i h m l₁ l₂ e₀ e₁ e₂ e₃ = absurd (omega arith)
four_there read f (x₀ ∷ []) w i h m l₁ l₂ e₀ e₁ e₂ e₃ = absurd (omega arith)
four_there read f (x₀ ∷ x₁ ∷ []) w i h m l₁ l₂ e₀ e₁ e₂ e₃ = absurd (omega arith)
four_there read f (x₀ ∷ x₁ ∷ x₂ ∷ []) w i h m l₁ l₂ e₀ e₁ e₂ e₃ = absurd (omega arith)
four_there read f (x₀ ∷ x₁ ∷ x₂ ∷ x₃ ∷ []) w i h m l₁ l₂ e₀ e₁ e₂ e₃ = rw (← e₀, ← e₁, ← e₂, ← e₃) refl
four_there read f (x₀ ∷ x₁ ∷ x₂ ∷ x₃ ∷ x₄ ∷ ws) w i h m l₁ l₂ e₀ e₁ e₂ e₃ = absurd (omega arith)

-- a word that is a number of cycles or of labels
pub limit_some : (word : List ℕ) (n : ℕ) → n ≤ 1000000000 → word ≡ decimal n → (is_limit word ≡ true) × (digits_value 10 word ≡ n)
limit_some word n small e = (is (sym value), value)
  where
    value : digits_value 10 word ≡ n
    value = ap (digits_value 10) e ∙ (decimal_is_IsNumeral n (omega arith)).1

    is : n ≡ digits_value 10 word → is_limit word ≡ true
    is v =
        let written : bytes_eq word (decimal (digits_value 10 word)) ≡ true = (bytes_eq-Decides word (decimal (digits_value 10 word))).1 (e ∙ ap decimal v) in
        let fits : nat_le (digits_value 10 word) 1000000000 ≡ true = le-leb (digits_value 10 word) 1000000000 (omega arith) in
        rw (written, fits) refl

both : (p q : Bool) → (p && q) ≡ true → (p ≡ true) × (q ≡ true)
both true q e = (refl, e)
both false q e = absurd cc

pub limit_none : (word : List ℕ) → ((n : ℕ) → n ≤ 1000000000 → word ≢ decimal n) → is_limit word ≡ false
limit_none word other = by_test (is_limit word) refl
  where
    by_test : (t : Bool) → is_limit word ≡ t → is_limit word ≡ false
    by_test false e = e
    by_test true e =
        let b = both (bytes_eq word (decimal (digits_value 10 word))) _ e in
        absurd (other (digits_value 10 word) (leb-true (digits_value 10 word) 1000000000 b.1) ((bytes_eq-Decides word (decimal (digits_value 10 word))).0 b.0))

from_cond : {R : Type 0} (b : Bool) (x r : R) → cond b (Some x) None ≡ Some r → (b ≡ true) × (x ≡ r)
from_cond true x r e = (refl, cc)
from_cond false x r e = absurd cc

-- a `build` names four different files
pub build_differs : (words : List (List ℕ)) (files : BuildFiles) → build_of words ≡ Some files → HaveDifferentNames files
build_differs [] files e = absurd cc
build_differs (a ∷ []) files e = absurd cc
build_differs (a ∷ b ∷ []) files e = absurd cc
build_differs (a ∷ b ∷ c ∷ []) files e = absurd cc
build_differs (a ∷ b ∷ c ∷ d ∷ []) files e = absurd cc
build_differs (word ∷ source ∷ hex ∷ map ∷ annotated ∷ []) files e =
    let f = from_cond (is_build word source hex map annotated) (record { source = source; hex = hex; map = map; annotated = annotated }) files e in
    let p₁ = both (bytes_eq word (codes "build")) _ f.0 in
    let p₂ = both (is_name source) _ p₁.1 in
    let p₃ = both (is_name hex) _ p₂.1 in
    let p₄ = both (is_name map) _ p₃.1 in
    let p₅ = both (is_name annotated) _ p₄.1 in
    subst HaveDifferentNames f.1 p₅.1
build_differs (a ∷ b ∷ c ∷ d ∷ e' ∷ f ∷ words) files e = absurd cc

-- the number of cycles of a `run` isn't too large
pub run_small : (words : List (List ℕ)) (r : RunRequest) → run_of words ≡ Some r → r.limit ≤ 1000000000
run_small [] r e = absurd cc
run_small (a ∷ []) r e = absurd cc
run_small (a ∷ b ∷ []) r e = absurd cc
run_small (a ∷ b ∷ c ∷ []) r e = absurd cc
run_small (a ∷ b ∷ c ∷ d ∷ []) r e = absurd cc
run_small (word ∷ hex ∷ map ∷ script ∷ limit ∷ []) r e =
    let f = from_cond (has_run_names word hex map script && is_limit limit) (record { hex = hex; map = map; script = script; limit = digits_value 10 limit }) r e in
    let is = both (has_run_names word hex map script) _ f.0 in
    let small = both (bytes_eq limit (decimal (digits_value 10 limit))) _ is.1 in
    let P : RunRequest → Type 0 = λ q. q.limit ≤ 1000000000 in
    subst P f.1 (leb-true (digits_value 10 limit) 1000000000 small.1)
run_small (a ∷ b ∷ c ∷ d ∷ e' ∷ f ∷ words) r e = absurd cc

-- words that differ are no equal texts
pub unequal : (xs ys : List ℕ) → true ≡ not (bytes_eq xs ys) → xs ≢ ys
unequal xs ys differ e = true≢false (differ ∙ ap not ((bytes_eq-Decides xs ys).1 e))
