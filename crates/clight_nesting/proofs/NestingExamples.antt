-- The fold over the nodes of short texts.
use Rattle.std.proofs.Common.{◌≡◌, ◌++◌, ℕ, ◌+◌, cond, List, [], ◌∷◌, refl}
use Rattle.std.specs.Prelude.{Option, Some, None, false, replicate}
use Rattle.clight_source.specs.declared.symbol.Radix.TheVariants.{Decimal}
use Rattle.clight_source.specs.declared.symbol.Symbol.{Symbol}
use Rattle.clight_source.specs.declared.symbol.Symbol.TheVariants as s
use Rattle.clight_source.specs.declared.symbol.Terminal.{Terminal}
use Rattle.clight_source.specs.Spelling.{terminal}
use Rattle.clight_nodes.specs.Code.Recogniser.{run, start, may_end}
use Rattle.clight_nesting.specs.Code.Levels.{measured}

-- symbols as terminals at the places 0, 1, 2 ..
abbrev from : ℕ → List Symbol → List Terminal
from i [] = []
from i (y ∷ l) = terminal y (record { from = i; to = 1 + i }) ∷ from (1 + i) l

abbrev x : Symbol
x = s.Name 7

abbrev one : Symbol
one = s.Number (record { value = 1; radix = Decimal; unsigned = false })

-- the place of the first node that is too deep, where the symbols are a program
abbrev noted_place : List Symbol → Option (Option ℕ)
noted_place l = let state = run start (from 0 l) in cond (may_end state.mode) (Some (measured state.nodes).deep) None

abbrev body : List Symbol → List Symbol
body l = s.Void ∷ x ∷ s.LeftParenthesis ∷ s.Void ∷ s.RightParenthesis ∷ s.LeftBrace ∷ (l ++ s.RightBrace ∷ [])

-- x = 1; with 1 in n parentheses, in a body
abbrev nested : ℕ → List Symbol
nested n = body (x ∷ s.Assign ∷ (replicate n s.LeftParenthesis ++ one ∷ (replicate n s.RightParenthesis ++ s.Semicolon ∷ [])))

shallow : noted_place (nested 64) ≡ Some None
shallow = refl

-- the innermost parenthesis has depth 1, so the two outermost of 66 are too deep; the first of them begins at 8
too_deep : noted_place (nested 66) ≡ Some (Some 8)
too_deep = refl

-- 65 blocks in a body, the first of which begins at 6
deep_blocks : noted_place (body (replicate 65 s.LeftBrace ++ replicate 65 s.RightBrace)) ≡ Some (Some 6)
deep_blocks = refl

-- a parameter with 65 stars, the first of which is at 4
many_stars : noted_place (s.Void ∷ x ∷ s.LeftParenthesis ∷ s.Int ∷ (replicate 65 s.Star ++ x ∷ s.RightParenthesis ∷ s.Semicolon ∷ [])) ≡ Some (Some 4)
many_stars = refl

-- the same stars before a local
many_local_stars : noted_place (body (s.Int ∷ (replicate 65 s.Star ++ x ∷ s.Semicolon ∷ []))) ≡ Some (Some 7)
many_local_stars = refl

abbrev lengths : List Symbol
lengths = s.LeftBracket ∷ one ∷ s.RightBracket ∷ s.LeftBracket ∷ one ∷ s.RightBracket ∷ []

-- 63 stars and two lengths of a global, whose first star is at 1
stars_and_lengths : noted_place (s.Int ∷ (replicate 63 s.Star ++ x ∷ (lengths ++ s.Semicolon ∷ []))) ≡ Some (Some 1)
stars_and_lengths = refl

-- one star less
few_stars : noted_place (s.Int ∷ (replicate 62 s.Star ++ x ∷ (lengths ++ s.Semicolon ∷ []))) ≡ Some None
few_stars = refl
