-- Where a list of terminals first fails to be a program. (The correct-prefix property of a parser: Aho, Lam, Sethi and Ullman,
-- Compilers, 4.1.3.)
use Rattle.std.specs.Prelude.{◌≤◌, ◌<◌, ℕ, suc, List, length, take}
use Rattle.clight_source.specs.declared.symbol.Terminal.{Terminal}
use Rattle.clight_source.specs.Trees.{Item}
use Rattle.clight_source.specs.Spelling.{Spells, Begins}

-- The terminals are no program. Those before the one at i begin some program, and with it they begin none; or there is none at
-- i, and all of them begin some program.
pub record FaultAt (l : List Terminal) (i : ℕ) : Type 0 where
  pub inside : i ≤ length l
  pub within : i < length l → (Begins (take (suc i) l) → ⊥)
  pub before : Begins (take i l)
  pub none : (items : List Item) → Spells items l → ⊥
