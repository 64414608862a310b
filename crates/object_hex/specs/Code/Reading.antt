-- What the reader of a hex text holds behind some lines.
use Rattle.std.specs.Prelude.{◌≡◌, ℕ, ◌<◌, Bool, List, slice_index_or, Option, None}
use Rattle.object_hex.specs.HexMeaning.{given, has_end, highest_end}

-- a place for each address holds the byte that is given there
abbrev pub Holds : List (Option ℕ) → (ℕ → Option ℕ) → Type 0
Holds places before = (address : ℕ) → address < 65536 → slice_index_or places address None ≡ before address

pub record IsReadUpTo (ls : List (List ℕ)) (places : List (Option ℕ)) (reach : ℕ) (ended : Bool) : Type 0 where
  pub holds : Holds places (given ls)
  pub reaches : reach ≡ highest_end ls
  pub ends : ended ≡ has_end ls
