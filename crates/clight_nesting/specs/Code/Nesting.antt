-- What the answer is: nothing where no node is too deep, else the least start of a node that is.
use Rattle.std.specs.Prelude.{ℕ, List, Option, Some, None}
use Rattle.clight_source.specs.Trees.{Item}
use Rattle.clight_source.specs.Depth.{IsShallow, IsFirstDeep}

abbrev pub IsNesting : List Item → Option ℕ → Type 0
IsNesting items None = IsShallow items
IsNesting items (Some at) = IsFirstDeep items at
