-- How many bytes of registers and cells a program needs at most: the largest sum of what its functions need along a call path (own).
use Rattle.std.specs.Prelude.{ℕ, ◌≤◌, List, map, length}
use Rattle.call_graph.specs.CallPaths.{CallsIn, IsLargestSum}
use Rattle.cerco_middle.specs.Cminor.Trees.{Cminor}
use Rattle.cerco_middle.specs.Cminor.Sums.{register_need}

-- what each function needs
abbrev pub needs : Cminor → List ℕ
needs source = map (register_need source.functions) source.functions

abbrev pub IsLargestNeed : Cminor → ℕ → Type 0
IsLargestNeed source most = IsLargestSum (length source.functions) (CallsIn source.calls) (needs source) most

-- no more than that
abbrev pub IsWithinNeed : Cminor → ℕ → Type 0
IsWithinNeed source n = (most : ℕ) → IsLargestNeed source most → n ≤ most
