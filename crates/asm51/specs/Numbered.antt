-- Items with their numbers.
use Rattle.std.specs.Prelude.{ℕ, List}
use Rattle.std.specs.List.{AllByRecursion, enumerate_from}
use Rattle.asm51.specs.declared.items.AsmItem.{AsmItem}

-- this holds of the number of each item and the item
abbrev pub OfEachItem : (ℕ → AsmItem → Type 0) → List AsmItem → Type 0
OfEachItem P items = AllByRecursion (λ p. P p.0 p.1) (enumerate_from 0 items)
