-- Which virtual registers of an ERTL graph may not have one place, and which allocations of places are proper and greedy (Appel,
-- Modern Compiler Implementation, chapter 11: interference graphs, colouring, spilling; CerCo, deliverable 4.2: ERTL to LTL). A
-- virtual register below 12 is the argument place of its number. An allocation is a function from numbers of virtual registers to
-- places, and its cells are counted from 0.
use Rattle.std.specs.Prelude.{◌≡◌, ◌≢◌, ℕ, ◌<◌, ◌≤◌, ◌⊎◌, ◌↔◌, List, ◌∷◌}
use Rattle.cerco_traces.specs.LabelledGraphs.{In}
use Rattle.rtl.specs.declared.locations.Place.{Place}
use Rattle.rtl.specs.declared.locations.Place.TheVariants.{Reg, Cell}
use Rattle.rtl.specs.Operations.{ByteOp}
use Rattle.rtl.specs.declared.graphs.Exit.TheVariants.{Call}
use Rattle.rtl.specs.Programs.{Graph}
use Rattle.rtl.specs.Locations.{argument_place}
use Rattle.rtl.specs.Effects.{Loc, writes}
use Rattle.rtl.specs.Graphs.{exit_at}
use Rattle.rtl.specs.Liveness.{IsAmong, IsPoint, Live, LiveAt}
use Rattle.rtl.specs.WellFormed.{locations_in}

-- v and w interfere: both are live at one point, or an operation after which one is live writes the other, or one operation writes
-- both.
pub data Interfere (g : Graph ℕ) (v w : ℕ) : Type 0 where
  both_live : (p : ℕ) (ops : List (ByteOp ℕ)) → IsPoint g p ops → Live 0 g (Loc v) p ops → Live 0 g (Loc w) p ops → Interfere g v w
  live_where_written : (p : ℕ) (op : ByteOp ℕ) (ops : List (ByteOp ℕ)) → IsPoint g p (op ∷ ops) → Live 0 g (Loc v) p ops → IsAmong (Loc w) (writes op) → Interfere g v w
  written_where_live : (p : ℕ) (op : ByteOp ℕ) (ops : List (ByteOp ℕ)) → IsPoint g p (op ∷ ops) → IsAmong (Loc v) (writes op) → Live 0 g (Loc w) p ops → Interfere g v w
  both_written : (p : ℕ) (op : ByteOp ℕ) (ops : List (ByteOp ℕ)) → IsPoint g p (op ∷ ops) → IsAmong (Loc v) (writes op) → IsAmong (Loc w) (writes op) → Interfere g v w

-- v is live directly after a call
abbrev pub IsLiveAcross : Graph ℕ → ℕ → Type 0
IsLiveAcross g v = (p f q : ℕ) × (exit_at g p ≡ Call f q) × LiveAt 0 g (Loc v) q

abbrev pub IsCell : Place → Type 0
IsCell (Cell n) = Unit {0}
IsCell _ = ⊥

-- one of R2 to R7
abbrev pub IsRegister : Place → Type 0
IsRegister (Reg n) = (2 ≤ n) × (n ≤ 7)
IsRegister _ = ⊥

-- A colouring is proper: virtual registers that interfere have different places, each argument place is its own, and what is live
-- directly after a call is in a cell.
pub record IsProperColouring (g : Graph ℕ) (place : ℕ → Place) : Type 0 where
  pub arguments : (v : ℕ) → v < 12 → place v ≡ argument_place v
  pub differ : (v w : ℕ) → v ≢ w → Interfere g v w → place v ≢ place w
  pub across : (v : ℕ) → 12 ≤ v → IsLiveAcross g v → IsCell (place v)

-- the registers that interfere with v are all of R2 to R7
abbrev pub HoldsAllRegisters : Graph ℕ → (ℕ → Place) → ℕ → Type 0
HoldsAllRegisters g place v = (r : ℕ) → 2 ≤ r → r ≤ 7 → (w : ℕ) × (v ≢ w) × Interfere g v w × (place w ≡ Reg r)

-- A colouring is greedy: it is proper, a virtual register is in a cell only where it has to be, and in the least one that is free of
-- those with smaller numbers. Only the virtual registers that the graph names count.
pub record IsGreedyColouring (g : Graph ℕ) (place : ℕ → Place) : Type 0 where
  pub arguments : (v : ℕ) → v < 12 → place v ≡ argument_place v
  pub differ : (v w : ℕ) → v ≢ w → Interfere g v w → place v ≢ place w
  pub kinds : (v : ℕ) → 12 ≤ v → In v (locations_in g) → IsRegister (place v) ⊎ IsCell (place v)
  pub cells : (v : ℕ) → 12 ≤ v → In v (locations_in g) → IsCell (place v) ↔ (IsLiveAcross g v ⊎ HoldsAllRegisters g place v)
  pub least : (v n m : ℕ) → 12 ≤ v → In v (locations_in g) → place v ≡ Cell n → m < n → (w : ℕ) × (w < v) × Interfere g v w × (place w ≡ Cell m)
