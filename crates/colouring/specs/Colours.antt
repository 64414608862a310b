-- Colours of virtual registers (Appel, Modern Compiler Implementation, chapter 11: colouring an interference graph). The first twelve
-- colours are the argument places, R2 to R7 first, and those from 12 on are the cells.
use Rattle.std.specs.Prelude.{◌≡◌, ℕ, suc, ◌-◌, ◌<◌, List, nat_lt, if◌then◌else◌, slice_index_or}
use Rattle.cerco_traces.specs.LabelledGraphs.{In}
use Rattle.rtl.specs.declared.locations.Place.{Place}
use Rattle.rtl.specs.declared.locations.Place.TheVariants.{Cell}
use Rattle.rtl.specs.Locations.{argument_place}

-- the place that a colour is, its cells counted from 0
abbrev pub place_of_colour : ℕ → Place
place_of_colour c = if nat_lt c 12 then argument_place c else Cell (c - 12)

-- the colour of a virtual register by number
abbrev pub colour_at : List ℕ → ℕ → ℕ
colour_at colours v = slice_index_or colours v 0

-- the place of a virtual register
abbrev pub place_by : List ℕ → ℕ → Place
place_by colours v = place_of_colour (colour_at colours v)

-- The cells are as many as the greatest one needs that one of these virtual registers has.
pub record CellsAreCounted (names colours : List ℕ) (cells : ℕ) : Type 0 where
  pub below : (v n : ℕ) → In v names → place_by colours v ≡ Cell n → n < cells
  pub last : (n : ℕ) → cells ≡ suc n → (v : ℕ) × In v names × (place_by colours v ≡ Cell n)
