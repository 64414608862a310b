-- Where a call of byte operations holds its values: each byte of a variable and of a temporary has a virtual register of the call's
-- own, and so has one byte that is worked with (CerCo, deliverable 4.2: the pseudo-registers of RTL). Arguments and results are
-- handed over in the twelve from 12 on. A value has its low byte first.
use Rattle.std.specs.Prelude.{ℕ, ◌+◌, ◌*◌, List, [], ◌∷◌}
use Rattle.rtl.specs.declared.locations.Vreg.{Vreg}

-- the virtual register with a number
abbrev pub vreg : ℕ → Vreg
vreg n = record { 0 = n }

-- over locations with these numbers
module _ {L : Type 0} (at : ℕ → L) where
  abbrev pub word_from : ℕ → List L
  word_from first = at first ∷ at (first + 1) ∷ []

  -- no value is held here
  abbrev pub scratch : L
  scratch = at 24

  abbrev pub variable : ℕ → List L
  variable x = word_from (25 + 4 * x)

  abbrev pub temporary : ℕ → List L
  temporary t = word_from (27 + 4 * t)

  -- where an argument is handed over, by its first argument byte; a result is handed over as one from 0 on
  abbrev pub argument : ℕ → List L
  argument first_byte = word_from (12 + first_byte)
