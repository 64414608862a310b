-- What the functions of a program share in each language between the source and the machine: external RAM as a map from addresses
-- to bytes, what is left of the port script, and the events so far. An address is a number below 65,536, and the one after the last
-- is the first (Intel, MCS-51 family: INC DPTR, MOVX). Numbers have their low byte first.
use Rattle.std.specs.Prelude.{ℕ, zero, suc, ◌+◌, ◌/◌, ◌%◌, List, [], ◌∷◌, ◌++◌, drop, nat_eq, if◌then◌else◌}
use Rattle.cerco_base.specs.declared.events.Port.TheVariants.{P1}
use Rattle.cerco_base.specs.declared.events.Event.{Event}
use Rattle.cerco_base.specs.declared.events.Event.TheVariants.{Read}
use Rattle.cerco_base.specs.Bytes.{bytes_value}
use Rattle.cerco_base.specs.Events.{next_reading}

pub record World : Type 0 where
  -- the byte at each address
  pub xram : ℕ → ℕ
  pub script : List ℕ
  -- the events so far, oldest first
  pub made : List Event

-- the map with another value at one place
unfoldable pub update : (ℕ → ℕ) → ℕ → ℕ → (ℕ → ℕ)
update map a value = λ b. if nat_eq b a then value else map b

-- ---- events

abbrev pub shown : Event → World → World
shown event w = record w { made = w.made ++ event ∷ [] }

-- the port is read: the script's next byte is taken, and the reading shown
abbrev pub after_reading : World → World
after_reading w = record w { script = drop 1 w.script; made = w.made ++ Read P1 (next_reading w.script) ∷ [] }

-- ---- external RAM

abbrev pub next_address : ℕ → ℕ
next_address a = (a + 1) % 65536

-- n addresses from this one on
abbrev pub addresses_from : ℕ → ℕ → List ℕ
addresses_from zero a = []
addresses_from (suc n) a = a ∷ addresses_from n (next_address a)

-- the n bytes of a map from an address on
abbrev pub bytes_at : ℕ → (ℕ → ℕ) → ℕ → List ℕ
bytes_at zero map a = []
bytes_at (suc n) map a = map a ∷ bytes_at n map (next_address a)

-- the number in n bytes
abbrev pub loaded : ℕ → World → ℕ → ℕ
loaded n w a = bytes_value (bytes_at n w.xram a)

-- n bytes of a map from an address on become those of a number
abbrev pub with_number : ℕ → (ℕ → ℕ) → ℕ → ℕ → (ℕ → ℕ)
with_number zero map a value = map
with_number (suc n) map a value = with_number n (update map a (value % 256)) (next_address a) (value / 256)

abbrev pub stored : ℕ → World → ℕ → ℕ → World
stored n w a value = record w { xram = with_number n w.xram a value }

-- ---- the start

-- external RAM after the start of a program, which writes these bytes at their addresses, one after the other: all else is 0
abbrev pub started_from : List (ℕ × ℕ) → (ℕ → ℕ) → (ℕ → ℕ)
started_from [] map = map
started_from (byte ∷ bytes) map = started_from bytes (update map byte.0 byte.1)

abbrev pub start_world : List (ℕ × ℕ) → List ℕ → World
start_world bytes script = record { xram = started_from bytes (λ a. 0); script = script; made = [] }
