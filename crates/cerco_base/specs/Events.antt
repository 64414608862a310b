-- What a run of a program shows to the outside, as in the labelling approach of CerCo (deliverable 2.1): the trace of a run
-- is the list of its events, oldest first. An event is a cost label that is passed, or a byte read from or written to a port.
use Rattle.std.specs.Prelude.{◌≡◌, ℕ, ◌+◌, ◌<◌, ◌^◌, List, [], ◌∷◌, ◌++◌, All}
use Rattle.cerco_base.specs.declared.events.Event.{Event}
use Rattle.cerco_base.specs.declared.events.Event.TheVariants.{Label, Read, Write}

-- the event of passing label n
abbrev pub label : ℕ → Event
label n = Label (record { 0 = n })

-- how many labels these events pass
abbrev pub label_count : List Event → ℕ
label_count [] = 0
label_count (Label l ∷ es) = 1 + label_count es
label_count (Read port byte ∷ es) = label_count es
label_count (Write port byte ∷ es) = label_count es

-- fs begins with es
pub record IsPrefix (es fs : List Event) : Type 0 where
  pub rest : List Event
  pub whole : fs ≡ es ++ rest

-- How a run stops: it stands before a label, or it has ended.
pub data Stop : Type 0 where
  Stopped : Stop
  Ended : Stop

-- A port script, the input that port readings take in turn, is a list of bytes.
abbrev pub IsScript : List ℕ → Type 0
IsScript = All (λ byte. byte < 2 ^ 8)

-- what the next reading of a port shows: the next byte of the script, and FFH past its end (own)
abbrev pub next_reading : List ℕ → ℕ
next_reading [] = 255
next_reading (byte ∷ bytes) = byte
