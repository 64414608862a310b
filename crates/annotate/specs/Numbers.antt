-- The costs in an annotated text, and what the text says of the cost of a run. The reading is
-- defined for every text, and is the compiler's own.
use Rattle.std.specs.Prelude.{ℕ, ◌+◌, ◌==◌, if◌then◌else◌, List, [], ◌∷◌, ◌++◌, drop, Option, Some, None, option_to_list, unwrap_or, slice_get, sum_by, take_while, codes, nat_eq}
use Rattle.std.specs.Char.{is_ascii_digit}
use Rattle.std.specs.List.{flat_map, starts_with}
use Rattle.std.specs.Str.Parse.{digits_value}
use Rattle.cerco_base.specs.declared.events.Event.{Event}
use Rattle.cerco_base.specs.declared.events.Event.TheVariants.{Label, Read, Write}
use Rattle.annotate.specs.Erasure.{parts, odd_parts}

-- the number that some digits write in decimal; with a leading zero they write none
abbrev pub decimal_number : List ℕ → Option ℕ
decimal_number [] = None
decimal_number (digit ∷ []) = Some (digits_value 10 (digit ∷ []))
decimal_number (digit ∷ digits) = if digit == 48 then None else Some (digits_value 10 (digit ∷ digits))

-- the decimal number that a text begins with: all the digits that it begins with are the number's
abbrev pub leading_number : List ℕ → Option ℕ
leading_number text = decimal_number (take_while is_ascii_digit text)

-- the number behind the cost variable and `=` or `+=`, where a text begins so
abbrev pub leading_cost : List ℕ → Option ℕ
leading_cost text =
    if starts_with nat_eq text (codes "__cost=") then leading_number (drop 7 text)
    else if starts_with nat_eq text (codes "__cost+=") then leading_number (drop 8 text)
    else None

-- the numbers that stand directly behind `__cost=` or `__cost+=` in a part, in order
abbrev pub numbers_in : List ℕ → List ℕ
numbers_in [] = []
numbers_in (byte ∷ part) = option_to_list (leading_cost (byte ∷ part)) ++ numbers_in part

-- the numbers of an annotated text: those in its parts with odd number, in order
abbrev pub numbers : List ℕ → List ℕ
numbers text = flat_map numbers_in (odd_parts (parts text))

-- the number with a place in this order, counted from 0
abbrev pub number : List ℕ → ℕ → Option ℕ
number text i = slice_get (numbers text) i

-- the cost of the program's start, 0 where there is none
abbrev pub start_cost_in : List ℕ → ℕ
start_cost_in text = unwrap_or (number text 0) 0

-- the cost of a label, 0 where there is none
abbrev pub label_cost_in : List ℕ → ℕ → ℕ
label_cost_in text label = unwrap_or (number text (label + 1)) 0

-- what an event adds to the cost
abbrev pub event_cost : List ℕ → Event → ℕ
event_cost text (Label label) = label_cost_in text label.0
event_cost text (Read port byte) = 0
event_cost text (Write port byte) = 0

-- the cost of a run with these events: that of the start, and of each label each time it is passed
abbrev pub cost_at : List ℕ → List Event → ℕ
cost_at text events = start_cost_in text + sum_by (event_cost text) events
