-- The text of the addresses of an object's labels. The format is the compiler's own.
use Rattle.std.specs.Prelude.{ℕ, List, ◌++◌, codes, decimal}
use Rattle.std.specs.List.{enumerate_from, flat_map}
use Rattle.object_hex.specs.Digits.{address_bytes, pairs}

-- the line of a label: its number in decimal, a blank, its address in four hex digits, and LF
abbrev pub label_line : ℕ → ℕ → List ℕ
label_line label address = decimal label ++ (codes " " ++ (pairs (address_bytes address) ++ codes "\n"))

-- the text of the labels: a line for each, by number, counted from 0
abbrev pub map_text : List ℕ → List ℕ
map_text addresses = flat_map (λ entry. label_line entry.0 entry.1) (enumerate_from 0 addresses)
