-- The lines that commands print of a run. (The compiler's own.) Each ends with a line feed, and numbers are decimal.
use Rattle.std.specs.Prelude.{ℕ, List, ◌++◌, codes, decimal}

-- a word of the program's own, and what it is about
abbrev pub line_about : List ℕ → List ℕ → List ℕ
line_about word about = word ++ (about ++ codes "\n")

-- a letter and two numbers
abbrev pub pair_line : List ℕ → ℕ → ℕ → List ℕ
pair_line letter first second = letter ++ (decimal first ++ (codes " " ++ (decimal second ++ codes "\n")))

-- a run has ended after some cycles, or was stopped
abbrev pub end_line : ℕ → List ℕ
end_line cycles = line_about (codes "end ") (decimal cycles)

abbrev pub stop_line : ℕ → List ℕ
stop_line cycles = line_about (codes "stop ") (decimal cycles)
