-- Which words are a command line. (The compiler's own command line; POSIX, Utility Syntax Guidelines, keeps words that begin with
-- `-` for options, of which there are none.)
use Rattle.std.specs.Prelude.{ℕ, List, [], ◌∷◌, map, length, Bool, false, not, cond, ◌&&◌, Option, Some, None, option_map, codes, bytes_eq, nat_eq, find}
use Rattle.std.specs.List.{list_all}
use Rattle.std.specs.Option.{option_map_or}
use Rattle.command_words.specs.declared.CommandLine.{CommandLine}

-- a word that can be an operand, as a file's name: it isn't empty and doesn't begin with `-`
abbrev pub is_operand : List ℕ → Bool
is_operand [] = false
is_operand (first ∷ others) = not (nat_eq first 45)

abbrev pub are_operands : List (List ℕ) → Bool
are_operands words = list_all is_operand words

-- the commands, each with the number of its operands
abbrev pub forms : List (List ℕ × ℕ)
forms =
    (codes "build", 4)
    ∷ (codes "run", 4)
    ∷ (codes "meaning", 3)
    ∷ (codes "costs", 2)
    ∷ (codes "erase", 1)
    ∷ (codes "list", 1)
    ∷ []

-- how many operands the command of this name has, none where no command has it
abbrev pub operand_count : List ℕ → Option ℕ
operand_count name = option_map (λ form. form.1) (find (λ form. bytes_eq form.0 name) forms)

abbrev pub has_operands : List ℕ → List (List ℕ) → Bool
has_operands name operands = option_map_or (λ count. nat_eq count (length operands)) (operand_count name) false

-- the name of the command and its operands that the words are, none where they are no command line
abbrev pub line_of : List (List ℕ) → Option (List ℕ × List (List ℕ))
line_of [] = None
line_of (name ∷ operands) = cond (are_operands (name ∷ operands) && has_operands name operands) (Some (name, operands)) None

-- the same as texts
abbrev pub line_in : CommandLine → List ℕ × List (List ℕ)
line_in line = (line.name.now, map (λ operand. operand.now) line.operands.items)
