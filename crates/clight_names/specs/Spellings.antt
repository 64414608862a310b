-- The number of a name with a spelling, among the names of a source in the order of their first appearance.
use Rattle.std.specs.Prelude.{ℕ, suc, List, [], ◌∷◌, codes, if◌then◌else◌}
use Rattle.std.specs.Str.{bytes_eq}

-- the number of the first name that is spelled so, and how many names there are where none is
abbrev pub spelling_number : List (List ℕ) → List ℕ → ℕ
spelling_number [] spelling = 0
spelling_number (x ∷ rest) spelling = if bytes_eq x spelling then 0 else suc (spelling_number rest spelling)

abbrev pub main_name : List (List ℕ) → ℕ
main_name names = spelling_number names (codes "main")
