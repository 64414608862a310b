-- Marks of virtual registers by number.
use Rattle.std.specs.Prelude.{ℕ, List, Bool, false, slice_index_or}

-- the mark of a virtual register; none past the end
abbrev pub is_marked : List Bool → ℕ → Bool
is_marked marks v = slice_index_or marks v false
