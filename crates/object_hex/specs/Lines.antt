-- The lines of a text. A line ends with LF or CR LF, the last one also with the text. A CR that isn't
-- directly before LF is a byte of its line.
use Rattle.std.specs.Prelude.{ℕ, Bool, false, ◌==◌, ◌&&◌, if◌then◌else◌, List, [], ◌∷◌}

-- whether a text begins with LF
abbrev pub begins_with_lf : List ℕ → Bool
begins_with_lf [] = false
begins_with_lf (byte ∷ rest) = byte == 10

-- a byte before the first of some lines; it is a line of its own where there is none
abbrev pub put_before : ℕ → List (List ℕ) → List (List ℕ)
put_before byte [] = (byte ∷ []) ∷ []
put_before byte (line ∷ more) = (byte ∷ line) ∷ more

-- the lines without their ends; behind the last LF there is no further line
unfoldable pub lines : List ℕ → List (List ℕ)
lines [] = []
lines (byte ∷ rest) =
    if byte == 10 then [] ∷ lines rest
    else if byte == 13 && begins_with_lf rest then lines rest
    else put_before byte (lines rest)
