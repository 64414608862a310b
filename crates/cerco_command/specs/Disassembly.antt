-- What `list` prints: the instructions of a code from address 0 to its end. (Intel, MCS-51 instruction set; the lines are this
-- project's own.)
use Rattle.std.specs.Prelude.{◌≡◌, ℕ, ◌+◌, ◌<◌, ◌≤◌, ◌⊎◌, List, [], ◌∷◌, ◌++◌, length, slice_index, Option, Some, None, IsTrue}
use Rattle.cerco_base.specs.Outside.IoStates.{FilesState, SameFiles}
use Rattle.mcs51_isa.specs.declared.instr.Instr.{Instr}
use Rattle.mcs51_isa.specs.Table.{encode_of}
use Rattle.mcs51_isa.specs.Decoding.{decode_of}
use Rattle.mcs51_isa.specs.Listing.{line_of}
use Rattle.object_hex.specs.HexMeaning.{IsHexText}
use Rattle.cerco_command.specs.Messages.{reserved_line}
use Rattle.cerco_command.specs.Inputs.{CannotRead, HasText, longest, SaysTooLong, SaysBadHex}
use Rattle.cerco_command.specs.declared.status.Status.{Status}
use Rattle.cerco_command.specs.declared.status.Status.TheVariants as Is

-- the instruction at an address, none where the reserved opcode stands there; bytes past the code's end are 0
unfoldable pub listed_at : List ℕ → ℕ → Option Instr
listed_at code a = decode_of (slice_index code a) (slice_index code (a + 1)) (slice_index code (a + 2))

-- where instructions end that stand one after the other from an address on
abbrev pub end_of : ℕ → List Instr → ℕ
end_of a [] = a
end_of a (i ∷ more) = end_of (a + length (encode_of i)) more

-- these instructions stand one after the other from an address on, each beginning before the code's end
abbrev pub StandFrom : List ℕ → ℕ → List Instr → Type 0
StandFrom code a [] = Unit {0}
StandFrom code a (i ∷ more) = (a < length code) × (listed_at code a ≡ Some i) × StandFrom code (a + length (encode_of i)) more

-- their lines
abbrev pub lines_from : ℕ → List Instr → List ℕ
lines_from a [] = []
lines_from a (i ∷ more) = line_of a i ++ lines_from (a + length (encode_of i)) more

-- how the listing ends at an address, and the last line: the code ends there, or the reserved opcode stands there before it ends
abbrev pub Ends : List ℕ → ℕ → Status → List ℕ → Type 0
Ends code a Is.Done last = (length code ≤ a) × (last ≡ [])
Ends code a Is.Reserved last = (a < length code) × (listed_at code a ≡ None) × (last ≡ reserved_line a)
Ends code a status last = ⊥

-- the listing of a code
pub record ListsTo (code : List ℕ) (status : Status) (text : List ℕ) : Type 0 where
  pub instructions : List Instr
  pub stand : StandFrom code 0 instructions
  pub last : List ℕ
  pub ends : Ends code (end_of 0 instructions) status last
  pub printed : text ≡ lines_from 0 instructions ++ last

-- the text stands for a code, whose listing is printed
pub record PrintsListing (hex : List ℕ) (status : Status) (text : List ℕ) : Type 0 where
  pub code : List ℕ
  pub is_code : IsHexText hex code
  pub lists : ListsTo code status text

-- what each status means for this text under this name
abbrev pub ListMeansFor : List ℕ → List ℕ → Status → List ℕ → Type 0
ListMeansFor name hex Is.Done line = (length hex ≤ longest) × PrintsListing hex Is.Done line
ListMeansFor name hex Is.Reserved line = (length hex ≤ longest) × PrintsListing hex Is.Reserved line
ListMeansFor name hex Is.BadInput line = SaysTooLong ((name, hex) ∷ []) line ⊎ ((length hex ≤ longest) × SaysBadHex hex line)
ListMeansFor name hex Is.NoMemory line = line ≡ []
ListMeansFor name hex status line = ⊥

-- What each status of `list` means, and what is put with it. It changes no file.
pub record ListMeans (name : List ℕ) (s t : FilesState) (status : Status) (line : List ℕ) : Type 0 where
  pub same : IsTrue s.known → SameFiles s t
  pub means : CannotRead (name ∷ []) s t status line
      ⊎ ((hex : List ℕ) × (IsTrue s.known → HasText s name hex) × ListMeansFor name hex status line)
