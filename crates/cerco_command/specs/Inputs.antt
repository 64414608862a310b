-- The files that a command reads, whole and in the order of the words, and the texts of an object in them. (The compiler's own.)
use Rattle.std.specs.Prelude.{◌≡◌, ℕ, ◌+◌, ◌<◌, ◌≤◌, ◌⊎◌, List, [], ◌∷◌, length, take, Some, None, IsTrue}
use Rattle.cerco_base.specs.Outside.IoFaults.{Rose}
use Rattle.cerco_base.specs.Outside.IoStates.{FilesState}
use Rattle.object_hex.specs.declared.reading.faults.HexFault.{HexFault}
use Rattle.object_hex.specs.declared.reading.faults.MapFault.{MapFault}
use Rattle.object_hex.specs.HexMeaning.{IsHexText, IsFirstFault}
use Rattle.object_hex.specs.MapMeaning.{IsMapText, IsFirstBadLine}
use Rattle.cerco_command.specs.Answers.{NamedText}
use Rattle.cerco_command.specs.Messages.{no_file, file_fault, bad_file, bad_hex, bad_map}
use Rattle.cerco_command.specs.declared.status.Status.{Status}
use Rattle.cerco_command.specs.declared.status.Status.TheVariants.{NoFile, FileFault, BadInput, NoMemory}

-- the bytes under a name, or the first ones where there are more than the limit
abbrev pub IsRead : ℕ → FilesState → List ℕ → List ℕ → Type 0
IsRead limit s name text = (all : List ℕ) × (s.file name ≡ Some all) × (text ≡ take limit all)

-- one of these names
abbrev pub IsOneOf : List ℕ → List (List ℕ) → Type 0
IsOneOf name [] = ⊥
IsOneOf name (first ∷ names) = (name ≡ first) ⊎ IsOneOf name names

-- the first of these names under which there is no file
abbrev pub IsFirstMissing : FilesState → List ℕ → List (List ℕ) → Type 0
IsFirstMissing s name [] = ⊥
IsFirstMissing s name (first ∷ names) =
    ((name ≡ first) × (s.file first ≡ None)) ⊎ (((bytes : List ℕ) × (s.file first ≡ Some bytes)) × IsFirstMissing s name names)

-- The files with these names couldn't be read: one isn't there, or a call at one failed, or there was no memory.
abbrev pub CannotRead : List (List ℕ) → FilesState → FilesState → Status → List ℕ → Type 0
CannotRead names s t NoFile line = (name : List ℕ) × (line ≡ no_file name) × IsOneOf name names × (IsTrue s.known → IsFirstMissing s name names)
CannotRead names s t FileFault line = (line ≡ file_fault t.last_fault) × Rose s.faults t.faults × IsOneOf t.last_fault names
CannotRead names s t NoMemory line = line ≡ []
CannotRead names s t status line = ⊥

-- how many bytes a file has at most that isn't a source
abbrev pub longest : ℕ
longest = 16777216

-- such a file has this text, of which no more is read than shows that it is too long
abbrev pub HasText : FilesState → List ℕ → List ℕ → Type 0
HasText s name text = IsRead (longest + 1) s name text

-- none of these texts is too long
abbrev pub NoneTooLong : List NamedText → Type 0
NoneTooLong [] = Unit {0}
NoneTooLong (file ∷ files) = (length file.1 ≤ longest) × NoneTooLong files

-- the name of the first of these texts that is too long
abbrev pub IsFirstTooLong : List ℕ → List NamedText → Type 0
IsFirstTooLong name [] = ⊥
IsFirstTooLong name (file ∷ files) = ((name ≡ file.0) × (longest < length file.1)) ⊎ ((length file.1 ≤ longest) × IsFirstTooLong name files)

abbrev pub SaysTooLong : List NamedText → List ℕ → Type 0
SaysTooLong files line = (name : List ℕ) × IsFirstTooLong name files × (line ≡ bad_file name)

-- the line names the first bad line of a text that is no hex text
abbrev pub SaysBadHex : List ℕ → List ℕ → Type 0
SaysBadHex text line = (fault : HexFault) × IsFirstFault text fault × (line ≡ bad_hex fault)

-- the line names the first bad line of a text that is no text of label addresses
abbrev pub SaysBadMap : List ℕ → List ℕ → Type 0
SaysBadMap text line = (fault : MapFault) × IsFirstBadLine text fault × (line ≡ bad_map fault)

-- what stands in the way of a text's code, or of its addresses
abbrev pub HasNoCode : List ℕ → Status → List ℕ → Type 0
HasNoCode text BadInput line = SaysBadHex text line
HasNoCode text NoMemory line = line ≡ []
HasNoCode text status line = ⊥

abbrev pub HasNoLabels : List ℕ → Status → List ℕ → Type 0
HasNoLabels text BadInput line = SaysBadMap text line
HasNoLabels text NoMemory line = line ≡ []
HasNoLabels text status line = ⊥

-- the texts of an object stand for none: the HEX is bad, else the MAP is
abbrev pub SaysBadObject : List ℕ → List ℕ → List ℕ → Type 0
SaysBadObject hex map line = SaysBadHex hex line ⊎ (((code : List ℕ) × IsHexText hex code) × SaysBadMap map line)

-- what stands in the way of the object of two texts
abbrev pub HasNoObject : List ℕ → List ℕ → Status → List ℕ → Type 0
HasNoObject hex map BadInput line = SaysBadObject hex map line
HasNoObject hex map NoMemory line = line ≡ []
HasNoObject hex map status line = ⊥

-- two texts that stand for the code and the labels of an object
pub record AreObject (hex map code labels : List ℕ) : Type 0 where
  pub is_code : IsHexText hex code
  pub are_labels : IsMapText map labels
