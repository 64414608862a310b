-- What files and an output are to those who call them: the bytes they hold, where these are known, and their faults so far.
-- (This project's own model of the streams and files of ISO/IEC 9899:1999, 7.19.2 and 7.19.3.)
use Rattle.std.specs.Prelude.{◌≡◌, ℕ, Bool, List, [], Option, Some, None, is_some, unwrap_or, bytes_eq, false, ◌&&◌, cond}

-- Files: whether their contents are known, the bytes under each name, how many faults there have been and the name of the last one.
pub record FilesState : Type 0 where
  pub known : Bool
  pub file : List ℕ → Option (List ℕ)
  pub faults : ℕ
  pub last_fault : List ℕ

-- An output: whether its bytes are known, its bytes so far, how many faults there have been and the name of the last one,
-- its own name, the reference that it holds (0 where it holds none), and the files beside it, where these are known.
pub record SinkState : Type 0 where
  pub known : Bool
  pub bytes : List ℕ
  pub faults : ℕ
  pub last_fault : List ℕ
  pub own_name : List ℕ
  pub reference : ℕ
  pub beside_known : Bool
  pub beside : List ℕ → Option (List ℕ)

-- the same names with the same bytes
abbrev pub SameFiles : FilesState → FilesState → Type 0
SameFiles s t = (q : List ℕ) → t.file q ≡ s.file q

-- this name now has these bytes, and every other name is as it was
pub record Puts (s t : FilesState) (name bytes : List ℕ) : Type 0 where
  pub here : t.file name ≡ Some bytes
  pub others : (q : List ℕ) → bytes_eq name q ≡ false → t.file q ≡ s.file q

-- the bytes under a name, none where it isn't there
abbrev pub bytes_at : FilesState → List ℕ → List ℕ
bytes_at s name = unwrap_or (s.file name) []

-- the output over the file with this name, through a reference; its bytes are known where the name is there
abbrev pub file_sink_state : FilesState → List ℕ → ℕ → SinkState
file_sink_state s name reference =
    record {
      known = s.known && is_some (s.file name);
      bytes = bytes_at s name;
      faults = s.faults;
      last_fault = s.last_fault;
      own_name = name;
      reference = reference;
      beside_known = s.known;
      beside = λ q. cond (bytes_eq name q) None (s.file q);
    }
