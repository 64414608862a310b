-- Which words of the command line are which command. (The compiler's own command line; POSIX, Utility Syntax Guidelines,
-- keeps words that begin with `-` for options, of which there are none.)
use Rattle.std.specs.Prelude.{ℕ, ◌≤◌, List, [], ◌∷◌, Bool, false, not, cond, ◌&&◌, Option, Some, None, option_map, codes, bytes_eq, string_bytes, nat_eq, nat_le, decimal, IsTrue}
use Rattle.std.specs.Option.{option_or}
use Rattle.std.specs.Str.Parse.{digits_value}
use Rattle.cerco_command.specs.declared.words.BuildNames.{BuildNames}
use Rattle.cerco_command.specs.declared.words.RunWords.{RunWords}
use Rattle.cerco_command.specs.declared.words.MeaningWords.{MeaningWords}
use Rattle.cerco_command.specs.declared.words.ObjectNames.{ObjectNames}
use Rattle.cerco_command.specs.declared.words.Command.{Command}

-- a word that can name a file: it isn't empty and doesn't begin with `-`
abbrev pub is_name : List ℕ → Bool
is_name [] = false
is_name (first ∷ others) = not (nat_eq first 45)

-- the files of `build`: the source, the object in Intel HEX, the addresses of the labels, and the annotated source
pub record BuildFiles : Type 0 where
  pub source : List ℕ
  pub hex : List ℕ
  pub map : List ℕ
  pub annotated : List ℕ

-- the files of `run`: the object in Intel HEX, the addresses of its labels, and the port script; and after how many machine cycles
-- it stops
pub record RunRequest : Type 0 where
  pub hex : List ℕ
  pub map : List ℕ
  pub script : List ℕ
  pub limit : ℕ

-- the files of an object: its code in Intel HEX, and the addresses of its labels
pub record ObjectFiles : Type 0 where
  pub hex : List ℕ
  pub map : List ℕ

-- the files of `meaning`: the source and the port script; and how many labels the run passes at most
pub record MeaningRequest : Type 0 where
  pub source : List ℕ
  pub script : List ℕ
  pub limit : ℕ

-- what a command line asks for
pub data Request : Type 0 where
  Builds : BuildFiles → Request
  Runs : RunRequest → Request
  Lists : List ℕ → Request
  GivesCosts : ObjectFiles → Request
  Erases : List ℕ → Request
  Tells : MeaningRequest → Request

-- five words
abbrev pub of_five : {R : Type 0} → (List ℕ → List ℕ → List ℕ → List ℕ → List ℕ → Option R) → List (List ℕ) → Option R
of_five read (a ∷ b ∷ c ∷ d ∷ e ∷ []) = read a b c d e
of_five read words = None

abbrev pub all_differ : List ℕ → List ℕ → List ℕ → List ℕ → Bool
all_differ a b c d = not (bytes_eq a b) && (not (bytes_eq a c) && (not (bytes_eq a d) && (not (bytes_eq b c) && (not (bytes_eq b d) && not (bytes_eq c d)))))

-- the four files have different names
abbrev pub HaveDifferentNames : BuildFiles → Type 0
HaveDifferentNames files = IsTrue (all_differ files.source files.hex files.map files.annotated)

-- `build` and four different names
abbrev pub is_build : List ℕ → List ℕ → List ℕ → List ℕ → List ℕ → Bool
is_build word source hex map annotated =
    bytes_eq word (codes "build") && (is_name source && (is_name hex && (is_name map && (is_name annotated && all_differ source hex map annotated))))

abbrev pub build_in : List ℕ → List ℕ → List ℕ → List ℕ → List ℕ → Option BuildFiles
build_in word source hex map annotated =
    cond (is_build word source hex map annotated) (Some (record { source = source; hex = hex; map = map; annotated = annotated })) None

abbrev pub build_of : List (List ℕ) → Option BuildFiles
build_of words = of_five build_in words

-- a number of cycles or of labels: decimal without leading zeros, at most 1,000,000,000
abbrev pub is_limit : List ℕ → Bool
is_limit word = bytes_eq word (decimal (digits_value 10 word)) && nat_le (digits_value 10 word) 1000000000

-- `run` and three names
abbrev pub has_run_names : List ℕ → List ℕ → List ℕ → List ℕ → Bool
has_run_names word hex map script = bytes_eq word (codes "run") && (is_name hex && (is_name map && is_name script))

abbrev pub run_in : List ℕ → List ℕ → List ℕ → List ℕ → List ℕ → Option RunRequest
run_in word hex map script limit =
    cond (has_run_names word hex map script && is_limit limit) (Some (record { hex = hex; map = map; script = script; limit = digits_value 10 limit })) None

abbrev pub run_of : List (List ℕ) → Option RunRequest
run_of words = of_five run_in words

-- `list` and a name
abbrev pub list_of : List (List ℕ) → Option (List ℕ)
list_of (word ∷ hex ∷ []) = cond (bytes_eq word (codes "list") && is_name hex) (Some hex) None
list_of words = None

-- `costs` and two names
abbrev pub costs_of : List (List ℕ) → Option ObjectFiles
costs_of (word ∷ hex ∷ map ∷ []) = cond (bytes_eq word (codes "costs") && (is_name hex && is_name map)) (Some (record { hex = hex; map = map })) None
costs_of words = None

-- `erase` and a name
abbrev pub erase_of : List (List ℕ) → Option (List ℕ)
erase_of (word ∷ text ∷ []) = cond (bytes_eq word (codes "erase") && is_name text) (Some text) None
erase_of words = None

-- four words
abbrev pub of_four : {R : Type 0} → (List ℕ → List ℕ → List ℕ → List ℕ → Option R) → List (List ℕ) → Option R
of_four read (a ∷ b ∷ c ∷ d ∷ []) = read a b c d
of_four read words = None

-- `meaning` and two names
abbrev pub has_meaning_names : List ℕ → List ℕ → List ℕ → Bool
has_meaning_names word source script = bytes_eq word (codes "meaning") && (is_name source && is_name script)

abbrev pub meaning_in : List ℕ → List ℕ → List ℕ → List ℕ → Option MeaningRequest
meaning_in word source script limit =
    cond (has_meaning_names word source script && is_limit limit) (Some (record { source = source; script = script; limit = digits_value 10 limit })) None

abbrev pub meaning_of : List (List ℕ) → Option MeaningRequest
meaning_of words = of_four meaning_in words

-- the request that the words are, none where they are no command
abbrev pub request_of : List (List ℕ) → Option Request
request_of words =
    option_or (option_map Builds (build_of words))
    (option_or (option_map Runs (run_of words))
    (option_or (option_map Lists (list_of words))
    (option_or (option_map GivesCosts (costs_of words))
    (option_or (option_map Erases (erase_of words))
    (option_map Tells (meaning_of words))))))

-- what holds of every request that words are: the names of different files differ, and a number of cycles isn't too large
abbrev pub IsWellFormed : Request → Type 0
IsWellFormed (Builds files) = HaveDifferentNames files
IsWellFormed (Runs files) = files.limit ≤ 1000000000
IsWellFormed request = Unit {0}

-- the same names as texts
abbrev pub files_of : BuildNames → BuildFiles
files_of names = record { source = string_bytes names.source; hex = string_bytes names.hex; map = string_bytes names.map; annotated = string_bytes names.annotated }

abbrev pub run_of_words : RunWords → RunRequest
run_of_words words = record { hex = string_bytes words.hex; map = string_bytes words.map; script = string_bytes words.script; limit = words.limit }

abbrev pub meaning_of_words : MeaningWords → MeaningRequest
meaning_of_words words = record { source = string_bytes words.source; script = string_bytes words.script; limit = words.limit }

abbrev pub object_files_of : ObjectNames → ObjectFiles
object_files_of names = record { hex = string_bytes names.hex; map = string_bytes names.map }

-- the request that a command is
abbrev pub request_in : Command → Request
request_in (Command.Build names) = Builds (files_of names)
request_in (Command.Run words) = Runs (run_of_words words)
request_in (Command.List hex) = Lists (string_bytes hex)
request_in (Command.Costs names) = GivesCosts (object_files_of names)
request_in (Command.Erase text) = Erases (string_bytes text)
request_in (Command.Meaning words) = Tells (meaning_of_words words)
