-- What the answers of commands share: a text stands for one object or has one first bad line, one file is the first that is missing or too
-- long, and one case of a command's answer excludes the others.
use Rattle.std.proofs.Common.{◌≡◌, ℕ, ◌+◌, ◌<◌, List, [], ◌∷◌, take, Result, Ok, Err, IsTrue, refl, sym, ap, subst, ◌∙◌, arith, inl, inr, ◌⊎◌}
use Rattle.cerco_base.specs.Outside.IoStates.{FilesState}
use Rattle.object_hex.specs.declared.reading.faults.HexFault.{HexFault}
use Rattle.object_hex.specs.declared.reading.faults.MapFault.{MapFault}
use Rattle.object_hex.specs.declared.reading.faults.HexError.{HexError}
use Rattle.object_hex.specs.declared.reading.faults.HexError.TheVariants as Hex
use Rattle.object_hex.specs.declared.reading.faults.MapError.{MapError}
use Rattle.object_hex.specs.declared.reading.faults.MapError.TheVariants as Map
use Rattle.object_hex.specs.HexMeaning.{IsHexText, IsFirstFault}
use Rattle.object_hex.specs.Lines.{lines}
use Rattle.object_hex.specs.MapMeaning.{IsMapText, IsFirstBadLine}
use Rattle.object_hex.proofs.HexWalk.{answer_code, answer_fault}
use Rattle.object_hex.proofs.Maps.{map_answer_right, map_answer_fault}
use Rattle.cerco_command.specs.Answers.{NamedText}
use Rattle.cerco_command.specs.Inputs.{IsRead, IsFirstMissing, CannotRead, HasText, longest, NoneTooLong, IsFirstTooLong, SaysTooLong, SaysBadHex, SaysBadMap}
use Rattle.cerco_command.specs.Messages.{no_file, bad_file, bad_hex, bad_map}
use Rattle.cerco_command.specs.Once.{IsFirm}
use Rattle.cerco_command.specs.declared.status.Status.{Status}
use Rattle.cerco_command.specs.declared.status.Status.TheVariants.{NoFile, FileFault, BadInput, NoMemory}

-- a text gives one code, or has one first bad line
pub one_code : (text c d : List ℕ) → IsHexText text c → IsHexText text d → c ≡ d
one_code text c d p q = by ((answer_code text c p).accepts d q)
  where
    answer : List ℕ → Result (List ℕ) HexError
    answer l = Ok l

    by : (answer c ≡ Ok d) ⊎ (answer c ≡ Err Hex.OutOfMemory) → c ≡ d
    by (inl e) = cc
    by (inr e) = absurd cc

code_or_fault : (text c : List ℕ) (f : HexFault) → IsHexText text c → IsFirstFault text f → ⊥
code_or_fault text c f p q = by ((answer_code text c p).refuses f q)
  where
    answer : List ℕ → Result (List ℕ) HexError
    answer l = Ok l

    by : (answer c ≡ Err (Hex.Fault f)) ⊎ (answer c ≡ Err Hex.OutOfMemory) → ⊥
    by (inl e) = cc
    by (inr e) = cc

one_fault : (text : List ℕ) (f g : HexFault) → IsFirstFault text f → IsFirstFault text g → f ≡ g
one_fault text f g p q = by ((answer_fault text f p).refuses g q)
  where
    answer : HexFault → Result (List ℕ) HexError
    answer x = Err (Hex.Fault x)

    by : (answer f ≡ answer g) ⊎ (answer f ≡ Err Hex.OutOfMemory) → f ≡ g
    by (inl e) = cc
    by (inr e) = absurd cc

-- and so with the addresses of labels
pub one_map : (text c d : List ℕ) → IsMapText text c → IsMapText text d → c ≡ d
one_map text c d p q = by ((map_answer_right text c p).accepts d q)
  where
    answer : List ℕ → Result (List ℕ) MapError
    answer l = Ok l

    by : (answer c ≡ Ok d) ⊎ (answer c ≡ Err Map.OutOfMemory) → c ≡ d
    by (inl e) = cc
    by (inr e) = absurd cc

pub map_or_fault : (text c : List ℕ) (f : MapFault) → IsMapText text c → IsFirstBadLine text f → ⊥
map_or_fault text c f p q = by ((map_answer_right text c p).refuses f q)
  where
    answer : List ℕ → Result (List ℕ) MapError
    answer l = Ok l

    by : (answer c ≡ Err (Map.Fault f)) ⊎ (answer c ≡ Err Map.OutOfMemory) → ⊥
    by (inl e) = cc
    by (inr e) = cc

one_bad_line : (text : List ℕ) (f g : MapFault) → IsFirstBadLine text f → IsFirstBadLine text g → f ≡ g
one_bad_line text f g p q = by ((map_answer_fault text f p).refuses g q)
  where
    answer : MapFault → Result (List ℕ) MapError
    answer x = Err (Map.Fault x)

    by : (answer f ≡ answer g) ⊎ (answer f ≡ Err Map.OutOfMemory) → f ≡ g
    by (inl e) = cc
    by (inr e) = absurd cc

-- one file is the first that is missing
pub one_missing : (s : FilesState) (a b : List ℕ) (names : List (List ℕ)) → IsFirstMissing s a names → IsFirstMissing s b names → a ≡ b
one_missing s a b [] p q = absurd p
one_missing s a b (n ∷ names) (inl p) (inl q) = p.0 ∙ sym q.0
one_missing s a b (n ∷ names) (inl p) (inr q) = let none = p.1 in let there = q.0.1 in absurd cc
one_missing s a b (n ∷ names) (inr p) (inl q) = let there = p.0.1 in let none = q.1 in absurd cc
one_missing s a b (n ∷ names) (inr p) (inr q) = one_missing s a b names p.1 q.1

-- what is read of a file is one text
pub one_text : (limit : ℕ) (s : FilesState) (name x y : List ℕ) → IsRead limit s name x → IsRead limit s name y → x ≡ y
one_text limit s name x y p q =
    let here = p.1 in
    let here' = q.1 in
    let same : p.0 ≡ q.0 = cc in
    p.2 ∙ (ap (take limit) same ∙ sym q.2)

-- of files that couldn't be read, where no call failed, one isn't there
pub unread : (names : List (List ℕ)) (s t : FilesState) (a : Status) (x : List ℕ) → IsTrue s.known → IsFirm a → CannotRead names s t a x → (a ≡ NoFile) × ((name : List ℕ) × (x ≡ no_file name) × IsFirstMissing s name names)
unread names s t NoFile x known firm c = (refl, (c.0, c.1, c.3 known))
unread names s t FileFault x known firm c = absurd firm
unread names s t NoMemory x known firm c = absurd firm
unread names s t a x known firm c = absurd c

-- one text is the first that is too long
pub one_too_long : (a b : List ℕ) (files : List NamedText) → IsFirstTooLong a files → IsFirstTooLong b files → a ≡ b
one_too_long a b [] p q = absurd p
one_too_long a b (f ∷ files) (inl p) (inl q) = p.0 ∙ sym q.0
one_too_long a b (f ∷ files) (inl p) (inr q) = let long = p.1 in let short = q.0 in absurd (omega arith)
one_too_long a b (f ∷ files) (inr p) (inl q) = let short = p.0 in let long = q.1 in absurd (omega arith)
one_too_long a b (f ∷ files) (inr p) (inr q) = one_too_long a b files p.1 q.1

pub none_too_long : (a : List ℕ) (files : List NamedText) → NoneTooLong files → IsFirstTooLong a files → ⊥
none_too_long a [] p q = q
none_too_long a (f ∷ files) p (inl q) = let short = p.0 in let long = q.1 in omega arith
none_too_long a (f ∷ files) p (inr q) = none_too_long a files p.1 q.1

-- What a command means for texts that it read: some are too long, or the HEX is bad, or the MAP is, or the work is done. The
-- command says what it is to be done, and whether there is a MAP.
pub data Cases (files : List NamedText) (hex map : List ℕ) (Works : Status → List ℕ → Type 0) (a : Status) (x : List ℕ) : Type 0 where
  too_long : a ≡ BadInput → SaysTooLong files x → Cases files hex map Works a x
  bad_hex_line : a ≡ BadInput → NoneTooLong files → SaysBadHex hex x → Cases files hex map Works a x
  bad_map_line : a ≡ BadInput → NoneTooLong files → (code : List ℕ) → IsHexText hex code → SaysBadMap map x → Cases files hex map Works a x
  works : NoneTooLong files → (code : List ℕ) → IsHexText hex code → ((f : MapFault) → IsFirstBadLine map f → ⊥) → Works a x → Cases files hex map Works a x

pub one_case : (files : List NamedText) (hex map : List ℕ) (Works : Status → List ℕ → Type 0) (a b : Status) (x y : List ℕ) → (Works a x → Works b y → (a ≡ b) × (x ≡ y)) → Cases files hex map Works a x → Cases files hex map Works b y → (a ≡ b) × (x ≡ y)
one_case files hex map W a b x y once (too_long e p) (too_long f q) = (e ∙ sym f, p.2 ∙ (ap bad_file (one_too_long p.0 q.0 files p.1 q.1) ∙ sym q.2))
one_case files hex map W a b x y once (bad_hex_line e n p) (bad_hex_line f m q) = (e ∙ sym f, p.2 ∙ (ap bad_hex (one_fault hex p.0 q.0 p.1 q.1) ∙ sym q.2))
one_case files hex map W a b x y once (bad_map_line e n c h p) (bad_map_line f m d k q) = (e ∙ sym f, p.2 ∙ (ap bad_map (one_bad_line map p.0 q.0 p.1 q.1) ∙ sym q.2))
one_case files hex map W a b x y once (works n c h r p) (works m d k r' q) = once p q
one_case files hex map W a b x y once (too_long e p) (bad_hex_line f m q) = absurd (none_too_long p.0 files m p.1)
one_case files hex map W a b x y once (too_long e p) (bad_map_line f m d k q) = absurd (none_too_long p.0 files m p.1)
one_case files hex map W a b x y once (too_long e p) (works m d k r q) = absurd (none_too_long p.0 files m p.1)
one_case files hex map W a b x y once (bad_hex_line e n p) (too_long f q) = absurd (none_too_long q.0 files n q.1)
one_case files hex map W a b x y once (bad_map_line e n c h p) (too_long f q) = absurd (none_too_long q.0 files n q.1)
one_case files hex map W a b x y once (works n c h r p) (too_long f q) = absurd (none_too_long q.0 files n q.1)
one_case files hex map W a b x y once (bad_hex_line e n p) (bad_map_line f m d k q) = absurd (code_or_fault hex d p.0 k p.1)
one_case files hex map W a b x y once (bad_hex_line e n p) (works m d k r q) = absurd (code_or_fault hex d p.0 k p.1)
one_case files hex map W a b x y once (bad_map_line e n c h p) (bad_hex_line f m q) = absurd (code_or_fault hex c q.0 h q.1)
one_case files hex map W a b x y once (works n c h r p) (bad_hex_line f m q) = absurd (code_or_fault hex c q.0 h q.1)
one_case files hex map W a b x y once (bad_map_line e n c h p) (works m d k r q) = absurd (r p.0 p.1)
one_case files hex map W a b x y once (works n c h r p) (bad_map_line f m d k q) = absurd (r q.0 q.1)

-- a text without lines has no bad one
pub no_map : (f : MapFault) → IsFirstBadLine [] f → ⊥
unfolding lines
no_map f p = let within : p.place < 0 = p.within in omega arith

-- the name that is missing isn't that of a file that was read
read_there : (s : FilesState) (n name text : List ℕ) → IsFirstMissing s n (name ∷ []) → HasText s name text → ⊥
read_there s n name text (inl m) r = let none = m.1 in let there = r.1 in cc
read_there s n name text (inr m) r = m.1

-- a command that reads one file answers in one way, if it does for each text
pub one_read : (name : List ℕ) (M : List ℕ → Status → List ℕ → Type 0) (s t u : FilesState) (a b : Status) (x y : List ℕ) → IsTrue s.known → IsFirm a → IsFirm b
    → ((text : List ℕ) → M text a x → M text b y → (a ≡ b) × (x ≡ y))
    → CannotRead (name ∷ []) s t a x ⊎ ((text : List ℕ) × (IsTrue s.known → HasText s name text) × M text a x)
    → CannotRead (name ∷ []) s u b y ⊎ ((text : List ℕ) × (IsTrue s.known → HasText s name text) × M text b y) → (a ≡ b) × (x ≡ y)
one_read name M s t u a b x y known fa fb once (inl c) (inl d) =
    let m = unread (name ∷ []) s t a x known fa c in
    let n = unread (name ∷ []) s u b y known fb d in
    (m.0 ∙ sym n.0, m.1.1 ∙ (ap no_file (one_missing s m.1.0 n.1.0 (name ∷ []) m.1.2 n.1.2) ∙ sym n.1.1))
one_read name M s t u a b x y known fa fb once (inl c) (inr d) = let m = unread (name ∷ []) s t a x known fa c in absurd (read_there s m.1.0 name d.0 m.1.2 (d.1 known))
one_read name M s t u a b x y known fa fb once (inr c) (inl d) = let m = unread (name ∷ []) s u b y known fb d in absurd (read_there s m.1.0 name c.0 m.1.2 (c.1 known))
one_read name M s t u a b x y known fa fb once (inr c) (inr d) =
    let P : List ℕ → Type 0 = λ text. M text b y in
    once c.0 c.2 (subst P (one_text (longest + 1) s name d.0 c.0 (d.1 known) (c.1 known)) d.2)
