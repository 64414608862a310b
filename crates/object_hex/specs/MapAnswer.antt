-- What the reader of a text of label addresses answers.
use Rattle.std.specs.Prelude.{◌≡◌, ℕ, ◌<◌, ◌≤◌, ◌⊎◌, List, length, Result, Ok, Err, IfOk}
use Rattle.std.specs.List.{All}
use Rattle.object_hex.specs.declared.reading.faults.MapFault.{MapFault}
use Rattle.object_hex.specs.declared.reading.faults.MapError.{MapError}
use Rattle.object_hex.specs.declared.reading.faults.MapError.TheVariants.{Fault, OutOfMemory}
use Rattle.object_hex.specs.MapMeaning.{AreDistinct, IsMapText, IsFirstBadLine}
use Rattle.object_hex.specs.MapText.{map_text}

-- it answers addresses exactly where the text gives them, and a fault exactly where that is its first
-- one; in place of either there may be no memory
pub record IsMapAnswer (text : List ℕ) (result : Result (List ℕ) MapError) : Type 0 where
  pub right : IfOk result (IsMapText text)
  pub fault : (first : MapFault) → result ≡ Err (Fault first) → IsFirstBadLine text first
  pub accepts : (addresses : List ℕ) → IsMapText text addresses → (result ≡ Ok addresses) ⊎ (result ≡ Err OutOfMemory)
  pub refuses : (first : MapFault) → IsFirstBadLine text first → (result ≡ Err (Fault first)) ⊎ (result ≡ Err OutOfMemory)

-- addresses that were written are read back
abbrev pub ReadsBack : List ℕ → Result (List ℕ) MapError → Type 0
ReadsBack text result = (addresses : List ℕ) → length addresses ≤ 65536 → All (λ address. address < 65536) addresses → AreDistinct addresses
    → text ≡ map_text addresses → (result ≡ Ok addresses) ⊎ (result ≡ Err OutOfMemory)
