-- What the reader of a hex text answers.
use Rattle.std.specs.Prelude.{◌≡◌, ℕ, ◌≤◌, ◌⊎◌, List, length, Result, Ok, Err, IfOk}
use Rattle.object_hex.specs.declared.reading.faults.HexFault.{HexFault}
use Rattle.object_hex.specs.declared.reading.faults.HexError.{HexError}
use Rattle.object_hex.specs.declared.reading.faults.HexError.TheVariants.{Fault, OutOfMemory}
use Rattle.hex.specs.Hex.{IsBytes}
use Rattle.object_hex.specs.HexText.{hex_text}
use Rattle.object_hex.specs.HexMeaning.{IsHexText, IsFirstFault}

-- it answers the code exactly where the text is a hex text of it, and a fault exactly where that is its
-- first one; in place of either there may be no memory
pub record IsHexAnswer (text : List ℕ) (result : Result (List ℕ) HexError) : Type 0 where
  pub right : IfOk result (IsHexText text)
  pub fault : (first : HexFault) → result ≡ Err (Fault first) → IsFirstFault text first
  pub accepts : (code : List ℕ) → IsHexText text code → (result ≡ Ok code) ⊎ (result ≡ Err OutOfMemory)
  pub refuses : (first : HexFault) → IsFirstFault text first → (result ≡ Err (Fault first)) ⊎ (result ≡ Err OutOfMemory)

-- a code that was written is read back
abbrev pub ReadsBack : List ℕ → Result (List ℕ) HexError → Type 0
ReadsBack text result = (code : List ℕ) → length code ≤ 65536 → IsBytes code → text ≡ hex_text code → (result ≡ Ok code) ⊎ (result ≡ Err OutOfMemory)
