-- What the layout of a program answers: the program with its layout and the order of its calls, or the first reason against it, but
-- where there is no memory.
use Rattle.std.specs.Prelude.{◌≡◌, ℕ, ◌<◌, ◌≤◌, length, slice_index, Result, Ok, Err}
use Rattle.cerco_base.specs.declared.reasons.Fault.{Fault}
use Rattle.cerco_base.specs.declared.reasons.Fault.TheVariants.{Refused, OutOfMemory}
use Rattle.clight_syntax.specs.TypedTrees.{TypedProgram}
use Rattle.clight_layout.specs.declared.layout.Measured.{Measured}
use Rattle.clight_layout.specs.Layout.{IsTotal, IsStart, greatest_data}
use Rattle.clight_layout.specs.Reasons.{IsReason}

abbrev pub IsRefusal : {L : Type 0} → TypedProgram L → Fault → Type 0
IsRefusal p OutOfMemory = Unit {0}
IsRefusal p (Refused reason) = IsReason p reason

-- the answer is such a value, or the first reason against a layout
abbrev pub Answers : {A L : Type 0} → TypedProgram L → (A → Type 0) → Result A Fault → Type 0
Answers p P (Ok x) = P x
Answers p P (Err fault) = IsRefusal p fault

-- where the frames begin, and how many bytes there are in all
pub record IsMeasured {L : Type 0} (p : TypedProgram L) (measured : Measured) : Type 0 where
  pub count : length measured.starts.items ≡ length p.functions
  pub starts : (f : ℕ) → f < length p.functions → IsStart p f (slice_index measured.starts.items f)
  pub total : IsTotal p measured.total
  pub fits : measured.total ≤ greatest_data
