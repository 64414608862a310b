-- Laws of the assembly language (own): what well formed items give, what relaxation comes to, and that straight-line code runs through.
use Rattle.std.specs.Prelude.{◌≡◌, ℕ, ◌+◌, ◌≤◌, List, length, map, slice_get, Option, Some, is_some, true}
use Rattle.cerco_traces.specs.Systems.{EachWithin, Run}
use Rattle.mcs51_isa.specs.declared.instr.Instr.{Instr}
use Rattle.sim51.specs.Straight.{AreStraight}
use Rattle.asm51.specs.declared.items.AsmItem.{AsmItem}
use Rattle.asm51.specs.declared.layouts.Form.{Form}
use Rattle.asm51.specs.Items.{target_of, is_jump}
use Rattle.asm51.specs.Layouts.{address, code_length, all_in, long_length}
use Rattle.asm51.specs.Relaxation.{reaches, round, IsRelaxed}
use Rattle.asm51.specs.Meaning.{AsmState, counted, assembly}
use Rattle.asm51.specs.StraightCode.{StandAt, touched_by, passed}
use Rattle.asm51.specs.WellFormed.{IsWellFormed}
use Rattle.asm51.specs.Places.{HasTargets, HasLabels}

abbrev pub TargetsAreFound : Type 0
TargetsAreFound = (items : List AsmItem) → IsWellFormed items → HasTargets items

abbrev pub LabelsAreMarked : Type 0
LabelsAreMarked = (items : List AsmItem) (forms : List (Option Form)) → IsWellFormed items → HasLabels items forms

abbrev pub OneIsRelaxed : Type 0
OneIsRelaxed =
    (items : List AsmItem) → (forms : List (Option Form)) × IsRelaxed items forms × ((others : List (Option Form)) → IsRelaxed items others → others ≡ forms)

-- the form of a jump reaches from the instruction after it, which stands two bytes on in the shorter forms
abbrev pub RelaxedReaches : Type 0
RelaxedReaches =
    (items : List AsmItem) (forms : List (Option Form)) → IsRelaxed items forms → (k : ℕ) (item : AsmItem) (form : Form)
    → slice_get items k ≡ Some item → slice_get forms k ≡ Some (Some form)
    → reaches (address items forms k + 2) (address items forms (target_of items item)) item form ≡ true

-- the items that have a form in the relaxed layout are the jumps and the tests
abbrev pub FormsAreOfJumps : Type 0
FormsAreOfJumps = (items : List AsmItem) (forms : List (Option Form)) → IsRelaxed items forms → map is_some forms ≡ map is_jump items

abbrev pub LongIsLongest : Type 0
LongIsLongest = (items : List AsmItem) (forms : List (Option Form)) → code_length items forms ≤ long_length items

abbrev pub LongStays : Type 0
LongStays = (items : List AsmItem) → round items (all_in Form.Long items) ≡ all_in Form.Long items

-- From a place on at which it stands, straight-line code runs to its end, if the bytes that it touches are within the bounds. No call
-- is opened or closed.
abbrev pub StraightCodeRuns : Type 0
StraightCodeRuns =
    (items : List AsmItem) (d : ℕ) (is : List Instr) (s : AsmState) → StandAt items s.at is → AreStraight is
    → EachWithin d (counted s.returns (touched_by is s.core)) → length s.returns ≤ 64 → Run (assembly items) d s (passed is s)
