-- Bad lines of hex texts, each before the end of file record, and the first fault that they are.
use Rattle.std.proofs.Common.{◌≡◌, ◌∷◌, [], List, ℕ, codes, Option, Some, refl}
use Rattle.hex.proofs.OnLiterals.{hex_on_literals}
use Rattle.object_hex.specs.declared.reading.faults.HexKind.{HexKind}
use Rattle.object_hex.specs.declared.reading.faults.HexKind.TheVariants.{After, End, Form, NoEnd, Range, Sum, Twice, «Type», Upper}
use Rattle.object_hex.specs.Lines.{lines}
use Rattle.object_hex.specs.Records.{record_in}
use Rattle.object_hex.specs.HexMeaning.{code_of, fault_at, fault_behind, given, has_end, highest_end}

-- what is wrong at a place of a text
abbrev at_place : ℕ → List ℕ → Option HexKind
at_place place text = fault_at (lines text) place

no_record : at_place 0 (codes "x\n:00000001FF\n") ≡ Some Form
unfolding lines record_in fault_at fault_behind has_end given hex_on_literals
no_record = refl

empty_line : at_place 0 (codes "\n:00000001FF\n") ≡ Some Form
unfolding lines record_in fault_at fault_behind has_end given hex_on_literals
empty_line = refl

one_digit_more : at_place 0 (codes ":00000001FFF\n:00000001FF\n") ≡ Some Form
unfolding lines record_in fault_at fault_behind has_end given hex_on_literals
one_digit_more = refl

wrong_sum : at_place 0 (codes ":020000040000F9\n:00000001FF\n") ≡ Some Sum
unfolding lines record_in fault_at fault_behind has_end given hex_on_literals
wrong_sum = refl

other_type : at_place 0 (codes ":00000005FB\n:00000001FF\n") ≡ Some «Type»
unfolding lines record_in fault_at fault_behind has_end given hex_on_literals
other_type = refl

short_upper : at_place 0 (codes ":0100000400FB\n:00000001FF\n") ≡ Some Upper
unfolding lines record_in fault_at fault_behind has_end given hex_on_literals
short_upper = refl

end_with_data : at_place 0 (codes ":01000001AA54\n:00000001FF\n") ≡ Some End
unfolding lines record_in fault_at fault_behind has_end given hex_on_literals
end_with_data = refl

past_the_end : at_place 0 (codes ":02FFFF00000000\n:00000001FF\n") ≡ Some Range
unfolding lines record_in fault_at fault_behind has_end given hex_on_literals
past_the_end = refl

given_twice : at_place 1 (codes ":0100000001FE\n:0100000001FE\n:00000001FF\n") ≡ Some Twice
unfolding lines record_in fault_at fault_behind has_end given hex_on_literals
given_twice = refl

behind_the_end : at_place 1 (codes ":00000001FF\n:00000001FF\n") ≡ Some After
unfolding lines record_in fault_at fault_behind has_end given hex_on_literals
behind_the_end = refl

no_end : at_place 1 (codes ":0100000001FE\n") ≡ Some NoEnd
unfolding lines record_in fault_at fault_behind has_end given hex_on_literals
no_end = refl

-- a record at address 2 alone: what isn't given is 0
with_a_gap : code_of (lines (codes ":01000200cD30\r\n:00000001ff")) ≡ 0 ∷ 0 ∷ 205 ∷ []
unfolding lines record_in given highest_end code_of hex_on_literals
with_a_gap = refl
