-- The ERTL program of an RTL program (CerCo, deliverable 4.2: ERTL makes the places explicit in which arguments and results are
-- handed over): a renaming. The argument places of RTL are the virtual registers 12 to 23, those of ERTL the ones from 0 to 11; these
-- change their numbers with each other, so that no two get one number, whatever a program names.
use Rattle.std.specs.Prelude.{◌≡◌, ℕ, ◌+◌, ◌-◌, map, length, nat_lt, if◌then◌else◌}
use Rattle.rtl.specs.declared.locations.Vreg.{Vreg}
use Rattle.rtl.specs.Programs.{Bytes}
use Rattle.rtl.specs.Graphs.{renamed_graph}
use Rattle.rtl.specs.WellFormed.{labels_in}

abbrev pub exchanged_number : ℕ → ℕ
exchanged_number v = if nat_lt v 12 then v + 12 else (if nat_lt v 24 then v - 12 else v)

abbrev pub exchanged : Vreg → Vreg
exchanged v = record { 0 = exchanged_number v.0 }

abbrev pub ertl_of : Bytes Vreg → Bytes Vreg
ertl_of program = record { graphs = map (renamed_graph exchanged) program.graphs; calls = program.calls; main = program.main; start = program.start }

-- The functions keep their numbers and their labels; `main`, the order of calls and the bytes of the start stay.
pub record KeepsOutline (before after : Bytes Vreg) : Type 0 where
  pub functions : length after.graphs ≡ length before.graphs
  pub labels : map labels_in after.graphs ≡ map labels_in before.graphs
  pub calls : after.calls ≡ before.calls
  pub main : after.main ≡ before.main
  pub start : after.start ≡ before.start
