-- The lines that the program prints. (The compiler's own.) Each ends with a line feed; numbers are decimal, addresses four
-- hexadecimal digits in upper case.
use Rattle.std.specs.Prelude.{ℕ, List, [], ◌++◌, Option, Some, None, codes, decimal}
use Rattle.std.specs.List.{flat_map}
pub use Rattle.printed_lines.specs.Lines.{line_about, pair_line, end_line, stop_line}
use Rattle.cerco_base.specs.declared.events.Port.{Port}
use Rattle.cerco_base.specs.declared.events.Event.{Event}
use Rattle.cerco_base.specs.declared.events.Event.TheVariants.{Label, Read, Write}
use Rattle.cerco_base.specs.HexDigits.{hex_word}
use Rattle.object_hex.specs.declared.reading.faults.HexFault.{HexFault}
use Rattle.object_hex.specs.declared.reading.faults.HexKind.{HexKind}
use Rattle.object_hex.specs.declared.reading.faults.HexKind.TheVariants.{Form, Sum, «Type», Upper, End, Range, Twice, After, NoEnd}
use Rattle.object_hex.specs.declared.reading.faults.MapFault.{MapFault}
use Rattle.cerco_base.specs.Ports.{port_number}
use Rattle.block_costs.specs.declared.faults.CostFault.{CostFault}
use Rattle.block_costs.specs.declared.faults.CostFault.TheVariants as Fault

-- the words are no command
abbrev pub usage : List ℕ
usage = codes "usage\n"

-- a file isn't there
abbrev pub no_file : List ℕ → List ℕ
no_file name = line_about (codes "no file ") name

-- a call at a file failed
abbrev pub file_fault : List ℕ → List ℕ
file_fault name = line_about (codes "file fault ") name

-- a file is too long
abbrev pub bad_file : List ℕ → List ℕ
bad_file name = line_about (codes "bad file ") name

-- what is wrong with a line of a hex text
abbrev pub kind_word : HexKind → List ℕ
kind_word Form = codes "form"
kind_word Sum = codes "sum"
kind_word «Type» = codes "type"
kind_word Upper = codes "upper"
kind_word End = codes "end"
kind_word Range = codes "range"
kind_word Twice = codes "twice"
kind_word After = codes "after"
kind_word NoEnd = codes "noend"

-- the first bad line of a hex text
abbrev pub bad_hex : HexFault → List ℕ
bad_hex fault = codes "bad hex " ++ (decimal fault.line ++ (codes " " ++ (kind_word fault.kind ++ codes "\n")))

-- the first bad line of a text of label addresses
abbrev pub bad_map : MapFault → List ℕ
bad_map fault = line_about (codes "bad map ") (decimal fault.line)

-- the reserved opcode stands at an address
abbrev pub reserved_line : ℕ → List ℕ
reserved_line address = line_about (codes "reserved ") (hex_word address)

-- what the lines of costs call the start, and a label
abbrev pub start_name : List ℕ
start_name = codes "start"

abbrev pub label_name : ℕ → List ℕ
label_name number = codes "L" ++ decimal number

-- the cost of the start or of a label, in machine cycles
abbrev pub cost_line : List ℕ → ℕ → List ℕ
cost_line name cycles = name ++ line_about (codes " ") (decimal cycles)

-- why an address has no cost: the address, and the cycles of the two ways where they differ, that of the jump not taken first
abbrev pub fault_line : CostFault → List ℕ
fault_line (Fault.NoLabel at) = line_about (codes "nolabel ") (hex_word at)
fault_line (Fault.Unequal at a b) = codes "unequal " ++ (hex_word at ++ (codes " " ++ (decimal a ++ line_about (codes " ") (decimal b))))
fault_line (Fault.Reserved at) = reserved_line at
fault_line (Fault.NoTarget at) = line_about (codes "notarget ") (hex_word at)
fault_line (Fault.Second at) = line_about (codes "second ") (hex_word at)

-- the start or a label has no cost
abbrev pub uncosted_line : List ℕ → CostFault → List ℕ
uncosted_line name fault = codes "uncosted " ++ (name ++ (codes " " ++ fault_line fault))

-- the number of a port and a byte there, and the cycles before the instruction
abbrev pub port_line : List ℕ → ℕ → ℕ → ℕ → List ℕ
port_line letter port byte cycles = letter ++ (decimal port ++ (codes " " ++ (decimal byte ++ (codes " " ++ (decimal cycles ++ codes "\n")))))

-- the same where there is a byte at a port
abbrev pub port_lines : List ℕ → Option (Port × ℕ) → ℕ → List ℕ
port_lines letter None cycles = []
port_lines letter (Some seen) cycles = port_line letter (port_number seen.0) seen.1 cycles

-- an event, and the cycles before the instruction that makes it: a label that is passed, the reading of a port, the writing of one
abbrev pub event_line : ℕ → Event → List ℕ
event_line cycles (Label label) = pair_line (codes "L") label.0 cycles
event_line cycles (Read port byte) = port_line (codes "R") (port_number port) byte cycles
event_line cycles (Write port byte) = port_line (codes "P") (port_number port) byte cycles

abbrev pub event_lines : ℕ → List Event → List ℕ
event_lines cycles events = flat_map (event_line cycles) events
