-- The exit status of the program (ISO/IEC 9899:1999, 7.20.4.3: the status returned to the host environment; the numbers are
-- the compiler's own).
use Rattle.std.specs.Prelude.{ℕ}
use Rattle.cerco_base.specs.declared.outside.faults.IoFault.{IoFault}
use Rattle.cerco_base.specs.declared.outside.faults.IoFault.TheVariants as Io
use Rattle.cerco_command.specs.declared.status.Status.{Status}
use Rattle.cerco_command.specs.declared.status.Status.TheVariants.{Done, Told, NoFile, Usage, Refused, NoRoom, FileFault, OutFault, BadInput, Uncosted, Reserved, NoMemory}

abbrev pub code_of : Status → ℕ
code_of Done = 0
code_of Told = 0
code_of NoFile = 1
code_of Usage = 2
code_of Refused = 3
code_of NoRoom = 3
code_of FileFault = 4
code_of OutFault = 5
code_of BadInput = 6
code_of Uncosted = 7
code_of Reserved = 8
code_of NoMemory = 9

-- the status of a fault of the output
abbrev pub status_of : IoFault → Status
status_of Io.Failed = OutFault
status_of Io.OutOfMemory = NoMemory
