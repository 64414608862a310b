-- The files and the standard output of the process: nothing is known of what they hold; their faults are counted.
use Rattle.std.specs.Prelude.{[], false, true, None, string_bytes}
use Rattle.cerco_base.specs.Outside.IoStates.{FilesState, SinkState}
use Rattle.cerco_base.specs.declared.outside.host.HostFiles.{HostFiles}
use Rattle.cerco_base.specs.declared.outside.host.HostOut.{HostOut}

abbrev pub host_files_state : HostFiles → FilesState
host_files_state h = record { known = false; file = λ q. None; faults = h.faults; last_fault = string_bytes h.last_fault }

abbrev pub host_out_state : HostOut → SinkState
host_out_state h = record { known = false; bytes = []; faults = h.faults; last_fault = []; own_name = []; reference = 0; beside_known = true; beside = λ q. None }
