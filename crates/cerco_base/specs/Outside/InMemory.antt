-- Files and an output in memory, whose calls fail by their numbers or never.
use Rattle.std.specs.Prelude.{◌≡◌, ℕ, ◌+◌, ◌-◌, ◌^◌, min, List, [], Bool, true, false, None, string_bytes, nat_eq, Result, OnOk, IfErr}
use Rattle.std.specs.List.{list_any}
use Rattle.cerco_base.specs.Outside.IoStates.{FilesState, SinkState}
use Rattle.cerco_base.specs.Outside.FileStore.{file_of}
use Rattle.cerco_base.specs.declared.outside.in_memory.MemoryFiles.{MemoryFiles}
use Rattle.cerco_base.specs.declared.outside.in_memory.MemorySink.{MemorySink}
use Rattle.cerco_base.specs.declared.outside.never_failing.SoundFiles.{SoundFiles}
use Rattle.cerco_base.specs.declared.outside.never_failing.SoundSink.{SoundSink}

-- whether the call with this number is to fail
abbrev pub is_due : ℕ → List ℕ → Bool
is_due number failing = list_any (nat_eq number) failing

-- one more, unless the counter stands at its last value
abbrev pub counted : ℕ → ℕ
counted n = min (n + 1) (2 ^ 64 - 1)

abbrev pub memory_files_state : MemoryFiles → FilesState
memory_files_state m = record { known = true; file = file_of m.store; faults = m.faults; last_fault = string_bytes m.last_fault }

abbrev pub sound_files_state : SoundFiles → FilesState
sound_files_state m = record { known = true; file = file_of m.store; faults = 0; last_fault = [] }

abbrev pub memory_sink_state : MemorySink → SinkState
memory_sink_state m = record { known = true; bytes = m.bytes.items; faults = m.faults; last_fault = []; own_name = []; reference = 0; beside_known = true; beside = λ q. None }

abbrev pub sound_sink_state : SoundSink → SinkState
sound_sink_state m = record { known = true; bytes = m.bytes.items; faults = 0; last_fault = []; own_name = []; reference = 0; beside_known = true; beside = λ q. None }

-- the answer is `failed` exactly where the call is due to fail; out of memory may come in place of any answer
pub record FailsWhereDue {T E : Type 0} (failed memory : E) (due : Bool) (result : Result T E) : Type 0 where
  pub done : OnOk result (due ≡ false)
  pub failing : IfErr result (λ e. e ≡ failed → due ≡ true)
  pub other : IfErr result (λ e. (e ≡ failed → ⊥) → (e ≡ memory → ⊥) → due ≡ false)

-- the call is counted, and the list of the calls that are to fail stays
pub record CountsFilesCall (old new : MemoryFiles) : Type 0 where
  pub calls : new.calls ≡ counted old.calls
  pub failing : new.failing.items ≡ old.failing.items

pub record CountsSinkCall (old new : MemorySink) : Type 0 where
  pub calls : new.calls ≡ counted old.calls
  pub failing : new.failing.items ≡ old.failing.items

-- nothing but the store has changed
pub record KeepsCounts (old new : MemoryFiles) : Type 0 where
  pub calls : new.calls ≡ old.calls
  pub faults : new.faults ≡ old.faults
  pub last_fault : string_bytes new.last_fault ≡ string_bytes old.last_fault
  pub failing : new.failing.items ≡ old.failing.items
