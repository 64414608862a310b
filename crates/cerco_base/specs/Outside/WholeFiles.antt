-- Reading a file whole and writing one whole. (This project's own, over the calls of `Files`.)
use Rattle.std.specs.Prelude.{◌≡◌, ℕ, ◌≤◌, List, ◌++◌, Result, OnOk, OnErr, IfOk, IfErr, IsTrue, ◌⊎◌, length, take, Some, None, Ok, Err, Vec}
use Rattle.cerco_base.specs.Outside.IoFaults.{HasCause}
use Rattle.cerco_base.specs.Outside.IoStates.{FilesState, SameFiles, Puts}
use Rattle.cerco_base.specs.declared.outside.faults.IoFault.{IoFault}
use Rattle.cerco_base.specs.declared.outside.faults.IoFault.TheVariants as Io
use Rattle.cerco_base.specs.declared.outside.faults.ReadFault.{ReadFault}
use Rattle.cerco_base.specs.declared.outside.faults.ReadFault.TheVariants as Read

-- a prefix of the text stands under the name, and every other name is as it was
abbrev pub PutsPrefix : FilesState → FilesState → List ℕ → List ℕ → Type 0
PutsPrefix s t name text = (front rest : List ℕ) × (front ++ rest ≡ text) × Puts s t name front

-- a file is created and written; on a fault nothing has changed, or it holds a prefix
pub record WritesFile {T : Type 0} (s t : FilesState) (name text : List ℕ) (result : Result T IoFault) : Type 0 where
  pub cause : HasCause Io.Failed name t.last_fault s.faults t.faults result
  pub whole : IsTrue s.known → OnOk result (Puts s t name text)
  pub front : IsTrue s.known → OnErr result (SameFiles s t ⊎ PutsPrefix s t name text)
  pub stays_known : IsTrue s.known → IsTrue t.known

-- the same answer with the list that the vector holds
abbrev pub items_of : {X A E : Type 0} → Result (Vec X A) E → Result (List X) E
items_of (Ok v) = Ok v.items
items_of (Err e) = Err e

-- a file is read to its end, or to its first `limit` bytes
pub record ReadsWhole (s t : FilesState) (name : List ℕ) (limit : ℕ) (result : Result (List ℕ) ReadFault) : Type 0 where
  pub cause : HasCause Read.Failed name t.last_fault s.faults t.faults result
  pub bound : IfOk result (λ bytes. length bytes ≤ limit)
  pub read : IsTrue s.known → IfOk result (λ bytes. (all : List ℕ) × (s.file name ≡ Some all) × (bytes ≡ take limit all))
  pub missing : IsTrue s.known → IfErr result (λ e. e ≡ Read.Missing → s.file name ≡ None)
  pub same : IsTrue s.known → SameFiles s t
  pub stays_known : IsTrue s.known → IsTrue t.known
