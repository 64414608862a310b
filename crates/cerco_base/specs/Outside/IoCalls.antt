-- What each call of `Files` and of `Sink` does, and what a call does that puts a whole text. A call may take fewer bytes than it is
-- given, as POSIX's read and write may. (This project's own; compare ISO/IEC 9899:1999, 7.19.8.)
use Rattle.std.specs.Prelude.{◌≡◌, ℕ, [], ◌-◌, ◌<◌, ◌≤◌, List, ◌++◌, length, take, drop, Some, None, Result, IfOk, OnOk, OnErr, IfErr, IsTrue}
use Rattle.cerco_base.specs.Outside.IoFaults.{HasCause}
use Rattle.cerco_base.specs.Outside.IoStates.{FilesState, SinkState, SameFiles, Puts, bytes_at}
use Rattle.cerco_base.specs.declared.outside.faults.IoFault.{IoFault}
use Rattle.cerco_base.specs.declared.outside.faults.IoFault.TheVariants as Io
use Rattle.cerco_base.specs.declared.outside.faults.ReadFault.{ReadFault}
use Rattle.cerco_base.specs.declared.outside.faults.ReadFault.TheVariants as Read

-- the first n bytes of `into` are those of the file from `at` on; at least one where there is room and the file goes on
pub record Copies (bytes : List ℕ) (at n : ℕ) (into : List ℕ) : Type 0 where
  pub copied : take n into ≡ take n (drop at bytes)
  pub within : n ≤ length bytes - at
  pub goes_on : 0 < length into → at < length bytes → 0 < n

-- a reading copies bytes of the file, or the file is missing; it changes no file
pub record ReadsAt (s t : FilesState) (name : List ℕ) (at : ℕ) (into : List ℕ) (result : Result ℕ ReadFault) : Type 0 where
  pub cause : HasCause Read.Failed name t.last_fault s.faults t.faults result
  pub bound : IfOk result (λ n. n ≤ length into)
  pub copies : IsTrue s.known → IfOk result (λ n. (bytes : List ℕ) × (s.file name ≡ Some bytes) × Copies bytes at n into)
  pub missing : IsTrue s.known → IfErr result (λ e. e ≡ Read.Missing → s.file name ≡ None)
  pub no_fault : IfErr result (λ e. e ≡ Read.Missing → t.faults ≡ s.faults)
  pub same : IsTrue s.known → SameFiles s t
  pub stays_known : IsTrue s.known → IsTrue t.known

-- a creation makes the name stand for no bytes
pub record Creates {T : Type 0} (s t : FilesState) (name : List ℕ) (result : Result T IoFault) : Type 0 where
  pub cause : HasCause Io.Failed name t.last_fault s.faults t.faults result
  pub puts : IsTrue s.known → OnOk result (Puts s t name [])
  pub same : IsTrue s.known → OnErr result (SameFiles s t)
  pub stays_known : IsTrue s.known → IsTrue t.known

-- n bytes of a piece are taken: at least one where the piece isn't empty
pub record TakesSome (bytes : List ℕ) (n : ℕ) : Type 0 where
  pub at_most : n ≤ length bytes
  pub at_least : 0 < length bytes → 0 < n

-- an appending adds the front of the piece that it took to the file, which it makes first where it isn't there
pub record AppendsSome (s t : FilesState) (name bytes : List ℕ) (result : Result ℕ IoFault) : Type 0 where
  pub cause : HasCause Io.Failed name t.last_fault s.faults t.faults result
  pub takes : IfOk result (TakesSome bytes)
  pub puts : IsTrue s.known → IfOk result (λ n. Puts s t name (bytes_at s name ++ take n bytes))
  pub same : IsTrue s.known → OnErr result (SameFiles s t)
  pub stays_known : IsTrue s.known → IsTrue t.known

-- what every call keeps that is given an output
pub record Keeps (s t : SinkState) : Type 0 where
  pub later : s.faults ≤ t.faults
  pub own_name : t.own_name ≡ s.own_name
  pub reference : t.reference ≡ s.reference
  pub known : IsTrue s.known → IsTrue t.known
  pub beside_known : IsTrue s.beside_known → IsTrue t.beside_known
  pub beside : IsTrue s.beside_known → (q : List ℕ) → t.beside q ≡ s.beside q

-- these bytes and no others came after those that were there
abbrev pub Adds : SinkState → SinkState → List ℕ → Type 0
Adds s t bytes = IsTrue s.known → t.bytes ≡ s.bytes ++ bytes

-- a prefix of the text was put
abbrev pub AddsPrefix : SinkState → SinkState → List ℕ → Type 0
AddsPrefix s t text = (front rest : List ℕ) × (front ++ rest ≡ text) × Adds s t front

-- a put adds the front of the piece that it took
pub record PutsSome (s t : SinkState) (bytes : List ℕ) (result : Result ℕ IoFault) : Type 0 where
  pub keeps : Keeps s t
  pub cause : HasCause Io.Failed s.own_name t.last_fault s.faults t.faults result
  pub takes : IfOk result (TakesSome bytes)
  pub added : IfOk result (λ n. Adds s t (take n bytes))
  pub same : IsTrue s.known → OnErr result (t.bytes ≡ s.bytes)

-- a call that puts a text: all of it, or a prefix and a fault, which doesn't come for an empty text
pub record PutsText {T : Type 0} (s t : SinkState) (text : List ℕ) (result : Result T IoFault) : Type 0 where
  pub keeps : Keeps s t
  pub cause : HasCause Io.Failed s.own_name t.last_fault s.faults t.faults result
  pub whole : OnOk result (Adds s t text)
  pub front : AddsPrefix s t text
  pub some : OnErr result (0 < length text)
