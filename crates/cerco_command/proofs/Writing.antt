-- Files that are written one after the other.
use Rattle.std.proofs.Common.{◌≡◌, ℕ, ◌≤◌, List, [], ◌∷◌, Result, Ok, Err, IsTrue, ◌∙◌, arith, inl, inr}
use Rattle.std.specs.Prelude.{string_bytes}
use Rattle.std.specs.Result.{IsErrAnd}
use Rattle.cerco_base.specs.Outside.IoStates.{FilesState, SameFiles, Puts}
use Rattle.cerco_base.proofs.Putting.{rose_since}
use Rattle.cerco_command.specs.Answers.{NamedText, AreWritten, ArePartlyWritten}
use Rattle.cerco_command.specs.Code.Stages.{IsNameOf, CannotWrite, WritesAll, Finishes}
use Rattle.cerco_command.specs.declared.reply.Reply.{Reply}
use Rattle.cerco_command.specs.declared.status.Status.{Status}
use Rattle.cerco_command.specs.declared.status.Status.TheVariants.{FileFault, NoMemory}

pub puts_from : (s t u : FilesState) (name bytes : List ℕ) → SameFiles s t → Puts t u name bytes → Puts s u name bytes
puts_from s t u name bytes a b = record { here = b.here; others = λ q h. b.others q h ∙ a q }

pub written_from : (files : List NamedText) (s t u : FilesState) → SameFiles s t → AreWritten files t u → AreWritten files s u
written_from [] s t u a b = λ q. b q ∙ a q
written_from (f ∷ fs) s t u a b = (b.0, puts_from s t b.0 f.0 f.1 a b.1, b.2)

pub partly_from : (files : List NamedText) (s t u : FilesState) → SameFiles s t → ArePartlyWritten files t u → ArePartlyWritten files s u
partly_from [] s t u a b = λ q. b q ∙ a q
partly_from (f ∷ fs) s t u a (inl b) = inl (λ q. b q ∙ a q)
partly_from (f ∷ fs) s t u a (inr (inl b)) = inr (inl (b.0, b.1, b.2, puts_from s t u f.0 b.0 a b.3))
partly_from (f ∷ fs) s t u a (inr (inr b)) = inr (inr (b.0, puts_from s t b.0 f.0 f.1 a b.1, b.2))

-- none of these files is written
none_written : (files : List NamedText) (s t : FilesState) → SameFiles s t → ArePartlyWritten files s t
none_written [] s t same = same
none_written (f ∷ fs) s t same = inl same

later_unwritten : (file : NamedText) (files : List NamedText) (s t u : FilesState) (status : Status) (line : List ℕ) → s.faults ≤ t.faults → CannotWrite files t u status line → CannotWrite (file ∷ files) s u status line
later_unwritten file files s t u FileFault line l c = (c.0, rose_since s.faults t.faults u.faults l c.1, inr c.2)
later_unwritten file files s t u NoMemory line l c = c
later_unwritten file files s t u status line l c = absurd c

first_unwritten : (file : NamedText) (files : List NamedText) (s t : FilesState) (status : Status) (line : List ℕ) → CannotWrite (file ∷ []) s t status line → CannotWrite (file ∷ files) s t status line
first_unwritten file files s t FileFault line c = (c.0, c.1, name c.2)
  where
    name : IsNameOf t.last_fault (file ∷ []) → IsNameOf t.last_fault (file ∷ files)
    name (inl e) = inl e
    name (inr e) = absurd e
first_unwritten file files s t NoMemory line c = c
first_unwritten file files s t status line c = absurd c

-- a file is written, and then others
pub written_first : (file : NamedText) (files : List NamedText) (s t u : FilesState) (r : Result (Unit {0}) Reply) → WritesAll (file ∷ []) s t (Ok tt) → WritesAll files t u r → WritesAll (file ∷ files) s u r
written_first file files s t u (Ok z) a b =
    let l₁ = a.later in let l₂ = b.later in
    record {
      later = omega arith;
      stays_known = λ h. b.stays_known (a.stays_known h);
      whole = λ h. let w = a.whole h in (w.0, w.1, written_from files w.0 t u w.2 (b.whole (a.stays_known h)));
      some = λ h. tt;
      failed = tt;
    }
written_first file files s t u (Err reply) a b =
    let l₁ = a.later in let l₂ = b.later in
    record {
      later = omega arith;
      stays_known = λ h. b.stays_known (a.stays_known h);
      whole = λ h. tt;
      some = λ h. let w = a.whole h in inr (inr (w.0, w.1, partly_from files w.0 t u w.2 (b.some (a.stays_known h))));
      failed = later_unwritten file files s t u reply.status (string_bytes reply.line) l₁ b.failed;
    }

-- the writing of a file fails, and no other is written
pub writing_failed : (file : NamedText) (files : List NamedText) (s t : FilesState) (reply : Reply) (r : Result (Unit {0}) Reply) → WritesAll (file ∷ []) s t (Err reply) → IsErrAnd r (λ e. e ≡ reply) → WritesAll (file ∷ files) s t r
writing_failed file files s t reply (Ok x) a e = absurd e
writing_failed file files s t reply (Err other) a e =
    rw e (record {
      later = a.later;
      stays_known = a.stays_known;
      whole = λ h. tt;
      some = λ h. some (a.some h);
      failed = first_unwritten file files s t reply.status (string_bytes reply.line) a.failed;
    })
  where
    some : ArePartlyWritten (file ∷ []) s t → ArePartlyWritten (file ∷ files) s t
    some (inl same) = inl same
    some (inr (inl front)) = inr (inl front)
    some (inr (inr w)) = inr (inr (w.0, w.1, none_written files w.0 t w.2))

-- the writing fails
pub finish_failed : (files : List NamedText) (s t : FilesState) (status : Status) (line : List ℕ) → CannotWrite files s t status line → (IsTrue s.known → ArePartlyWritten files s t) → Finishes files s t status line
finish_failed files s t FileFault line c some = (c, some)
finish_failed files s t NoMemory line c some = (c, some)
finish_failed files s t status line c some = absurd c
