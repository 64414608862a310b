-- A file that is read piece by piece.
use Rattle.std.proofs.Common.{◌≡◌, ℕ, ◌+◌, ◌<◌, ◌≤◌, List, [], ◌++◌, length, take, drop, Option, Some, Ok, Err, IsTrue, refl, sym, ap, subst, ◌∙◌, arith, take_all, take-add}
use Rattle.std.proofs.lemmas.List.{length-take-le, length-append}
use Rattle.cerco_base.specs.Outside.IoStates.{FilesState, SameFiles}
use Rattle.cerco_base.specs.Outside.IoCalls.{ReadsAt}
use Rattle.cerco_base.specs.Outside.WholeFiles.{ReadsWhole}
use Rattle.cerco_base.proofs.Putting.{rose_since}
use Rattle.cerco_base.specs.declared.outside.faults.ReadFault.{ReadFault}
use Rattle.cerco_base.specs.declared.outside.faults.ReadFault.TheVariants as Read

pub record ReadSoFar (s t : FilesState) (name : List ℕ) (limit : ℕ) (bytes : List ℕ) : Type 0 where
  pub later : s.faults ≤ t.faults
  pub bound : length bytes ≤ limit
  pub front : IsTrue s.known → (all : List ℕ) → s.file name ≡ Some all → bytes ≡ take (length bytes) all
  pub there : IsTrue s.known → 0 < length bytes → (all : List ℕ) × (s.file name ≡ Some all)
  pub same : IsTrue s.known → SameFiles s t
  pub stays_known : IsTrue s.known → IsTrue t.known

pub nothing_read : (s : FilesState) (name : List ℕ) (limit : ℕ) → ReadSoFar s s name limit []
nothing_read s name limit =
    record { later = omega arith; bound = omega arith; front = λ h all e. refl; there = λ h l. absurd (omega (arith, l)); same = λ h q. refl; stays_known = λ h. h }

same_some : (a b : List ℕ) (o : Option (List ℕ)) → o ≡ Some a → o ≡ Some b → a ≡ b
same_some a b o e f = grind arith

longer : (bytes into all : List ℕ) (n : ℕ) → n ≤ length into → bytes ≡ take (length bytes) all → take n into ≡ take n (drop (length bytes) all) → bytes ++ take n into ≡ take (length (bytes ++ take n into)) all
longer bytes into all n h e f =
    let size : length (bytes ++ take n into) ≡ length bytes + n = length-append bytes (take n into) ∙ ap (λ m. length bytes + m) (length-take-le n into h) in
    ap (λ (x : List ℕ). x ++ take n into) e ∙ (ap (λ (x : List ℕ). take (length bytes) all ++ x) f ∙ (sym (take-add (length bytes) n all) ∙ ap (λ m. take m all) (sym size)))

pub more_read : (s t u : FilesState) (name : List ℕ) (limit : ℕ) (bytes into : List ℕ) (n : ℕ) → ReadSoFar s t name limit bytes → length bytes + length into ≤ limit → ReadsAt t u name (length bytes) into (Ok n) → ReadSoFar s u name limit (bytes ++ take n into)
more_read s t u name limit bytes into n a room r =
    let size : length (bytes ++ take n into) ≡ length bytes + n = length-append bytes (take n into) ∙ ap (λ m. length bytes + m) (length-take-le n into r.bound) in
    let l₁ = a.later in let l₂ = r.cause.later in let n_in = r.bound in
    record {
      later = omega arith;
      bound = omega arith;
      front = λ h all e.
          let c = r.copies (a.stays_known h) in
          let b_is : c.0 ≡ all = same_some c.0 all (t.file name) c.1 (a.same h name ∙ e) in
          longer bytes into all n r.bound (a.front h all e) (subst (λ (b : List ℕ). take n into ≡ take n (drop (length bytes) b)) b_is c.2.copied);
      there = λ h l. let c = r.copies (a.stays_known h) in (c.0, sym (a.same h name) ∙ c.1);
      same = λ h q. r.same (a.stays_known h) q ∙ a.same h q;
      stays_known = λ h. r.stays_known (a.stays_known h);
    }

pub read_to_end : (s t u : FilesState) (name : List ℕ) (limit : ℕ) (bytes into : List ℕ) → ReadSoFar s t name limit bytes → 0 < length into → ReadsAt t u name (length bytes) into (Ok 0) → ReadsWhole s u name limit (Ok bytes)
read_to_end s t u name limit bytes into a room r =
    let l₁ = a.later in let l₂ = r.cause.later in
    record {
      cause = record { later = omega arith; rose = tt; named = tt };
      bound = a.bound;
      read = λ h.
          let c = r.copies (a.stays_known h) in
          let e : s.file name ≡ Some c.0 = sym (a.same h name) ∙ c.1 in
          let short : length c.0 ≤ length bytes = at_end (length bytes) (length c.0) (length into) room c.2.goes_on in
          let b = a.bound in
          (c.0, e, a.front h c.0 e ∙ (take_all (length bytes) c.0 short ∙ sym (take_all limit c.0 (omega arith))));
      missing = λ h. tt;
      same = λ h q. r.same (a.stays_known h) q ∙ a.same h q;
      stays_known = λ h. r.stays_known (a.stays_known h);
    }
  where
    at_end : (at size room : ℕ) → 0 < room → (0 < room → at < size → 0 < 0) → size ≤ at
    at_end at size room h f = grind arith

pub read_to_limit : (s t : FilesState) (name : List ℕ) (limit : ℕ) (bytes : List ℕ) → ReadSoFar s t name limit bytes → 0 < limit → limit ≤ length bytes → ReadsWhole s t name limit (Ok bytes)
read_to_limit s t name limit bytes a some full =
    let b = a.bound in
    let size : length bytes ≡ limit = omega arith in
    record {
      cause = record { later = a.later; rose = tt; named = tt };
      bound = a.bound;
      read = λ h. let all = a.there h (omega arith) in (all.0, all.1, a.front h all.0 all.1 ∙ ap (λ m. take m all.0) size);
      missing = λ h. tt;
      same = a.same;
      stays_known = a.stays_known;
    }

pub read_refused : (s t u : FilesState) (name : List ℕ) (limit : ℕ) (bytes into : List ℕ) (e : ReadFault) → ReadSoFar s t name limit bytes → ReadsAt t u name (length bytes) into (Err e) → ReadsWhole s u name limit (Err e)
read_refused s t u name limit bytes into e a r =
    let l₁ = a.later in let l₂ = r.cause.later in
    record {
      cause = record { later = omega arith; rose = λ h. rose_since s.faults t.faults u.faults a.later (r.cause.rose h); named = r.cause.named };
      bound = tt;
      read = λ h. tt;
      missing = λ h m. sym (a.same h name) ∙ r.missing (a.stays_known h) m;
      same = λ h q. r.same (a.stays_known h) q ∙ a.same h q;
      stays_known = λ h. r.stays_known (a.stays_known h);
    }

pub no_room : (s t : FilesState) (name : List ℕ) (limit : ℕ) (bytes : List ℕ) → ReadSoFar s t name limit bytes → ReadsWhole s t name limit (Err Read.OutOfMemory)
no_room s t name limit bytes a =
    record {
      cause = record { later = a.later; rose = λ h. absurd (not_failed h); named = λ h. absurd (not_failed h) };
      bound = tt;
      read = λ h. tt;
      missing = λ h m. absurd (not_missing m);
      same = a.same;
      stays_known = a.stays_known;
    }
  where
    not_failed : Read.OutOfMemory ≡ Read.Failed → ⊥
    not_failed h = cc

    not_missing : Read.OutOfMemory ≡ Read.Missing → ⊥
    not_missing h = cc
